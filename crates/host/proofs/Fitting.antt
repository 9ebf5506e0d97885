-- Every published form takes bodies that can be written in it, and is read back.
use Rattle.std.proofs.Common.{◌≡◌, ℕ, ◌+◌, ◌*◌, ◌≤◌, Bool, true, false, cond, eqb, leb, List, [], ◌∷◌, length, take, IfSome, Some, None, Ok, Option, sym, refl, ap, ◌∙◌, subst, arith, lit≤}
use Rattle.std.proofs.lemmas.Option.{MatchOption-at_some}
use Rattle.std.proofs.lemmas.Bool.{and_parts, eqb-true, leb-true}
use Rattle.std.proofs.lemmas.Bool.Decides.{nat_tests}
use Rattle.answers.specs.Lengths.{data_length, le_enough}
use Rattle.apdu.specs.declared.kinds.Kind.{Kind}
use Rattle.apdu.specs.declared.kinds.Kind.TheVariants.{Select, Version, Tries, Amounts, Last, Pin, Sign, Export, Directive, Other}
use Rattle.apdu.specs.Kinds.{kind_of}
use Rattle.apdu.specs.Reading.{reading, refused}
use Rattle.apdu.specs.Writings.{Width, short, long, Writing, with_le, LeAllowed, Allowed, written, body_of, place_of, le_of, said}
use Rattle.apdu.proofs.Written.{read_written, lies_written}
use Rattle.octets.specs.Parts.{part}
use Rattle.measures.specs.Bodies.{category_count, signing_length, invoice_read}
use Rattle.host.specs.declared.faults.BuildFault.{BuildFault}
use Rattle.host.specs.declared.faults.BuildFault.TheVariants.{WrongBodyLength}
use Rattle.host.specs.declared.bodies.Body.TheVariants.{Sized, Invoice}
use Rattle.host.specs.declared.forms.Form.{Form}
use Rattle.host.specs.declared.forms.Shape.{Shape}
use Rattle.host.specs.Published.{shaped, shape_place, shape_le, published, command_in}
use Rattle.host.specs.Building.{invoice_fault, body_fault, unless, put_value, put_after}
use Rattle.host.proofs.Placed.{put_back}
use Rattle.host.specs.Back.{says, ReadBack}

-- a body that a form takes: it can be written in that form, and is all of the body that is read
pub record Taken (f : Form) (b : List ℕ) : Type 0 where
  pub allowed : Allowed (shaped f.shape b)
  pub whole : body_of (shaped f.shape b) ≡ b

-- a form of a kind: it names the kind, Le is enough for what the kind answers, and every body without a fault is taken
pub record Fitting (k : Kind) (f : Form) : Type 0 where
  pub named : kind_of f.header.class f.header.instruction ≡ k
  pub enough : le_enough (data_length k) (shape_le f.shape) ≡ true
  pub taken : (b : List ℕ) → body_fault f.body b ≡ None → Taken f b

-- the length of a body without a fault
sized : (n : ℕ) (b : List ℕ) → body_fault (Sized n) b ≡ None → length b ≡ n
sized n b h = grind (arith, nat_tests)

empty : (b : List ℕ) → body_fault (Sized 0) b ≡ None → [] ≡ b
empty [] h = refl
empty (x ∷ b) h = let l : length (x ∷ b) ≡ 0 = sized 0 (x ∷ b) h in absurd (omega arith)

right_length : (t : Bool) (o : Option BuildFault) → cond t o (Some WrongBodyLength) ≡ None → t ≡ true
right_length true o h = refl
right_length false o h = grind arith

invoice_size : (b : List ℕ) → body_fault Invoice b ≡ None → (58 ≤ length b) × (length b ≤ 154)
invoice_size b h =
    let n : ℕ = length b in
    let k : ℕ = category_count n in
    let sized = and_parts (eqb n (58 + 8 * k)) (leb k 12) (right_length (signing_length n) (invoice_fault (invoice_read b)) h) in
    let whole : n ≡ 58 + 8 * k = eqb-true n (58 + 8 * k) sized.0 in
    let few : k ≤ 12 = leb-true k 12 sized.1 in
    (omega arith, omega arith)

-- the largest Le of each width
largest : LeAllowed short 256 × LeAllowed long 65536
largest = ((lit≤ tt, lit≤ tt), (lit≤ tt, lit≤ tt))

-- a form with an Le alone takes the empty body
taken-le : (f : Form) (w : Width) (e : ℕ) → LeAllowed w e → ((b : List ℕ) → shaped f.shape b ≡ with_le w e) → (b : List ℕ) → body_fault (Sized 0) b ≡ None → Taken f b
taken-le f w e a is b h = record { allowed = subst Allowed (sym (is b)) a; whole = ap body_of (is b) ∙ empty b h }

-- the nine forms
each : (k : Kind) → IfSome (published k) (Fitting k)
each Select = record { named = refl; enough = refl; taken = λ b h. let n = sized 16 b h in record { allowed = ((omega arith, omega arith), largest.0); whole = refl } }
each Version = record { named = refl; enough = refl; taken = taken-le _ short 256 largest.0 (λ b. refl) }
each Tries = record { named = refl; enough = refl; taken = taken-le _ short 256 largest.0 (λ b. refl) }
each Amounts = record { named = refl; enough = refl; taken = taken-le _ short 256 largest.0 (λ b. refl) }
each Last = record { named = refl; enough = refl; taken = taken-le _ long 65536 largest.1 (λ b. refl) }
each Pin = record { named = refl; enough = refl; taken = λ b h. let n = sized 4 b h in record { allowed = (omega arith, omega arith); whole = refl } }
each Sign = record { named = refl; enough = refl; taken = λ b h. let n = invoice_size b h in record { allowed = ((omega arith, omega arith), largest.1); whole = refl } }
each Export = record { named = refl; enough = refl; taken = taken-le _ long 65536 largest.1 (λ b. refl) }
each Directive = record { named = refl; enough = refl; taken = λ b h. let n = sized 512 b h in record { allowed = (omega arith, omega arith); whole = refl } }
each Other = tt

pub fitting : (k : Kind) (f : Form) → published k ≡ Some f → Fitting k f
fitting k f is = MatchOption-at_some (Unit {0}) (Fitting k) f is (each k)

-- where a writing has its body and what its Le is are told by its shape alone
place_is : (s : Shape) (b : List ℕ) → place_of (shaped s b) ≡ shape_place s
place_is s b = grind arith

le_is : (s : Shape) (b : List ℕ) → le_of (shaped s b) ≡ shape_le s
le_is s b = grind arith

-- a command is read back
pub read_back : (k : Kind) (f : Form) (b c : List ℕ) → published k ≡ Some f → body_fault f.body b ≡ None → c ≡ command_in f b → ReadBack k b c
read_back k f b c is h e =
    let fit = fitting k f is in
    let t : Writing = shaped f.shape b in
    let taken = fit.taken b h in
    let place = place_is f.shape b in
    let le = le_is f.shape b in
    let whole = taken.whole in
    let named = fit.named in
    let read : reading (written f.header t) ≡ Ok (said f.header t) = ap refused (read_written f.header t taken.allowed) in
    let says_so : said f.header t ≡ says k f b = cc in
    record {
      form = f;
      is_published = is;
      reads = ap reading e ∙ read ∙ ap Ok says_so;
      lies = ap (part (shape_place f.shape) (length b)) e ∙ ap (λ p. part p (length b) (written f.header t)) (sym place) ∙ ap (λ x. part (place_of t) (length x) (written f.header t)) (sym whole) ∙ lies_written f.header t ∙ whole;
      enough = fit.enough;
    }

-- a body without a fault is taken
clear : (o : Option BuildFault) → unless o ≡ Ok tt → o ≡ None
clear None h = refl
clear (Some x) h = grind arith

pub allowed : (k : Kind) (f : Form) (b : List ℕ) → published k ≡ Some f → unless (body_fault f.body b) ≡ Ok tt → Allowed (shaped f.shape b)
allowed k f b is h = let taken = (fitting k f is).taken b (clear (body_fault f.body b) h) in taken.allowed

pub whole : (k : Kind) (f : Form) (b : List ℕ) → published k ≡ Some f → unless (body_fault f.body b) ≡ Ok tt → body_of (shaped f.shape b) ≡ b
whole k f b is h = let taken = (fitting k f is).taken b (clear (body_fault f.body b) h) in taken.whole

-- what was put is read back
pub put_read_back : (k : Kind) (f : Form) (b out after : List ℕ) (n : ℕ) → published k ≡ Some f → unless (body_fault f.body b) ≡ Ok tt → put_value (command_in f b) out ≡ Ok n → after ≡ put_after (command_in f b) out → ReadBack k b (take n after)
put_read_back k f b out after n is h v a = read_back k f b (take n after) is (clear (body_fault f.body b) h) (put_back (command_in f b) out after n v a)
