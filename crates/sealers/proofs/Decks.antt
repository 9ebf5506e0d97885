-- Decks: an entry cut out of the bytes, and the reading of the entries behind it.
use Rattle.std.proofs.Common.{◌≡◌, ℕ, zero, suc, ◌+◌, ◌<◌, ◌≤◌, true, false, cond, ltb, List, [], ◌∷◌, length, take, drop, Some, None, Option, sym, refl, ap, ◌∙◌, arith}
use Rattle.std.proofs.lemmas.List.{drop-drop, length-drop}
use Rattle.std.proofs.lemmas.Bool.Decides.{nat_tests}
use Rattle.std.specs.List.{IsSplitAt, find}
use Rattle.std.proofs.lemmas.Bool.{cond_both}
use Rattle.std.proofs.lemmas.Option.{MatchOption-at_some}
use Rattle.std.specs.Option.{IfSome, option_map}
use Rattle.sealers.specs.declared.recorded.Kind.{Kind}
use Rattle.sealers.specs.declared.recorded.Rule.{Rule}
use Rattle.sealers.specs.Deck.{Entry, kind_of, entry_in, entry_if, first_entry, read_on, first_entries, entries, answers, first_answer}
use Rattle.sealers.specs.Sizes.{answer_size}

-- the parts of the bytes that are an entry of a kind
pub entry_cut : (k : Kind) (bs behind message answer rest : List ℕ) → IsSplitAt bs k.len message behind → (answer ≡ take answer_size behind) × (rest ≡ drop answer_size behind) × (length rest + answer_size ≡ length behind) →
    Some (record { rule = k.rule; message = message; answer = answer; rest = rest }) ≡ entry_in k bs
entry_cut k bs behind message answer rest split cut =
    let t : ltb (length bs) (k.len + answer_size) ≡ false = grind (arith, nat_tests) in
    let m = split.1 in
    let b = split.2 in
    let a = cut.0 in
    let r = cut.1 in
    let d = drop-drop answer_size k.len bs in
    rw (t, m, a, r, b, d)

-- behind an entry there are fewer bytes
shorter_in : (k : Kind) (bs : List ℕ) → IfSome (entry_in k bs) (λ e. length e.rest < suc (length bs))
shorter_in k bs = cond_both (ltb (length bs) (k.len + answer_size)) None _ (λ o. IfSome o (λ e. length e.rest < suc (length bs))) (λ _. tt) (λ _. simp length-drop (omega arith))

shorter_if : (o : Option Kind) (bs : List ℕ) → IfSome (entry_if o bs) (λ e. length e.rest < suc (length bs))
shorter_if (Some k) bs = shorter_in k bs
shorter_if None bs = tt

shorter_first : (deck : List ℕ) → IfSome (first_entry deck) (λ e. length e.rest < length deck)
shorter_first [] = tt
shorter_first (byte ∷ bs) = shorter_if (kind_of byte) bs

pub shorter : (deck : List ℕ) (e : Entry) → Some e ≡ first_entry deck → length e.rest < length deck
shorter deck e f = MatchOption-at_some _ (λ e'. length e'.rest < length deck) e (sym f) (shorter_first deck)

-- reading more entries than there are bytes changes nothing
same_on : (F G : List ℕ → List Entry) (n : ℕ) (o : Option Entry) → IfSome o (λ e. length e.rest < n) → ((rest : List ℕ) → length rest < n → F rest ≡ G rest) → read_on F o ≡ read_on G o
same_on F G n (Some e) h f = ap (λ es. e ∷ es) (f e.rest h)
same_on F G n None h f = refl

enough : (n k : ℕ) (deck : List ℕ) → length deck ≤ n → length deck ≤ k → first_entries n deck ≡ first_entries k deck
unfolding first_entries
enough zero zero deck l m = refl
enough zero (suc k) [] l m = refl
enough zero (suc k) (b ∷ bs) l m = absurd (omega arith)
enough (suc n) zero [] l m = refl
enough (suc n) zero (b ∷ bs) l m = absurd (omega arith)
enough (suc n) (suc k) deck l m =
    same_on (λ rest. first_entries n rest) (λ rest. first_entries k rest) (length deck) (first_entry deck) (shorter_first deck) (λ rest h. enough n k rest (omega arith) (omega arith))

-- the entries of a deck are its first and those behind it
pub reads_one : (deck : List ℕ) (e : Entry) → Some e ≡ first_entry deck → entries deck ≡ e ∷ entries e.rest
unfolding first_entries
reads_one [] e f = let z : ◌≡◌ {A = ℕ} 0 1 = cc in absurd (omega arith)
reads_one (b ∷ bs) e f =
    let l : length e.rest < suc (length bs) = shorter (b ∷ bs) e f in
    ap (read_on (λ rest. first_entries (length bs) rest)) (sym f) ∙ ap (λ es. e ∷ es) (enough (length bs) (length e.rest) e.rest (omega arith) (omega arith))

-- a deck that begins with no entry has none
pub reads_none : (deck : List ℕ) → None ≡ first_entry deck → entries deck ≡ []
unfolding first_entries
reads_none [] f = refl
reads_none (b ∷ bs) f = ap (read_on (λ rest. first_entries (length bs) rest)) (sym f)

-- the first answer is that of the first entry that answers
pub first_found : (r : Rule) (m : List ℕ) (es : List Entry) → first_answer r m es ≡ option_map (λ e. e.answer) (find (answers r m) es)
first_found r m [] = refl
first_found r m (e ∷ es) = elim (answers r m e) as (λ t. cond t (Some e.answer) (first_answer r m es) ≡ option_map (λ x. x.answer) (cond t (Some e) (find (answers r m) es))) [ true ↦ refl | false ↦ first_found r m es ]

-- so what the code found holds what the entries say
pub answer_found : (r : Rule) (m : List ℕ) (es : List Entry) (o : Option Entry) → o ≡ find (answers r m) es → option_map (λ e. e.answer) o ≡ first_answer r m es
answer_found r m es o e = ap (option_map (λ x. x.answer)) e ∙ sym (first_found r m es)
