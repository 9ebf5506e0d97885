-- Both sealers' rules keep the sizes.
use Rattle.std.specs.Prelude.{◌≡◌, ℕ, zero, suc, ◌+◌, ◌≤◌, true, List, [], ◌∷◌, length, Some, None, fold, Option, ◌==◌, nat_lt, refl}
use Rattle.std.proofs.Common.{sym, ap, ◌∙◌, arith, eqb-true, ltb-false}
use Rattle.std.proofs.lemmas.List.FromFn.{length-map-range_with_len}
use Rattle.std.proofs.lemmas.List.{length-take-le}
use Rattle.std.proofs.lemmas.Slice.Eq.{bytes_eq-Decides}
use Rattle.std.proofs.lemmas.Bool.{and_parts, cond_both}
use Rattle.std.proofs.lemmas.Option.{MatchOption-at_some, cond_some}
use Rattle.std.specs.Option.{IfSome}
use Rattle.std.specs.List.{AllByRecursion}
use Rattle.std.specs.Str.{bytes_eq}
use Rattle.octets.proofs.Pieces.{length-part}
use Rattle.sealers.specs.declared.recorded.Kind.{Kind}
use Rattle.sealers.specs.declared.recorded.Rule.{Rule}
use Rattle.sealers.specs.declared.recorded.Rule.TheVariants.{Cover, Seal}
use Rattle.sealers.specs.Bench.{stretched, covered, crossed, bench_cover, bench_seal, mixed}
use Rattle.sealers.specs.Deck.{Entry, kind_of, entry_in, entry_if, first_entry, read_on, first_entries, same_rule, answers, first_answer, recorded, recorded_cover, recorded_seal}
use Rattle.sealers.specs.Rules.{Keeps}
use Rattle.sealers.specs.Sizes.{answer_size, block_size}

-- a seal has as many bytes as are asked for
length-stretched : (n j h : ℕ) → length (stretched n j h) ≡ n
unfolding stretched
length-stretched zero j h = refl
length-stretched (suc n) j h = ap suc (length-stretched n (j + 1) (mixed h j))

-- what the bench sealer's cover takes and gives
bench_sizes : (key : ℕ) (b a : List ℕ) → bench_cover key b ≡ Some a → (length b ≡ block_size) × (length a ≡ answer_size)
bench_sizes key b a e =
    let (t, same) = cond_some (length b == block_size) (covered key b) a e in
    let l : length b ≡ block_size = eqb-true (length b) block_size t in
    (l, ap length (sym same) ∙ length-map-range_with_len (crossed key b) 0 (length b) ∙ l)

-- the bench sealer keeps the sizes
pub bench_keeps : (key : ℕ) → Keeps (bench_cover key) (bench_seal key)
bench_keeps key =
    record {
      cover_takes = λ b a e. (bench_sizes key b a e).0;
      cover_gives = λ b a e. (bench_sizes key b a e).1;
      seal_gives = λ m a e. MatchOption-at_some (Unit {0}) (λ a'. length a' ≡ answer_size) a e (length-stretched answer_size 0 (fold mixed key m));
    }

-- a kind of the cover rule has messages of a block's size
abbrev FairKind : Kind → Type 0
FairKind k = k.rule ≡ Cover → k.len ≡ block_size

-- the kinds of the table are such
fair_kind : (byte : ℕ) → IfSome (kind_of byte) FairKind
fair_kind byte =
    let other : (n : ℕ) → Seal ≡ Cover → n ≡ block_size = λ n e. let z : ◌≡◌ {A = ℕ} 0 1 = cc in absurd (omega arith) in
    let Holds : Option Kind → Type 0 = λ o. IfSome o FairKind in
    cond_both (byte == 1) _ _ Holds (λ _ _. refl)
    (λ _. cond_both (byte == 2) _ _ Holds (λ _. other 321)
    (λ _. cond_both (byte == 3) _ _ Holds (λ _. other 309)
    (λ _. cond_both (byte == 4) _ _ Holds (λ _. other 256) (λ _. tt))))

-- the sizes of an entry's message and answer
pub record Fair (e : Entry) : Type 0 where
  pub message : e.rule ≡ Cover → length e.message ≡ block_size
  pub answer : length e.answer ≡ answer_size

-- an entry of a fair kind has them
fair_in : (k : Kind) (bs : List ℕ) → FairKind k → IfSome (entry_in k bs) Fair
fair_in k bs h =
    cond_both (nat_lt (length bs) (k.len + answer_size)) None _ (λ o. IfSome o Fair) (λ _. tt)
    (λ t.
    let l : k.len + answer_size ≤ length bs = ltb-false (length bs) (k.len + answer_size) t in
    record { message = λ e. length-take-le k.len bs (omega arith) ∙ h e; answer = length-part k.len answer_size bs l })

-- the same, where the byte said a kind
fair_if : (o : Option Kind) (bs : List ℕ) → IfSome o FairKind → IfSome (entry_if o bs) Fair
fair_if (Some k) bs h = fair_in k bs h
fair_if None bs h = tt

-- the first entry of a deck has them
pub fair_first : (deck : List ℕ) → IfSome (first_entry deck) Fair
fair_first [] = tt
fair_first (byte ∷ bs) = fair_if (kind_of byte) bs (fair_kind byte)

-- an entry that has them, and those behind it that do
fair_on : (behind : List ℕ → List Entry) (o : Option Entry) → IfSome o Fair → ((rest : List ℕ) → AllByRecursion Fair (behind rest)) → AllByRecursion Fair (read_on behind o)
fair_on behind (Some e) h f = (h, f e.rest)
fair_on behind None h f = tt

-- all entries of a deck have them
fair_entries : (n : ℕ) (deck : List ℕ) → AllByRecursion Fair (first_entries n deck)
unfolding first_entries
fair_entries zero deck = tt
fair_entries (suc n) deck = fair_on (λ rest. first_entries n rest) (first_entry deck) (fair_first deck) (λ rest. fair_entries n rest)

-- the sizes of a message that has an answer, and of the answer
pub record Sized (r : Rule) (m a : List ℕ) : Type 0 where
  pub takes : r ≡ Cover → length m ≡ block_size
  pub gives : length a ≡ answer_size

-- rules that are one are equal
one_rule : (r s : Rule) → same_rule r s ≡ true → r ≡ s
one_rule Cover Cover t = refl
one_rule Cover Seal t = let z : ◌≡◌ {A = ℕ} 0 1 = cc in absurd (omega arith)
one_rule Seal Cover t = let z : ◌≡◌ {A = ℕ} 0 1 = cc in absurd (omega arith)
one_rule Seal Seal t = refl

-- an entry that answers says them
sized_by : (r : Rule) (m : List ℕ) (e : Entry) → Fair e → answers r m e ≡ true → Sized r m e.answer
sized_by r m e h t =
    let both = and_parts (same_rule e.rule r) (bytes_eq e.message m) t in
    let rule : e.rule ≡ r = one_rule e.rule r both.0 in
    let same : e.message ≡ m = (bytes_eq-Decides e.message m).0 both.1 in
    record { takes = λ c. ap length (sym same) ∙ h.message (rule ∙ c); gives = h.answer }

-- so does the first answer
sized_in : (r : Rule) (m : List ℕ) (es : List Entry) → AllByRecursion Fair es → IfSome (first_answer r m es) (Sized r m)
sized_in r m [] h = tt
sized_in r m (e ∷ es) h =
    cond_both (answers r m e) (Some e.answer) (first_answer r m es) (λ o. IfSome o (Sized r m)) (λ t. sized_by r m e h.0 t) (λ _. sized_in r m es h.1)

-- and what a deck answers
pub recorded_sizes : (r : Rule) (deck m a : List ℕ) → recorded r deck m ≡ Some a → Sized r m a
recorded_sizes r deck m a e = MatchOption-at_some _ (Sized r m) a e (sized_in r m (first_entries (length deck) deck) (fair_entries (length deck) deck))

-- the recorded sealer keeps the sizes
pub recorded_keeps : (deck : List ℕ) → Keeps (recorded_cover deck) (recorded_seal deck)
recorded_keeps deck =
    record {
      cover_takes = λ b a e. (recorded_sizes Cover deck b a e).takes refl;
      cover_gives = λ b a e. (recorded_sizes Cover deck b a e).gives;
      seal_gives = λ m a e. (recorded_sizes Seal deck m a e).gives;
    }
