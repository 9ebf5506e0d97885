-- The two sides of a tally.
use Rattle.std.specs.Prelude.{ℕ, ◌*◌, Bool, cond, List, ◌++◌, length, take, drop, is_some, Some, None, Option, ◌==◌}
use Rattle.std.specs.Option.{unwrap_or}
use Rattle.measures.specs.declared.invoices.Transaction.{Transaction}
use Rattle.measures.specs.declared.invoices.Transaction.TheVariants.{Sale, Refund}
use Rattle.ledger.specs.declared.tallies.Tally.{Tally}
use Rattle.measures.specs.Bodies.{Said}
use Rattle.ledger.specs.Stored.{fields, packed}

-- how a measure counts: its numbers after an invoice, none where it does not fit
abbrev pub Counting : Type 0
Counting = List ℕ → ℕ → List ℕ → Option (List ℕ)

-- the numbers of the sale side and of the refund side
abbrev pub Sides : Type 0
Sides = List ℕ × List ℕ

-- the numbers that a tally means, by what its measure means
abbrev pub sides : {X : Type 0} → (X → List ℕ) → Tally X → Sides
sides numbers t = (numbers t.sale, numbers t.refund)

-- the side of a transaction
abbrev pub own_side : {X : Type 0} → Transaction → X × X → X
own_side Sale s = s.0
own_side Refund s = s.1

-- the side of the other transaction
abbrev pub other_side : {X : Type 0} → Transaction → X × X → X
other_side Sale s = s.1
other_side Refund s = s.0

-- the sides with another own side of the transaction
abbrev pub with_side : Transaction → List ℕ → Sides → Sides
with_side Sale ns s = (ns, s.1)
with_side Refund ns s = (s.0, ns)

-- the numbers of the own side after an invoice, none where it does not fit
abbrev pub side_counted : Counting → Sides → Said → Option (List ℕ)
side_counted counted s i = counted (own_side i.transaction s) i.amount i.categories

-- whether an invoice fits a tally
abbrev pub side_fits : Counting → Sides → Said → Bool
side_fits counted s i = is_some (side_counted counted s i)

-- the sides after an invoice, which is ignored where it does not fit
abbrev pub tallied : Counting → Sides → Said → Sides
tallied counted s i = with_side i.transaction (unwrap_or (side_counted counted s i) (own_side i.transaction s)) s

-- the bytes of a tally: the sale side, then the refund side
abbrev pub packed_sides : ℕ → Sides → List ℕ
packed_sides w s = packed w s.0 ++ packed w s.1

-- the sides in bytes
abbrev pub sides_in : ℕ → ℕ → List ℕ → Sides
sides_in w n bs = (fields w n (take (w * n) bs), fields w n (drop (w * n) bs))

-- whether bytes are as many as a tally has
abbrev pub sides_sized : ℕ → ℕ → List ℕ → Bool
sides_sized w n bs = length bs == 2 * (w * n)

-- what reading a tally gives: none for bytes of another length
abbrev pub sides_read : ℕ → ℕ → List ℕ → Option Sides
sides_read w n bs = cond (sides_sized w n bs) (Some (sides_in w n bs)) None

-- what `out` holds after a tally was written over the whole of it, or refused
abbrev pub sides_written : ℕ → ℕ → Sides → List ℕ → List ℕ
sides_written w n s out = cond (sides_sized w n out) (packed_sides w s) out
