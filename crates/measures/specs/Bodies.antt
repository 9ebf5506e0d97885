-- The signing body, and the invoice in it.
use Rattle.std.specs.Prelude.{ℕ, ◌+◌, ◌-◌, ◌*◌, ◌/◌, Bool, cond, ◌&&◌, List, ◌++◌, length, drop, codes, decimal, Some, None, Option, ◌==◌, nat_le, slice_index}
use Rattle.octets.specs.Big.{big}
use Rattle.octets.specs.Parts.{part}
use Rattle.measures.specs.declared.invoices.Invoice.{Invoice}
use Rattle.measures.specs.declared.invoices.Transaction.{Transaction}
use Rattle.measures.specs.declared.invoices.Transaction.TheVariants.{Sale, Refund}
use Rattle.measures.specs.declared.invoices.UnknownTransaction.{UnknownTransaction}
use Rattle.measures.specs.Categories.{categories_of, ids_known}
use Rattle.measures.specs.Identifiers.{identifier, named}
use Rattle.measures.specs.Sizes.{head_size, category_size, amount_size, identifier_size, id_count, taxpayer_at, buyer_at, type_at, transaction_at, amount_at, count_at, last_type}

-- the byte of a transaction
abbrev pub transaction_byte : Transaction → ℕ
transaction_byte Sale = 0
transaction_byte Refund = 1

-- the transaction that a byte says; none above 1
abbrev pub transaction_said : ℕ → Option Transaction
transaction_said b = cond (b == 0) (Some Sale) (cond (b == 1) (Some Refund) None)

-- what is said of a byte of no transaction
abbrev pub unknown_text : UnknownTransaction → List ℕ
unknown_text u = codes "no transaction has the byte " ++ decimal u.value

-- the transaction of a byte that is one
abbrev pub transaction_of : ℕ → Transaction
transaction_of b = cond (b == 0) Sale Refund

-- what an invoice says
pub record Said : Type 0 where
  pub transaction : Transaction
  pub amount : ℕ
  pub categories : List ℕ

-- what an invoice of the code says
abbrev pub said : Invoice → Said
said i = record { transaction = i.transaction; amount = i.amount; categories = i.categories.now }

-- how many categories a body of n bytes has
abbrev pub category_count : ℕ → ℕ
category_count n = (n - head_size) / category_size

-- whether a body of n bytes has a head, whole categories, and not too many of them
abbrev pub signing_length : ℕ → Bool
signing_length n = n == head_size + category_size * category_count n && nat_le (category_count n) id_count

-- whether the count is that of the categories
abbrev pub count_right : List ℕ → Bool
count_right b = slice_index b count_at == category_count (length b)

-- whether the type is known
abbrev pub type_known : List ℕ → Bool
type_known b = nat_le (slice_index b type_at) last_type

-- whether the transaction is a sale or a refund
abbrev pub transaction_known : List ℕ → Bool
transaction_known b = nat_le (slice_index b transaction_at) 1

-- whether bytes are a good identifier and name someone
abbrev pub taxpayer : List ℕ → Bool
taxpayer bs = identifier bs && named bs

-- whether the taxpayer identifier is good and names someone
abbrev pub taxpayer_named : List ℕ → Bool
taxpayer_named b = taxpayer (part taxpayer_at identifier_size b)

-- whether the buyer identifier is good
abbrev pub buyer_good : List ℕ → Bool
buyer_good b = identifier (part buyer_at identifier_size b)

-- whether the type and the transaction are known
abbrev pub codes_known : List ℕ → Bool
codes_known b = type_known b && transaction_known b

-- whether the taxpayer is named, and the buyer identifier is good
abbrev pub parties_good : List ℕ → Bool
parties_good b = taxpayer_named b && buyer_good b

-- whether the fields but for the transaction are all good
abbrev pub others_good : List ℕ → Bool
others_good b = count_right b && (ids_known (categories_of (drop head_size b)) && (type_known b && parties_good b))

-- whether the fields of a body of a good length are all good
abbrev pub fields_good : List ℕ → Bool
fields_good b = count_right b && (ids_known (categories_of (drop head_size b)) && (codes_known b && parties_good b))

-- whether a body is well-formed
abbrev pub well_formed : List ℕ → Bool
well_formed b = signing_length (length b) && fields_good b

-- what the invoice in a well-formed body says
abbrev pub said_in : List ℕ → Said
said_in b = record { transaction = transaction_of (slice_index b transaction_at); amount = big (part amount_at amount_size b); categories = drop head_size b }

-- what reading a body gives
abbrev pub invoice_read : List ℕ → Option Said
invoice_read b = cond (well_formed b) (Some (said_in b)) None
