-- The fields of a signing answer and of an answer of amounts.
use Rattle.std.specs.Prelude.{ℕ, cond, List, ◌∷◌, ◌++◌, length, Some, None, Option, ◌==◌, slice_index}
use Rattle.octets.specs.Big.{be, big}
use Rattle.octets.specs.Parts.{part}
use Rattle.measures.specs.declared.invoices.Transaction.{Transaction}
use Rattle.measures.specs.Bodies.{transaction_byte, transaction_said}
use Rattle.measures.specs.Sizes.{amount_size, number_size, identifier_size, taxpayer_at, buyer_at, type_at, transaction_at, amount_at}
use Rattle.sealers.specs.Sizes.{block_size, answer_size}
use Rattle.answers.specs.declared.fields.AmountsAnswer.{AmountsAnswer}
use Rattle.answers.specs.declared.fields.SignedAnswer.{SignedAnswer}
use Rattle.answers.specs.Sizes.{limit_at, amounts_size, side_at, total_at, block_at, seal_at, signed_size}

-- what a signing answer says
pub record Signed : Type 0 where
  pub date : List ℕ
  pub taxpayer : List ℕ
  pub buyer : List ℕ
  pub type_code : ℕ
  pub transaction : Transaction
  pub amount : ℕ
  pub side_counter : ℕ
  pub total_counter : ℕ
  pub block : List ℕ
  pub seal : List ℕ

-- what a signing answer of the code says
abbrev pub signed : SignedAnswer → Signed
signed a = record {
  date = a.date.now;
  taxpayer = a.taxpayer.now;
  buyer = a.buyer.now;
  type_code = a.type_code;
  transaction = a.transaction;
  amount = a.amount;
  side_counter = a.side_counter;
  total_counter = a.total_counter;
  block = a.block.now;
  seal = a.seal.now;
}

-- the bytes of a signing answer: its fields, one after the other
abbrev pub signed_bytes : Signed → List ℕ
signed_bytes s =
    s.date
    ++ (s.taxpayer
    ++ (s.buyer
    ++ (s.type_code
    ∷ transaction_byte s.transaction
    ∷ (be amount_size s.amount
    ++ (be number_size s.side_counter
    ++ (be number_size s.total_counter
    ++ (s.block
    ++ s.seal)))))))

-- the fields in a signing answer of this transaction
abbrev pub signed_in : List ℕ → Transaction → Signed
signed_in bs t = record {
  date = part 0 taxpayer_at bs;
  taxpayer = part taxpayer_at identifier_size bs;
  buyer = part buyer_at identifier_size bs;
  type_code = slice_index bs type_at;
  transaction = t;
  amount = big (part amount_at amount_size bs);
  side_counter = big (part side_at number_size bs);
  total_counter = big (part total_at number_size bs);
  block = part block_at block_size bs;
  seal = part seal_at answer_size bs;
}

abbrev pub signed_as : List ℕ → Option Transaction → Option Signed
signed_as bs None = None
signed_as bs (Some t) = Some (signed_in bs t)

-- what reading a signing answer gives: none for another length, or for a transaction above 1
abbrev pub signed_read : List ℕ → Option Signed
signed_read bs = cond (length bs == signed_size) (signed_as bs (transaction_said (slice_index bs transaction_at))) None

-- the amounts in an answer of amounts
abbrev pub amounts_in : List ℕ → AmountsAnswer
amounts_in bs = record { unaudited = big (part 0 amount_size bs); limit = big (part limit_at amount_size bs) }

-- the bytes of an answer of amounts: both, one after the other
abbrev pub amounts_bytes : AmountsAnswer → List ℕ
amounts_bytes a = be amount_size a.unaudited ++ be amount_size a.limit

-- what reading an answer of amounts gives: none for another length
abbrev pub amounts_read : List ℕ → Option AmountsAnswer
amounts_read bs = cond (length bs == amounts_size) (Some (amounts_in bs)) None
