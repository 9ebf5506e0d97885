-- How a command that was built is read back.
use Rattle.std.specs.Prelude.{◌≡◌, ℕ, true, List, length, Some, Ok}
use Rattle.answers.specs.Lengths.{data_length, le_enough}
use Rattle.apdu.specs.declared.kinds.Kind.{Kind}
use Rattle.apdu.specs.Reading.{Reading, reading}
use Rattle.octets.specs.Parts.{part}
use Rattle.host.specs.declared.forms.Form.{Form}
use Rattle.host.specs.Published.{shape_place, shape_le, published}

-- what a command of a kind and a form says, with a body
abbrev pub says : Kind → Form → List ℕ → Reading
says k f b = record { kind = k; header = f.header; body = b; place = shape_place f.shape; le = shape_le f.shape }

-- a command that was built from a body is read as its kind, its header, exactly that body at its place, and its Le,
-- which is enough for the data that this kind answers
pub record ReadBack (k : Kind) (b c : List ℕ) : Type 0 where
  pub form : Form
  pub is_published : published k ≡ Some form
  pub reads : reading c ≡ Ok (says k form b)
  pub lies : part (shape_place form.shape) (length b) c ≡ b
  pub enough : le_enough (data_length k) (shape_le form.shape) ≡ true
