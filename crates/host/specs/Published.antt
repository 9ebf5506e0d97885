-- The published form of each command.
use Rattle.std.specs.Prelude.{ℕ, List, Some, None, Option}
use Rattle.apdu.specs.declared.kinds.Kind.{Kind}
use Rattle.apdu.specs.declared.kinds.Kind.TheVariants.{Select, Version, Tries, Amounts, Last, Pin, Sign, Export, Directive, Other}
use Rattle.apdu.specs.Reading.{header}
use Rattle.apdu.specs.Writings.{short, long, Writing, with_le, with_body, with_both, written}
use Rattle.host.specs.declared.bodies.Body.{Body}
use Rattle.host.specs.declared.bodies.Body.TheVariants.{Sized, Invoice}
use Rattle.host.specs.declared.forms.Shape.{Shape}
use Rattle.host.specs.declared.forms.Shape.TheVariants.{ShortLe, ShortBody, ShortBoth, LongLe, LongBody, LongBoth}
use Rattle.host.specs.declared.forms.Form.{Form}

-- how each shape writes a body; every Le is the largest of its width
abbrev pub shaped : Shape → List ℕ → Writing
shaped ShortLe b = with_le short 256
shaped ShortBody b = with_body short b
shaped ShortBoth b = with_both short b 256
shaped LongLe b = with_le long 65536
shaped LongBody b = with_body long b
shaped LongBoth b = with_both long b 65536

-- where each shape has its body, and its Le
abbrev pub shape_place : Shape → ℕ
shape_place ShortLe = 4
shape_place ShortBody = 5
shape_place ShortBoth = 5
shape_place LongLe = 4
shape_place LongBody = 7
shape_place LongBoth = 7

abbrev pub shape_le : Shape → Option ℕ
shape_le ShortLe = Some 256
shape_le ShortBody = None
shape_le ShortBoth = Some 256
shape_le LongLe = Some 65536
shape_le LongBody = None
shape_le LongBoth = Some 65536

-- a form: four header bytes, which bodies it takes, and its shape
abbrev pub form_with : ℕ → ℕ → ℕ → ℕ → Body → Shape → Form
form_with c i p q rule shape = record { header = header c i p q; body = rule; shape = shape }

-- the form of the command of each kind; none for a command that is not one of the nine
abbrev pub published : Kind → Option Form
published Select = Some (form_with 0x00 0xa4 0x04 0x00 (Sized 16) ShortBoth)
published Version = Some (form_with 0x88 0x08 0x00 0x00 (Sized 0) ShortLe)
published Tries = Some (form_with 0x88 0x16 0x04 0x00 (Sized 0) ShortLe)
published Amounts = Some (form_with 0x88 0x14 0x04 0x00 (Sized 0) ShortLe)
published Last = Some (form_with 0x88 0x15 0x04 0x00 (Sized 0) LongLe)
published Pin = Some (form_with 0x88 0x11 0x00 0x00 (Sized 4) ShortBody)
published Sign = Some (form_with 0x88 0x13 0x04 0x00 Invoice LongBoth)
published Export = Some (form_with 0x88 0x12 0x04 0x00 (Sized 0) LongLe)
published Directive = Some (form_with 0x88 0x40 0x04 0x00 (Sized 512) LongBody)
published Other = None

-- the command of a form with a body
abbrev pub command_in : Form → List ℕ → List ℕ
command_in f b = written f.header (shaped f.shape b)
