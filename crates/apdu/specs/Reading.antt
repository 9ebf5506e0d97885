-- What a command says: its kind, its header, its body with the place of that, and Le.
use Rattle.std.specs.Prelude.{◌≡◌, ℕ, List, [], ◌∷◌, length, Err, Option, Result, slice_index}
use Rattle.std.specs.Result.{result_map_both}
use Rattle.octets.specs.Parts.{part}
use Rattle.apdu.specs.declared.commands.Header.{Header}
use Rattle.apdu.specs.declared.commands.Request.{Request}
use Rattle.apdu.specs.declared.commands.Command.{Command}
use Rattle.apdu.specs.declared.commands.Command.TheVariants as command
use Rattle.status.specs.declared.errors.CallError.{CallError}
use Rattle.apdu.specs.declared.faults.Fault.{Fault}
use Rattle.apdu.specs.declared.faults.Fault.TheVariants.{NoHeader}
use Rattle.apdu.specs.declared.kinds.Kind.{Kind}
use Rattle.apdu.specs.declared.kinds.Kind.TheVariants as kind
use Rattle.apdu.specs.Faults.{refusal_of}
use Rattle.apdu.specs.Forms.{Form, map_ok, formed}
use Rattle.apdu.specs.Kinds.{kind_of}

-- what a command says
pub record Reading : Type 0 where
  pub kind : Kind
  pub header : Header
  pub body : List ℕ
  pub place : ℕ
  pub le : Option ℕ

-- the body is the part of the bytes from its place on
abbrev pub BodyLiesIn : List ℕ → Reading → Type 0
BodyLiesIn bs x = part x.place (length x.body) bs ≡ x.body

abbrev pub header : ℕ → ℕ → ℕ → ℕ → Header
header c i p q = record { class = c; instruction = i; p1 = p; p2 = q }

-- the header in four bytes
abbrev pub header_of : List ℕ → Header
header_of bs = header (slice_index bs 0) (slice_index bs 1) (slice_index bs 2) (slice_index bs 3)

-- the four bytes of a header
abbrev pub header_bytes : Header → List ℕ
header_bytes h = h.class ∷ h.instruction ∷ h.p1 ∷ h.p2 ∷ []

-- what is read at a form
abbrev pub at_place : Header → Form → Reading
at_place h f = record { kind = kind_of h.class h.instruction; header = h; body = f.body; place = f.place; le = f.le }

-- the same, or why there is no form
abbrev pub at_form : Header → Result Form Fault → Result Reading Fault
at_form h r = map_ok (at_place h) r

-- what bytes say as a command, or why they are none
abbrev pub parsed : List ℕ → Result Reading Fault
parsed [] = Err NoHeader
parsed (c ∷ []) = Err NoHeader
parsed (c ∷ i ∷ []) = Err NoHeader
parsed (c ∷ i ∷ p ∷ []) = Err NoHeader
parsed (c ∷ i ∷ p ∷ q ∷ rest) = at_form (header c i p q) (formed rest)

-- what reading bytes gives: a fault is its refusal
abbrev pub refused : Result Reading Fault → Result Reading CallError
refused r = result_map_both (λ x. x) refusal_of r

abbrev pub reading : List ℕ → Result Reading CallError
reading bs = refused (parsed bs)

-- what a request says as a command of kind k
abbrev pub read_as : Kind → Request → Reading
read_as k r = record { kind = k; header = r.header; body = r.body.now; place = r.place; le = r.le }

-- what a request says, of the kind that its class and instruction name
abbrev pub request_read : Request → Reading
request_read r = read_as (kind_of r.header.class r.header.instruction) r

-- what a command in the code says
abbrev pub command_read : Command → Reading
command_read (command.Select r) = read_as kind.Select r
command_read (command.Version r) = read_as kind.Version r
command_read (command.Tries r) = read_as kind.Tries r
command_read (command.Amounts r) = read_as kind.Amounts r
command_read (command.Last r) = read_as kind.Last r
command_read (command.Pin r) = read_as kind.Pin r
command_read (command.Sign r) = read_as kind.Sign r
command_read (command.Export r) = read_as kind.Export r
command_read (command.Directive r) = read_as kind.Directive r
command_read (command.Other r) = read_as kind.Other r

-- the same of the results of the code's calls
abbrev pub parse_result : Result Command Fault → Result Reading Fault
parse_result r = map_ok command_read r

abbrev pub read_result : Result Command CallError → Result Reading CallError
read_result r = map_ok command_read r

abbrev pub request_result : Result Request Fault → Result Reading Fault
request_result r = map_ok request_read r
