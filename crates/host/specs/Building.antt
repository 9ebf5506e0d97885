-- What building a command gives, and what it leaves in the buffer.
use Rattle.std.specs.Prelude.{ℕ, cond, List, ◌++◌, length, drop, Some, None, Ok, Err, Option, Result, ◌==◌, nat_le}
use Rattle.std.specs.Result.{result_map_both}
use Rattle.apdu.specs.Kinds.{kind_named}
use Rattle.measures.specs.Bodies.{Said, signing_length, invoice_read}
use Rattle.status.specs.declared.errors.CallError.{CallError}
use Rattle.host.specs.declared.faults.BuildFault.{BuildFault}
use Rattle.host.specs.declared.faults.BuildFault.TheVariants.{UnknownInstruction, WrongBodyLength, MalformedInvoice, SmallBuffer}
use Rattle.host.specs.declared.bodies.Body.{Body}
use Rattle.host.specs.declared.bodies.Body.TheVariants.{Sized, Invoice}
use Rattle.host.specs.declared.forms.Form.{Form}
use Rattle.host.specs.Faults.{refusal_of}
use Rattle.host.specs.Published.{published, command_in}

-- what is wrong with a body in which the card finds this invoice
abbrev pub invoice_fault : Option Said → Option BuildFault
invoice_fault (Some i) = None
invoice_fault None = Some MalformedInvoice

-- what is wrong with a body by its rule; none where nothing is
abbrev pub body_fault : Body → List ℕ → Option BuildFault
body_fault (Sized n) b = cond (length b == n) None (Some WrongBodyLength)
body_fault Invoice b = cond (signing_length (length b)) (invoice_fault (invoice_read b)) (Some WrongBodyLength)

-- all is well unless there is a fault
abbrev pub unless : Option BuildFault → Result (Unit {0}) BuildFault
unless None = Ok tt
unless (Some fault) = Err fault

-- what putting a command at the beginning of a buffer gives: its length, or that there is no room
abbrev pub put_value : List ℕ → List ℕ → Result ℕ BuildFault
put_value c out = cond (nat_le (length c) (length out)) (Ok (length c)) (Err SmallBuffer)

-- what the buffer then holds: the command and what stood past it, or what it held before
abbrev pub put_after : List ℕ → List ℕ → List ℕ
put_after c out = cond (nat_le (length c) (length out)) (c ++ drop (length c) out) out

-- the same of the command of a form, unless its body is at fault
abbrev pub form_value : Form → Option BuildFault → List ℕ → List ℕ → Result ℕ BuildFault
form_value f (Some fault) b out = Err fault
form_value f None b out = put_value (command_in f b) out

abbrev pub form_after : Form → Option BuildFault → List ℕ → List ℕ → List ℕ
form_after f (Some fault) b out = out
form_after f None b out = put_after (command_in f b) out

abbrev pub composed_as : Option Form → List ℕ → List ℕ → Result ℕ BuildFault
composed_as None b out = Err UnknownInstruction
composed_as (Some f) b out = form_value f (body_fault f.body b) b out

abbrev pub composed_after_as : Option Form → List ℕ → List ℕ → List ℕ
composed_after_as None b out = out
composed_after_as (Some f) b out = form_after f (body_fault f.body b) b out

-- what building the command of an instruction and a body gives
abbrev pub composed : ℕ → List ℕ → List ℕ → Result ℕ BuildFault
composed i b out = composed_as (published (kind_named i)) b out

-- what the buffer then holds
abbrev pub composed_after : ℕ → List ℕ → List ℕ → List ℕ
composed_after i b out = composed_after_as (published (kind_named i)) b out

-- the same result, where a fault is its refusal
abbrev pub refused : Result ℕ BuildFault → Result ℕ CallError
refused r = result_map_both (λ n. n) refusal_of r

abbrev pub built : ℕ → List ℕ → List ℕ → Result ℕ CallError
built i b out = refused (composed i b out)
