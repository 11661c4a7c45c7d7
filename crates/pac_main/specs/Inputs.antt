-- What an input holds, and why it holds no script.
use Rattle.std.specs.Prelude.{ℕ, List}
use Rattle.pac_base.specs.declared.refusal.Refusal.{Refusal}
use Rattle.pac_base.specs.declared.refusal.Refusal.TheVariants as refusal
use Rattle.pac_outside.specs.declared.failed.ReadError.{ReadError}
use Rattle.pac_outside.specs.declared.failed.ReadError.TheVariants as read
use Rattle.pac_types.specs.Accepted.{IsAccepted}
use Rattle.pac_types.specs.Typing.{CatalogueState}
use Rattle.pac_flat.specs.declared.acceptance.AcceptFault.{AcceptFault}
use Rattle.pac_script.specs.declared.script_fault.ScriptFault.{ScriptFault}
use Rattle.pac_script.specs.declared.script_fault.ScriptFault.TheVariants.{Unaccepted}
use Rattle.pac_main.specs.declared.input.InputError.{InputError}
use Rattle.pac_main.specs.declared.input.InputError.TheVariants.{Failed, Script, NoMemory}

-- some catalogue is accepted as that of the text
abbrev pub IsAcceptedText : List ℕ → Type 0
IsAcceptedText text = (catalogue : CatalogueState) × IsAccepted text catalogue

-- an input that isn't read failed, or there was no memory for it
abbrev pub input_of_read : ReadError → InputError
input_of_read read.Failed = Failed
input_of_read read.NoMemory = NoMemory

-- what was read isn't accepted as a catalogue, or there was no memory for it
abbrev pub input_of_accept : Refusal AcceptFault → InputError
input_of_accept (refusal.Fault fault) = Script (Unaccepted fault)
input_of_accept refusal.NoMemory = NoMemory

-- what was read is no script, or there was no memory for it
abbrev pub input_of_script : Refusal ScriptFault → InputError
input_of_script (refusal.Fault fault) = Script fault
input_of_script refusal.NoMemory = NoMemory
