-- What calls answer that may find no memory.
use Rattle.std.specs.Prelude.{Result, Ok, Err}
use Rattle.pac_base.specs.declared.refusal.Refusal.{Refusal}
use Rattle.pac_base.specs.declared.refusal.Refusal.TheVariants.{Fault, NoMemory}

-- the answer has this property, unless there was no memory
abbrev pub AnswersBy : {X F : Type 0} → (Result X F → Type 0) → Result X (Refusal F) → Type 0
AnswersBy P (Ok x) = P (Ok x)
AnswersBy P (Err (Fault fault)) = P (Err fault)
AnswersBy P (Err NoMemory) = Unit {0}
