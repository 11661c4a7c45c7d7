use Rattle.std.proofs.Common.{◌≡◌, length}
use Rattle.pac_types.specs.WellFormed.{types}
use Rattle.pac_request.specs.RequestMeaning.{asked_values}
use Rattle.pac_request.proofs.MeaningLemmas.{preceding}
use Rattle.pac_request.proofs.meaning.values_of.Given as goal

-- the values so far, before those of what is left, are all values
abbrev pub invariant-loop-ty : goal.invariant-loop-ty
invariant-loop-ty l = preceding l.values.items (asked_values (types l.columns) l.literals) ≡ asked_values (types l.fn.columns) l.fn.literals

abbrev pub decreases-loop-ty : goal.decreases-loop-ty
decreases-loop-ty l = length l.columns
