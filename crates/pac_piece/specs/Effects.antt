-- What the execution of an operation answers, and when it can be executed.
use Rattle.std.specs.Prelude.{◌≡◌, length, Result, Ok, Err, IsSome, IsTrue}
use Rattle.std.specs.List.{AllByRecursion}
use Rattle.pac_value.specs.Expressions.{Values, type_in, types_of}
use Rattle.pac_value.specs.Scopes.{is_width}
use Rattle.pac_ops.specs.declared.reason.Reason.{Reason}
use Rattle.pac_ops.specs.declared.program.OpKind.{OpKind}
use Rattle.pac_ops.specs.declared.program.OpKind.TheVariants.{Let, Cond, Read, Has, Put, SetCol, Delete, AbortIf}
use Rattle.pac_ops.specs.Operations.{Effect, Nothing, Gives as GivesValue, Leaves}
use Rattle.pac_plan.specs.Codes.{IsStoredTyped}
use Rattle.pac_piece.specs.declared.failed.OpFailed.{OpFailed}
use Rattle.pac_piece.specs.declared.failed.OpFailed.TheVariants.{Abort, NoMemory}
use Rattle.pac_piece.specs.declared.effects.OpEffect.{OpEffect}
use Rattle.pac_piece.specs.declared.effects.OpEffect.TheVariants.{Nothing as ANothing, Gives as AGives, Leaves as ALeaves}

-- the effect that a value of the program is
abbrev pub effect_of : OpEffect → Effect
effect_of ANothing = Nothing
effect_of (AGives x v) = GivesValue x v
effect_of (ALeaves row) = Leaves row

-- an operation does what it means, fails as it means to, or finds no memory
abbrev pub AnswersEffect : Result OpEffect OpFailed → Result Effect Reason → Type 0
AnswersEffect (Ok e) meaning = meaning ≡ Ok (effect_of e)
AnswersEffect (Err (Abort reason)) meaning = meaning ≡ Err reason
AnswersEffect (Err NoMemory) meaning = Unit {0}

-- the same of a value that is given
abbrev pub AnswersAs : {A : Type 0} → Result A OpFailed → Result A Reason → Type 0
AnswersAs (Ok x) meaning = meaning ≡ Ok x
AnswersAs (Err (Abort reason)) meaning = meaning ≡ Err reason
AnswersAs (Err NoMemory) meaning = Unit {0}

-- the expressions of an operation have types over the values that there are, those of keys and columns types that are stored, and
-- a row is neither empty nor too wide
abbrev pub CanDo : Values → OpKind → Type 0
CanDo env (Let x e) = IsSome (type_in (types_of env) e)
CanDo env (Cond x e) = IsSome (type_in (types_of env) e)
CanDo env (Read x t k c d) = IsStoredTyped env k
CanDo env (Has x t k) = IsStoredTyped env k
CanDo env (Put t k es) = IsStoredTyped env k × IsTrue (is_width (length es)) × AllByRecursion (IsStoredTyped env) es
CanDo env (SetCol t k c e) = IsStoredTyped env k × IsStoredTyped env e
CanDo env (Delete t k) = IsStoredTyped env k
CanDo env (AbortIf e) = IsSome (type_in (types_of env) e)
