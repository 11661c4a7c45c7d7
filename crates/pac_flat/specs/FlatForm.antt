-- The flat form of procedures: their operations in one list, each with the conditions round it.
use Rattle.std.specs.Prelude.{ℕ, Bool, true, false, List, [], ◌∷◌, ◌++◌, Option, Some, None}
use Rattle.pac_value.specs.declared.values.Ty.{Ty}
use Rattle.pac_ops.specs.declared.program.FlatOp.{FlatOp}
use Rattle.pac_ops.specs.declared.program.OpKind.{OpKind}
use Rattle.pac_ops.specs.declared.program.OpKind.TheVariants.{Cond}
use Rattle.pac_ops.specs.declared.program.Program.{Program}
use Rattle.pac_ops.specs.Programs.{given_type, scope_in}
use Rattle.pac_types.specs.declared.procedure.Proc.{Proc}
use Rattle.pac_types.specs.Unrolled.{UnrolledSteps, End, Op, Branch, unrolled}
use Rattle.pac_types.specs.WellFormed.{types}

-- conditions, those of the outermost conditional first
abbrev pub Conditions : Type 0
Conditions = List (ℕ × Bool)

-- an operation under conditions
abbrev pub under : Conditions → OpKind → FlatOp
under conds kind = record { conds = conds; kind = kind }

-- in one of a conditional's blocks its hidden variable has to have this value too
abbrev pub inside : Conditions → ℕ → Bool → Conditions
inside conds x value = conds ++ (x, value) ∷ []

-- the operations of steps, where these conditions stand round them
abbrev pub flat : UnrolledSteps → Conditions → List FlatOp
flat End conds = []
flat (Op kind rest) conds = under conds kind ∷ flat rest conds
flat (Branch x e first second rest) conds = (under conds (Cond x e) ∷ flat first (inside conds x true) ++ flat second (inside conds x false)) ++ flat rest conds

-- the operations of a procedure, whose loops are unrolled
abbrev pub flat_form : Proc → List FlatOp
flat_form proc = flat (unrolled proc) []

-- the types of variables, and that of one more, if there is one
abbrev pub with_type : List Ty → Option Ty → List Ty
with_type vars None = vars
with_type vars (Some ty) = vars ++ ty ∷ []

-- the types of the variables after operations, from the types of those before them
abbrev pub types_after : List Ty → List FlatOp → List Ty
types_after vars [] = vars
types_after vars (op ∷ ops) = types_after (with_type vars (given_type (scope_in vars) op.kind)) ops

-- a procedure in flat form
abbrev pub program_of : Proc → Program
program_of proc = record { ops = flat_form proc; params = types proc.params; vars = types_after (types proc.params) (flat_form proc) }
