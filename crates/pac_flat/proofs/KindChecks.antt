-- What a check of a statement that is one operation knows of it.
use Rattle.std.proofs.Common.{◌≡◌, false, List, None, refl, ◌∙◌}
use Rattle.pac_ops.specs.declared.program.OpKind.{OpKind}
use Rattle.pac_ops.specs.declared.program.OpKind.TheVariants as kind
use Rattle.pac_types.specs.declared.statement.Stmt.{Stmt}
use Rattle.pac_types.specs.declared.statement.Stmt.TheOpen as form
use Rattle.pac_types.specs.declared.table.Table.{Table}
use Rattle.pac_types.specs.WellFormed.{Check, check, check_step, well_formed_plain}
use Rattle.pac_types.proofs.StmtShapes.{form_of, is_test, IsOne}

-- what a check knows of an operation that is a statement
abbrev pub single_check : List Table → OpKind → Check
single_check tables (kind.Let x e) = check_step tables (form.Let x e)
single_check tables (kind.Cond x e) = well_formed_plain (λ scope. None)
single_check tables (kind.Read x t k c d) = check_step tables (form.Read x t k c d)
single_check tables (kind.Has x t k) = check_step tables (form.Has x t k)
single_check tables (kind.Put t k es) = check_step tables (form.Put t k es)
single_check tables (kind.SetCol t k c e) = check_step tables (form.Set t k c e)
single_check tables (kind.Delete t k) = check_step tables (form.Delete t k)
single_check tables (kind.AbortIf e) = check_step tables (form.AbortIf e)

checks_one : (tables : List Table) (kind : OpKind) → is_test kind ≡ false → check_step tables (form_of Check kind) ≡ single_check tables kind
checks_one tables (kind.Let x e) single = refl
checks_one tables (kind.Cond x e) single = absurd cc
checks_one tables (kind.Read x t k c d) single = refl
checks_one tables (kind.Has x t k) single = refl
checks_one tables (kind.Put t k es) single = refl
checks_one tables (kind.SetCol t k c e) single = refl
checks_one tables (kind.Delete t k) single = refl
checks_one tables (kind.AbortIf e) single = refl

pub check-one : (tables : List Table) (s : Stmt) (kind : OpKind) → is_test kind ≡ false → IsOne s kind → check tables s ≡ single_check tables kind
check-one tables s kind single is = is Check (check_step tables) ∙ checks_one tables kind single
