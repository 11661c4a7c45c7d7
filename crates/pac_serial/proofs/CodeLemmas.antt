-- What statements of each form do over values by the numbers of the text, and how many operations they are.
use Rattle.std.proofs.Common.{◌≡◌, ℕ, ◌*◌, ℤ, false, List, [], ◌∷◌, refl, sym, ap, ◌∙◌, arith}
use Rattle.std.specs.List.{AllByRecursion}
use Rattle.pac_value.specs.declared.expr.Expr.{Expr}
use Rattle.pac_ops.specs.declared.program.OpKind.{OpKind}
use Rattle.pac_ops.specs.declared.program.OpKind.TheVariants as kind
use Rattle.pac_types.specs.declared.statement.Stmt.{Stmt}
use Rattle.pac_types.specs.Meaning.{count_step, stmt_operations, operations}
use Rattle.pac_types.specs.Unrolled.{turns}
use Rattle.pac_types.proofs.StmtShapes.{form_of, is_test, IsOne, IsConditional, IsLoop, all_by_shape}
use Rattle.pac_types.proofs.UnrolledLemmas.{operations-one}
use Rattle.pac_serial.specs.TextMeaning.{Code, one, code_step, code, code_count}

does_one : (kind : OpKind) → is_test kind ≡ false → code_step (form_of Code kind) ≡ one kind
does_one (kind.Let x e) single = refl
does_one (kind.Cond x e) single = absurd cc
does_one (kind.Read x t k c d) single = refl
does_one (kind.Has x t k) single = refl
does_one (kind.Put t k es) single = refl
does_one (kind.SetCol t k c e) single = refl
does_one (kind.Delete t k) single = refl
does_one (kind.AbortIf e) single = refl

pub code-one : (s : Stmt) (kind : OpKind) → is_test kind ≡ false → IsOne s kind → code s ≡ one kind
code-one s kind single is = is Code code_step ∙ does_one kind single

-- a statement is as many operations as it counts
abbrev CountsAlike : Stmt → Type 0
CountsAlike s = (code s).count ≡ stmt_operations s

counts_all : (ss : List Stmt) → AllByRecursion CountsAlike ss → code_count ss ≡ operations ss
counts_all [] all = refl
counts_all (s ∷ ss) all = omega (arith, all.0, counts_all ss all.1)

counts-one : (s : Stmt) (kind : OpKind) → is_test kind ≡ false → IsOne s kind → CountsAlike s
counts-one s kind single is = ap (λ (c : Code). c.count) (code-one s kind single is) ∙ sym (operations-one s kind is)

counts-conditional : (s : Stmt) (x : ℕ) (e : Expr) (first second : List Stmt) → IsConditional s x e first second → AllByRecursion CountsAlike first → AllByRecursion CountsAlike second → CountsAlike s
counts-conditional s x e first second is all others =
    ap (λ (c : Code). c.count) (is Code code_step) ∙ omega (arith, counts_all first all, counts_all second others) ∙ sym (is ℕ count_step)

counts-loop : (s : Stmt) (x : ℕ) (from to : ℤ) (body : List Stmt) → IsLoop s x from to body → AllByRecursion CountsAlike body → CountsAlike s
counts-loop s x from to body is all =
    ap (λ (c : Code). c.count) (is Code code_step) ∙ ap (λ k. turns from to * k) (counts_all body all) ∙ sym (is ℕ count_step)

pub count-all-operations : (ss : List Stmt) → code_count ss ≡ operations ss
count-all-operations ss = counts_all ss (all_by_shape CountsAlike counts-one counts-conditional counts-loop ss)
