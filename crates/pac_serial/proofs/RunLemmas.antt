-- What operations give, numbered from any number on.
use Rattle.std.proofs.Common.{◌≡◌, ℕ, ◌+◌, ◌<◌, List, [], ◌∷◌, ◌++◌, length, get_or, take, Result, Ok, Err, IfErr, sym, ap, ◌∙◌, arith}
use Rattle.std.proofs.lemmas.List.{take_more}
use Rattle.pac_value.specs.declared.expr.Expr.{Expr}
use Rattle.pac_value.specs.Expressions.{◌>>=◌}
use Rattle.pac_ops.specs.declared.reason.Reason.{Reason}
use Rattle.pac_ops.specs.Operations.{State}
use Rattle.pac_types.specs.declared.statement.Stmt.{Stmt, Let, AbortIf}
use Rattle.pac_types.specs.Meaning.{Abort as AnAbort}
use Rattle.pac_serial.specs.TextMeaning.{Code, code, code_step, code_count, text_meaning}
use Rattle.pac_types.proofs.StmtForms.{at-Let, at-AbortIf}
use Rattle.pac_serial.specs.declared.operation.Halt.{Halt}
use Rattle.pac_serial.specs.declared.operation.Halt.TheVariants.{Abort, NoMemory}
use Rattle.pac_serial.specs.Outcomes.{Does, IsHaltWithin}

-- an operation that aborts is the first of one
within-one : {A : Type 0} (count : ℕ) → count ≡ 1 → (r : Result A Halt) (meaning : Result State Reason) (now : State) → Does r meaning now → IfErr r (IsHaltWithin count)
within-one count e (Ok x) meaning now h = tt
within-one count e (Err (Abort op reason)) meaning now h = omega (arith, h.0, e)
within-one count e (Err NoMemory) meaning now h = tt

pub within-Let : {A : Type 0} (s : Stmt) (x : ℕ) (e : Expr) → s ≡ Let x e → (r : Result A Halt) (meaning : Result State Reason) (now : State) → Does r meaning now → IfErr r (IsHaltWithin (code s).count)
within-Let s x e is = within-one (code s).count (ap (λ (c : Code). c.count) (at-Let Code code_step s x e is))

pub within-AbortIf : {A : Type 0} (s : Stmt) (e : Expr) → s ≡ AbortIf e → (r : Result A Halt) (meaning : Result State Reason) (now : State) → Does r meaning now → IfErr r (IsHaltWithin (code s).count)
within-AbortIf s e is = within-one (code s).count (ap (λ (c : Code). c.count) (at-AbortIf Code code_step s e is))

operations-append : (xs : List Stmt) (s : Stmt) → code_count (xs ++ s ∷ []) ≡ code_count xs + (code s).count
operations-append [] s = omega arith
operations-append (x ∷ xs) s = omega (arith, operations-append xs s)

-- one statement more
pub operations-more : (stmts : List Stmt) (i : ℕ) (s : Stmt) → i < length stmts → s ≡ get_or stmts i s → code_count (take (i + 1) stmts) ≡ code_count (take i stmts) + (code s).count
operations-more stmts i s inside is = ap code_count (take_more stmts i s inside ∙ ap (λ z. take i stmts ++ z ∷ []) (sym is)) ∙ operations-append (take i stmts) s

-- what is after a statement goes on from the state that it leaves
pub runs-on : (s : Stmt) (rest : List Stmt) (n m : ℕ) (before after : State) → (code s).run (n + m) before ≡ Ok after → text_meaning rest (n + (m + (code s).count)) after ≡ text_meaning (s ∷ rest) (n + m) before
runs-on s rest n m before after h =
    let same : n + (m + (code s).count) ≡ n + m + (code s).count = omega arith in
    ap (λ k. text_meaning rest k after) same ∙ sym (ap (λ (r : Result State AnAbort). r >>= λ t. text_meaning rest (n + m + (code s).count) t) h)
