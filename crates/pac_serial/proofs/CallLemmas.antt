-- A transaction from its beginning on.
use Rattle.std.proofs.Common.{◌≡◌, ℕ, ◌+◌, ◌<◌, List, length, get_or, Option, Some, None, Result, Ok, Err, IsSomeAnd, OnOk, refl, sym, ap, subst, ◌∙◌, arith}
use Rattle.std.specs.Prelude.{slice_get}
use Rattle.std.specs.List.{All}
use Rattle.std.specs.FinMap.{empty}
use Rattle.std.proofs.lemmas.Option.{slice_get_within, slice_get-get_or}
use Rattle.pac_value.specs.declared.values.Value.{Value}
use Rattle.pac_value.specs.Expressions.{Values, ◌>>=◌}
use Rattle.pac_value.specs.State.{Tables}
use Rattle.pac_ops.specs.Operations.{State, opening, with_values}
use Rattle.pac_types.specs.declared.procedure.Proc.{Proc}
use Rattle.pac_types.specs.declared.table.Table.{Table}
use Rattle.pac_types.specs.Typing.{IsProc}
use Rattle.pac_types.specs.Meaning.{Abort as AnAbort, operations}
use Rattle.pac_types.specs.OperationLimits.{HasFewOperations}
use Rattle.pac_types.specs.Execution.{called_at}
use Rattle.pac_types.specs.Unrolled.{unrolled}
use Rattle.pac_types.specs.Fits.{FitTables, FitParams, FitsCall}
use Rattle.pac_serial.specs.declared.operation.Halt.{Halt}
use Rattle.pac_serial.specs.declared.operation.Halt.TheVariants.{Abort, NoMemory}
use Rattle.pac_serial.specs.declared.execute.ExecError.{ExecError}
use Rattle.pac_serial.specs.declared.execute.ExecError.TheVariants.{Abort as AbortAt, Full, NoMemory as NoMemoryAtAll}
use Rattle.pac_serial.specs.WriteSets.{Changes, as_changed}
use Rattle.pac_serial.specs.Outcomes.{Executes, RunsAsMeant, RunsFrom, error_of, limited}
use Rattle.pac_serial.specs.Transactions.{RunsOver}
use Rattle.pac_serial.specs.TextMeaning.{code_count, text_meaning, text_cells}
use Rattle.pac_serial.specs.Writes.{cells_run, cells_called}
use Rattle.pac_serial.proofs.CodeLemmas.{count-all-operations}
use Rattle.pac_serial.proofs.SameMeaning.{same-called}
use Rattle.pac_serial.proofs.WriteSetLemmas.{seen-none, unmade-none}
use Rattle.pac_serial.proofs.WritesLemmas.{keys_fit-none}

-- the procedure that a call names, and its arguments
pub at-call : (procs : List Proc) (n : ℕ) (args : List Value) (i : ℕ) (proc : Proc) → FitsCall procs n args → i ≡ n → proc ≡ get_or procs i proc → (slice_get procs n ≡ Some proc) × FitParams proc.params args
at-call procs n args i proc fits same is = go (slice_get procs n) refl fits
  where
    go : (o : Option Proc) → slice_get procs n ≡ o → IsSomeAnd o (λ p. FitParams p.params args) → (slice_get procs n ≡ Some proc) × FitParams proc.params args
    go None e h = absurd h
    go (Some p) e h =
        let found : slice_get procs n ≡ Some proc = slice_get-get_or procs n proc (slice_get_within procs n p e) ∙ ap (λ k. Some (get_or procs k proc)) (sym same) ∙ ap Some (sym is) in
        let one : p ≡ proc = let both : Some p ≡ Some proc = sym e ∙ found in cc in
        (found, subst (λ (q : Proc). FitParams q.params args) one h)

-- which is well-formed
pub is-proc : (tables : List Table) (procs : List Proc) (n : ℕ) (proc : Proc) → slice_get procs n ≡ Some proc → All (IsProc tables) procs → IsProc tables proc
is-proc tables procs n proc found all =
    let within : n < length procs = slice_get_within procs n proc found in
    let same : get_or procs n proc ≡ proc = let both : Some (get_or procs n proc) ≡ Some proc = sym (slice_get-get_or procs n proc within) ∙ found in cc in
    subst (λ (p : Proc). IsProc tables p) same (all n proc within)

-- and has few operations
pub few-operations : (procs : List Proc) (n : ℕ) (proc : Proc) → slice_get procs n ≡ Some proc → HasFewOperations procs → code_count proc.body < 65536
few-operations procs n proc found few =
    let within : n < length procs = slice_get_within procs n proc found in
    let same : get_or procs n proc ≡ proc = let both : Some (get_or procs n proc) ≡ Some proc = sym (slice_get-get_or procs n proc within) ∙ found in cc in
    omega (arith, few.each n proc within, ap (λ (p : Proc). operations p.body) same, count-all-operations proc.body)

-- where it begins, it has changed nothing
pub runs-begun : (tables : List Table) (n : ℕ) (held : Tables) (write_set : Changes) → n ≡ length tables → FitTables tables held → write_set ≡ empty → RunsOver tables n held write_set
runs-begun tables n held write_set count fits begun = subst (λ (d : Changes). RunsOver tables n held d) (sym begun) (record {
  count = count;
  unmade = unmade-none n;
  fits = subst (λ (t : Tables). FitTables tables t) (sym (seen-none held)) fits;
  keys = keys_fit-none tables;
})

-- what a call means is what its statements mean from there
pub called-is : (ts : List Table) (procs : List Proc) (n : ℕ) (proc : Proc) (args : List Value) (held : Tables) (old env : Values) (write_set : Changes) → IsProc ts proc → FitParams proc.params args → slice_get procs n ≡ Some proc → env ≡ with_values 0 args old → write_set ≡ empty
    → called_at (slice_get procs n) args held ≡ (text_meaning proc.body 0 (record { env = env; tables = as_changed held write_set }) >>= λ s. Ok s.tables)
called-is ts procs n proc args held old env write_set is fit found opened begun =
    ap (λ o. called_at o args held) found
    ∙ sym (same-called ts proc is args fit old held).0
    ∙ ap (λ (s : State). text_meaning proc.body 0 s >>= λ t. Ok t.tables) (λ i. record { env = sym opened i; tables = (sym (seen-none held) ∙ ap (as_changed held) (sym begun)) i })

-- and the cells that it writes are those that its statements write from there
pub called-writes : (ts : List Table) (procs : List Proc) (n : ℕ) (proc : Proc) (args : List Value) (held : Tables) (old env : Values) (write_set : Changes) (end : State) → IsProc ts proc → FitParams proc.params args → slice_get procs n ≡ Some proc → env ≡ with_values 0 args old → write_set ≡ empty
    → text_meaning proc.body 0 (record { env = env; tables = as_changed held write_set }) ≡ Ok end → cells_called (slice_get procs n) args held ≡ text_cells proc.body 0 (record { env = env; tables = as_changed held write_set })
called-writes ts procs n proc args held old env write_set end is fit found opened begun ends =
    let start : State = record { env = with_values 0 args old; tables = held } in
    let now : State = record { env = env; tables = as_changed held write_set } in
    let same : start ≡ now = λ i. record { env = sym opened i; tables = (sym (seen-none held) ∙ ap (as_changed held) (sym begun)) i } in
    ap (λ o. cells_called o args held) found
    ∙ subst (λ (r : Result State AnAbort). OnOk r (cells_run (unrolled proc) 0 (opening args held) ≡ text_cells proc.body 0 start)) (ap (text_meaning proc.body 0) same ∙ ends) (same-called ts proc is args fit old held).1
    ∙ ap (text_cells proc.body 0) same

-- operations that halt end the run of a transaction
pub halted : (m : Result State AnAbort) (halt : Halt) (now : State) (seen : Tables) (r : Result (Unit {0}) Halt) (error : Result (Unit {0}) ExecError) → r ≡ Err halt → error ≡ Err (error_of halt) → RunsFrom 0 r m now → RunsAsMeant (m >>= λ s. Ok s.tables) seen error
halted m halt now seen r error is reported h =
    subst (λ (e : Result (Unit {0}) ExecError). RunsAsMeant (m >>= λ s. Ok s.tables) seen e) (sym reported) (go halt (subst (λ (q : Result (Unit {0}) Halt). RunsFrom 0 q m now) is h))
  where
    Failed : Halt → Result (Unit {0}) Halt
    Failed halt = Err halt

    Reported : Halt → Result (Unit {0}) ExecError
    Reported halt = Err (error_of halt)

    go : (halt : Halt) → RunsFrom 0 (Failed halt) m now → RunsAsMeant (m >>= λ s. Ok s.tables) seen (Reported halt)
    go (Abort op reason) h =
        let first : 0 + op ≡ op = omega arith in
        ap (λ (r : Result State AnAbort). r >>= λ s. Ok s.tables) h ∙ ap (λ k. Err (k, reason)) first
    go NoMemory h = tt

-- a run that ends so refuses the transaction
pub refused : {A : Type 0} (limit : Option ℕ) (n : ℕ) (meant : Result Tables AnAbort) (seen held : Tables) (error : ExecError) (r : Result (Unit {0}) ExecError) (all : Result A ExecError) → r ≡ Err error → all ≡ Err error → RunsAsMeant meant seen r → Executes (limited limit n meant) held held all
refused {A} limit n meant seen held error r all is reported h =
    subst (λ (e : Result A ExecError). Executes (limited limit n meant) held held e) (sym reported) (go error (subst (λ (e : Result (Unit {0}) ExecError). RunsAsMeant meant seen e) is h))
  where
    Failed : ExecError → Result (Unit {0}) ExecError
    Failed error = Err error

    Reported : ExecError → Result A ExecError
    Reported error = Err error

    go : (error : ExecError) → RunsAsMeant meant seen (Failed error) → Executes (limited limit n meant) held held (Reported error)
    go (AbortAt op reason) h = (ap (limited limit n) h, refl)
    go (Full table) h = absurd h
    go NoMemoryAtAll h = refl
