-- The steps by which entries are read.
use Rattle.std.proofs.Common.{◌≡◌, ◌∙◌, ℕ, ◌<◌, ◌≤◌, true, eqb, List, ◌++◌, length, drop, Some, Result, Ok, Err, IfOk, All, refl, ap, ap₂, subst, arith, length-drop}
use Rattle.std.specs.Prelude.{slice_get}
use Rattle.std.proofs.lemmas.Bool.Decides.{Decides-eqb}
use Rattle.std.proofs.lemmas.List.{length-append}
use Rattle.std.proofs.lemmas.List.Elements.{All-get_or}
use Rattle.std.proofs.lemmas.Option.{slice_get_within, get_or_from_slice_get}
use Rattle.pac_base.specs.declared.refusal.Refusal.{Refusal}
use Rattle.pac_base.specs.declared.refusal.Refusal.TheVariants.{Fault, NoMemory}
use Rattle.pac_base.specs.Refusals.{Fails}
use Rattle.pac_value.specs.declared.values.Value.{Value}
use Rattle.pac_value.specs.Expressions.{◌>>=◌}
use Rattle.pac_ops.specs.declared.transaction.Txn.{Txn}
use Rattle.pac_ops.specs.declared.transaction.Txn.TheVariants.{Call as ACall, AdHoc}
use Rattle.pac_types.specs.declared.procedure.Proc.{Proc}
use Rattle.pac_types.specs.declared.table.Column.{Column}
use Rattle.pac_types.specs.declared.table.Table.{Table}
use Rattle.pac_types.specs.WellFormed.{types}
use Rattle.pac_types.specs.Typing.{CatalogueState, IsWellFormedTable, IsProc}
use Rattle.pac_bytes.specs.declared.fault.TypedFault.{TypedFault}
use Rattle.pac_bytes.specs.Reading.{Rest, reported_as}
use Rattle.pac_bytes.specs.Readers.{Finds}
use Rattle.pac_bytes.specs.Typed.{next_values}
use Rattle.pac_entry.specs.declared.fault.EntryFault.{EntryFault}
use Rattle.pac_entry.specs.declared.fault.EntryFaultKind.{EntryFaultKind}
use Rattle.pac_entry.specs.declared.fault.EntryFaultKind.TheVariants.{WrongArgs}
use Rattle.pac_entry.specs.Kinds.{as_fault_of, as_error_of}
use Rattle.pac_entry.specs.Entries.{txn_bytes, IsEntry}
use Rattle.pac_entry.specs.EntryReading.{entry_byte, entry_number, counted_values, next_call}
use Rattle.pac_entry.proofs.ChangeLemmas.{AreFewTables}
use Rattle.pac_entry.proofs.EntryLemmas.{AreFewProcs}

-- ---- calls

-- with a number of values that is that of the columns, the values follow
counted_so : (wrong : EntryFaultKind) (columns : List Column) (s t : Rest) (count : ℕ) → entry_byte s ≡ Ok (count, t) → count ≡ length columns → counted_values wrong columns s ≡ reported_as (as_fault_of wrong) (next_values (types columns) t)
unfolding counted_values
counted_so wrong columns s t count byte is =
    let same : eqb count (length columns) ≡ true = (Decides-eqb count (length columns)).1 is in
    rw (byte, same) refl

-- with a procedure that is there, its arguments follow
call_so : (procs : List Proc) (s t : Rest) (n : ℕ) (proc : Proc) → entry_number s ≡ Ok (n, t) → slice_get procs n ≡ Some proc
    → next_call procs s ≡ (counted_values WrongArgs proc.params t >>= λ args. Ok (record { proc = n; args = args.0 }, args.1))
unfolding next_call
call_so procs s t n proc number is = rw (number, is) refl

pub call_read : (procs : List Proc) (s t u v : Rest) (n count : ℕ) (proc : Proc) (args : List Value) → entry_number s ≡ Ok (n, t) → slice_get procs n ≡ Some proc → entry_byte t ≡ Ok (count, u) → count ≡ length proc.params
    → next_values (types proc.params) u ≡ Ok (args, v) → next_call procs s ≡ Ok (record { proc = n; args = args }, v)
call_read procs s t u v n count proc args number is byte many values =
    call_so procs s t n proc number is ∙ (rw (counted_so WrongArgs proc.params t u count byte many, values) refl)

pub call_fails : (procs : List Proc) (s t u : Rest) (n count : ℕ) (proc : Proc) (refusal : Refusal TypedFault) → entry_number s ≡ Ok (n, t) → slice_get procs n ≡ Some proc → entry_byte t ≡ Ok (count, u) → count ≡ length proc.params
    → Fails refusal (next_values (types proc.params) u) → Fails (as_error_of WrongArgs refusal) (next_call procs s)
call_fails procs s t u n count proc NoMemory number is byte many values = tt
call_fails procs s t u n count proc (Fault fault) number is byte many values =
    call_so procs s t n proc number is ∙ (rw (counted_so WrongArgs proc.params t u count byte many, values) refl)

-- ---- entries

pub same_catalogue : (catalogue : CatalogueState) (tables : List Table) (procs : List Proc) → tables ≡ catalogue.tables → procs ≡ catalogue.procs → record { tables = tables; procs = procs } ≡ catalogue
same_catalogue catalogue tables procs ts ps = ap₂ (λ (t : List Table) (p : List Proc). the_catalogue t p) ts ps
  where
    the_catalogue : List Table → List Proc → CatalogueState
    the_catalogue t p = record { tables = t; procs = p }

pub few_tables : (tables : List Table) → length tables < 65536 → All IsWellFormedTable tables → AreFewTables tables
few_tables tables few well_formed = record {
  count = few;
  columns = λ n table is.
      let here : IsWellFormedTable table = subst IsWellFormedTable (get_or_from_slice_get tables n table table is) (All-get_or IsWellFormedTable tables n table (slice_get_within tables n table is) well_formed) in
      omega (arith, here.few);
}

pub few_procs : (tables : List Table) (procs : List Proc) → length procs < 65536 → All (IsProc tables) procs → AreFewProcs procs
few_procs tables procs few well_formed = record {
  count = few;
  params = λ n proc is.
      let here : IsProc tables proc = subst (IsProc tables) (get_or_from_slice_get procs n proc proc is) (All-get_or (IsProc tables) procs n proc (slice_get_within procs n proc is) well_formed) in
      omega (arith, here.few);
}

some_bytes : (txn : Txn) → 1 ≤ length (txn_bytes txn)
some_bytes (ACall call) = omega arith
some_bytes (AdHoc records) = omega arith

-- an entry is spelled within the bytes
pub found_inside : (catalogue : CatalogueState) (bytes : List ℕ) (at : ℕ) (result : Result (Txn × ℕ) (Refusal EntryFault)) → Finds (IsEntry catalogue) txn_bytes bytes at result → IfOk result (λ found. found.1 ≤ length bytes)
found_inside catalogue bytes at (Ok found) is =
    let parts : length (drop at bytes) ≡ length (txn_bytes found.0 ++ drop found.1 bytes) = ap (λ (x : List ℕ). length x) is.bytes in
    omega (arith, parts, is.offset, some_bytes found.0, length-append (txn_bytes found.0) (drop found.1 bytes), length-drop at bytes, length-drop found.1 bytes)
found_inside catalogue bytes at (Err refusal) is = tt
