-- What workers leave of a window is what serial execution gives.
use Rattle.std.proofs.Common.{◌≡◌, ◌∙◌, ℕ, zero, suc, ◌+◌, List, [], ◌∷◌, ◌++◌, length, map, Option, Some, None, Result, Ok, Err, refl, sym, ap, subst, arith}
use Rattle.std.specs.Prelude.{slice_get, IsSomeAnd, option_map}
use Rattle.std.specs.List.{AllByRecursion}
use Rattle.std.specs.Prelude.{All}
use Rattle.std.proofs.lemmas.List.{length-map}
use Rattle.std.proofs.lemmas.List.Elements.{All-from_recursion}
use Rattle.std.proofs.lemmas.Option.{slice_get-map}
use Rattle.pac_value.specs.Values.{type_of}
use Rattle.pac_value.specs.State.{Tables}
use Rattle.pac_ops.specs.declared.batch.Batch.{Batch}
use Rattle.pac_ops.specs.declared.note.Note.{Note}
use Rattle.pac_ops.specs.declared.program.Program.{Program}
use Rattle.pac_ops.specs.declared.transaction.Txn.{Txn}
use Rattle.pac_ops.specs.declared.transaction.Txn.TheVariants.{Call as ACall, AdHoc}
use Rattle.pac_ops.specs.declared.shapes.TableTypes.{TableTypes}
use Rattle.pac_ops.specs.Notes.{first_note}
use Rattle.pac_ops.specs.Shapes.{RecordsFit, RowsFit}
use Rattle.pac_ops.specs.Transactions.{Replayed, replayed}
use Rattle.pac_types.specs.declared.procedure.Proc.{Proc}
use Rattle.pac_types.specs.Execution.{serial}
use Rattle.pac_tables.specs.Joined.{Held}
use Rattle.pac_types.specs.Fits.{FitsCatalogue, TxnFits, shape}
use Rattle.pac_types.specs.Typing.{CatalogueState}
use Rattle.pac_types.specs.WellFormed.{types}
use Rattle.pac_flat.specs.Agreement.{AllAgree, ReplaysTheSame}
use Rattle.pac_flat.specs.FlatForm.{program_of}
use Rattle.pac_plan.specs.declared.parts.PlanParts.{PlanParts}
use Rattle.pac_commute.specs.PartialFits.{TxnIsOfPlan, TxnsFitPlan}
use Rattle.pac_commute.specs.PlanLaws.{NumbersRunOn, txns_of}
use Rattle.pac_restore.specs.Batches.{txns_in, FitBatches, RunOn}
use Rattle.pac_restore.specs.Outcomes.{FitsReplayed, outcome_of}
use Rattle.pac_recover.specs.Outcomes.{executed_to}

-- the transactions of batches, and numbers that run on, as the plan's laws say it
pub same-txns : (batches : List Batch) → txns_in batches ≡ txns_of batches
same-txns [] = refl
same-txns (b ∷ batches) = ap (λ (l : List Txn). b.txns ++ l) (same-txns batches)

pub numbers-run : (before : ℕ) (batches : List Batch) → RunOn before batches → NumbersRunOn (before + 1) batches
numbers-run before [] runs = tt
numbers-run before (b ∷ batches) runs =
    let next : before + length b.txns + 1 ≡ before + 1 + length b.txns = omega arith in
    (runs.0, subst (λ (n : ℕ). NumbersRunOn n batches) next (numbers-run (before + length b.txns) batches runs.1))

-- a transaction that fits a catalogue fits the plan of it
module _ (cat : CatalogueState) (parts : PlanParts) (programs : parts.programs ≡ map program_of cat.procs) (shapes : parts.tables ≡ map shape cat.tables) where
  pub txn-of-plan : (txn : Txn) → TxnFits cat txn → TxnIsOfPlan parts txn
  txn-of-plan (ACall call) fits =
      subst (λ (o : Option Program). IsSomeAnd o (λ program. map type_of call.args ≡ program.params))
      (sym (ap (λ (l : List Program). slice_get l call.proc) programs ∙ slice_get-map program_of cat.procs call.proc))
      (of-proc (slice_get cat.procs call.proc) fits)
    where
      of-proc : (o : Option Proc) → IsSomeAnd o (λ proc. map type_of call.args ≡ types proc.params) → IsSomeAnd (option_map program_of o) (λ program. map type_of call.args ≡ program.params)
      of-proc None fits = fits
      of-proc (Some proc) fits = fits
  txn-of-plan (AdHoc records) fits = subst (λ (l : List TableTypes). RecordsFit l records) (sym shapes) fits

  at-offset : {X : Type 0} (P : X → Type 0) (xs : List X) → AllByRecursion P xs → (i : ℕ) (x : X) → slice_get xs i ≡ Some x → P x
  at-offset P [] all i x e = absurd cc
  at-offset P (y ∷ xs) all zero x e = subst P (let same : Some y ≡ Some x = e in let is : y ≡ x = cc in is) all.0
  at-offset P (y ∷ xs) all (suc i) x e = at-offset P xs all.1 i x e

  -- and so does each of batches
  pub txns-of-plan : (batches : List Batch) → FitBatches cat batches → All (λ (batch : Batch). TxnsFitPlan parts batch.txns) batches
  txns-of-plan batches fits = All-from_recursion (λ (batch : Batch). TxnsFitPlan parts batch.txns) batches (each batches fits)
    where
      each : (batches : List Batch) → FitBatches cat batches → AllByRecursion (λ (batch : Batch). TxnsFitPlan parts batch.txns) batches
      each [] fits = tt
      each (b ∷ batches) fits = ((λ i txn e. txn-of-plan txn (at-offset (TxnFits cat) b.txns fits.0 i txn e)), each batches fits.1)

  -- tables of the plan fit the catalogue
  pub fits-again : (held : Held) → held.tables ≡ length parts.tables → RowsFit parts.tables held.rows → FitsCatalogue cat held.tables held.rows
  fits-again held count rows = record {
    count = count ∙ ap (λ (l : List TableTypes). length l) shapes ∙ length-map cat.tables shape;
    rows = subst (λ (l : List TableTypes). RowsFit l held.rows) shapes rows;
  }

  pub fits-executed : (T : Type 0) (held : Held) (note : Option Note) → held.tables ≡ length parts.tables → RowsFit parts.tables held.rows → FitsReplayed cat (executed_to {T = T} held note)
  fits-executed T held None count rows = fits-again held count rows
  fits-executed T held (Some note) count rows = tt

-- ---- what is executed

-- what is replayed without a note is what serial execution ends with
pub ends-with : (outcome : Result Tables Note) (all : Replayed) → AllAgree outcome all → first_note all.notes ≡ None → outcome ≡ Ok all.tables
ends-with (Ok tables) all agree none = ap (λ (t : Tables). Ok t) (sym agree.0)
ends-with (Err note) all agree none = absurd cc

-- and the first note is the abort that stops it
pub stops-with : (outcome : Result Tables Note) (all : Replayed) (note : Note) → AllAgree outcome all → first_note all.notes ≡ Some note → outcome ≡ Err note
stops-with (Ok tables) all note agree some = absurd (let none : first_note [] ≡ Some note = sym (ap (λ (l : List Note). first_note l) agree.1) ∙ some in cc)
stops-with (Err other) all note agree some = let same : Some other ≡ Some note = sym agree ∙ some in let is : other ≡ note = cc in ap (λ (n : Note). Err n) is

-- ---- a window that is executed over the plan

module _ (procs : List Proc) (programs : List Program) (replays : ReplaysTheSame procs programs) (before : ℕ) (batches : List Batch) (old : Tables) where
  abbrev all : Replayed
  all = replayed programs (before + 1) (txns_of batches) old

  agrees : AllAgree (serial procs (before + 1) (txns_in batches) old) all
  agrees = subst (λ (l : List Txn). AllAgree (serial procs (before + 1) l old) all) (sym (same-txns batches)) (replays.executed (before + 1) (txns_of batches) old)

  -- what workers left is what serial execution gives
  pub gives : (T : Type 0) (held : Held) (left : Option Note) → held.rows ≡ all.tables → left ≡ first_note all.notes → outcome_of (executed_to {T = T} held left) ≡ serial procs (before + 1) (txns_in batches) old
  gives T held None rows is = ap (λ (t : Tables). Ok t) rows ∙ sym (ends-with (serial procs (before + 1) (txns_in batches) old) all agrees (sym is))
  gives T held (Some note) rows is = sym (stops-with (serial procs (before + 1) (txns_in batches) old) all note agrees (sym is))
