-- A catalogue has one plan, so over it transactions have one number of pieces, and the test has one summary.
use Rattle.std.proofs.Common.{◌≡◌, ◌∙◌, ℕ, List, map, length, Result, Ok, Err, sym, ap, subst}
use Rattle.pac_value.specs.State.{Tables}
use Rattle.pac_ops.specs.declared.batch.Batch.{Batch}
use Rattle.pac_ops.specs.declared.note.Note.{Note}
use Rattle.pac_plan.specs.declared.parts.PlanParts.{PlanParts}
use Rattle.pac_plan.specs.Pieces.{pieces}
use Rattle.pac_plan.specs.Worlds.{blocks_in}
use Rattle.pac_plan.proofs.OnePlan.{one_plan}
use Rattle.pac_commute.specs.PlanLaws.{numbers_of, planned}
use Rattle.pac_types.specs.Fits.{shape}
use Rattle.pac_types.specs.Typing.{CatalogueState}
use Rattle.pac_flat.specs.FlatForm.{program_of}
use Rattle.pac_flat.proofs.OneAcceptance.{one_catalogue}
use Rattle.pac_script.specs.BankText.{bank_text}
use Rattle.pac_stress.specs.StressBatches.{stress_batches}
use Rattle.pac_stress.specs.Stressed.{AbortsStress, HavePieces, IsSummaryOf, stress_outcome}
use Rattle.pac_stress.specs.Summary.{summary}

pub one-number : (catalogue : CatalogueState) (batches : List Batch) (count other : ℕ) → HavePieces catalogue batches count → HavePieces catalogue batches other → count ≡ other
one-number catalogue batches count other a b =
    let same : a.plan ≡ b.plan = one_plan (map program_of catalogue.procs) (map shape catalogue.tables)
    (record { parts = a.plan; analysis = a.analysis; same_programs = a.programs; same_tables = a.tables })
    (record { parts = b.plan; analysis = b.analysis; same_programs = b.programs; same_tables = b.tables }) in
    a.counted ∙ ap (λ (plan : PlanParts). length (pieces (planned plan 1 batches) (numbers_of 1 batches) (blocks_in plan))) same ∙ sym b.counted

same_tables : (a b : Tables) → ◌≡◌ {A = Result Tables Note} (Ok a) (Ok b) → a ≡ b
same_tables a b is = cc

no_abort : (a : Tables) (note : Note) → ◌≡◌ {A = Result Tables Note} (Ok a) (Err note) → ⊥
no_abort a note is = absurd cc

pub one-summary : (count : ℕ) (text other : List ℕ) → IsSummaryOf count (λ all. text ≡ all) → IsSummaryOf count (λ all. other ≡ all) → text ≡ other
one-summary count text other a b =
    let catalogues : a.catalogue ≡ b.catalogue = one_catalogue bank_text a.catalogue b.catalogue a.is b.is in
    let tables : a.tables ≡ b.tables = same_tables a.tables b.tables (sym a.ends ∙ ap (λ (c : CatalogueState). stress_outcome c count) catalogues ∙ b.ends) in
    let counted : HavePieces b.catalogue (stress_batches count) a.pieces = subst (λ (c : CatalogueState). HavePieces c (stress_batches count) a.pieces) catalogues a.counted in
    let pieces : a.pieces ≡ b.pieces = one-number b.catalogue (stress_batches count) a.pieces b.pieces counted b.counted in
    a.has ∙ ap (λ (c : CatalogueState). summary count a.pieces c.tables a.tables) catalogues
    ∙ ap (λ (n : ℕ). summary count n b.catalogue.tables a.tables) pieces
    ∙ ap (λ (rows : Tables). summary count b.pieces b.catalogue.tables rows) tables ∙ sym b.has

pub none-aborts : (count : ℕ) (text : List ℕ) (note : Note) → IsSummaryOf count (λ all. text ≡ all) → AbortsStress count note → ⊥
none-aborts count text note a (catalogue, is, aborts) =
    let catalogues : a.catalogue ≡ catalogue = one_catalogue bank_text a.catalogue catalogue a.is is in
    no_abort a.tables note (sym a.ends ∙ ap (λ (c : CatalogueState). stress_outcome c count) catalogues ∙ aborts)
