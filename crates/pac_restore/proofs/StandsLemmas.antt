-- Where the devices stand for a history, they are not refused, and the tables are those of a prefix of it.
use Rattle.std.proofs.Common.{◌≡◌, ◌∙◌, ℕ, ◌≤◌, ◌+◌, List, length, take, Some, Result, Ok, Err, sym, ap, subst}
use Rattle.pac_value.specs.State.{Tables}
use Rattle.pac_ops.specs.declared.note.Note.{Note}
use Rattle.pac_ops.specs.declared.transaction.Txn.{Txn}
use Rattle.pac_outside.specs.Devices.{each}
use Rattle.pac_outside.specs.Disk.{DiskHistory}
use Rattle.pac_outside.specs.Parts.{reads_of}
use Rattle.pac_outside.specs.declared.devices.Devices.{Devices}
use Rattle.pac_types.specs.Execution.{serial}
use Rattle.pac_types.specs.Typing.{CatalogueState}
use Rattle.pac_store.specs.FirstRefusals.{Refused as refused}
use Rattle.pac_store.specs.Images.{Images}
use Rattle.pac_store.specs.Stands.{EndsWith, StandsFor}
use Rattle.pac_store.proofs.RefusalLemmas.{not-refused}
use Rattle.pac_store.proofs.StandsLemmas.{goes-on}
use Rattle.pac_restore.specs.declared.errors.Damage.{Damage}
use Rattle.pac_restore.specs.declared.errors.Damage.TheVariants.{Log, Slot}
use Rattle.pac_restore.specs.declared.errors.LoadError.TheVariants as load
use Rattle.pac_restore.specs.Limits.{IsFirstOver}
use Rattle.pac_restore.specs.Prefixes.{IsPrefixOverLimit, IsRecoveredPrefix}
use Rattle.pac_restore.specs.Refusals.{AreRefusedAs}
use Rattle.pac_restore.specs.Restoring.{AbortsIn, IsOverIn, IsRecoveredFrom}

ok-err : {X : Type 0} {E : Type 0} (x : X) (e : E) → ◌≡◌ {A = Result X E} (Ok x) (Err e) → ⊥
ok-err x e h = cc

same-ok : (s t : Tables) → ◌≡◌ {A = Result Tables Note} (Ok s) (Ok t) → s ≡ t
same-ok s t e = cc

-- ---- no refusal

module _ (text : List ℕ) (catalogue : CatalogueState) (history : List Txn) (least : ℕ) (known : Devices DiskHistory) (is : StandsFor text catalogue history least (reads_of known)) where
  pub is-store : AreRefusedAs (each Some known) load.NoStore → ⊥
  is-store none = not-refused text catalogue history least (reads_of known) is refused.NoStore none

  pub no-damage : (damage : Damage) → AreRefusedAs (each Some known) (load.Damaged damage) → ⊥
  no-damage (Log name at kind) damaged = not-refused text catalogue history least (reads_of known) is (refused.InLog name at kind) damaged
  no-damage (Slot slot at kind) damaged = not-refused text catalogue history least (reads_of known) is (refused.InSlot slot at kind) damaged

-- ---- what is recovered

module _ (text : List ℕ) (catalogue : CatalogueState) (history : List Txn) (least : ℕ) (images : Images) (is : StandsFor text catalogue history least images) where
  pub recovers-prefix : (found : CatalogueState) (tables : Tables) (txns : ℕ) → IsRecoveredFrom found tables txns images → IsRecoveredPrefix catalogue history least found tables txns
  recovers-prefix found tables txns from_stored =
      let on = goes-on text catalogue history least images from_stored.stored is from_stored.is in
      let held : on.held ≡ tables
      = same-ok on.held tables (sym on.from_base ∙ ap (λ (c : CatalogueState). serial c.procs (from_stored.stored.number + 1) from_stored.stored.rest from_stored.stored.base) (sym on.same) ∙ from_stored.ends) in
      record {
        same = sym from_stored.same ∙ on.same;
        enough = subst (λ (n : ℕ). least ≤ n) (sym from_stored.counted) on.enough;
        within = subst (λ (n : ℕ). n ≤ length history) (sym from_stored.counted) on.within;
        ends = subst (λ (n : ℕ). EndsWith catalogue (take n history) tables) (sym from_stored.counted)
            (subst (λ (t : Tables). EndsWith catalogue (take (from_stored.stored.number + length from_stored.stored.rest) history) t) held on.ends);
      }

  pub no-abort : (note : Note) → AbortsIn note images → ⊥
  no-abort note aborts =
      let on = goes-on text catalogue history least images aborts.stored is aborts.is in
      ok-err on.held note (sym on.from_base ∙ ap (λ (c : CatalogueState). serial c.procs (aborts.stored.number + 1) aborts.stored.rest aborts.stored.base) (sym on.same) ∙ aborts.stops)

  pub over-prefix : (table : List ℕ) (rows limit : ℕ) → IsOverIn table rows limit images → IsPrefixOverLimit catalogue history least table rows limit
  over-prefix table rows limit over =
      let on = goes-on text catalogue history least images over.stored is over.is in
      let held : on.held ≡ over.held
      = same-ok on.held over.held (sym on.from_base ∙ ap (λ (c : CatalogueState). serial c.procs (over.stored.number + 1) over.stored.rest over.stored.base) (sym on.same) ∙ over.ends) in
      record {
        count = over.stored.number + length over.stored.rest;
        held = over.held;
        enough = on.enough;
        within = on.within;
        ends = subst (λ (t : Tables). EndsWith catalogue (take (over.stored.number + length over.stored.rest) history) t) held on.ends;
        over = subst (λ (c : CatalogueState). IsFirstOver limit c.tables over.held table rows) on.same over.over;
      }
