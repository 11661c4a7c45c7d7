-- One list more is read, or the first fault is found.
use Rattle.std.proofs.Common.{◌<◌, List, sym, subst, arith}
use Rattle.pac_ops.specs.declared.transaction.Change.{Change}
use Rattle.pac_entry.proofs.ChangeLemmas.{AreFewTables}
use Rattle.pac_entry.proofs.ReadingLemmas.{few_tables}
use Rattle.pac_main.proofs.LogLemmas.{ReadSoFar, list-more}
use Rattle.pac_main.proofs.image_log.read_lists.Goals as goal

few : (c : goal.In_ok-at) → AreFewTables c.args.catalogue.now.tables
few c = few_tables c.args.catalogue.now.tables (omega (arith, c.tables-tables.ensures.few)) c.tables-tables.ensures.well_formed

next : (c : goal.In_ok-at) → ReadSoFar c.args.catalogue.now.tables c.args.bytes.now c.in_ok-at.at c.read_images.new.images × (c.loop-at.at < c.in_ok-at.at)
next c =
    let one = c.in_ok-at.ensures.one in
    let more = list-more c.args.catalogue.now.tables (few c) c.args.bytes.now c.loop-at.at c.in_ok-at.at c.loop-at.images one.0 (λ i. omega (arith, c.type_inv.bytes i)) c.loop-at.invariant.read one.1 in
    (subst (λ (lists : List (List Change)). ReadSoFar c.args.catalogue.now.tables c.args.bytes.now c.in_ok-at.at lists) (sym one.2) more.0, more.1)

pub loop-at-smaller : goal.loop-at-smaller
loop-at-smaller c = let read = next c in omega (arith, read.1, read.0.within)

pub loop-at-preserved : goal.loop-at-preserved
loop-at-preserved c = record { read = (next c).0; within = c.in_ok-at.ensures.within c.loop-at.invariant.within }
