-- The next gate and the damage stand within what was read.
use Rattle.std.proofs.Common.{length, ap, arith, length-drop}
use Rattle.pac_log.proofs.FoundLemmas.{end_far}
use Rattle.pac_log.proofs.PlaceLemmas.{fault_there}
use Rattle.pac_log.proofs.reader.LogReader.take_batch.Goals as goal

pub advance-requires-clause-few : goal.advance-requires-clause-few
advance-requires-clause-few c = omega (arith, end_far _ _ _ _ c.in-Ok.ensures.found, ap (λ l. length l) c.items.ensures.value)

pub damaged-requires : goal.damaged-requires
damaged-requires c =
    let inside = fault_there c.catalogue.result.now c.args.bytes.now 1 c.in-Err-Fault.field-0 c.in-Err-Fault.fault c.in-Err-Fault.field-0-is c.in-Err-Fault.ensures.exact in
    omega (arith, inside, length-drop 1 c.args.bytes.now, c.requires.inside, ap (λ l. length l) c.requires.open.1, c.place.ensures, ap (λ p. p.gate.place) c.self.view_is)
