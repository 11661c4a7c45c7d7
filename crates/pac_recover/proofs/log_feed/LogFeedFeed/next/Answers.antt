-- A feed that has no end yet goes on, or ends.
use Rattle.std.proofs.Common.{◌≡◌, ◌∙◌, ◌-◌, ◌++◌, ◌∷◌, [], length, None, Option, Some, ap, sym, subst, arith}
use Rattle.pac_log.specs.declared.position.NextGate.{NextGate}
use Rattle.pac_log.specs.Bodies.{body_bytes}
use Rattle.pac_recover.specs.declared.log_feed.FeedEnd.{FeedEnd}
use Rattle.pac_recover.specs.FedLogs.{AreBodiesCounted, AreCounted, IsGivenOfLog}
use Rattle.pac_recover.proofs.FedLemmas.{all-fit-types, bodies-end, bodies-more, no-end}
use Rattle.pac_recover.proofs.log_feed.LogFeedFeed.next.Goals as goal

pub returns-in-Ok-clause-given : goal.returns-in-Ok-clause-given
returns-in-Ok-clause-given g c = λ from batches is.
    let known = g.D.Disk.known from.disk.now in
    let before = g.D.Disk.faults from.disk.now in
    let old = c.args.self.now in
    let less : c.saturating_sub-self.result ≡ old.missing - length (body_bytes c.in-Ok.batch.txns)
    = omega (
      arith,
      c.saturating_sub-self.ensures,
      c.saturating_sub.ensures,
      c.saturating_sub-len.ensures,
      c.place.ensures,
      c.place-before.ensures,
      ap (λ (gate : NextGate). gate.place) c.gate.ensures,
      ap (λ (gate : NextGate). gate.place) c.gate-in-Ok.ensures,
      c.in-Ok.ensures.place,
    ) in
    let none : old.end ≡ None = no-end old.end c.is_some.result c.is_some.ensures c.if-is_some.false in (
      is.0,
      is.1,
      subst (λ (e : Option FeedEnd). AreBodiesCounted from.missing c.saturating_sub-self.result (batches ++ c.in-Ok.batch ∷ []) from.end e) (sym none)
          (bodies-more from.missing old.missing batches from.end (subst (λ (e : Option FeedEnd). AreBodiesCounted from.missing old.missing batches from.end e) none is.2) c.in-Ok.batch c.saturating_sub-self.result less),
      (λ first. subst (AreCounted before (g.D.Disk.faults c.read.new.disk)) (sym none) (c.in-Ok.ensures.kept ∙ subst (AreCounted before (g.D.Disk.faults old.disk.now)) none (is.3 first))),
      subst (λ (e : Option FeedEnd). IsGivenOfLog known (g.D.Disk.known c.read.new.disk) from.reader.now.gate c.read.new.reader.gate (batches ++ c.in-Ok.batch ∷ []) from.end e) (sym none)
          (c.in-Ok.ensures.given known from.reader.now.gate batches from.end
          (subst (λ (e : Option FeedEnd). IsGivenOfLog known (g.D.Disk.known old.disk.now) from.reader.now.gate old.reader.now.gate batches from.end e) none is.4)),
    )

pub returns-in-Ok-clause-fits : goal.returns-in-Ok-clause-fits
returns-in-Ok-clause-fits g c = all-fit-types c.args.self.now.reader.now.gate.catalogue c.in-Ok.batch.txns c.in-Ok.ensures.fits

pub returns-in-Err-clause-none : goal.returns-in-Err-clause-none
returns-in-Err-clause-none g c = λ from batches is.
    let known = g.D.Disk.known from.disk.now in
    let before = g.D.Disk.faults from.disk.now in
    let old = c.args.self.now in
    let none : old.end ≡ None = no-end old.end c.is_some.result c.is_some.ensures c.if-is_some.false in (
      is.0,
      is.1,
      bodies-end from.missing old.missing batches from.end (subst (λ (e : Option FeedEnd). AreBodiesCounted from.missing old.missing batches from.end e) none is.2) (let some = c.if-self-eq0.false in omega (arith, some)) c.in-Err.end c.in-Err.ensures.other,
      (λ first. subst (λ n. AreCounted n (g.D.Disk.faults c.read.new.disk) (Some c.in-Err.end)) (subst (AreCounted before (g.D.Disk.faults old.disk.now)) none (is.3 first)) c.in-Err.ensures.counted),
      c.in-Err.ensures.ends known from.reader.now.gate batches from.end
          (subst (λ (e : Option FeedEnd). IsGivenOfLog known (g.D.Disk.known old.disk.now) from.reader.now.gate old.reader.now.gate batches from.end e) none is.4),
    )
