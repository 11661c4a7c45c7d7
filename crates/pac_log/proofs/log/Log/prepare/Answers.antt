-- What is ready has room in the log.
use Rattle.std.proofs.Common.{length, ap, arith, length-append}
use Rattle.pac_log.specs.Bodies.{body_bytes}
use Rattle.pac_log.proofs.LogLemmas.{body_long}
use Rattle.pac_log.proofs.log.Log.prepare.Goals as goal

pub invariant_of-self : goal.invariant_of-self
invariant_of-self c =
    let listed = ap (λ l. length l) c.listed.ensures in
    let pushed = c.in_ok-push.ensures.len in
    let written = ap (λ l. length l) c.in_ok-write_measured.ensures.bytes in
    let placed = ap (λ p. p.gate.place) c.self.view_is in (
      omega (arith, listed, pushed, written, placed, length-append c.in_ok-piece.piece.items (body_bytes c.args.batch.now.txns), c.in_ok-piece.ensures.len, c.body_len-len.ensures.exact, c.place.ensures, c.saturating_add-need.ensures, c.if-need-gt-MAX_LOG_LEN.false),
      omega (arith, listed, pushed, written, length-append c.in_ok-piece.piece.items (body_bytes c.args.batch.now.txns), c.in_ok-piece.ensures.len, ap (λ l. length l) c.items.ensures.value, body_long c.args.batch.now.txns),
    )
