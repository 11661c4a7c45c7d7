-- What the frame kept is the value of the work.
use Rattle.std.proofs.Common.{sym, subst}
use Rattle.pac_piece.specs.Values.{IsValueOf, copied}
use Rattle.pac_piece.proofs.KeptLemmas.{value_of}
use Rattle.pac_piece.proofs.work.run.Goals as goal

pub invariant_of-result : goal.invariant_of-result
invariant_of-result c =
    let work = c.args.work in
    let frame = c.in-Ok.frame in
    subst (λ (ws : _). IsValueOf work ws frame.outs frame.note) (sym c.of-writes.ensures) (value_of work.piece.txn work.code work.env (copied work) frame c.in-Ok.ensures)
