-- Nothing is held yet.
use Rattle.std.proofs.Common.{◌+◌, drop}
use Rattle.pac_check.proofs.PieceLemmas.{opened_known}
use Rattle.pac_check.proofs.pieces.Pieces.open.Goals as goal

pub returns-clause-of : goal.returns-clause-of
returns-clause-of g c = opened_known (g.D.Disk.known c.args.disk.now) (record { place = c.args.place + 0; bytes = drop 0 c.new.result.items; len = c.in_ok-len.len }) c.new.ensures.items c.in_ok-len.ensures.len
