-- What is over the limit is one byte, read after bytes without line feeds.
use Rattle.std.proofs.Common.{◌+◌, arith, ap, sym, subst}
use Rattle.pac_lines.specs.Lines.{HasNoFeed}
use Rattle.pac_lines.specs.Reading.{AheadState}
use Rattle.pac_lines.specs.Short.{ShortState}
use Rattle.pac_lines.proofs.ShortLemmas.{no_feed-take, one_byte_more}
use Rattle.pac_lines.proofs.reader.LineReader.read.Goals as goal

pub invariant_of-self-2 : goal.invariant_of-self-2
invariant_of-self-2 g c =
    let none : HasNoFeed c.self.inside.ahead.bytes = subst HasNoFeed (sym (ap (λ (s : ShortState). s.state.ahead) c.self.view_is)) c.requires.none in
    let none_kept : HasNoFeed c.keep.new.self.bytes = subst (λ (a : AheadState). HasNoFeed a.bytes) (sym c.keep.ensures) (no_feed-take (c.self.inside.most + 1) c.self.inside.ahead.bytes none) in
    let taken = ap (λ (s : ShortState). s.state.taken) c.self.view_is in
    let limit = ap (λ (s : ShortState). s.state.limit) c.self.view_is in (
      c.self.invariant.0,
      c.self.invariant.1,
      omega (arith, c.clamp-most.ensures, c.in_ok-count.ensures.most, c.requires.room, taken, limit),
      λ over. one_byte_more _ _ _ _ _ c.in_ok-count.ensures.bytes none_kept (omega (arith, over, c.clamp-most.ensures, c.in_ok-count.ensures.most, c.requires.room, taken, limit)),
    )
