-- What was searched before has no line feed, so the first one is in what is searched now.
use Rattle.std.proofs.Common.{◌≤◌, ◌-◌, ap, sym, subst, drop, length, arith, length-drop}
use Rattle.std.proofs.lemmas.List.{take_all}
use Rattle.pac_lines.specs.Lines.{HasNoFeed}
use Rattle.pac_lines.specs.Reading.{AheadState}
use Rattle.pac_lines.proofs.LineLemmas.{none_found, one_found}
use Rattle.pac_lines.proofs.ahead.Ahead.take_line.Goals as goal

pub invariant_of-self : goal.invariant_of-self
invariant_of-self c =
    let ahead = drop c.self.inside.next c.self.inside.buffer.items in
    let none : HasNoFeed ahead = none_found _ _ _ _ _ c.deref.ensures.value c.feed_at.ensures.offset c.in-None.is c.self.invariant.2 in
    let count : length ahead ≤ c.len.result - c.self.inside.next = omega (arith, length-drop c.self.inside.next c.self.inside.buffer.items, c.len.ensures, c.self.inside.buffer.ok) in
    (c.self.invariant.0, omega (arith, c.self.invariant.1, c.len.ensures), rw (take_all _ _ count) none)

pub returns-in-None-clause-none : goal.returns-in-None-clause-none
returns-in-None-clause-none c = λ _.
    let none = none_found _ _ _ _ _ c.deref.ensures.value c.feed_at.ensures.offset c.in-None.is c.self.invariant.2 in
    (subst HasNoFeed (ap (λ (a : AheadState). a.bytes) c.self.view_is) none, c.self.view_is)

pub returns-in-Some-clause-line : goal.returns-in-Some-clause-line
returns-in-Some-clause-line c = λ _.
    let line = one_found _ _ _ _ _ _ c.deref.ensures.value c.feed_at.ensures.offset c.in-Some.is c.self.invariant.2 in
    rw (sym (ap (λ (a : AheadState). a.bytes) c.self.view_is)) line
