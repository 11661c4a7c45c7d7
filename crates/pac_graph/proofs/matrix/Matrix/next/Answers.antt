-- A word with no bit is passed; else its lowest bit is the first.
use Rattle.std.proofs.Common.{◌≡◌, ◌*◌, length, get_or, inl, inr, subst, arith}
use Rattle.std.proofs.lemmas.Bool.{cases_lt}
use Rattle.pac_graph.specs.Matrix.{HasBit}
use Rattle.pac_graph.proofs.MatrixLemmas.{offset, clear_until, set_in_row}
use Rattle.pac_graph.proofs.matrix.Matrix.next.Goals as goal

pub returns-then-first-self : goal.returns-then-first-self
unfolding HasBit
returns-then-first-self c = let m = c.args.self.now in
    let l = c.loop-to in
    let found = c.in-Some.ensures in
    let rows : length m.words.items ≡ m.nodes * m.width = omega (arith, m.rows, m.words.ok) in
    let read : c.index.result.now ≡ get_or m.words.items (offset m.width c.args.from l.to) c.index.result.now = subst (λ at. c.index.result.now ≡ get_or m.words.items at c.index.result.now) c.word_of.ensures.offset c.index.ensures in (
      omega (arith, l.invariant.0, found.0),
      c.if-first-self.true,
      set_in_row m.nodes m.width m.words.items c.args.from l.to c.index.result.now c.in-Some.offset m.wide rows c.requires c.loop-to-test.true read found.1 found.2 c.if-first-self.true,
      clear_until m.nodes m.width m.words.items c.args.from c.args.at l.to c.index.result.now c.in-Some.offset m.wide rows c.requires c.loop-to-test.true read (omega (arith, found.1)) found.3 l.invariant.1,
    )

pub returns-else-first-self : goal.returns-else-first-self
unfolding HasBit
returns-else-first-self c = let m = c.args.self.now in
    let l = c.loop-to in
    let found = c.in-Some.ensures in
    let rows : length m.words.items ≡ m.nodes * m.width = omega (arith, m.rows, m.words.ok) in
    let read : c.index.result.now ≡ get_or m.words.items (offset m.width c.args.from l.to) c.index.result.now = subst (λ at. c.index.result.now ≡ get_or m.words.items at c.index.result.now) c.word_of.ensures.offset c.index.ensures in
    λ b ge h. clear_until m.nodes m.width m.words.items c.args.from c.args.at l.to c.index.result.now c.in-Some.offset m.wide rows c.requires c.loop-to-test.true read (omega (arith, found.1)) found.3 l.invariant.1 b ge (omega (arith, h.1, c.if-first-self.false)) h

pub loop-to-preserved : goal.loop-to-preserved
unfolding HasBit
loop-to-preserved c = let m = c.args.self.now in
    let l = c.loop-to in
    let rows : length m.words.items ≡ m.nodes * m.width = omega (arith, m.rows, m.words.ok) in
    let read : c.index.result.now ≡ get_or m.words.items (offset m.width c.args.from l.to) c.index.result.now = subst (λ at. c.index.result.now ≡ get_or m.words.items at c.index.result.now) c.word_of.ensures.offset c.index.ensures in
    (omega (arith, l.invariant.0), clear_until m.nodes m.width m.words.items c.args.from c.args.at l.to c.index.result.now 64 m.wide rows c.requires c.loop-to-test.true read (omega arith) (λ j ge lt. c.in_default.ensures j ge) l.invariant.1)

pub returns : goal.returns
unfolding HasBit
returns c = λ b ge h. elim (cases_lt b c.loop-to.to) [ inl before ↦ c.loop-to.invariant.1 b ge before h | inr after ↦ omega (arith, h.1) ]
