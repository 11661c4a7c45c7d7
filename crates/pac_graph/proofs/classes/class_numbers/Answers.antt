-- One node more gets its number; there is none that isn't done.
use Rattle.std.proofs.Common.{◌≡◌, [], ◌∷◌, ◌++◌, arith, ap, ◌∙◌, length-append}
use Rattle.pac_graph.proofs.MarkLemmas.{done_within, more_numbers}
use Rattle.pac_graph.proofs.classes.class_numbers.Goals as goal
use Rattle.pac_graph.proofs.classes.class_numbers.Goals.{in-Done+in_ok-push, in_default}

pub loop-mark-preserved : goal.loop-mark-preserved
loop-mark-preserved c = let l = c.loop-mark in
    elim c.match-mark.branch [
      | in-Done+in_ok-push w ↦ (let class = w.in-Done.class in
          let e : c.match-mark.numbers.items ≡ l.numbers.items ++ class ∷ [] = ap (λ v. v.items) w.numbers-is ∙ w.in_ok-push.ensures.items in
          rw e (record { size = omega (arith, length-append l.numbers.items (class ∷ []), l.invariant.size); number = more_numbers c.args.marks.now l.numbers.items l.mark-index class l.invariant.size w.in-Done.is l.invariant.number }))
      | in_default w ↦ (let d = c.requires.done l.mark-index c.loop-mark-test.true in absurd (w.in_default.not-Done d.0 d.1))
    ]

pub returns-clause-number : goal.returns-clause-number
returns-clause-number c = let l = c.loop-mark in λ u class is. l.invariant.number u class (omega (arith, done_within c.args.marks.now u class is, c.loop-mark-test.false)) is
