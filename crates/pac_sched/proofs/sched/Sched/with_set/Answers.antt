-- The new pairs are of positions after the old ones, and the new pieces wait.
use Rattle.std.proofs.Common.{◌≡◌, ◌++◌, ◌+◌, length, replicate, arith, ◌∙◌, sym, ap, subst, ◌<◌}
use Rattle.std.proofs.lemmas.Grind.{common_steps}
use Rattle.std.proofs.lemmas.List.{length-append}
use Rattle.pac_sched.specs.declared.state.PieceState.TheVariants.{Waiting}
use Rattle.pac_sched.specs.Schedules.{moved_by}
use Rattle.pac_sched.specs.Counts.{AreInside}
use Rattle.pac_sched.proofs.OpeningLemmas.{resized, inside_more, unhindered_more}
use Rattle.pac_sched.proofs.sched.Sched.with_set.Goals as goal

pub of-requires-clause-inside : goal.of-requires-clause-inside
of-requires-clause-inside c =
    let pairs : c.in_ok-pairs.pairs.items ≡ c.self.inside.followers ++ moved_by (length c.self.inside.positions) c.args.pairs.now = rw (c.pairs.ensures, c.pieces-old.ensures) at c.in_ok-pairs.ensures in
    let pieces : length c.extend_from_slice.new.self.items ≡ length c.self.inside.positions + length c.args.pieces.now
    = ap length c.in_ok-extend_from_slice.ensures.items ∙ length-append _ _ ∙ ap (λ xs. length xs + length c.args.pieces.now) (c.in_ok-all.ensures.items ∙ c.pieces-old.ensures) in
    rw (pairs, pieces) (inside_more (length c.self.inside.positions) (length c.args.pieces.now) c.self.inside.followers c.args.pairs.now c.self.invariant.inside c.requires.within c.requires.order)

pub of-requires-clause-unhindered : goal.of-requires-clause-unhindered
of-requires-clause-unhindered c =
    let pairs : c.in_ok-pairs.pairs.items ≡ c.self.inside.followers ++ moved_by (length c.self.inside.states.items) c.args.pairs.now
    = (rw (c.pairs.ensures, c.pieces-old.ensures) at c.in_ok-pairs.ensures) ∙ ap (λ n. c.self.inside.followers ++ moved_by n c.args.pairs.now) (sym c.self.invariant.states_len) in
    let pieces : length c.extend_from_slice.new.self.items ≡ length c.self.inside.positions + length c.args.pieces.now
    = ap length c.in_ok-extend_from_slice.ensures.items ∙ length-append _ _ ∙ ap (λ xs. length xs + length c.args.pieces.now) (c.in_ok-all.ensures.items ∙ c.pieces-old.ensures) in
    let states : c.resize.new.self.items ≡ c.self.inside.states.items ++ replicate (length c.args.pieces.now) Waiting
    = resized c.self.inside.states.items c.in_ok-states.states.items _ c.len.result _ (length c.self.inside.positions) (length c.args.pieces.now) c.in_ok-resize.ensures.items
    (c.in_ok-states.ensures.items ∙ c.deref.ensures.value) (grind (arith, common_steps)) c.self.invariant.states_len (grind (arith, common_steps)) in
    rw (pairs, states) (unhindered_more c.self.inside.states.items c.self.inside.followers c.args.pairs.now (length c.args.pieces.now)
    (subst (λ n. AreInside n c.self.inside.followers) (sym c.self.invariant.states_len) c.self.invariant.inside)
    (λ j jl w. let jp : j < length c.self.inside.positions = omega (arith, c.self.invariant.states_len) in sym (c.self.invariant.counted j jp) ∙ c.self.invariant.ordered j jp w))
