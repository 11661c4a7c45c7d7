-- A link is followed, and its later position waits for one less.
use Rattle.std.proofs.Common.{◌<◌, arith, ◌∙◌, subst, sym, Some}
use Rattle.pac_sched.specs.Counts.{pairs_up_to}
use Rattle.pac_sched.proofs.FollowerLemmas.{IsReleasing, starting, is_last, later_inside, later_waits, later_lowered, following, released, all_released}
use Rattle.pac_sched.proofs.followers.Followers.release.Goals as goal

pub loop-next-init : goal.loop-next-init
loop-next-init c = starting c.args.self.now c.args.finished c.args.waits.now c.args.ready.now c.last-next.result c.requires.len c.requires.lowered c.last-next.ensures

pub release_one-requires : goal.release_one-requires
release_one-requires c = let now = subst (IsReleasing c.args.self.now c.args.finished c.args.waits.now c.args.ready.now c.loop-next.waits c.loop-next.ready) c.in-Some.is c.loop-next.invariant in record {
  len = now.waits_len ∙ sym now.ready_len;
  inside = subst (λ n. c.later.result < n) (sym now.ready_len) (later_inside c.args.self.now c.args.finished c.args.waits.now c.args.ready.now c.loop-next.waits c.loop-next.ready c.in-Some.k c.later.result (0, 0) now (c.later.ensures (0, 0)) c.requires.enough c.requires.inside);
  waits = later_waits c.args.self.now c.args.finished c.args.waits.now c.args.ready.now c.loop-next.waits c.loop-next.ready c.in-Some.k c.later.result (0, 0) now (c.later.ensures (0, 0)) c.requires.enough c.requires.inside;
  lowered = later_lowered c.args.self.now c.args.finished c.args.waits.now c.args.ready.now c.loop-next.waits c.loop-next.ready c.in-Some.k c.later.result (0, 0) now (c.later.ensures (0, 0)) c.requires.enough c.requires.inside _;
}

pub loop-next-smaller : goal.loop-next-smaller
loop-next-smaller c = let now = subst (IsReleasing c.args.self.now c.args.finished c.args.waits.now c.args.ready.now c.loop-next.waits c.loop-next.ready) c.in-Some.is c.loop-next.invariant in
    let e = following c.args.self.now c.args.finished c.args.waits.now c.args.ready.now c.loop-next.waits c.loop-next.ready c.in-Some.k c.later.result (0, 0) now (c.later.ensures (0, 0)) c.requires.enough c.requires.inside c.previous-next.result (c.previous-next.ensures (0, 0)) in
    let l : pairs_up_to c.previous-next.result < pairs_up_to (Some c.in-Some.k) = omega (arith, (is_last c.args.self.now c.args.finished c.previous-next.result c.in-Some.k e).below) in
    subst (λ o. pairs_up_to c.previous-next.result < pairs_up_to o) (sym c.in-Some.is) l

pub loop-next-preserved : goal.loop-next-preserved
loop-next-preserved c = let now = subst (IsReleasing c.args.self.now c.args.finished c.args.waits.now c.args.ready.now c.loop-next.waits c.loop-next.ready) c.in-Some.is c.loop-next.invariant in
    let e = following c.args.self.now c.args.finished c.args.waits.now c.args.ready.now c.loop-next.waits c.loop-next.ready c.in-Some.k c.later.result (0, 0) now (c.later.ensures (0, 0)) c.requires.enough c.requires.inside c.previous-next.result (c.previous-next.ensures (0, 0)) in
    rw (c.release_one.ensures.waits, c.release_one.ensures.ready) (released c.args.self.now c.args.finished c.args.waits.now c.args.ready.now c.loop-next.waits c.loop-next.ready c.in-Some.k c.later.result (0, 0) now (c.later.ensures (0, 0)) c.requires.enough c.requires.inside c.previous-next.result e)

pub returns : goal.returns
returns c = let now = subst (IsReleasing c.args.self.now c.args.finished c.args.waits.now c.args.ready.now c.loop-next.waits c.loop-next.ready) c.in_default.is c.loop-next.invariant in record {
  waits_len = c.loop-next.auto.waits;
  ready_len = now.ready_len;
  waits = all_released c.args.self.now c.args.finished c.args.waits.now c.args.ready.now c.loop-next.waits c.loop-next.ready now;
  ready = now.ready_are;
}
