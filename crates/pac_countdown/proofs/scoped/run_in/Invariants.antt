-- Each worker is new, in a thread, or done.
use Rattle.std.specs.Prelude.{◌≡◌, ◌+◌, All, IfOk, vec_len}
use Rattle.pac_countdown.specs.HandOut.{IsUnworked, IsWorkedOff}
use Rattle.pac_countdown.proofs.scoped.run_in.Given as goal

abbrev pub invariant-loop-worker : goal.invariant-loop-worker
invariant-loop-worker g l = record {
  new : All (IsUnworked l.countdown) l.crew.items;
  started : All (λ handle. handle.promise.0.value ≡ l.countdown) l.handles.items;
  done : All (λ done. IfOk done (IsWorkedOff l.countdown)) l.all.items;
  len : vec_len l.crew + vec_len l.handles + vec_len l.all ≡ vec_len l.fn.crew;
}

abbrev pub decreases-loop-worker : goal.decreases-loop-worker
decreases-loop-worker g l = vec_len l.crew

abbrev pub invariant-loop-handle : goal.invariant-loop-handle
invariant-loop-handle g l = record {
  started : All (λ handle. handle.promise.0.value ≡ l.countdown) l.handles.items;
  done : All (λ done. IfOk done (IsWorkedOff l.countdown)) l.all.items;
  len : vec_len l.handles + vec_len l.all ≡ vec_len l.fn.crew;
}

abbrev pub decreases-loop-handle : goal.decreases-loop-handle
decreases-loop-handle g l = vec_len l.handles
