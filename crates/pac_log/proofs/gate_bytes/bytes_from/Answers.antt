-- The two pieces are all that is looked at.
use Rattle.std.proofs.Common.{◌≡◌, ◌∙◌, ◌+◌, ◌-◌, ◌++◌, ℕ, List, take, drop, min, sym, ap, subst, arith}
use Rattle.pac_outside.specs.Disk.{IfKnown}
use Rattle.pac_log.specs.Looked.{IsLookedAt}
use Rattle.pac_log.proofs.PieceLemmas.{IsReach, looked_prefix, looked_more}
use Rattle.pac_log.proofs.gate_bytes.bytes_from.Goals as goal
use Rattle.pac_log.proofs.gate_bytes.bytes_from.Goals.{then-reach-gt0+in_ok-read_more, else-reach-gt0}

pub returns-clause-looked : goal.returns-clause-looked
returns-clause-looked g c =
    let place = c.args.place in
    let len = c.in_ok-len.field-0 in
    let prefix = c.in_ok-bytes.bytes.items in
    let count : c.min.result ≡ min (len - place) 9 = c.min.ensures ∙ ap (λ (n : ℕ). min n 9) c.saturating_sub-left.ensures in
    let there = subst (λ (n : ℕ). IfKnown (λ old. prefix ≡ take n (drop place old.now.seen)) (g.D.Disk.known c.args.disk.now)) count
    (subst (λ t. IfKnown (λ old. prefix ≡ take c.min.result (drop place old.now.seen)) t) c.in_ok-len.ensures.same c.in_ok-bytes.ensures.bytes) in
    let reach : IsReach prefix c.reach_after-reach.result = subst (λ (l : List ℕ). IsReach l c.reach_after-reach.result) c.deref.ensures.value c.reach_after-reach.ensures.enough in
    elim c.if-reach-gt0.branch [
      | then-reach-gt0+in_ok-read_more w ↦ (
          let more : w.min-count.result ≡ min (len - place - 9) c.reach_after-reach.result = w.min-count.ensures ∙ ap (λ (n : ℕ). min (n - 9) c.reach_after-reach.result) c.saturating_sub-left.ensures in
          let after = subst (λ t. IfKnown (λ old. w.read_more.new.bytes.items ≡ prefix ++ take w.min-count.result (drop (place + 9) old.now.seen)) t) (c.in_ok-bytes.ensures.same ∙ c.in_ok-len.ensures.same) w.in_ok-read_more.ensures.bytes in
          subst (λ b. IfKnown (λ old. IsLookedAt b.items (drop place old.now.seen)) (g.D.Disk.known c.args.disk.now)) (sym w.bytes-is)
          (looked_more _ place len prefix c.in_ok-len.ensures.len there c.reach_after-reach.result w.read_more.new.bytes.items reach
          (subst (λ (n : ℕ). IfKnown (λ old. w.read_more.new.bytes.items ≡ prefix ++ take n (drop (place + 9) old.now.seen)) (g.D.Disk.known c.args.disk.now)) more after))
          )
      | else-reach-gt0 w ↦ (
          let none : c.reach_after-reach.result ≡ 0 = omega (arith, w.if-reach-gt0.false) in
          subst (λ b. IfKnown (λ old. IsLookedAt b.items (drop place old.now.seen)) (g.D.Disk.known c.args.disk.now)) (sym w.bytes-is)
          (looked_prefix _ place len prefix c.in_ok-len.ensures.len there (subst (λ (n : ℕ). IsReach prefix n) none reach))
          )
    ]
