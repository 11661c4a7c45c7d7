-- A split keeps the rule.
use Rattle.std.proofs.Common.{◌≡◌, ◌<◌, ℕ, List, sym, subst, ap, ◌∙◌, arith}
use Rattle.atomic_table.specs.Table.{Me, Splits}
use Rattle.pac_countdown.specs.Lists.{times_in, pair_times}
use Rattle.pac_countdown.specs.Counted.{IsCounted}
use Rattle.pac_countdown.specs.Steps.{after_split, lent_deeds, KeepsBySplit}
use Rattle.pac_countdown.specs.Seen.{PassSeen, CountdownSeen}
use Rattle.pac_countdown.specs.declared.deeds.Deeds.{Deeds}
use Rattle.pac_countdown.proofs.Passes.{splits_off}
use Rattle.pac_countdown.proofs.countdown.Countdown.split_as.Goals as goal

pub split_seat-seat-requires : goal.split_seat-seat-requires
split_seat-seat-requires g c =
    let agenda = c.self.inside.table.shared.key in
    let seat = c.pass.inside.seat in
    let pass = c.pass.view_is in
    let countdown = c.self.view_is in
    let size = c.self.invariant.0 in
    let positive = c.self.invariant.1 in
    let opener = ap (λ (x : PassSeen). x.deeds.kind) pass ∙ c.requires.opener in
    let handed = subst (λ (x : PassSeen). (p : ℕ) → 0 < times_in p c.args.share.now → 0 < times_in p x.deeds.handed) (sym pass) c.requires.handed in
    let uncounted = subst (λ (x : PassSeen). (p t : ℕ) → 0 < times_in p c.args.share.now → pair_times (p, t) x.deeds.counted ≡ 0) (sym pass) c.requires.uncounted in (
      ap (λ (x : PassSeen). x.countdown) pass ∙ c.requires.of ∙ sym (ap (λ (x : CountdownSeen). x.id) countdown),
      omega arith,
      subst (λ (share : List ℕ). Splits (IsCounted agenda) seat.id seat.me.0 (after_split share seat.me.0) (lent_deeds share)) (sym c.requires.call)
          (splits_off agenda seat.id seat.me.0 c.args.share.now opener c.requires.differ handed uncounted),
    )

pub returns-clause-step : goal.returns-clause-step
returns-clause-step g c =
    let agenda = c.self.inside.table.shared.key in
    let seat = c.pass.inside.seat in
    let pass = c.pass.view_is in
    let share = c.args.share.now in
    let split = c.split_seat-seat in
    let opener = ap (λ (x : PassSeen). x.deeds.kind) pass ∙ c.requires.opener in
    let handed = subst (λ (x : PassSeen). (p : ℕ) → 0 < times_in p share → 0 < times_in p x.deeds.handed) (sym pass) c.requires.handed in
    let uncounted = subst (λ (x : PassSeen). (p t : ℕ) → 0 < times_in p share → pair_times (p, t) x.deeds.counted ≡ 0) (sym pass) c.requires.uncounted in
    let left : after_split share seat.me.0 ≡ split.new.seat.me.0 = ap (λ (l : List ℕ). after_split l seat.me.0) (sym c.requires.call) ∙ sym (ap (λ (m : Me (Unit {0}) Deeds). m.0) split.ensures.2) in
    let right : lent_deeds share ≡ split.result.me.0 = ap lent_deeds (sym c.requires.call) ∙ sym (ap (λ (m : Me (Unit {0}) Deeds). m.0) split.ensures.4) in
    subst (λ (x : CountdownSeen × PassSeen × Deeds × Deeds). KeepsBySplit x.0.agenda x.1.number x.1.deeds x.2 x.3) (λ i. (c.self.view_is i, pass i, left i, right i))
    (splits_off agenda seat.id seat.me.0 share opener c.requires.differ handed uncounted)
