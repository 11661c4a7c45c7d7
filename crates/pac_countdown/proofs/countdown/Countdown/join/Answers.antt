-- A join keeps the rule.
use Rattle.std.proofs.Common.{◌≡◌, ◌∙◌, sym, subst, ap, arith}
use Rattle.atomic_table.specs.Table.{Me}
use Rattle.pac_countdown.specs.Steps.{after_join, KeepsByJoin}
use Rattle.pac_countdown.specs.Seen.{PassSeen, CountdownSeen}
use Rattle.pac_countdown.specs.declared.deeds.Deeds.{Deeds}
use Rattle.pac_countdown.proofs.Passes.{joins_in}
use Rattle.pac_countdown.proofs.countdown.Countdown.join.Goals as goal

pub join_seat-requires : goal.join_seat-requires
join_seat-requires c =
    let agenda = c.self.inside.table.shared.key in
    let seat = c.pass.inside.seat in
    let other = c.other.inside.seat in
    let pass = c.pass.view_is ∙ c.learn.ensures.same in
    let id = sym (ap (λ (x : CountdownSeen). x.id) c.self.view_is) in
    let size = c.self.invariant.0 in
    let positive = c.self.invariant.1 in (
      ap (λ (x : PassSeen). x.countdown) pass ∙ c.requires.of ∙ id,
      ap (λ (x : PassSeen). x.countdown) c.other.view_is ∙ c.requires.of_other ∙ id,
      c.other.invariant.0,
      omega arith,
      joins_in agenda seat.id seat.me.0 other.id other.me.0 (ap (λ (x : PassSeen). x.deeds.kind) pass ∙ c.requires.opener) (ap (λ (x : PassSeen). x.deeds.kind) c.other.view_is ∙ c.requires.lent),
    )

pub overflow_add-pass : goal.overflow_add-pass
overflow_add-pass c =
    let pass = c.pass.view_is ∙ c.learn.ensures.same in
    let looked = c.learn.ensures.looked.1.joins c.requires.opener in
    let splits = c.pass.invariant.2 in
    let joins = c.pass.invariant.3 in
    let same_splits = ap (λ (x : PassSeen). x.deeds.splits) pass in
    let same_joins = ap (λ (x : PassSeen). x.deeds.joins) pass in omega arith

pub returns-clause-step : goal.returns-clause-step
returns-clause-step c =
    let agenda = c.self.inside.table.shared.key in
    let seat = c.pass.inside.seat in
    let other = c.other.inside.seat in
    let pass = c.pass.view_is ∙ c.learn.ensures.same in
    let both : after_join seat.me.0 other.me.0 ≡ c.join_seat.new.seat.me.0 = sym (ap (λ (m : Me (Unit {0}) Deeds). m.0) c.join_seat.ensures.2) in
    subst (λ (x : CountdownSeen × PassSeen × PassSeen × Deeds). KeepsByJoin x.0.agenda x.1.number x.1.deeds x.2.number x.2.deeds x.3) (λ i. (c.self.view_is i, pass i, c.other.view_is i, both i))
    (joins_in agenda seat.id seat.me.0 other.id other.me.0 (ap (λ (x : PassSeen). x.deeds.kind) pass ∙ c.requires.opener) (ap (λ (x : PassSeen). x.deeds.kind) c.other.view_is ∙ c.requires.lent))
