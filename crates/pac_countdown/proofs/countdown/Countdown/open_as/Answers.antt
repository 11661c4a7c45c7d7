-- An opening keeps the rule.
use Rattle.std.proofs.Common.{◌≡◌, ◌<◌, ◌+◌, ◌-◌, ◌%◌, ◌^◌, ℕ, [], length, sym, subst, ap, ◌∙◌, arith}
use mathlib.Core.Option.{none}
use Rattle.atomic_table.specs.Table.{Me, Allows, step}
use Rattle.pac_countdown.specs.Counted.{IsCounted}
use Rattle.pac_countdown.specs.Steps.{HasOpened}
use Rattle.pac_countdown.specs.Seen.{PassSeen, CountdownSeen}
use Rattle.pac_countdown.specs.declared.deeds.Deeds.{Deeds}
use Rattle.pac_countdown.specs.declared.deeds.PassKind.TheVariants.{Opener}
use Rattle.pac_countdown.specs.declared.deeds.Agenda.{Agenda}
use Rattle.pac_countdown.proofs.Counts.{opens}
use Rattle.pac_countdown.proofs.countdown.Countdown.open_as.Goals as goal

pub fetch_sub-found-requires : goal.fetch_sub-found-requires
fetch_sub-found-requires g c =
    let agenda = c.self.inside.table.shared.key in
    let slots = c.self.inside.table.shared.table_id.slots in
    let seat = c.pass.inside.seat in
    let pass = c.pass.view_is in
    let countdown = c.self.view_is in
    let is = c.pass.invariant.1 in
    let size = c.self.invariant.0 in
    let opener : seat.me.0.kind ≡ Opener = ap (λ (p : PassSeen). p.deeds.kind) pass ∙ c.requires.opener in
    let more = subst (λ (x : PassSeen × CountdownSeen). length x.0.deeds.opened < x.1.agenda.pieces) (λ i. (sym pass i, sym countdown i)) c.requires.more in
    let me : seat.me ≡ (seat.me.0, []) = λ i. (seat.me.0, c.pass.invariant.0 i) in
    let mine = ap (λ (p : CountdownSeen). p.agenda) countdown ∙ sym c.requires.call.0 in
    let number = ap (λ (p : PassSeen). p.number) pass ∙ sym c.requires.call.1 in (
      ap (λ (p : PassSeen). p.countdown) pass ∙ c.requires.of ∙ sym (ap (λ (p : CountdownSeen). p.id) countdown),
      omega arith,
      subst (λ (x : Me (Unit {0}) Deeds × ℕ × Agenda × ℕ). Allows (IsCounted agenda) slots seat.id x.0 x.1 (λ n. (n + (2 ^ 64 - 1)) % 2 ^ 64) (HasOpened x.2 x.3 (step slots x.1 1 0 none) x.0))
          (λ i. (sym me i, sym is i, mine i, number i)) (opens agenda slots seat.id seat.me.0 opener more),
    )

pub overflow_add-pass : goal.overflow_add-pass
overflow_add-pass g c =
    let is = c.pass.invariant.1 in
    let few = c.self.invariant.2 in
    let more = subst (λ (x : PassSeen × CountdownSeen). length x.0.deeds.opened < x.1.agenda.pieces) (λ i. (sym c.pass.view_is i, sym c.self.view_is i)) c.requires.more in omega arith
