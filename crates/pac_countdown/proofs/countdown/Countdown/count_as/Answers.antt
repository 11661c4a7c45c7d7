-- A count keeps the rule.
use Rattle.std.proofs.Common.{◌≡◌, ◌<◌, ◌+◌, ◌-◌, ◌%◌, ◌^◌, ℕ, [], sym, subst, ap, ◌∙◌, arith}
use mathlib.Core.Option.{none}
use Rattle.atomic_table.specs.Table.{Me, Allows, step}
use Rattle.pac_countdown.specs.Lists.{times_in, pair_times}
use Rattle.pac_countdown.specs.Counted.{IsCounted, agenda_pairs}
use Rattle.pac_countdown.specs.Steps.{HasCounted}
use Rattle.pac_countdown.specs.Seen.{PassSeen, CountdownSeen}
use Rattle.pac_countdown.specs.declared.deeds.Deeds.{Deeds}
use Rattle.pac_countdown.specs.declared.deeds.Agenda.{Agenda}
use Rattle.pac_countdown.proofs.Counts.{counts_pair}
use Rattle.pac_countdown.proofs.countdown.Countdown.count_as.Goals as goal

pub fetch_sub-found-requires : goal.fetch_sub-found-requires
fetch_sub-found-requires g c =
    let agenda = c.self.inside.table.shared.key in
    let slots = c.self.inside.table.shared.table_id.slots in
    let seat = c.pass.inside.seat in
    let from = c.args.from in
    let to = c.args.to in
    let pass = c.pass.view_is in
    let countdown = c.self.view_is in
    let size = c.self.invariant.0 in
    let pair = subst (λ (x : CountdownSeen). 0 < pair_times (from, to) (agenda_pairs x.agenda)) (sym countdown) c.requires.pair in
    let handed = subst (λ (x : PassSeen). 0 < times_in from x.deeds.handed) (sym pass) c.requires.handed in
    let new = subst (λ (x : PassSeen). pair_times (from, to) x.deeds.counted ≡ 0) (sym pass) c.requires.new in
    let inside = (c.self.invariant.4 (from, to) pair).1 in
    let me : seat.me ≡ (seat.me.0, []) = λ i. (seat.me.0, c.pass.invariant.0 i) in
    let mine = ap (λ (x : CountdownSeen). x.agenda) countdown ∙ sym c.requires.call.0 in
    let number = ap (λ (x : PassSeen). x.number) pass ∙ sym c.requires.call.1 in (
      ap (λ (x : PassSeen). x.countdown) pass ∙ c.requires.of ∙ sym (ap (λ (x : CountdownSeen). x.id) countdown),
      omega arith,
      subst (λ (x : Me (Unit {0}) Deeds × Agenda × ℕ × ℕ). Allows (IsCounted agenda) slots seat.id x.0 to (λ n. (n + (2 ^ 64 - 1)) % 2 ^ 64) (HasCounted x.1 x.2 x.3 (step slots to 1 0 none) x.0))
          (λ i. (sym me i, mine i, number i, sym c.requires.call.2 i)) (counts_pair agenda slots seat.id seat.me.0 from to inside handed pair new),
    )
