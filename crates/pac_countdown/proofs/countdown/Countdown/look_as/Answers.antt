-- A load keeps the rule.
use Rattle.std.proofs.Common.{◌≡◌, ◌<◌, ℕ, [], sym, subst, ap, ◌∙◌, arith}
use mathlib.Core.Option.{none}
use Rattle.atomic_table.specs.Table.{Me, Allows, step}
use Rattle.pac_countdown.specs.Counted.{IsCounted}
use Rattle.pac_countdown.specs.Steps.{HasLoaded}
use Rattle.pac_countdown.specs.Seen.{PassSeen, CountdownSeen}
use Rattle.pac_countdown.specs.declared.deeds.Deeds.{Deeds}
use Rattle.pac_countdown.specs.declared.deeds.Agenda.{Agenda}
use Rattle.pac_countdown.proofs.Ends.{looks}
use Rattle.pac_countdown.proofs.countdown.Countdown.look_as.Goals as goal

pub load-requires : goal.load-requires
load-requires g c =
    let agenda = c.self.inside.table.shared.key in
    let slots = c.self.inside.table.shared.table_id.slots in
    let seat = c.pass.inside.seat in
    let piece = c.args.piece in
    let pass = c.pass.view_is in
    let countdown = c.self.view_is in
    let size = c.self.invariant.0 in
    let inside = subst (λ (x : CountdownSeen). piece < x.agenda.pieces) (sym countdown) c.requires.piece in
    let me : seat.me ≡ (seat.me.0, []) = λ i. (seat.me.0, c.pass.invariant.0 i) in
    let mine = ap (λ (x : CountdownSeen). x.agenda) countdown ∙ sym c.requires.call.0 in
    let number = ap (λ (x : PassSeen). x.number) pass ∙ sym c.requires.call.1 in (
      ap (λ (x : PassSeen). x.countdown) pass ∙ c.requires.of ∙ sym (ap (λ (x : CountdownSeen). x.id) countdown),
      omega arith,
      subst (λ (x : Me (Unit {0}) Deeds × Agenda × ℕ). Allows (IsCounted agenda) slots seat.id x.0 piece (λ n. n) (HasLoaded x.1 x.2 (step slots piece 0 0 none) x.0))
          (λ i. (sym me i, mine i, number i)) (looks agenda slots seat.id seat.me.0 piece inside),
    )
