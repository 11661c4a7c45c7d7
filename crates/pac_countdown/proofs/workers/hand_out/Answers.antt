-- Each piece is handed out once.
use Rattle.std.proofs.Common.{◌<◌, ℕ, List, nat_lt, ◌∙◌, sym, ap, subst}
use Rattle.pac_countdown.specs.Lists.{one_if}
use Rattle.pac_countdown.specs.Counted.{agenda_pairs}
use Rattle.pac_countdown.specs.Steps.{AreBelow}
use Rattle.pac_countdown.proofs.Starts.{each_pair}
use Rattle.pac_countdown.proofs.Outs.{each_once}
use Rattle.pac_countdown.proofs.workers.hand_out.Goals as goal

pub returns-clause-each : goal.returns-clause-each
returns-clause-each g c =
    let countdown = c.in_ok-countdown.countdown in
    let shares = c.in_ok-shares.shares.items in
    let pieces = c.in_ok-countdown.ensures.pieces in
    let wide : AreBelow c.args.pieces c.args.preds.now =
    each_pair (λ (q : ℕ × ℕ). (q.0 < q.1) × (q.1 < c.args.pieces)) c.args.preds.now (λ k d less. (c.pairs.ensures.order k d less, c.requires.within k d less)) in
    let wide_here : AreBelow countdown.agenda.pieces (agenda_pairs countdown.agenda) = subst (λ (x : ℕ × List (ℕ × ℕ)). AreBelow x.0 x.1) (λ i. (sym pieces i, sym c.in_ok-countdown.ensures.pairs i)) wide in
    let v = c.join_all.new.pass.deeds in λ p.
    each_once (agenda_pairs countdown.agenda) countdown.agenda.pieces wide_here shares v c.in_ok-shares.ensures.joined c.end-handed.ensures.all p
    ∙ ap (λ (n : ℕ). one_if (nat_lt p n)) pieces
