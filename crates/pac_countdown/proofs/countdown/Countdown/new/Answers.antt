-- The rule holds at first.
use Rattle.std.proofs.Common.{◌≡◌, ℕ, ◌<◌, ◌≤◌, List, ◌∙◌, sym, ap, subst, length}
use Rattle.pac_countdown.specs.Lists.{pair_times}
use Rattle.pac_countdown.specs.Counted.{agenda_pairs, starting, word}
use Rattle.pac_countdown.specs.Steps.{AreBelow}
use Rattle.pac_countdown.specs.declared.deeds.Agenda.{Agenda}
use Rattle.pac_countdown.proofs.Ends.{opens_rule}
use Rattle.pac_countdown.proofs.Starts.{start_at, each_pair}
use Rattle.pac_countdown.proofs.countdown.Countdown.new.Goals as goal

pub of_words-requires : goal.of_words-requires
of_words-requires c =
    let made = c.in_ok-words.ensures in
    let items = c.deref.ensures.value in
    let len = c.deref.ensures.len in
    let agenda : Agenda = record { preds = c.of.result; pieces = c.args.pieces } in
    let are : c.pairs.result.now ≡ agenda_pairs agenda = c.pairs.ensures.value ∙ sym c.of.ensures in
    let starts = start_at c.args.preds.now c.in_ok-words.words.items c.args.pieces (sym (ap length items) ∙ len ∙ made.len) c.requires.within
    (λ p less. made.words p less ∙ ap (λ (x : List (ℕ × ℕ)). starting x p) c.pairs.ensures.value) in
    let once = subst (λ (x : List (ℕ × ℕ)). (q : ℕ × ℕ) → pair_times q x ≤ 1) (sym c.of.ensures) c.requires.once in
    opens_rule agenda c.deref.result.now once (len ∙ made.len)
    (λ p. ap (λ (x : List ℕ). word x p) items ∙ starts p ∙ ap (λ (x : List (ℕ × ℕ)). starting x p) (sym c.of.ensures))

pub invariant_of-result : goal.invariant_of-result
invariant_of-result c =
    let made = c.in_ok-table.ensures in
    let len = c.deref.ensures.len in
    let words = c.in_ok-words.ensures.len in
    let key = made.5 in
    let pieces = ap (λ (x : Agenda). x.pieces) key in
    let are : agenda_pairs c.in_ok-table.table.shared.key ≡ c.args.preds.now = ap agenda_pairs key ∙ c.of.ensures in
    let wide : AreBelow c.args.pieces c.args.preds.now =
    each_pair (λ (q : ℕ × ℕ). (q.0 < q.1) × (q.1 < c.args.pieces)) c.args.preds.now (λ k d less. (c.pairs.ensures.order k d less, c.requires.within k d less)) in (
      made.0 ∙ len ∙ words ∙ sym pieces,
      subst (λ (n : ℕ). 0 < n) (sym pieces) c.requires.pieces.0,
      subst (λ (n : ℕ). n ≤ 1024) (sym pieces) c.requires.pieces.1,
      subst (λ (x : List (ℕ × ℕ)). (q : ℕ × ℕ) → pair_times q x ≤ 1) (sym are) c.requires.once,
      subst (λ (x : ℕ × List (ℕ × ℕ)). AreBelow x.0 x.1) (λ i. (sym pieces i, sym are i)) wide,
    )
