-- What the rule says of any moment that keeps it.
use Rattle.std.proofs.Common.{◌≡◌, ◌≢◌, ℕ, zero, suc, ◌+◌, ◌<◌, ◌≤◌, true, length, sym, refl, ap, ◌∙◌, subst, eq-eqb, ne_eqb, arith}
use mathlib.Core.Logic.{dite}
use mathlib.Core.Option.{some, some-injective}
use native.Mathlib.Decide.{ℕ_discrete}
use lib.ListN.{get_elem?}
use Rattle.atomic_table.specs.Table.{State}
use Rattle.pac_countdown.specs.Lists.{one_if, times_in, pair_times, pairs_to, below}
use Rattle.pac_countdown.specs.Counted.{IsCounted, FitsKind, agenda_pairs, word, is_opener, opened_in, handed_in, counted_in, counted_to}
use Rattle.pac_countdown.specs.declared.deeds.Deeds.{Deeds}
use Rattle.pac_countdown.specs.declared.deeds.PassKind.{PassKind}
use Rattle.pac_countdown.specs.declared.deeds.PassKind.TheVariants.{Opener, Lent, Spent}
use Rattle.pac_countdown.specs.declared.deeds.Agenda.{Agenda}
use Rattle.pac_countdown.proofs.Sums.{same_no, times_snoc, over_at, over_two, over_find, within, room}

pub below_none : (n p : ℕ) → n ≤ p → times_in p (below n) ≡ 0
below_none zero p h = refl
below_none (suc n) p h = let r = below_none n p (omega arith) in let s = times_snoc p (below n) n in let z = same_no p n (λ (e : p ≡ n). omega arith) in omega arith

-- What the rule says of any state
module _ (agenda : Agenda) (s : State (Unit {0}) Deeds) (r : IsCounted agenda s) where
  one_view : (i j : ℕ) (v w : Deeds) → get_elem? s.views i ≡ some v → get_elem? s.views j ≡ some w → j ≡ i → w ≡ v
  one_view i j v w e f same_place = some-injective w v (sym f ∙ ap (get_elem? s.views) same_place ∙ e)

  -- there is no second opener
  one_opener_at : (i j : ℕ) (v w : Deeds) → get_elem? s.views i ≡ some v → get_elem? s.views j ≡ some w → is_opener v.kind ≡ true → is_opener w.kind ≡ true → w ≡ v
  one_opener_at i j v w e f a b = dite (ℕ_discrete j i) (λ h. one_view i j v w e f h)
      (λ ne. let two = over_two (λ u. one_if (is_opener u.kind)) s.views i j v w (λ h. ne (sym h)) e f in let x = ap one_if a in let y = ap one_if b in let one = r.one_opener in absurd (omega arith))

  pub word_of_handed : (p : ℕ) → 0 < handed_in p s.views → word s.words p ≡ 0
  word_of_handed p h = dite (ℕ_discrete (word s.words p) 0) (λ e. e) (λ ne. let z = ap one_if (ne_eqb (word s.words p) 0 ne) in let c = r.handed p in absurd (omega arith))

  pub none_handed : (p : ℕ) → 0 < word s.words p → handed_in p s.views ≡ 0
  none_handed p h = let z = ap one_if (ne_eqb (word s.words p) 0 (λ (e : word s.words p ≡ 0). omega arith)) in let c = r.handed p in omega arith

  pub handed_once : (p : ℕ) → handed_in p s.views ≤ 1
  handed_once p = dite (ℕ_discrete (word s.words p) 0) (λ e. let z = ap one_if (eq-eqb (word s.words p) 0 e) in let c = r.handed p in omega arith)
      (λ ne. let z = ap one_if (ne_eqb (word s.words p) 0 ne) in let c = r.handed p in omega arith)

  pub counted_within : (p : ℕ) → counted_to p s.views ≤ pairs_to p (agenda_pairs agenda)
  counted_within p = within (λ (u : Deeds). u.counted) (agenda_pairs agenda) s.views r.counted_once p

  pub counted_room : (q : ℕ × ℕ) → 0 < pair_times q (agenda_pairs agenda) → counted_in q s.views ≡ 0 → counted_to q.1 s.views + 1 ≤ pairs_to q.1 (agenda_pairs agenda)
  counted_room q is none_yet = room (λ (u : Deeds). u.counted) (agenda_pairs agenda) s.views r.counted_once q is none_yet

  -- where a piece's word is 0 it was opened, and each pair to it was counted
  pub all_opened : (p : ℕ) → word s.words p ≡ 0 → opened_in p s.views ≡ 1
  all_opened p e = let c = r.counts p in let w = counted_within p in let o = r.opened_once p in omega arith

  pub all_counted : (q : ℕ × ℕ) → word s.words q.1 ≡ 0 → 0 < pair_times q (agenda_pairs agenda) → 0 < counted_in q s.views
  all_counted q e is = dite (ℕ_discrete (counted_in q s.views) 0)
      (λ z. let m = counted_room q is z in let c = r.counts q.1 in let o = r.opened_once q.1 in absurd (omega arith))
      (λ ne. omega arith)

  -- a counted pair's earlier piece was handed out
  pub earlier_handed : (q : ℕ × ℕ) → 0 < counted_in q s.views → 0 < handed_in q.0 s.views
  earlier_handed q h = let f = over_find (λ (u : Deeds). pair_times q u.counted) s.views h in
      let e = (r.each f.0 f.1 f.2).earlier q f.3 in let a = over_at (λ (u : Deeds). times_in q.0 u.handed) s.views f.0 f.1 f.2 in omega arith

  -- who was handed the earlier piece of a pair, and didn't count the pair: nobody did
  pub not_counted : (id : ℕ) (v : Deeds) (q : ℕ × ℕ) → get_elem? s.views id ≡ some v → 0 < times_in q.0 v.handed → pair_times q v.counted ≡ 0 → counted_in q s.views ≡ 0
  not_counted id v q at has none_mine = dite (ℕ_discrete (counted_in q s.views) 0) (λ z. z)
      (λ ne. let f = over_find (λ (u : Deeds). pair_times q u.counted) s.views (omega arith) in let e = (r.each f.0 f.1 f.2).earlier q f.3 in
      dite (ℕ_discrete f.0 id)
      (λ h. let is : f.1 ≡ v = one_view id f.0 v f.1 at f.2 h in let z : pair_times q f.1.counted ≡ 0 = ap (λ (u : Deeds). pair_times q u.counted) is ∙ none_mine in let some_there = f.3 in absurd (omega arith))
      (λ apart. let two = over_two (λ (u : Deeds). times_in q.0 u.handed) s.views id f.0 v f.1 (λ h. apart (sym h)) at f.2 in let once = handed_once q.0 in absurd (omega arith)))

  -- a piece whose word isn't 0 is no earlier piece of a pair to one that was handed out
  pub not_waited : (p x : ℕ) → 0 < word s.words p → 0 < handed_in x s.views → pair_times (p, x) (agenda_pairs agenda) ≡ 0
  not_waited p x some_left h = dite (ℕ_discrete (pair_times (p, x) (agenda_pairs agenda)) 0) (λ z. z)
      (λ ne. let c = all_counted (p, x) (word_of_handed x h) (omega arith) in let e = earlier_handed (p, x) c in let n = none_handed p some_left in absurd (omega arith))

  -- the next piece wasn't opened yet
  pub not_opened : (id : ℕ) (v : Deeds) → get_elem? s.views id ≡ some v → v.kind ≡ Opener → opened_in (length v.opened) s.views ≡ 0
  not_opened id v at kind = dite (ℕ_discrete (opened_in (length v.opened) s.views) 0) (λ z. z)
      (λ ne. let f = over_find (λ (u : Deeds). times_in (length v.opened) u.opened) s.views (omega arith) in
      absurd (by_kind f.1.kind f.0 f.1 f.2 f.3 refl))
    where
      mine : times_in (length v.opened) v.opened ≡ 0
      mine = let o : v.opened ≡ below (length v.opened) = subst (λ (ro : PassKind). FitsKind (agenda_pairs agenda) ro v) kind (r.each id v at).kind in
          ap (times_in (length v.opened)) o ∙ below_none (length v.opened) (length v.opened) (omega arith)

      by_kind : (ro : PassKind) (i : ℕ) (u : Deeds) → get_elem? s.views i ≡ some u → 0 < times_in (length v.opened) u.opened → u.kind ≡ ro → ⊥
      by_kind Opener i u at_u h e = let is = one_opener_at id i v u at at_u (ap is_opener kind) (ap is_opener e) in
          let z : times_in (length v.opened) u.opened ≡ 0 = ap (λ (x : Deeds). times_in (length v.opened) x.opened) is ∙ mine in omega arith
      by_kind Lent i u at_u h e = let f = subst (λ (ro : PassKind). FitsKind (agenda_pairs agenda) ro u) e (r.each i u at_u).kind in let z = ap (times_in (length v.opened)) f.0 in omega arith
      by_kind Spent i u at_u h e = let f = subst (λ (ro : PassKind). FitsKind (agenda_pairs agenda) ro u) e (r.each i u at_u).kind in let z = ap (times_in (length v.opened)) f.0 in omega arith

module _ (agenda : Agenda) (s : State (Unit {0}) Deeds) (r : IsCounted agenda s) where
  -- a pass beside the opener's isn't the opener's
  pub beside : (i j : ℕ) (v w : Deeds) → get_elem? s.views i ≡ some v → get_elem? s.views j ≡ some w → j ≢ i → is_opener v.kind ≡ true → is_opener w.kind ≡ true → ⊥
  beside i j v w e f ne a b = let two = over_two (λ u. one_if (is_opener u.kind)) s.views i j v w (λ h. ne (sym h)) e f in let x = ap one_if a in let y = ap one_if b in let one = r.one_opener in omega arith
