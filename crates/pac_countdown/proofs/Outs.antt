-- What the opener's pass does around the workers.
use Rattle.std.proofs.Common.{◌≡◌, ℕ, zero, suc, ◌+◌, ◌<◌, ◌≤◌, Bool, true, false, List, [], ◌∷◌, ◌++◌, length, take, drop, sym, refl, ap, ◌∙◌, subst, length-append, add-one, nat_lt, le-ltb, lt-ltb, arith}
use mathlib.Core.Logic.{dite}
use native.Mathlib.Decide.{ℕ_discrete}
use Rattle.std.proofs.lemmas.List.{take-append-drop, drop-drop, get_or_append_left, get_or_push}
use Rattle.std.specs.List.{All}
use Rattle.pac_countdown.specs.Lists.{one_if, times_in, pair_times, sum_over, below, except, keep_if}
use Rattle.pac_countdown.specs.Counted.{InOrder, agenda_pairs}
use Rattle.pac_countdown.specs.Steps.{handed_more, after_open, after_split, after_join, lent_deeds, AreBelow, IsAll}
use Rattle.pac_countdown.specs.HandOut.{IsUnworked, IsWorkedOff, opener_deeds, AreDistinctBelow, HasJoined}
use Rattle.pac_countdown.specs.Shares.{times_in_all, AreOrdered}
use Rattle.pac_countdown.specs.declared.deeds.Deeds.{Deeds}
use Rattle.pac_countdown.specs.declared.deeds.PassKind.TheVariants.{Opener}
use Rattle.pac_countdown.specs.declared.countdown.Countdown.{Countdown}
use Rattle.pac_countdown.specs.declared.worker.Worker.{Worker}
use Rattle.pac_countdown.proofs.Sums.{same_yes, same_no, times_snoc, times_append, pair_times_append, over_snoc}
use Rattle.pac_countdown.proofs.Hands.{all_these}
use Rattle.pac_countdown.proofs.Facts.{below_none}

pub length_below : (n : ℕ) → length (below n) ≡ n
length_below zero = refl
length_below (suc n) = let r = length_below n in omega (arith, length-append (below n) (n ∷ []))

pub opened_on : (v w : Deeds) (n : ℕ) (xs ys : List ℕ) (b : Bool) → v ≡ opener_deeds n xs 0 → w ≡ after_open v (length v.opened) b → ys ≡ handed_more xs n b → w ≡ opener_deeds (n + 1) ys 0
opened_on v w n xs ys b is did more = did ∙ ap (λ (u : Deeds). after_open u (length u.opened) b) is
    ∙ ap (λ (k : ℕ). after_open (opener_deeds n xs 0) k b) (length_below n)
    ∙ (λ i. record { kind = Opener; opened = below (sym (add-one n) i); counted = []; handed = sym more i; splits = 0; joins = 0 })

pub distinct_on : (n : ℕ) (xs ys : List ℕ) (b : Bool) → AreDistinctBelow n xs → ys ≡ handed_more xs n b → AreDistinctBelow (n + 1) ys
distinct_on n xs ys true d is = record { differ = differ; few = few }
  where
    none_yet : times_in n xs ≡ 0
    none_yet = dite (ℕ_discrete (times_in n xs) 0) (λ z. z) (λ ne. let f = d.few n (omega arith) in absurd (omega arith))

    differ : (p : ℕ) → times_in p ys ≤ 1
    differ p = let a = ap (times_in p) is in let b = times_snoc p xs n in let c = d.differ p in dite (ℕ_discrete p n)
        (λ e. let y = same_yes p n e in let z : times_in p xs ≡ 0 = ap (λ (k : ℕ). times_in k xs) e ∙ none_yet in omega arith)
        (λ ne. let y = same_no p n ne in omega arith)

    few : (p : ℕ) → 0 < times_in p ys → p < n + 1
    few p h = let a = ap (times_in p) is in let b = times_snoc p xs n in dite (ℕ_discrete p n) (λ e. omega arith) (λ ne. let y = same_no p n ne in let f = d.few p (omega arith) in omega arith)
distinct_on n xs ys false d is = record { differ = λ p. let a = ap (times_in p) is in let c = d.differ p in omega arith; few = λ p h. let a = ap (times_in p) is in let f = d.few p (omega arith) in omega arith }

times_take : (p n : ℕ) (xs : List ℕ) → times_in p (take n xs) ≤ times_in p xs
times_take p zero xs = omega arith
times_take p (suc n) [] = omega arith
times_take p (suc n) (x ∷ xs) = let r = times_take p n xs in omega arith

times_drop : (p n : ℕ) (xs : List ℕ) → times_in p (drop n xs) ≤ times_in p xs
times_drop p zero xs = omega arith
times_drop p (suc n) [] = omega arith
times_drop p (suc n) (x ∷ xs) = let r = times_drop p n xs in omega arith

pub part_differ : (xs ys : List ℕ) (n k : ℕ) → ((p : ℕ) → times_in p xs ≤ 1) → ys ≡ take n (drop k xs) → (p : ℕ) → times_in p ys ≤ 1
part_differ xs ys n k differ is p = let a = ap (times_in p) is in let b = times_take p n (drop k xs) in let c = times_drop p k xs in let d = differ p in omega arith

pub part_there : (xs ys : List ℕ) (n : ℕ) → ys ≡ take n xs → (p : ℕ) → 0 < times_in p ys → 0 < times_in p xs
part_there xs ys n is p h = let a = ap (times_in p) is in let b = times_take p n xs in omega arith

pub part_distinct : (bound : ℕ) (xs ys : List ℕ) (n k : ℕ) → AreDistinctBelow bound xs → ys ≡ take n (drop k xs) → AreDistinctBelow bound ys
part_distinct bound xs ys n k d is = record {
  differ = part_differ xs ys n k d.differ is;
  few = λ p h. let a = ap (times_in p) is in let b = times_take p n (drop k xs) in let c = times_drop p k xs in d.few p (omega arith);
}

keep_same : (n m x : ℕ) (xs : List ℕ) → n ≡ m → keep_if n x xs ≡ keep_if m x xs
keep_same n m x xs e = ap (λ (k : ℕ). keep_if k x xs) e

keep_positive : (n x : ℕ) (xs : List ℕ) → 0 < n → keep_if n x xs ≡ xs
keep_positive zero x xs h = absurd (omega arith)
keep_positive (suc n) x xs h = refl

-- a list without others
except_others : (share xs : List ℕ) → ((p : ℕ) → 0 < times_in p xs → times_in p share ≡ 0) → except share xs ≡ xs
except_others share [] h = refl
except_others share (x ∷ xs) h = let one = same_yes x x refl in keep_same (times_in x share) 0 x (except share xs) (h x (omega arith))
    ∙ ap (λ (l : List ℕ). x ∷ l) (except_others share xs (λ p t. h p (omega arith)))

-- a list without its own members and none of another's
except_first : (share xs ys : List ℕ) → ((p : ℕ) → 0 < times_in p xs → 0 < times_in p share) → except share (xs ++ ys) ≡ except share ys
except_first share [] ys h = refl
except_first share (x ∷ xs) ys h = let one = same_yes x x refl in keep_positive (times_in x share) x (except share (xs ++ ys)) (h x (omega arith)) ∙ except_first share xs ys (λ p t. h p (omega arith))

except_front : (xs ys : List ℕ) → ((p : ℕ) → times_in p (xs ++ ys) ≤ 1) → except xs (xs ++ ys) ≡ ys
except_front xs ys differ = except_first xs xs ys (λ p t. t) ∙ except_others xs ys (λ p t. let a = times_append p xs ys in let d = differ p in omega arith)

pub except_rest : (xs : List ℕ) (n : ℕ) → ((p : ℕ) → times_in p xs ≤ 1) → except (take n xs) xs ≡ drop n xs
except_rest xs n differ = let whole : take n xs ++ drop n xs ≡ xs = take-append-drop n xs in
    ap (except (take n xs)) (sym whole) ∙ except_front (take n xs) (drop n xs) (λ p. let a = ap (times_in p) whole in let d = differ p in omega arith)

-- a share was lent
pub dealt : (v w : Deeds) (pieces at count lent : ℕ) (ready share : List ℕ) → AreDistinctBelow pieces ready → v ≡ opener_deeds pieces (drop at ready) lent → w ≡ after_split share v
    → share ≡ take count (drop at ready) → w ≡ opener_deeds pieces (drop (at + count) ready) (lent + 1)
dealt v w pieces at count lent ready share d is did cut = did ∙ ap (after_split share) is
    ∙ (λ i. record { kind = Opener; opened = below pieces; counted = []; handed = rest_is i; splits = lent + 1; joins = 0 })
  where
    rest_is : except share (drop at ready) ≡ drop (at + count) ready
    rest_is = ap (λ (l : List ℕ). except l (drop at ready)) cut
        ∙ except_rest (drop at ready) count (λ p. let a = times_drop p at ready in let b = d.differ p in omega arith)
        ∙ drop-drop count at ready

pub makes_new : (countdown : Countdown) (worker : Worker) → worker.pass.countdown ≡ countdown.id → worker.pass.deeds ≡ lent_deeds worker.pieces.items → AreDistinctBelow countdown.agenda.pieces worker.pieces.items → IsUnworked countdown worker
makes_new countdown worker of is distinct = record {
  held = record { of = of; lent = ap (λ (v : Deeds). v.kind) is; handed = ap (λ (v : Deeds). v.handed) is; distinct = distinct };
  none_counted = ap (λ (v : Deeds). v.counted) is;
}

ordered_snoc : (pairs : List (ℕ × ℕ)) (shares : List (List ℕ)) (share : List ℕ) → AreOrdered pairs shares → InOrder pairs share → AreOrdered pairs (shares ++ share ∷ [])
ordered_snoc pairs [] share a o = (o, tt)
ordered_snoc pairs (x ∷ xs) share a o = (a.0, ordered_snoc pairs xs share a.1 o)

pub starts_joined : (pairs : List (ℕ × ℕ)) (pieces left : ℕ) (v : Deeds) → v ≡ opener_deeds pieces [] left → HasJoined pairs pieces left [] v
starts_joined pairs pieces left v is = subst (HasJoined pairs pieces left []) (sym is)
    (record { kind = refl; opened = refl; splits = omega arith; handed = λ p. refl; counted = λ q h t. absurd (omega arith); ordered = tt })

-- one pass more was joined
pub joined_on : (countdown : Countdown) (pieces left : ℕ) (shares : List (List ℕ)) (v w : Deeds) (worker : Worker) → HasJoined (agenda_pairs countdown.agenda) pieces (left + 1) shares v → IsWorkedOff countdown worker
    → w ≡ after_join v worker.pass.deeds → HasJoined (agenda_pairs countdown.agenda) pieces left (shares ++ worker.pieces.items ∷ []) w
joined_on countdown pieces left shares v w worker j d is = subst (HasJoined (agenda_pairs countdown.agenda) pieces left (shares ++ worker.pieces.items ∷ [])) (sym is) (record {
  kind = j.kind;
  opened = j.opened;
  splits = let s = j.splits in omega arith;
  handed = λ p. let a = times_append p v.handed worker.pass.deeds.handed in let b = j.handed p in let c = ap (times_in p) d.held.handed in let e = over_snoc (λ (l : List ℕ). times_in p l) shares worker.pieces.items in omega arith;
  counted = λ q h t. let a = times_append q.0 v.handed worker.pass.deeds.handed in let b = pair_times_append q v.counted worker.pass.deeds.counted in let c = ap (times_in q.0) d.held.handed in
      let e = ap (pair_times q) d.counted in dite (ℕ_discrete (times_in q.0 v.handed) 0)
      (λ z. let k = all_these (agenda_pairs countdown.agenda) q worker.pieces.items (omega arith) t in omega arith)
      (λ ne. let k = j.counted q (omega arith) t in omega arith);
  ordered = ordered_snoc (agenda_pairs countdown.agenda) shares worker.pieces.items j.ordered d.ordered;
})

-- what holds of each holds of those before the last, and of the last
pub all_front : {X : Type 0} (P : X → Type 0) (xs ys : List X) (x : X) → All P xs → xs ≡ ys ++ x ∷ [] → All P ys × P x
all_front P xs ys x h e = let l = subst (All P) e h in (
  (λ k d less. subst P (get_or_append_left ys (x ∷ []) d k less) (l k d (omega (arith, length-append ys (x ∷ []))))),
  subst P (get_or_push ys x x (length ys) refl) (l (length ys) x (omega (arith, length-append ys (x ∷ [])))),
)

below_there : (n p : ℕ) → p < n → 0 < times_in p (below n)
below_there zero p h = absurd (omega arith)
below_there (suc n) p h = let s = times_snoc p (below n) n in dite (ℕ_discrete p n) (λ e. let y = same_yes p n e in omega arith) (λ ne. let r = below_there n p (omega arith) in omega arith)

-- where all are joined, each piece stands once in the lists, and nothing else does
module _ (pairs : List (ℕ × ℕ)) (n : ℕ) (wide : AreBelow n pairs) (shares : List (List ℕ)) (v : Deeds) (j : HasJoined pairs n 0 shares v) (all : IsAll pairs v) where
  -- a piece before which all were handed out is handed out
  next_handed : (p : ℕ) → p < n → ((e : ℕ) → e < p → 0 < times_in e v.handed) → 0 < times_in p v.handed
  next_handed p less before = all.handed p (
    (let o = ap (times_in p) j.opened in let b = below_there n p less in omega arith),
    (λ e is. j.counted (e, p) (before e (wide (e, p) is).0) is),
  )

  each_before : (k p : ℕ) → p < k → p < n → 0 < times_in p v.handed
  each_before zero p h less = absurd (omega arith)
  each_before (suc k) p h less = next_handed p less (λ e before. each_before k e (omega arith) (omega arith))

  none_beyond : (p : ℕ) → n ≤ p → times_in p v.handed ≡ 0
  none_beyond p far = dite (ℕ_discrete (times_in p v.handed) 0) (λ z. z)
      (λ ne. let r = all.due p (omega arith) in let o = ap (times_in p) j.opened in let b = below_none n p far in let m = r.0 in absurd (omega arith))

  pub each_once : (p : ℕ) → times_in_all p shares ≡ one_if (nat_lt p n)
  each_once p = let s = j.handed p in let o = all.once p in dite (native.Mathlib.Decide.dec_le n p)
      (λ far. let z = none_beyond p far in let t = ap one_if (le-ltb p n far) in omega arith)
      (λ near. let e = each_before n p (omega arith) (omega arith) in let less : p < n = omega arith in let t = ap one_if (lt-ltb p n less) in omega arith)
