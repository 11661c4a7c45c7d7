-- The pairs of the pieces that were handed out.
use Rattle.std.proofs.Common.{◌≡◌, ◌≢◌, ℕ, zero, suc, ◌+◌, ◌*◌, ◌<◌, ◌≤◌, Bool, true, false, eqb, List, [], ◌∷◌, ◌++◌, length, get_or, take, sym, refl, ap, ◌∙◌, eq-eqb, ne_eqb, append_assoc, append-nil, length-append, arith}
use mathlib.Core.Logic.{dite}
use native.Mathlib.Decide.{ℕ_discrete}
use Rattle.std.proofs.lemmas.List.{take_more, take-append-le}
use Rattle.pac_countdown.specs.Lists.{one_if, same, same_pair, times_in, pair_times}
use Rattle.pac_countdown.specs.Steps.{handed_more, after_count}
use Rattle.pac_countdown.specs.HandOut.{cons_if, paired, pairs_from, pairs_of_all, IsHeld, CountsFrom}
use Rattle.pac_countdown.specs.declared.deeds.Deeds.{Deeds}
use Rattle.pac_countdown.specs.declared.countdown.Countdown.{Countdown}
use Rattle.pac_countdown.specs.declared.worker.Worker.{Worker}
use Rattle.pac_countdown.proofs.Sums.{same_yes, same_no, pair_yes, pair_no, pair_times_append, times_snoc}

cons_times : (q x : ℕ × ℕ) (b : Bool) (xs : List (ℕ × ℕ)) → pair_times q (cons_if b x xs) ≡ same_pair q x * one_if b + pair_times q xs
cons_times q x true xs = omega arith
cons_times q x false xs = omega arith

from_less : (q : ℕ × ℕ) (xs : List (ℕ × ℕ)) (p : ℕ) → pair_times q (pairs_from xs p) ≤ pair_times q xs
from_less q [] p = omega arith
from_less q (x ∷ xs) p = by_test (eqb x.0 p) (from_less q xs p)
  where
    by_test : (b : Bool) → pair_times q (pairs_from xs p) ≤ pair_times q xs → pair_times q (cons_if b x (pairs_from xs p)) ≤ same_pair q x + pair_times q xs
    by_test true r = omega arith
    by_test false r = omega arith

pub from_there : (q : ℕ × ℕ) (xs : List (ℕ × ℕ)) (p : ℕ) → q.0 ≡ p → pair_times q (pairs_from xs p) ≡ pair_times q xs
from_there q [] p e = refl
from_there q (x ∷ xs) p e = by_test (eqb x.0 p) refl (from_there q xs p e)
  where
    by_test : (b : Bool) → eqb x.0 p ≡ b → pair_times q (pairs_from xs p) ≡ pair_times q xs → pair_times q (cons_if b x (pairs_from xs p)) ≡ same_pair q x + pair_times q xs
    by_test true is r = omega arith
    by_test false is r = let z = pair_no q x (λ (h : q ≡ x). let y : eqb x.0 p ≡ true = eq-eqb x.0 p (sym (ap (λ (k : ℕ × ℕ). k.0) h) ∙ e) in let n : true ≡ false = sym y ∙ is in absurd (cc)) in omega arith

pub from_other : (q : ℕ × ℕ) (xs : List (ℕ × ℕ)) (p : ℕ) → q.0 ≢ p → pair_times q (pairs_from xs p) ≡ 0
from_other q [] p ne = refl
from_other q (x ∷ xs) p ne = dite (ℕ_discrete x.0 p)
    (λ e. let z = pair_no q x (λ (h : q ≡ x). ne (ap (λ (k : ℕ × ℕ). k.0) h ∙ e)) in let r = from_other q xs p ne in let b = cons_times q x (eqb x.0 p) (pairs_from xs p) in
    b ∙ ap (λ (k : ℕ). k * one_if (eqb x.0 p) + pair_times q (pairs_from xs p)) z ∙ omega arith)
    (λ m. let r = from_other q xs p ne in let b = cons_times q x (eqb x.0 p) (pairs_from xs p) in
    b ∙ ap (λ (k : Bool). same_pair q x * one_if k + pair_times q (pairs_from xs p)) (ne_eqb x.0 p m) ∙ omega arith)

cons_append : (b : Bool) (x : ℕ × ℕ) (xs ys : List (ℕ × ℕ)) → cons_if b x (xs ++ ys) ≡ cons_if b x xs ++ ys
cons_append true x xs ys = refl
cons_append false x xs ys = refl

from_append : (xs ys : List (ℕ × ℕ)) (p : ℕ) → pairs_from (xs ++ ys) p ≡ pairs_from xs p ++ pairs_from ys p
from_append [] ys p = refl
from_append (x ∷ xs) ys p = ap (cons_if (eqb x.0 p) x) (from_append xs ys p) ∙ cons_append (eqb x.0 p) x (pairs_from xs p) (pairs_from ys p)

-- one pair further
pub from_yes : (xs : List (ℕ × ℕ)) (k : ℕ) (p : ℕ) → k < length xs → (get_or xs k (0, 0)).0 ≡ p → pairs_from (take (k + 1) xs) p ≡ pairs_from (take k xs) p ++ get_or xs k (0, 0) ∷ []
from_yes xs k p h e = ap (λ (l : List (ℕ × ℕ)). pairs_from l p) (take_more xs k (0, 0) h) ∙ from_append (take k xs) (get_or xs k (0, 0) ∷ []) p
    ∙ ap (λ (b : Bool). pairs_from (take k xs) p ++ cons_if b (get_or xs k (0, 0)) []) (eq-eqb (get_or xs k (0, 0)).0 p e)

pub from_no : (xs : List (ℕ × ℕ)) (k : ℕ) (p : ℕ) → k < length xs → (get_or xs k (0, 0)).0 ≢ p → pairs_from (take (k + 1) xs) p ≡ pairs_from (take k xs) p
from_no xs k p h ne = ap (λ (l : List (ℕ × ℕ)). pairs_from l p) (take_more xs k (0, 0) h) ∙ from_append (take k xs) (get_or xs k (0, 0) ∷ []) p
    ∙ ap (λ (b : Bool). pairs_from (take k xs) p ++ cons_if b (get_or xs k (0, 0)) []) (ne_eqb (get_or xs k (0, 0)).0 p ne) ∙ append-nil (pairs_from (take k xs) p)

pub paired_append : (p : ℕ) (xs ys : List ℕ) → paired p (xs ++ ys) ≡ paired p xs ++ paired p ys
paired_append p [] ys = refl
paired_append p (x ∷ xs) ys = ap (λ (l : List (ℕ × ℕ)). (p, x) ∷ l) (paired_append p xs ys)

-- one later piece further
pub paired_more : (p : ℕ) (xs : List ℕ) (k : ℕ) → k < length xs → paired p (take (k + 1) xs) ≡ paired p (take k xs) ++ (p, get_or xs k 0) ∷ []
paired_more p xs k h = ap (paired p) (take_more xs k 0 h) ∙ paired_append p (take k xs) (get_or xs k 0 ∷ [])

paired_take : (q : ℕ × ℕ) (p : ℕ) (xs : List ℕ) (k : ℕ) → k < length xs
    → pair_times q (paired p (take k xs)) + same_pair q (p, get_or xs k 0) ≤ pair_times q (paired p xs)
paired_take q p [] k h = absurd (omega arith)
paired_take q p (x ∷ xs) zero h = omega arith
paired_take q p (x ∷ xs) (suc k) h = let r = paired_take q p xs k (omega arith) in omega arith

-- a piece and its later one at k are a pair
pub paired_there : (pairs : List (ℕ × ℕ)) (laters : List ℕ) (from k : ℕ) → paired from laters ≡ pairs_from pairs from → k < length laters → 0 < pair_times (from, get_or laters k 0) pairs
paired_there pairs laters from k are h =
    let a = paired_take (from, get_or laters k 0) from laters k h in
    let b = ap (pair_times (from, get_or laters k 0)) are in
    let c = from_less (from, get_or laters k 0) pairs from in
    let one = pair_yes (from, get_or laters k 0) in omega arith

-- the pair at k wasn't counted yet
pub from_new : (pairs old : List (ℕ × ℕ)) (laters : List ℕ) (from k : ℕ) → ((q : ℕ × ℕ) → pair_times q pairs ≤ 1) → ((t : ℕ) → pair_times (from, t) old ≡ 0)
    → paired from laters ≡ pairs_from pairs from → k < length laters → pair_times (from, get_or laters k 0) (old ++ paired from (take k laters)) ≡ 0
from_new pairs old laters from k once new are h =
    let a = pair_times_append (from, get_or laters k 0) old (paired from (take k laters)) in
    let b = new (get_or laters k 0) in
    let c = paired_take (from, get_or laters k 0) from laters k h in
    let d = ap (pair_times (from, get_or laters k 0)) are in
    let e = from_less (from, get_or laters k 0) pairs from in
    let one = pair_yes (from, get_or laters k 0) in
    let o = once (from, get_or laters k 0) in omega arith

all_append : (pairs : List (ℕ × ℕ)) (xs ys : List ℕ) → pairs_of_all pairs (xs ++ ys) ≡ pairs_of_all pairs xs ++ pairs_of_all pairs ys
all_append pairs [] ys = refl
all_append pairs (x ∷ xs) ys = ap (λ (l : List (ℕ × ℕ)). pairs_from pairs x ++ l) (all_append pairs xs ys) ∙ sym (append_assoc (pairs_from pairs x) (pairs_of_all pairs xs) (pairs_of_all pairs ys))

-- no pair of another piece
pub all_other : (pairs : List (ℕ × ℕ)) (p t : ℕ) (xs : List ℕ) → times_in p xs ≡ 0 → pair_times (p, t) (pairs_of_all pairs xs) ≡ 0
all_other pairs p t [] h = refl
all_other pairs p t (x ∷ xs) h = dite (ℕ_discrete p x) (λ e. let y = same_yes p x e in absurd (omega arith))
    (λ ne. let r = all_other pairs p t xs (omega arith) in let a = pair_times_append (p, t) (pairs_from pairs x) (pairs_of_all pairs xs) in let o = from_other (p, t) pairs x ne in omega arith)

-- each pair of these pieces
pub all_these : (pairs : List (ℕ × ℕ)) (q : ℕ × ℕ) (xs : List ℕ) → 0 < times_in q.0 xs → 0 < pair_times q pairs → 0 < pair_times q (pairs_of_all pairs xs)
all_these pairs q [] h is = absurd (omega arith)
all_these pairs q (x ∷ xs) h is = let a = pair_times_append q (pairs_from pairs x) (pairs_of_all pairs xs) in dite (ℕ_discrete q.0 x)
    (λ e. let f = from_there q pairs x e in omega arith)
    (λ ne. let z = same_no q.0 x ne in let r = all_these pairs q xs (omega arith) is in omega arith)

grows_more : (start xs ys : List ℕ) (p : ℕ) (b : Bool) → ys ≡ handed_more xs p b → (more : List ℕ) × (xs ≡ start ++ more) → (more : List ℕ) × (ys ≡ start ++ more)
grows_more start xs ys p true is g = (g.0 ++ p ∷ [], is ∙ ap (λ (l : List ℕ). l ++ p ∷ []) g.1 ∙ append_assoc start g.0 (p ∷ []))
grows_more start xs ys p false is g = (g.0, is ∙ g.1)

differ_more : (xs ys : List ℕ) (p : ℕ) (b : Bool) → ys ≡ handed_more xs p b → times_in p xs ≡ 0 → ((q : ℕ) → times_in q xs ≤ 1) → (q : ℕ) → times_in q ys ≤ 1
differ_more xs ys p true is fresh h q = let a = ap (times_in q) is in let b = times_snoc q xs p in let c = h q in dite (ℕ_discrete q p)
    (λ e. let y = same_yes q p e in let z : times_in q xs ≡ 0 = ap (λ (k : ℕ). times_in k xs) e ∙ fresh in omega arith)
    (λ ne. let y = same_no q p ne in omega arith)
differ_more xs ys p false is fresh h q = let a = ap (times_in q) is in let c = h q in omega arith

few_more : (n : ℕ) (xs ys : List ℕ) (p : ℕ) (b : Bool) → ys ≡ handed_more xs p b → p < n → ((q : ℕ) → 0 < times_in q xs → q < n) → (q : ℕ) → 0 < times_in q ys → q < n
few_more n xs ys p true is less h q there = let a = ap (times_in q) is in let b = times_snoc q xs p in dite (ℕ_discrete q p)
    (λ e. omega arith)
    (λ ne. let z = same_no q p ne in h q (omega arith))
few_more n xs ys p false is less h q there = let a = ap (times_in q) is in h q (omega arith)

-- the pair at k is counted
pub counts_on : (countdown : Countdown) (start worker next : Worker) (laters : List ℕ) (k from : ℕ) (b : Bool) → CountsFrom countdown start worker (take k laters) from → k < length laters
    → get_or laters k 0 < countdown.agenda.pieces → next.pass.countdown ≡ countdown.id → times_in (get_or laters k 0) worker.pass.deeds.handed ≡ 0
    → next.pass.deeds ≡ after_count worker.pass.deeds from (get_or laters k 0) b → next.pieces.items ≡ handed_more worker.pieces.items (get_or laters k 0) b
    → CountsFrom countdown start next (take (k + 1) laters) from
counts_on countdown start worker next laters k from b c inside few of fresh did pieces =
    record { held = held; grows = grows_more start.pieces.items worker.pieces.items next.pieces.items (get_or laters k 0) b pieces c.grows; counted = counted }
  where
    held : IsHeld countdown next
    held = record {
      of = of;
      lent = ap (λ (v : Deeds). v.kind) did ∙ c.held.lent;
      handed = ap (λ (v : Deeds). v.handed) did ∙ ap (λ (l : List ℕ). handed_more l (get_or laters k 0) b) c.held.handed ∙ sym pieces;
      distinct = record {
        differ = differ_more worker.pieces.items next.pieces.items (get_or laters k 0) b pieces (ap (times_in (get_or laters k 0)) (sym c.held.handed) ∙ fresh) c.held.distinct.differ;
        few = few_more countdown.agenda.pieces worker.pieces.items next.pieces.items (get_or laters k 0) b pieces few c.held.distinct.few;
      };
    }

    counted : next.pass.deeds.counted ≡ start.pass.deeds.counted ++ paired from (take (k + 1) laters)
    counted = ap (λ (v : Deeds). v.counted) did ∙ ap (λ (l : List (ℕ × ℕ)). l ++ (from, get_or laters k 0) ∷ []) c.counted
        ∙ append_assoc start.pass.deeds.counted (paired from (take k laters)) ((from, get_or laters k 0) ∷ [])
        ∙ ap (λ (l : List (ℕ × ℕ)). start.pass.deeds.counted ++ l) (sym (paired_more from laters k inside))

pub times_at : (xs : List ℕ) (k d : ℕ) → k < length xs → 0 < times_in (get_or xs k d) xs
times_at [] k d h = absurd (omega arith)
times_at (x ∷ xs) zero d h = let one = same_yes x x refl in omega arith
times_at (x ∷ xs) (suc k) d h = let r = times_at xs k d (omega arith) in omega arith

take_most : (p : ℕ) (xs : List ℕ) (k d : ℕ) → k < length xs → times_in p (take k xs) + same p (get_or xs k d) ≤ times_in p xs
take_most p [] k d h = absurd (omega arith)
take_most p (x ∷ xs) zero d h = omega arith
take_most p (x ∷ xs) (suc k) d h = let r = take_most p xs k d (omega arith) in omega arith

-- a piece doesn't stand before itself
pub fresh_at : (xs : List ℕ) (k d : ℕ) → ((p : ℕ) → times_in p xs ≤ 1) → k < length xs → times_in (get_or xs k d) (take k xs) ≡ 0
fresh_at xs k d differ h = let a = take_most (get_or xs k d) xs k d h in let b = differ (get_or xs k d) in let c = same_yes (get_or xs k d) (get_or xs k d) refl in omega arith

-- the pairs of one piece more
pub all_on : (pairs : List (ℕ × ℕ)) (xs ys : List ℕ) (k d : ℕ) → k < length xs → (more : List ℕ) × (ys ≡ xs ++ more)
    → pairs_of_all pairs (take (k + 1) ys) ≡ pairs_of_all pairs (take k xs) ++ pairs_from pairs (get_or xs k d)
all_on pairs xs ys k d h g = ap (λ (l : List ℕ). pairs_of_all pairs (take (k + 1) l)) g.1 ∙ ap (pairs_of_all pairs) (take-append-le (k + 1) xs g.0 (omega arith) ∙ take_more xs k d h)
    ∙ all_append pairs (take k xs) (get_or xs k d ∷ []) ∙ ap (λ (l : List (ℕ × ℕ)). pairs_of_all pairs (take k xs) ++ l) (append-nil (pairs_from pairs (get_or xs k d)))

pub longer : (xs ys : List ℕ) (k : ℕ) → k < length xs → (more : List ℕ) × (ys ≡ xs ++ more) → k + 1 ≤ length ys
longer xs ys k h g = let a = ap (length {A = ℕ}) g.1 in let b = length-append xs g.0 in omega arith
