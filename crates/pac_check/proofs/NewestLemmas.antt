-- Which of two slots is the newest, while the other one is closed and written.
use Rattle.std.proofs.Common.{◌≡◌, ◌∙◌, ◌<◌, Bool, true, false, if◌then◌else◌, Some, refl, ap, arith}
use Rattle.std.specs.Prelude.{nat_lt}
use Rattle.std.proofs.lemmas.Bool.{lt-ltb, le-ltb}
use Rattle.pac_check.specs.declared.head.Head.{Head}
use Rattle.pac_check.specs.declared.info.SlotInfo.{SlotInfo}
use Rattle.pac_check.specs.declared.info.SlotName.TheVariants.{A, B}
use Rattle.pac_check.specs.declared.state.SlotState.{SlotState}
use Rattle.pac_check.specs.declared.state.SlotState.TheVariants.{Empty, Closed, Open}
use Rattle.pac_check.specs.SlotStates.{info_of, info_with, newest_among, spare_beside, IsAbove}

-- ---- of two open slots

module _ (h g : Head) where
  abbrev first : SlotInfo
  first = info_with A h

  abbrev second : SlotInfo
  second = info_with B g

  closed_first : (t : Bool) → nat_lt h.txns g.txns ≡ t → spare_beside (if t then Some second else Some first) ≡ A → Some second ≡ (if t then Some second else Some first)
  closed_first true is e = refl
  closed_first false is e = absurd cc

  closed_second : (t : Bool) → nat_lt h.txns g.txns ≡ t → spare_beside (if t then Some second else Some first) ≡ B → Some first ≡ (if t then Some second else Some first)
  closed_second true is e = absurd cc
  closed_second false is e = refl

-- ---- closing the slot that isn't the newest changes nothing

pub closed_a : (a b : SlotState) → spare_beside (newest_among a b) ≡ A → newest_among Closed b ≡ newest_among a b
closed_a Empty b e = refl
closed_a Closed b e = refl
closed_a (Open h) Empty e = absurd cc
closed_a (Open h) Closed e = absurd cc
closed_a (Open h) (Open g) e = closed_first h g (nat_lt h.txns g.txns) refl e

pub closed_b : (a b : SlotState) → spare_beside (newest_among a b) ≡ B → newest_among a Closed ≡ newest_among a b
closed_b Empty Empty e = refl
closed_b Empty Closed e = refl
closed_b Empty (Open g) e = absurd cc
closed_b Closed Empty e = refl
closed_b Closed Closed e = refl
closed_b Closed (Open g) e = absurd cc
closed_b (Open h) Empty e = refl
closed_b (Open h) Closed e = refl
closed_b (Open h) (Open g) e = closed_second h g (nat_lt h.txns g.txns) refl e

-- ---- opening it with a greater number makes it the newest

more_first : (h g : Head) → g.txns < h.txns → newest_among (Open h) (Open g) ≡ Some (info_with A h)
more_first h g more = let test : nat_lt h.txns g.txns ≡ false = le-ltb h.txns g.txns (omega (arith, more)) in rw test refl

more_second : (h g : Head) → h.txns < g.txns → newest_among (Open h) (Open g) ≡ Some (info_with B g)
more_second h g more = let test : nat_lt h.txns g.txns ≡ true = lt-ltb h.txns g.txns more in rw test refl

pub opened_a : (a b : SlotState) (head : Head) → spare_beside (newest_among a b) ≡ A → IsAbove (newest_among a b) head.txns → newest_among (Open head) b ≡ Some (info_with A head)
opened_a a Empty head e above = refl
opened_a a Closed head e above = refl
opened_a Empty (Open g) head e above = more_first head g above
opened_a Closed (Open g) head e above = more_first head g above
opened_a (Open h) (Open g) head e above = go (nat_lt h.txns g.txns) refl e above
  where
    go : (t : Bool) → nat_lt h.txns g.txns ≡ t → spare_beside (if t then Some (info_with B g) else Some (info_with A h)) ≡ A → IsAbove (if t then Some (info_with B g) else Some (info_with A h)) head.txns → newest_among (Open head) (Open g) ≡ Some (info_with A head)
    go true is s more = more_first head g more
    go false is s more = absurd cc

pub opened_b : (a b : SlotState) (head : Head) → spare_beside (newest_among a b) ≡ B → IsAbove (newest_among a b) head.txns → newest_among a (Open head) ≡ Some (info_with B head)
opened_b Empty b head e above = refl
opened_b Closed b head e above = refl
opened_b (Open h) Empty head e above = more_second h head above
opened_b (Open h) Closed head e above = more_second h head above
opened_b (Open h) (Open g) head e above = go (nat_lt h.txns g.txns) refl e above
  where
    go : (t : Bool) → nat_lt h.txns g.txns ≡ t → spare_beside (if t then Some (info_with B g) else Some (info_with A h)) ≡ B → IsAbove (if t then Some (info_with B g) else Some (info_with A h)) head.txns → newest_among (Open h) (Open head) ≡ Some (info_with B head)
    go true is s more = absurd cc
    go false is s more = more_second h head more

-- ---- the newest of two is one of them

not_in_a : (g : Head) (info : SlotInfo) → Some (info_with B g) ≡ Some info → info.slot ≡ A → ⊥
not_in_a g info e at = let slot : B ≡ A = ap (λ (i : SlotInfo). i.slot) (one e) ∙ at in absurd cc
  where
    one : Some (info_with B g) ≡ Some info → info_with B g ≡ info
    one h = cc

not_in_b : (h : Head) (info : SlotInfo) → Some (info_with A h) ≡ Some info → info.slot ≡ B → ⊥
not_in_b h info e at = let slot : A ≡ B = ap (λ (i : SlotInfo). i.slot) (one e) ∙ at in absurd cc
  where
    one : Some (info_with A h) ≡ Some info → info_with A h ≡ info
    one k = cc

pub of_a : (a b : SlotState) (info : SlotInfo) → newest_among a b ≡ Some info → info.slot ≡ A → info_of A a ≡ Some info
of_a Empty Empty info e at = absurd cc
of_a Empty Closed info e at = absurd cc
of_a Empty (Open g) info e at = absurd (not_in_a g info e at)
of_a Closed Empty info e at = absurd cc
of_a Closed Closed info e at = absurd cc
of_a Closed (Open g) info e at = absurd (not_in_a g info e at)
of_a (Open h) Empty info e at = e
of_a (Open h) Closed info e at = e
of_a (Open h) (Open g) info e at = go (nat_lt h.txns g.txns) e
  where
    go : (t : Bool) → (if t then Some (info_with B g) else Some (info_with A h)) ≡ Some info → Some (info_with A h) ≡ Some info
    go true second = absurd (not_in_a g info second at)
    go false first = first

pub of_b : (a b : SlotState) (info : SlotInfo) → newest_among a b ≡ Some info → info.slot ≡ B → info_of B b ≡ Some info
of_b Empty b info e at = e
of_b Closed b info e at = e
of_b (Open h) Empty info e at = absurd (not_in_b h info e at)
of_b (Open h) Closed info e at = absurd (not_in_b h info e at)
of_b (Open h) (Open g) info e at = go (nat_lt h.txns g.txns) e
  where
    go : (t : Bool) → (if t then Some (info_with B g) else Some (info_with A h)) ≡ Some info → Some (info_with B g) ≡ Some info
    go true second = second
    go false first = absurd (not_in_b h info first at)
