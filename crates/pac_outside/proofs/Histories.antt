-- Calls of a disk one after another.
use Rattle.std.proofs.Common.{◌≡◌, List, [], ◌∷◌, ◌++◌, ℕ, Option, Some, None, Result, Ok, Err, OnOk, refl, sym, ap, subst, ◌∙◌, append_assoc}
use Rattle.std.specs.List.{AllByRecursion}
use Rattle.std.proofs.lemmas.List.{append-nil, append_cancel_right}
use Rattle.pac_outside.specs.Disk.{DiskState, DiskHistory, Leaves, LeavesOnly, BothKnown, states}

all_append : (P : DiskState → Type 0) (xs ys : List DiskState) → AllByRecursion P xs → AllByRecursion P ys → AllByRecursion P (xs ++ ys)
all_append P [] ys left right = right
all_append P (x ∷ xs) ys left right = (left.0, all_append P xs ys left.1 right)

pub all_weaken : (P Q : DiskState → Type 0) → ((state : DiskState) → P state → Q state) → (xs : List DiskState) → AllByRecursion P xs → AllByRecursion Q xs
all_weaken P Q weaker [] all = tt
all_weaken P Q weaker (x ∷ xs) all = (weaker x all.0, all_weaken P Q weaker xs all.1)

-- one run of calls after another
pub goes_on : (P : List ℕ → Type 0) (a b c : DiskHistory) → LeavesOnly P a b → LeavesOnly P b c → LeavesOnly P a c
goes_on P a b c first next = record {
  since = first.since ++ next.since;
  grown = next.grown ∙ ap (λ past. past ++ next.since) first.grown ∙ append_assoc (states a) first.since next.since;
  first = first.first;
  each = all_append (Leaves P) first.since next.since first.each next.each;
}

pub weaken : (P Q : List ℕ → Type 0) (a b : DiskHistory) → ((image : List ℕ) → P image → Q image) → LeavesOnly P a b → LeavesOnly Q a b
weaken P Q a b weaker run = record {
  since = run.since;
  grown = run.grown;
  first = λ image is. weaker image (run.first image is);
  each = all_weaken (Leaves P) (Leaves Q) (λ state leaves image is. weaker image (leaves image is)) run.since run.each;
}

abbrev last_of : DiskState → List DiskState → DiskState
last_of other [] = other
last_of other (state ∷ rest) = last_of state rest

last_is : (other : DiskState) (past : List DiskState) (now : DiskState) → last_of other (past ++ now ∷ []) ≡ now
last_is other [] now = refl
last_is other (state ∷ past) now = last_is state past now

-- a history is known by its states
pub same_history : (a b : DiskHistory) → states a ≡ states b → a ≡ b
same_history a b same =
    let now : a.now ≡ b.now = sym (last_is a.now a.past a.now) ∙ ap (last_of a.now) same ∙ last_is a.now b.past b.now in
    let past : a.past ≡ b.past = append_cancel_right a.past b.past (a.now ∷ []) (same ∙ ap (λ (state : DiskState). b.past ++ state ∷ []) (sym now)) in
    ap (λ (before : List DiskState). record { past = before; now = a.now }) past ∙ ap (λ (state : DiskState). record { past = b.past; now = state }) now

-- a disk that isn't called
pub stays : (P : List ℕ → Type 0) (device : DiskHistory) → Leaves P device.now → LeavesOnly P device device
stays P device here = record { since = []; grown = sym (append-nil (states device)); first = here; each = tt }

-- what calls leave at each moment they leave at the last one
pub last_leaves : (P : List ℕ → Type 0) (a b : DiskHistory) → LeavesOnly P a b → Leaves P b.now
last_leaves P a b run = subst (λ (state : DiskState). Leaves P state)
    (sym (ends_in a.now a.past a.now run.since) ∙ ap (last_of a.now) (sym (append_assoc a.past (a.now ∷ []) run.since) ∙ sym run.grown) ∙ last_is a.now b.past b.now)
    (at_last a.now run.since run.first run.each)
  where
    ends_in : (other : DiskState) (past : List DiskState) (now : DiskState) (since : List DiskState) → last_of other (past ++ now ∷ since) ≡ last_of now since
    ends_in other [] now since = refl
    ends_in other (state ∷ past) now since = ends_in state past now since

    at_last : (now : DiskState) (since : List DiskState) → Leaves P now → AllByRecursion (Leaves P) since → Leaves P (last_of now since)
    at_last now [] here each = here
    at_last now (state ∷ since) here each = at_last state since each.0 each.1

-- where both are known, one relation leads to another
pub both : (R S : DiskHistory → DiskHistory → Type 0) → ((a b : DiskHistory) → R a b → S a b) → (a b : Option DiskHistory) → BothKnown R a b → BothKnown S a b
both R S step None None run = tt
both R S step None (Some b) run = absurd run
both R S step (Some a) None run = absurd run
both R S step (Some a) (Some b) run = step a b run

pub both_then : (R S T : DiskHistory → DiskHistory → Type 0) → ((a b c : DiskHistory) → R a b → S b c → T a c) → (a b c : Option DiskHistory) → BothKnown R a b → BothKnown S b c → BothKnown T a c
both_then R S T step None None None first second = tt
both_then R S T step None None (Some c) first second = absurd second
both_then R S T step None (Some b) c first second = absurd first
both_then R S T step (Some a) None c first second = absurd first
both_then R S T step (Some a) (Some b) None first second = absurd second
both_then R S T step (Some a) (Some b) (Some c) first second = step a b c first second

pub both_and : (R S : DiskHistory → DiskHistory → Type 0) (a b : Option DiskHistory) → BothKnown R a b → BothKnown S a b → BothKnown (λ old new. R old new × S old new) a b
both_and R S None None first second = tt
both_and R S None (Some b) first second = absurd first
both_and R S (Some a) None first second = absurd first
both_and R S (Some a) (Some b) first second = (first, second)

pub on_ok : {T E : Type 0} {P Q : Type 0} (result : Result T E) → OnOk result P → (P → Q) → OnOk result Q
on_ok (Ok x) fact step = step fact
on_ok (Err e) fact step = tt
