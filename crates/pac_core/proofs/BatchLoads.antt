-- Batches whose numbers run on, and whose transactions fit the plan, may be loaded one after another; and what is left then.
use Rattle.std.proofs.Common.{◌≡◌, ◌+◌, ◌<◌, ◌^◌, true, false, List, [], ◌∷◌, ◌++◌, length, refl, sym, ap, subst, ◌∙◌, arith}
use Rattle.std.specs.Prelude.{All, filter}
use Rattle.std.proofs.lemmas.List.{length-append}
use Rattle.std.proofs.lemmas.List.Elements.{All-head, All-tail}
use Rattle.pac_ops.specs.declared.batch.Batch.{Batch}
use Rattle.pac_commute.specs.Loads.{Job, and_batch, next_in_job, pieces_of}
use Rattle.pac_commute.specs.PartialFits.{TxnsFitPlan}
use Rattle.pac_commute.specs.PlanLaws.{NumbersRunOn, txns_of}
use Rattle.pac_commute.proofs.BatchLemmas.{txns-more}
use Rattle.pac_core.specs.Calls.{MayLoadAll, with_batches}
use Rattle.pac_core.specs.Replay.{Replay, closed, left, opening_replay, with_batch_loaded}

-- the number after one more batch
pub next_more : (job : Job) (batches : List Batch) (batch : Batch) → next_in_job job (and_batch batches batch) ≡ next_in_job job batches + length batch.txns
next_more job batches batch =
    let long : length (txns_of (and_batch batches batch)) ≡ length (txns_of batches) + length batch.txns = ap length (txns-more batches batch) ∙ length-append (txns_of batches) batch.txns in
    omega (arith, long)

pub may_load_all : (r : Replay) → r.is_closed ≡ false → (batches : List Batch) → NumbersRunOn (next_in_job r.job r.batches) batches → All (λ (batch : Batch). TxnsFitPlan r.job.parts batch.txns) batches
    → next_in_job r.job r.batches + length (txns_of batches) < 2 ^ 64 → MayLoadAll r batches
may_load_all r opening [] run fit numbers = tt
may_load_all r opening (b ∷ bs) run fit numbers =
    let next = next_in_job r.job r.batches in
    let first = run.0 in
    let long : length (txns_of (b ∷ bs)) ≡ length b.txns + length (txns_of bs) = length-append b.txns (txns_of bs) in
    let more = next_more r.job r.batches b in (
      record { opening = opening; first = first; fits = All-head (λ (batch : Batch). TxnsFitPlan r.job.parts batch.txns) b bs fit },
      omega (arith, first, long, numbers),
      may_load_all (with_batch_loaded r b) opening bs (subst (λ n. NumbersRunOn n bs) (sym more) run.1) (All-tail (λ (batch : Batch). TxnsFitPlan r.job.parts batch.txns) b bs fit) (omega (arith, more, long, numbers)),
    )

-- from the first batch on
pub may_load_first : (job : Job) (batches : List Batch) → NumbersRunOn job.first batches → All (λ (batch : Batch). TxnsFitPlan job.parts batch.txns) batches → job.first + length (txns_of batches) < 2 ^ 64
    → MayLoadAll (opening_replay job) batches
may_load_first job batches run fit numbers =
    let begins : next_in_job job [] ≡ job.first = omega arith in
    may_load_all (opening_replay job) refl batches (subst (λ n. NumbersRunOn n batches) (sym begins) run) fit (omega (arith, begins, numbers))

-- ---- what is loaded then

append_nil : (xs : List Batch) → xs ++ [] ≡ xs
append_nil [] = refl
append_nil (x ∷ xs) = ap (λ l. x ∷ l) (append_nil xs)

append_more : (xs : List Batch) (y : Batch) (ys : List Batch) → (xs ++ y ∷ []) ++ ys ≡ xs ++ y ∷ ys
append_more [] y ys = refl
append_more (x ∷ xs) y ys = ap (λ l. x ∷ l) (append_more xs y ys)

-- the batches, and nothing else is changed
pub loaded_are : (r : Replay) (batches : List Batch) → with_batches r batches ≡ record r { batches = r.batches ++ batches }
loaded_are r [] = ap (λ (l : List Batch). record r { batches = l }) (sym (append_nil r.batches))
loaded_are r (b ∷ bs) = loaded_are (with_batch_loaded r b) bs ∙ ap (λ (l : List Batch). record r { batches = l }) (append_more r.batches b bs)

-- the replay of a job with these batches, of which none is taken
abbrev pub begun : Job → List Batch → Replay
begun job batches = record { job = job; batches = batches; is_closed = true; out = []; finished = [] }

pub begun_is : (job : Job) (batches : List Batch) → closed (with_batches (opening_replay job) batches) ≡ begun job batches
begun_is job batches = ap closed (loaded_are (opening_replay job) batches)

all_stay : {A : Type 0} (xs : List A) → filter (λ x. true) xs ≡ xs
all_stay [] = refl
all_stay (x ∷ xs) = ap (λ l. x ∷ l) (all_stay xs)

-- each piece is left
pub begun_left : (job : Job) (batches : List Batch) → left (begun job batches) ≡ length (pieces_of job batches)
begun_left job batches = ap length (all_stay (pieces_of job batches))
