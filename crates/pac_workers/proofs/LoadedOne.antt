-- What a twin tells once a batch is loaded.
use Rattle.std.proofs.Common.{◌≡◌, ℕ, ◌+◌, Bool, false, List, length, Result, Ok, Err, refl, sym, ap, ◌∙◌, subst, true≢false}
use Rattle.std.specs.Prelude.{OnOk, is_err}
use Rattle.pac_value.specs.declared.values.Ty.{Ty}
use Rattle.pac_ops.specs.declared.batch.Batch.{Batch}
use Rattle.pac_ops.specs.declared.shapes.TableTypes.{TableTypes}
use Rattle.atomic_table.specs.Seated.{TableId}
use Rattle.atomic_table.specs.declared.shared.Seat.{Seat}
use Rattle.pac_workers.specs.Twins.{IsShown}
use Rattle.pac_workers.specs.Shown.{Tells, TellsMore}
use Rattle.pac_workers.proofs.Showing.{tells_shown}

pub on_ok : {A E : Type 0} (r : Result A E) (P : Type 0) → (is_err r ≡ false → P) → OnOk r P
on_ok (Ok a) P f = f refl
on_ok (Err e) P f = tt

pub from_ok : {A E : Type 0} (r : Result A E) (P : Type 0) → is_err r ≡ false → OnOk r P → P
from_ok (Ok a) P ok p = p
from_ok (Err e) P ok p = absurd (true≢false ok)

module _ {M : Type 0} (job : M → M) (is_closed : M → Bool) (with_batch : M → Batch → M) (next_txn : M → ℕ) (params : M → List (List Ty)) (tables : M → List TableTypes) (id : TableId) where
  pub one_more : (machine new all : M) (batch : Batch) (twin : Seat M (List M)) → IsShown id new twin → job machine ≡ all → is_closed machine ≡ false → job new ≡ with_batch (job machine) batch → is_closed new ≡ is_closed machine
      → next_txn (job new) ≡ batch.first + length batch.txns → (params (job new) ≡ params (job machine)) × (tables (job new) ≡ tables (job machine)) → TellsMore job is_closed with_batch next_txn params tables id all batch twin
  one_more machine new all batch twin shown same opening more stays next types =
      let e : job new ≡ with_batch all batch = more ∙ ap (λ (a : M). with_batch a batch) same in
      let c : is_closed new ≡ false = stays ∙ opening in
      record {
        tells = subst (λ (p : M × Bool). Tells job is_closed id p.0 p.1 twin) (λ i. (e i, c i)) (tells_shown job is_closed id new twin shown);
        next_is = sym (ap next_txn e) ∙ next;
        params_are = sym (ap params e) ∙ types.0 ∙ ap params same;
        tables_are = sym (ap tables e) ∙ types.1 ∙ ap tables same;
      }
