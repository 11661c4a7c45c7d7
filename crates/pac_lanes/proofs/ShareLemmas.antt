-- A share is the partial replay of what is finished and the share.
use Rattle.std.proofs.Common.{◌≡◌, ℕ, Bool, true, false, ◌||◌, List, [], ◌∷◌, ◌++◌, refl, sym, ap, ◌∙◌, subst, ⊎_elim}
use Rattle.pac_value.specs.Expressions.{Values}
use Rattle.pac_ops.specs.declared.piece.PieceId.{PieceId}
use Rattle.pac_plan.specs.Pieces.{Present, World, apply, partial, pieces, needs, is_piece, adds}
use Rattle.pac_commute.specs.Exchange.{env_after, HoldsNeeds, ExchangeByNeeds}
use Rattle.pac_commute.specs.PlanLaws.{OfPlan, planned, numbers_of}
use Rattle.pac_plan.specs.Worlds.{blocks_in}
use Rattle.pac_commute.specs.Machine.{among}
use Rattle.pac_commute.proofs.PlanFacts.{needs_plan}
use Rattle.pac_commute.proofs.Steps.{same_piece}
use Rattle.pac_base.proofs.TestLemmas.{or_right, or_cases}
use Rattle.pac_lanes.specs.Shares.{applied_each, adds_all, HasNeeds, RunsInOrder, HasInputsAtTurns, ShareIsPartial, PicksThese, MayBeParted, AppliedIsCode, AppliedIsEvery}

-- F and p hold what each of their pieces needs
pub holds_more : (w : World) (env : ℕ → Values) (L : List PieceId) (F : PieceId → Bool) (p : PieceId) → HoldsNeeds w env L F → HasNeeds w env L F p → HoldsNeeds w env L (adds F p)
holds_more w env L F p holds has q r mq mr pr picked = or_right (is_piece p q) (F q) (⊎_elim
    (λ e. has q mq (subst (λ x. needs w env q x ≡ true) (sym (same_piece p r e)) pr))
    (λ f. holds q r mq mr pr f)
    (or_cases (is_piece p r) (F r) picked))

pub run_law : (w : World) (ts bs : List ℕ) → ExchangeByNeeds w ts bs → ShareIsPartial w ts bs
run_law w ts bs exchange s F [] holds runs = record { ends = refl; needs = holds; inputs = tt }
run_law w ts bs exchange s F (p ∷ ps) holds runs =
    let one = exchange s F p runs.0 runs.1 holds runs.2 in
    let rest = run_law w ts bs exchange s (adds F p) ps (holds_more w (env_after w ts s) (pieces w ts bs) F p holds runs.2) runs.3 in
    record {
      ends = rest.ends ∙ ap (applied_each w ps) one.0;
      needs = rest.needs;
      inputs = (one.1, subst (HasInputsAtTurns w (env_after w ts s) ps) one.0 rest.inputs);
    }

pub share_is_partial : OfPlan ShareIsPartial
share_is_partial parts is first batches run_on fits =
    run_law (planned parts first batches) (numbers_of first batches) (blocks_in parts) (needs_plan parts is first batches run_on fits)

or_middle : (a b c : Bool) → (a || (b || c)) ≡ ((b || a) || c)
or_middle true true c = refl
or_middle true false c = refl
or_middle false true c = refl
or_middle false false c = refl

pub picks_these : PicksThese
picks_these F [] q = refl
picks_these F (p ∷ ps) q = picks_these (adds F p) ps q ∙ or_middle (among ps q) (is_piece p q) (F q)

parted_runs : (w : World) (env : ℕ → Values) (L : List PieceId) (F : PieceId → Bool) (ps qs : List PieceId)
    → RunsInOrder w env L F (ps ++ qs) → RunsInOrder w env L F ps × RunsInOrder w env L (adds_all F ps) qs
parted_runs w env L F [] qs r = (tt, r)
parted_runs w env L F (p ∷ ps) qs r = let rest = parted_runs w env L (adds F p) ps qs r.3 in ((r.0, r.1, r.2, rest.0), rest.1)

joined_runs : (w : World) (env : ℕ → Values) (L : List PieceId) (F : PieceId → Bool) (ps qs : List PieceId)
    → RunsInOrder w env L F ps → RunsInOrder w env L (adds_all F ps) qs → RunsInOrder w env L F (ps ++ qs)
joined_runs w env L F [] qs r r' = r'
joined_runs w env L F (p ∷ ps) qs r r' = (r.0, r.1, r.2, joined_runs w env L (adds F p) ps qs r.3 r')

applied_parted : (w : World) (ps qs : List PieceId) (s : Present) → applied_each w (ps ++ qs) s ≡ applied_each w qs (applied_each w ps s)
applied_parted w [] qs s = refl
applied_parted w (p ∷ ps) qs s = applied_parted w ps qs (apply w p s)

pub may_be_parted : MayBeParted
may_be_parted w env L F ps qs = ((λ r. parted_runs w env L F ps qs r, λ r. joined_runs w env L F ps qs r.0 r.1), λ s. applied_parted w ps qs s)

pub applied_is_code : AppliedIsCode
unfolding apply
applied_is_code w [] s = refl
applied_is_code w (p ∷ ps) s = applied_is_code w ps (apply w p s)

pub applied_is_every : AppliedIsEvery
unfolding partial
applied_is_every w [] s = refl
applied_is_every w (p ∷ ps) s = applied_is_every w ps (apply w p s)
