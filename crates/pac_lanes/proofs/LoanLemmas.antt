-- What is at home while shares are lent.
use Rattle.std.proofs.Common.{◌≡◌, ℕ, ◌<◌, Bool, true, false, cond, ◌&&◌, ◌||◌, ◌==◌, not, nat_lt, List, [], ◌∷◌, ◌++◌, refl, sym, ap, ap₂, ◌∙◌, subst, true≢false, Option, None, Some, inl, inr, ⊎_elim}
use Rattle.std.specs.Prelude.{filter, slice_get}
use Rattle.std.specs.FinMap.{get}
use Rattle.pac_value.specs.declared.values.Value.{Value}
use Rattle.pac_value.specs.Expressions.{Values}
use Rattle.pac_value.specs.State.{Cell, RowValues}
use Rattle.pac_ops.specs.declared.piece.PieceId.{PieceId}
use Rattle.pac_ops.specs.Effects.{NumberedOp, defined_in, used_in}
use Rattle.pac_ops.specs.Notes.{least}
use Rattle.pac_base.specs.Members.{Each, Mem}
use Rattle.pac_plan.specs.Pieces.{Present, World, part, ops, is_piece, adds, Location, RowOf, VarOf, at_location}
use Rattle.pac_plan.specs.Worlds.{blocks_in}
use Rattle.pac_plan.specs.WorldOrder.{WellFormed}
use Rattle.pac_commute.specs.PlanLaws.{numbers_of}
use Rattle.pac_value.specs.Values.{type_of}
use Rattle.pac_ops.specs.Shapes.{RowFits}
use Rattle.pac_plan.specs.declared.parts.PlanParts.{PlanParts}
use Rattle.pac_commute.specs.PartialFits.{PresentFits}
use Rattle.pac_commute.proofs.FitLemmas.{partial_stays_fit}
use Rattle.pac_commute.specs.Loads.{begin, next_in_job, loaded, and_batch}
use Rattle.pac_commute.specs.Machine.{Machine, world_at, pieces_at, ends_at}
use Rattle.pac_commute.proofs.PlanFacts.{well_formed_plan}
use Rattle.pac_commute.proofs.Loads.{loads_keep}
use Rattle.pac_commute.proofs.Present.{same_present}
use Rattle.pac_commute.proofs.Steps.{among_mem, mem_among, opens}
use Rattle.pac_commute.proofs.Theorem.{in_order}
use Rattle.pac_plan.proofs.WorldLemmas.{rises-range}
use Rattle.pac_base.proofs.TestLemmas.{or_left, or_right, or_cases, or_none, same_number, equal_number, and_left, and_right, and_both, unlike, any_gives, each_mem, mem_each}
use Rattle.pac_lanes.specs.Shares.{applied_each, RunsInOrder, HasInputsAtTurns, PieceCode, codes_of}
use Rattle.pac_lanes.specs.Lanes.{StaysIn, is_lent_with, is_changed, Agree, ArePart}
use Rattle.pac_lanes.specs.Rounds.{is_of}
use Rattle.pac_lanes.specs.Stays.{lane_of}
use Rattle.pac_commute.specs.Machine.{KeepsJob}
use Rattle.pac_lanes.specs.Finish.{NothingOut, after_share, RunsAt, Any, Loaded, Finished, StaysLent}
use Rattle.pac_lanes.specs.Loans.{Loan, IsLoan, LoanApart, LoansApart, is_away, OpensHome, LoadKeepsHome, LendKeepsHome, LoanHasInputs, ReturnKeepsHome, AllAtHome, HomeEnds, LoanFits, ReturnFits, share_at, CutLends, CutLoansApart}
use Rattle.pac_lanes.proofs.ShareLemmas.{may_be_parted}
use Rattle.pac_lanes.proofs.LaneLemmas.{alone, notes, leaves_within, changed_lent, needs_inside, disjoint_turned}
use Rattle.pac_lanes.proofs.RoundLemmas.{share_ready}
use Rattle.pac_lanes.proofs.StayLemmas.{stays_in_group, lanes_are_disjoint}
use Rattle.pac_lanes.proofs.FinishLemmas.{any_same, runs_there, step_keeps, lent_beside, lent_loaded, load, is_old, lent_has_inputs, mem_first, shares_end}

ap₃ : {A B C D : Type 0} (f : A → B → C → D) {a a' : A} {b b' : B} {c c' : C} → a ≡ a' → b ≡ b' → c ≡ c' → f a b c ≡ f a' b' c'
ap₃ f e e' e'' i = f (e i) (e' i) (e'' i)

-- ---- two loans

loan_turned : (w : World) (l k : Loan) → LoanApart w l k → LoanApart w k l
loan_turned w l k apart = (
  disjoint_turned w l.lane k.lane apart.0,
  λ p m. unlike _ (λ e. true≢false (sym (mem_among k.share p m) ∙ apart.1 p (among_mem l.share p e))),
)

-- the others, once one is taken from among them
others_apart : (w : World) (xs : List Loan) (l : Loan) (ys : List Loan) → LoansApart w (xs ++ l ∷ ys) → Each (LoanApart w l) (xs ++ ys) × LoansApart w (xs ++ ys)
others_apart w [] l ys apart = (apart.0, apart.1)
others_apart w (x ∷ xs) l ys apart =
    let rest = others_apart w xs l ys apart.1 in
    let split = parts xs apart.0 in
    ((loan_turned w x l split.0, rest.0), (split.1, rest.1))
  where
    parts : (xs : List Loan) → Each (LoanApart w x) (xs ++ l ∷ ys) → LoanApart w x l × Each (LoanApart w x) (xs ++ ys)
    parts [] e = (e.0, e.1)
    parts (z ∷ zs) e = let r = parts zs e.1 in (r.0, (e.0, r.1))

each_others : (R : Loan → Type 0) (xs : List Loan) (l : Loan) (ys : List Loan) → Each R (xs ++ l ∷ ys) → R l × Each R (xs ++ ys)
each_others R [] l ys e = (e.0, e.1)
each_others R (x ∷ xs) l ys e = let r = each_others R xs l ys e.1 in (r.0, (e.0, r.1))

away_others : (w : World) (xs : List Loan) (l : Loan) (ys : List Loan) (c : Location) → is_away w (xs ++ ys) c ≡ false → is_changed w l.lane l.share c ≡ false → is_away w (xs ++ l ∷ ys) c ≡ false
away_others w [] l ys c e f = ap₂ ◌||◌ f e
away_others w (x ∷ xs) l ys c e f =
    let both = or_none (is_changed w x.lane x.share c) (is_away w (xs ++ ys) c) e in
    ap₂ ◌||◌ both.0 (away_others w xs l ys c both.1 f)

each_two : (R R' R'' : Loan → Type 0) (ls : List Loan) → ((l : Loan) → R l → R' l → R'' l) → Each R ls → Each R' ls → Each R'' ls
each_two R R' R'' [] f e e' = tt
each_two R R' R'' (l ∷ ls) f e e' = (f l e.0 e'.0, each_two R R' R'' ls f e.1 e'.1)

each_one : (R R' : Loan → Type 0) (ls : List Loan) → ((l : Loan) → R l → R' l) → Each R ls → Each R' ls
each_one R R' [] f e = tt
each_one R R' (l ∷ ls) f e = (f l e.0, each_one R R' ls f e.1)

-- ---- what is lent next is at home

runs_new : (w : World) (env : ℕ → Values) (L : List PieceId) (F : PieceId → Bool) (ps : List PieceId) → RunsInOrder w env L F ps → (p : PieceId) → Mem p ps → F p ≡ false
runs_new w env L F [] runs p m = absurd m
runs_new w env L F (q ∷ ps) runs p (inl same) = ap F same ∙ runs.1
runs_new w env L F (q ∷ ps) runs p (inr m) = (or_none (is_piece q p) (F p) (runs_new w env L (adds F q) ps runs.3 p m)).1

module _ (w : World) (well_formed : WellFormed w) (env : ℕ → Values) (L : List PieceId) (F : PieceId → Bool) where
  lent_at_home : (l k : Loan) → LoanApart w l k → RunsInOrder w env L F l.share → RunsInOrder w env L F k.share → (c : Location) → is_lent_with w l.lane l.share c ≡ true → is_changed w k.lane k.share c ≡ true → ⊥
  lent_at_home l k apart runs runs' (RowOf a) e f = true≢false (sym f ∙ apart.0 a e)
  lent_at_home l k apart runs runs' (VarOf t x) e f = go (any_gives (λ (p : PieceId). t == p.txn && (used_in (ops w p) x || defined_in (ops w p) x)) l.share e) (any_gives (λ (q : PieceId). t == q.txn && defined_in (ops w q) x) k.share f)
    where
      go : (p : PieceId) × Mem p l.share × ((t == p.txn && (used_in (ops w p) x || defined_in (ops w p) x)) ≡ true) → (q : PieceId) × Mem q k.share × ((t == q.txn && defined_in (ops w q) x) ≡ true) → ⊥
      go (p, mp, at_p) (q, mq, at_q) = ⊎_elim
          (λ u. ⊎_elim same (λ edge. ⊎_elim
          (λ g. true≢false (sym g ∙ runs_new w env L F k.share runs' q mq))
          (λ g. true≢false (sym (mem_among k.share q mq) ∙ apart.1 q (among_mem l.share q g)))
          (needs_inside w well_formed env L l.share F runs p q mp (runs_there w env L F k.share runs' q mq) (or_left _ _ (and_both (q.txn == p.txn) _ (equal_number q.txn p.txn one) edge))))
          (well_formed.flows p.txn q.block p.block x defined u))
          (λ d. same (well_formed.once p.txn q.block p.block x defined d))
          (or_cases (used_in (ops w p) x) (defined_in (ops w p) x) (and_right (t == p.txn) _ at_p))
        where
          one : q.txn ≡ p.txn
          one = sym (same_number t q.txn (and_left (t == q.txn) (defined_in (ops w q) x) at_q)) ∙ same_number t p.txn (and_left (t == p.txn) (used_in (ops w p) x || defined_in (ops w p) x) at_p)

          defined : defined_in (part (w.block p.txn) q.block (w.code p.txn)) x ≡ true
          defined = ap (λ t. defined_in (part (w.block t) q.block (w.code t)) x) (sym one) ∙ and_right (t == q.txn) (defined_in (ops w q) x) at_q

          same : q.block ≡ p.block → ⊥
          same b = true≢false (sym (mem_among k.share q mq) ∙ apart.1 q (subst (λ z. Mem z l.share) (λ i. record { txn = sym one i; block = sym b i }) mp))

-- ---- events

pub opens_home : OpensHome
opens_home job = record { keeps = (opens job).0; in_hand = λ p. refl; each = tt; apart = tt; at_home = λ c e. refl; note = refl }

pub load_keeps_home : LoadKeepsHome
load_keeps_home job is m home loans keeps batch next fits = record {
  keeps = all.0;
  in_hand = all.1;
  each = each_one (IsLoan job m) (IsLoan job n) loans (λ l loan. new_loan l loan) keeps.each;
  apart = keeps.apart;
  at_home = λ c e. new_home c (same_away loans keeps.each c ∙ e);
  note = keeps.note;
}
  where
    n : Machine
    n = record m { batches = and_batch m.batches batch; now = loaded (next_in_job job m.batches) (begin job (and_batch m.batches batch)).envs m.now }

    all : KeepsJob job n × (NothingOut n)
    all = step_keeps job is Any (Loaded m batch next fits) keeps.keeps keeps.in_hand

    stays : (l : Loan) → IsLoan job m l → StaysLent job l.lane l.share m n
    stays l loan = lent_loaded job is l.lane l.share m keeps.keeps loan.lent batch next fits

    codes_same : (ps : List PieceId) → ((p : PieceId) → Mem p ps → p.txn < next_in_job job m.batches) → codes_of (world_at job m) ps ≡ codes_of (world_at job n) ps
    codes_same [] old = refl
    codes_same (p ∷ ps) old =
        let k = loads_keep job m.batches batch keeps.keeps.run_on next in
        ap₃ (λ vars os (cs : List PieceCode). record { txn = p.txn; vars = vars; ops = os } ∷ cs) (sym (k.vars p.txn (old p (inl refl)))) (sym (k.operations p (old p (inl refl)))) (codes_same ps (λ q m. old q (inr m)))

    new_loan : (l : Loan) → IsLoan job m l → IsLoan job n l
    new_loan l loan = record {
      lent = (stays l loan).lent;
      code = loan.code ∙ codes_same l.share (λ p k. is_old job is l.lane l.share m keeps.keeps loan.lent batch next fits p k);
      held = λ c k. let k' : is_lent_with (world_at job m) l.lane l.share c ≡ true = sym ((stays l loan).places c) ∙ k in (stays l loan).same c k' ∙ loan.held c k';
      noteless = loan.noteless;
    }

    same_changed : (l : Loan) → IsLoan job m l → (c : Location) → is_changed (world_at job m) l.lane l.share c ≡ is_changed (world_at job n) l.lane l.share c
    same_changed l loan (RowOf a) = refl
    same_changed l loan (VarOf t x) = any_same _ _ l.share (λ p k. ap (λ (os : List NumberedOp). t == p.txn && defined_in os x)
        (sym ((load job is l.lane l.share m keeps.keeps loan.lent batch next fits).operations p (is_old job is l.lane l.share m keeps.keeps loan.lent batch next fits p k))))

    same_away : (ls : List Loan) → Each (IsLoan job m) ls → (c : Location) → is_away (world_at job m) ls c ≡ is_away (world_at job n) ls c
    same_away [] e c = refl
    same_away (l ∷ ls) e c = ap₂ ◌||◌ (same_changed l e.0 c) (same_away ls e.1 c)

    new_home : (c : Location) → is_away (world_at job m) loans c ≡ false → at_location (loaded (next_in_job job m.batches) (begin job (and_batch m.batches batch)).envs home) c ≡ at_location n.now c
    new_home (RowOf a) e = keeps.at_home (RowOf a) e
    new_home (VarOf t x) e = go (nat_lt t (next_in_job job m.batches))
      where
        go : (b : Bool) → ◌≡◌ {A = Option RowValues × Option Value} (None, get (cond b (home.envs t) ((begin job (and_batch m.batches batch)).envs t)) x) (None, get (cond b (m.now.envs t) ((begin job (and_batch m.batches batch)).envs t)) x)
        go true = keeps.at_home (VarOf t x) e
        go false = refl

pub lend_keeps_home : LendKeepsHome
lend_keeps_home job is m home loans keeps loan lent apart code held noteless = record {
  keeps = keeps.keeps;
  in_hand = keeps.in_hand;
  each = (record { lent = lent; code = code; held = λ c k. sym (keeps.at_home c (there c k)) ∙ held c k; noteless = noteless }, keeps.each);
  apart = (apart, keeps.apart);
  at_home = λ c e. keeps.at_home c (or_none (is_changed (world_at job m) loan.lane loan.share c) (is_away (world_at job m) loans c) e).1;
  note = keeps.note;
}
  where
    there : (c : Location) → is_lent_with (world_at job m) loan.lane loan.share c ≡ true → is_away (world_at job m) loans c ≡ false
    there c k = unlike _ (λ away. go (any_gives (λ (l : Loan). is_changed (world_at job m) l.lane l.share c) loans away))
      where
        go : (l : Loan) × Mem l loans × (is_changed (world_at job m) l.lane l.share c ≡ true) → ⊥
        go (l, ml, f) = lent_at_home (world_at job m) (well_formed_plan job.parts is job.first m.batches) (ends_at job m) (pieces_at job m) m.finished loan l
            (mem_each (LoanApart (world_at job m) loan) loans apart l ml) lent.runs (mem_each (IsLoan job m) loans keeps.each l ml).lent.runs c k f

pub loan_has_inputs : LoanHasInputs
loan_has_inputs job is m home loans keeps loan ml =
    let l = mem_each (IsLoan job m) loans keeps.each loan ml in
    (alone (world_at job m) (well_formed_plan job.parts is job.first m.batches) (ends_at job m) loan.lane loan.share loan.share (λ p k. k) l.lent.stays m.now loan.given
    (lent_has_inputs job is m keeps.keeps loan.share l.lent.runs) l.held).1

each_of_first : (R : PieceId → Type 0) (xs ys : List PieceId) → Each R (xs ++ ys) → Each R xs
each_of_first R [] ys e = tt
each_of_first R (x ∷ xs) ys e = (e.0, each_of_first R xs ys e.1)

pub return_keeps_home : ReturnKeepsHome
return_keeps_home job is m home before loan after keeps run rest split home' put = record {
  keeps = all.0;
  in_hand = all.1;
  each = each_two (LoanApart w loan) (IsLoan job m) (IsLoan job (after_share job m run)) (before ++ after) (λ k apart is_k. beside k apart is_k) apart_all.0 loans.1;
  apart = apart_all.1;
  at_home = λ c e. back c e (is_changed w loan.lane loan.share c) refl;
  note = put.note ∙ ap (λ n. least n (applied_each w run loan.given).note) keeps.note ∙ sym (notes w well_formed env loan.lane loan.share run part mine.lent.stays m.now loan.given inputs mine.held mine.noteless);
}
  where
    w : World
    w = world_at job m

    env : ℕ → Values
    env = ends_at job m

    well_formed : WellFormed (world_at job m)
    well_formed = well_formed_plan job.parts is job.first m.batches

    loans : IsLoan job m loan × Each (IsLoan job m) (before ++ after)
    loans = each_others (IsLoan job m) before loan after keeps.each

    mine : IsLoan job m loan
    mine = loans.0

    apart_all : Each (LoanApart (world_at job m) loan) (before ++ after) × LoansApart (world_at job m) (before ++ after)
    apart_all = others_apart (world_at job m) before loan after keeps.apart

    part : ArePart run loan.share
    part p k = subst (λ ps. Mem p ps) (sym split) (mem_first p run rest k)

    runs : RunsAt job m run
    runs = ((may_be_parted (world_at job m) (ends_at job m) (pieces_at job m) m.finished run rest).0.0
        (subst (λ ps. RunsInOrder (world_at job m) (ends_at job m) (pieces_at job m) m.finished ps) split mine.lent.runs)).0

    inputs : HasInputsAtTurns (world_at job m) (ends_at job m) run m.now
    inputs = lent_has_inputs job is m keeps.keeps run runs

    all : KeepsJob job (after_share job m run) × NothingOut (after_share job m run)
    all = step_keeps job is Any (Finished m run runs tt) keeps.keeps keeps.in_hand

    beside : (k : Loan) → LoanApart (world_at job m) loan k → IsLoan job m k → IsLoan job (after_share job m run) k
    beside k apart is_k =
        let stays = lent_beside job is k.lane k.share m keeps.keeps is_k.lent run runs (
          loan.lane,
          disjoint_turned w loan.lane k.lane apart.0,
          each_of_first _ run rest (subst (λ ps. Each (StaysIn w env loan.lane) ps) split mine.lent.stays),
          λ q mq. apart.1 q (part q mq),
        ) in
        record { lent = stays.lent; code = is_k.code; held = λ c e. stays.same c e ∙ is_k.held c e; noteless = is_k.noteless }

    back : (c : Location) → is_away (world_at job m) (before ++ after) c ≡ false → (b : Bool) → is_changed (world_at job m) loan.lane loan.share c ≡ b → at_location home' c ≡ at_location (applied_each (world_at job m) run m.now) c
    back c e true k = put.inside c k ∙ sym ((alone w well_formed env loan.lane loan.share run part mine.lent.stays m.now loan.given inputs mine.held).0 c (changed_lent w well_formed env loan.lane loan.share c k))
    back c e false k = put.outside c k ∙ keeps.at_home c (away_others w before loan after c e k) ∙ sym (leaves_within w well_formed env loan.lane loan.share run part mine.lent.stays m.now inputs c k)

pub all_at_home : AllAtHome
all_at_home job m home keeps = same_present home m.now (λ c. keeps.at_home c refl) keeps.note

pub home_ends : HomeEnds
home_ends job is m home keeps all =
    let end = shares_end job is m keeps.keeps all in
    let home_is = all_at_home job m home keeps in
    (ap (λ (s : Present). s.tables) home_is ∙ end.0, ap (λ (s : Present). s.note) home_is ∙ end.1)

-- ---- loans of a cut

kept_by : (f : PieceId → Bool) (ps : List PieceId) (p : PieceId) → Mem p (filter f ps) → Mem p ps × (f p ≡ true)
kept_by f [] p m = absurd m
kept_by f (q ∷ ps) p m = go (f q) refl m (kept_by f ps p)
  where
    go : (b : Bool) → f q ≡ b → Mem p (cond b (q ∷ filter f ps) (filter f ps)) → (Mem p (filter f ps) → Mem p ps × (f p ≡ true)) → Mem p (q ∷ ps) × (f p ≡ true)
    go true e (inl same) rest = (inl same, ap f same ∙ e)
    go true e (inr k) rest = let r = rest k in (inr r.0, r.1)
    go false e k rest = let r = rest k in (inr r.0, r.1)

pub cut_lends : CutLends
cut_lends job is m cut of_key is_cut of_group r k g may = record {
  stays = each_mem _ (share_at job m cut r k g) (λ p mp. there p (kept_by (λ p. is_of cut r k g p && not (m.finished p)) (pieces_at job m) p mp));
  runs = share_ready (world_at job m) (well_formed_plan job.parts is job.first m.batches) (ends_at job m) (pieces_at job m)
      (in_order (world_at job m) (numbers_of job.first m.batches) (blocks_in job.parts) (rises-range job.first _) (rises-range 0 job.parts.blocks))
      cut is_cut m.finished r k g may;
}
  where
    there : (p : PieceId) → Mem p (pieces_at job m) × ((is_of cut r k g p && not (m.finished p)) ≡ true) → StaysIn (world_at job m) (ends_at job m) (lane_of cut of_key k g) p
    there p (mp, e) =
        let here : is_of cut r k g p ≡ true = and_left (is_of cut r k g p) _ e in
        let more : (cut.stage p.block == k && cut.group k p.txn == g) ≡ true = and_right (cut.round p.txn == r) _ here in
        let stage : cut.stage p.block ≡ k = same_number _ _ (and_left (cut.stage p.block == k) _ more) in
        let group : cut.group k p.txn ≡ g = same_number _ _ (and_right (cut.stage p.block == k) _ more) in
        subst (λ z. StaysIn (world_at job m) (ends_at job m) (lane_of cut of_key k z) p) group
        (subst (λ y. StaysIn (world_at job m) (ends_at job m) (lane_of cut of_key y (cut.group y p.txn)) p) stage
        (stays_in_group (world_at job m) (ends_at job m) cut of_key p (of_group p mp)))

pub cut_loans_apart : CutLoansApart
cut_loans_apart job m cut of_key r k g s l h codes codes' given given' calm = (
  lanes_are_disjoint (world_at job m) cut of_key k g l h calm,
  λ p mp. unlike _ (λ e. both p
      (and_left (is_of cut r k g p) (not (m.finished p)) (kept_by (λ p. is_of cut r k g p && not (m.finished p)) (pieces_at job m) p mp).1)
      (and_left (is_of cut s l h p) (not (m.finished p)) (kept_by (λ p. is_of cut s l h p && not (m.finished p)) (pieces_at job m) p (among_mem (share_at job m cut s l h) p e)).1)),
)
  where
    both : (p : PieceId) → is_of cut r k g p ≡ true → is_of cut s l h p ≡ true → ⊥
    both p a b =
        let more : (cut.stage p.block == k && cut.group k p.txn == g) ≡ true = and_right (cut.round p.txn == r) _ a in
        let more' : (cut.stage p.block == l && cut.group l p.txn == h) ≡ true = and_right (cut.round p.txn == s) _ b in
        let stages : k ≡ l = sym (same_number _ _ (and_left (cut.stage p.block == k) _ more)) ∙ same_number _ _ (and_left (cut.stage p.block == l) _ more') in
        let groups : g ≡ h = sym (same_number _ _ (and_right (cut.stage p.block == k) _ more)) ∙ ap (λ z. cut.group z p.txn) stages ∙ same_number _ _ (and_right (cut.stage p.block == l) _ more') in
        true≢false (sym (or_right (g == 0) _ (or_right (h == 0) (g == h) (equal_number g h groups))) ∙ calm stages)

-- ---- fitting

-- what is made agrees with what stands on what may change, and with what was given elsewhere
mixed : (parts : PlanParts) (w : World) (places : Location → Bool) (a b c : Present) → PresentFits parts w a → PresentFits parts w b
    → ((l : Location) → places l ≡ true → at_location c l ≡ at_location a l) → ((l : Location) → places l ≡ false → at_location c l ≡ at_location b l) → PresentFits parts w c
mixed parts w places a b c fit_a fit_b inside outside = record {
  rows = λ cell row e. rows cell row e (places (RowOf cell)) refl;
  types = λ t x v e. types t x v e (places (VarOf t x)) refl;
}
  where
    rows : (cell : Cell) (row : RowValues) → get c.tables cell ≡ Some row → (p : Bool) → places (RowOf cell) ≡ p → RowFits parts.tables cell row
    rows cell row e true p = fit_a.rows cell row (ap (λ r. r.0) (sym (inside (RowOf cell) p)) ∙ e)
    rows cell row e false p = fit_b.rows cell row (ap (λ r. r.0) (sym (outside (RowOf cell) p)) ∙ e)

    types : (t x : ℕ) (v : Value) → get (c.envs t) x ≡ Some v → (p : Bool) → places (VarOf t x) ≡ p → slice_get (w.vars t) x ≡ Some (type_of v)
    types t x v e true p = fit_a.types t x v (ap (λ r. r.1) (sym (inside (VarOf t x) p)) ∙ e)
    types t x v e false p = fit_b.types t x v (ap (λ r. r.1) (sym (outside (VarOf t x) p)) ∙ e)

pub loan_fits : LoanFits
loan_fits job is rows m home loans keeps loan ml fit run rest split =
    mixed job.parts (world_at job m) (is_changed (world_at job m) loan.lane loan.share) (applied_each (world_at job m) run m.now) loan.given (applied_each (world_at job m) run loan.given) stands fit
    (λ c k. sym (both.0 c (changed_lent (world_at job m) well_formed (ends_at job m) loan.lane loan.share c k)))
    (λ c k. leaves_within (world_at job m) well_formed (ends_at job m) loan.lane loan.share run part mine.lent.stays loan.given both.1 c k)
  where
    mine : IsLoan job m loan
    mine = mem_each (IsLoan job m) loans keeps.each loan ml

    well_formed : WellFormed (world_at job m)
    well_formed = well_formed_plan job.parts is job.first m.batches

    part : ArePart run loan.share
    part p k = subst (λ ps. Mem p ps) (sym split) (mem_first p run rest k)

    runs : RunsAt job m run
    runs = ((may_be_parted (world_at job m) (ends_at job m) (pieces_at job m) m.finished run rest).0.0
        (subst (λ ps. RunsInOrder (world_at job m) (ends_at job m) (pieces_at job m) m.finished ps) split mine.lent.runs)).0

    both : Agree (is_lent_with (world_at job m) loan.lane loan.share) (applied_each (world_at job m) run m.now) (applied_each (world_at job m) run loan.given) × HasInputsAtTurns (world_at job m) (ends_at job m) run loan.given
    both = alone (world_at job m) well_formed (ends_at job m) loan.lane loan.share run part mine.lent.stays m.now loan.given (lent_has_inputs job is m keeps.keeps run runs) mine.held

    next : KeepsJob job (after_share job m run)
    next = (step_keeps job is Any (Finished m run runs tt) keeps.keeps keeps.in_hand).0

    stands : PresentFits job.parts (world_at job m) (applied_each (world_at job m) run m.now)
    stands = subst (PresentFits job.parts (world_at job m)) (sym next.now)
        (partial_stays_fit job.parts is job.first m.batches next.run_on next.fit job.tables rows (after_share job m run).finished next.closed).0

pub return_fits : ReturnFits
return_fits job m loan made home home' fit fit' put = mixed job.parts (world_at job m) (is_changed (world_at job m) loan.lane loan.share) made home home' fit fit' put.inside put.outside
