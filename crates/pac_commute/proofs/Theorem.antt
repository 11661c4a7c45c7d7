-- The exchange theorems, over all pieces of a list of transactions.
use Rattle.std.proofs.Common.{◌≡◌, ℕ, ◌<◌, Bool, true, false, cond, List, [], ◌∷◌, ◌++◌, refl, ap, subst, ◌∙◌, inl, inr}
use Rattle.std.specs.FinMap.{get}
use Rattle.pac_ops.specs.declared.piece.PieceId.{PieceId}
use Rattle.pac_base.specs.Members.{Each, Mem, Rises}
use Rattle.pac_plan.specs.Pieces.{Present, run_ops, World, apply, partial, blocks_of, pieces, replayed_in, every}
use Rattle.pac_plan.specs.WorldOrder.{WellFormed, FitsBlocks}
use Rattle.pac_commute.specs.Exchange.{env_after, Exchange, ExchangeByNeeds, InputsAtTurns, InputsKnown, Undisturbed, End}
use Rattle.pac_commute.proofs.Laws.{precedes_needed}
use Rattle.pac_commute.proofs.Law.{Below, Good_turns, InOrder, exchange, inputs, picked_turns, turn_of, undisturbed}
use Rattle.pac_commute.proofs.Order.{one_txn}

pub partial-append : (w : World) (F : PieceId → Bool) (xs ys : List PieceId) (s : Present) → partial w F (xs ++ ys) s ≡ partial w F ys (partial w F xs s)
unfolding partial
partial-append w F [] ys s = refl
partial-append w F (x ∷ xs) ys s = partial-append w F xs ys (cond (F x) (apply w x s) s)

pub whole : (w : World) → WellFormed w → (ts bs : List ℕ) → Rises bs → FitsBlocks w ts bs → (s : Present) → partial w every (pieces w ts bs) s ≡ replayed_in w ts s
unfolding partial replayed_in
whole w well_formed [] bs rises inside s = refl
whole w well_formed (t ∷ ts) bs rises inside s =
    partial-append w every (blocks_of w t bs) (pieces w ts bs) s
    ∙ ap (partial w every (pieces w ts bs)) (one_txn w well_formed t bs s rises (inside t (inl refl)))
    ∙ whole w well_formed ts bs rises (λ u m. inside u (inr m)) (run_ops t (w.vars t) (w.code t) s)

pub same_picks : (w : World) (F G : PieceId → Bool) (ps : List PieceId) (s : Present) → ((p : PieceId) → Mem p ps → F p ≡ G p) → partial w F ps s ≡ partial w G ps s
unfolding partial
same_picks w F G [] s same = refl
same_picks w F G (p ∷ ps) s same =
    ap (λ b. partial w F ps (cond b (apply w p s) s)) (same p (inl refl)) ∙ same_picks w F G ps (cond (G p) (apply w p s) s) (λ q m. same q (inr m))

each-append : {A : Type 0} (R : A → Type 0) (xs ys : List A) → Each R xs → Each R ys → Each R (xs ++ ys)
each-append R [] ys e f = f
each-append R (x ∷ xs) ys e f = (e.0, each-append R xs ys e.1 f)

each-cond : {A : Type 0} (R : A → Type 0) (b : Bool) (x : A) (xs : List A) → R x → Each R xs → Each R (cond b (x ∷ xs) xs)
each-cond R true x xs h e = (h, e)
each-cond R false x xs h e = e

module _ (w : World) where
  above_blocks : (t b : ℕ) (bs : List ℕ) → Each (λ c. b < c) bs → Each (Below (record { txn = t; block = b })) (blocks_of w t bs)
  above_blocks t b [] e = tt
  above_blocks t b (c ∷ bs) e = each-cond (Below (record { txn = t; block = b })) _ _ (blocks_of w t bs) (inr (refl, e.0)) (above_blocks t b bs e.1)

  later_blocks : (p : PieceId) (t : ℕ) (bs : List ℕ) → p.txn < t → Each (Below p) (blocks_of w t bs)
  later_blocks p t [] lt = tt
  later_blocks p t (b ∷ bs) lt = each-cond (Below p) _ _ (blocks_of w t bs) (inl lt) (later_blocks p t bs lt)

  later_pieces : (p : PieceId) (ts bs : List ℕ) → Each (λ u. p.txn < u) ts → Each (Below p) (pieces w ts bs)
  later_pieces p [] bs e = tt
  later_pieces p (t ∷ ts) bs e = each-append (Below p) (blocks_of w t bs) (pieces w ts bs) (later_blocks p t bs e.0) (later_pieces p ts bs e.1)

  pub in_order : (ts bs : List ℕ) → Rises ts → Rises bs → InOrder (pieces w ts bs)
  in_order [] bs rises up = tt
  in_order (t ∷ ts) bs rises up = go bs up (in_order ts bs rises.1 up)
    where
      more : (c : ℕ) (cs : List ℕ) (b : Bool) → Each (λ d. c < d) cs → InOrder (blocks_of w t cs ++ pieces w ts bs)
          → InOrder (cond b (record { txn = t; block = c } ∷ blocks_of w t cs) (blocks_of w t cs) ++ pieces w ts bs)
      more c cs true e rest = (each-append _ (blocks_of w t cs) (pieces w ts bs) (above_blocks t c cs e) (later_pieces (record { txn = t; block = c }) ts bs rises.0), rest)
      more c cs false e rest = rest

      go : (cs : List ℕ) → Rises cs → InOrder (pieces w ts bs) → InOrder (blocks_of w t cs ++ pieces w ts bs)
      go [] e rest = rest
      go (c ∷ cs) e rest = more c cs _ e.0 (go cs e.1 rest)

pub needs_law : (w : World) → WellFormed w → (ts bs : List ℕ) → Rises ts → Rises bs → FitsBlocks w ts bs → ExchangeByNeeds w ts bs
needs_law w well_formed ts bs rises up inside s F p m out holds preds =
    exchange w well_formed (env_after w ts s) (pieces w ts bs) (in_order w ts bs rises up) s
    (λ t x. ap (λ (z : Present). get (z.envs t) x) (whole w well_formed ts bs up inside s)) F p m out holds preds

pub exchange_law : (w : World) → WellFormed w → (ts bs : List ℕ) → Rises ts → Rises bs → FitsBlocks w ts bs → Exchange w ts bs
exchange_law w well_formed ts bs rises up inside s F p m out holds preds =
    needs_law w well_formed ts bs rises up inside s F p m out
    (λ q r mq mr n. holds q r mq mr (precedes_needed w well_formed (env_after w ts s) q r n))
    (λ q mq n. preds q mq (precedes_needed w well_formed (env_after w ts s) q p n))

pub end_law : (w : World) → WellFormed w → (ts bs : List ℕ) → Rises ts → Rises bs → FitsBlocks w ts bs → End w ts bs
end_law w well_formed ts bs rises up inside s F all = same_picks w F every (pieces w ts bs) s all ∙ whole w well_formed ts bs up inside s

pub inputs_law : (w : World) → WellFormed w → (ts bs : List ℕ) → Rises ts → Rises bs → FitsBlocks w ts bs → InputsKnown w ts bs
inputs_law w well_formed ts bs rises up inside s F p holds preds =
    inputs w well_formed (env_after w ts s) (pieces w ts bs) (in_order w ts bs rises up) s
    (λ t x. ap (λ (z : Present). get (z.envs t) x) (whole w well_formed ts bs up inside s)) F p holds preds

pub turns_law : (w : World) → WellFormed w → (ts bs : List ℕ) → Rises ts → Rises bs → FitsBlocks w ts bs → InputsAtTurns w ts bs
turns_law w well_formed ts bs rises up inside s F holds before after p parts picked =
    turn_of w well_formed (env_after w ts s) before after p s F
    (subst (λ L. Good_turns w well_formed (env_after w ts s) F L s) parts
    (picked_turns w well_formed (env_after w ts s) (pieces w ts bs) (in_order w ts bs rises up) s
    (λ t x. ap (λ (z : Present). get (z.envs t) x) (whole w well_formed ts bs up inside s)) F holds))
    picked

pub undisturbed_law : (w : World) → WellFormed w → (ts bs : List ℕ) → Rises ts → Rises bs → FitsBlocks w ts bs → Undisturbed w ts bs
undisturbed_law w well_formed ts bs rises up inside s =
    undisturbed w well_formed (env_after w ts s) (pieces w ts bs) (in_order w ts bs rises up) s
    (λ t x. ap (λ (z : Present). get (z.envs t) x) (whole w well_formed ts bs up inside s))
