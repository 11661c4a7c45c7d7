-- A share does what it does on its lane alone, and other lanes' pieces leave it as it is.
use Rattle.std.proofs.Common.{◌≡◌, ℕ, Bool, true, false, ◌&&◌, ◌||◌, ◌==◌, List, [], ◌∷◌, refl, sym, ap, ◌∙◌, subst, true≢false, Option, None, ◌⊎◌, inl, inr, ⊎_elim}
use Rattle.pac_value.specs.Expressions.{Values}
use Rattle.pac_value.specs.State.{Cell}
use Rattle.pac_ops.specs.declared.note.Note.{Note}
use Rattle.pac_ops.specs.declared.piece.PieceId.{PieceId}
use Rattle.pac_ops.specs.Notes.{first_note, least}
use Rattle.pac_ops.specs.Effects.{defined_in, used_in}
use Rattle.pac_base.specs.Members.{Each, Mem}
use Rattle.pac_plan.specs.Pieces.{Present, World, part, ops, apply, partial, pieces, needs, covers, access, HasInputs, is_piece, adds, Location, RowOf, VarOf, at_location, touches, writes}
use Rattle.pac_plan.specs.WorldOrder.{WellFormed}
use Rattle.pac_commute.specs.Exchange.{env_after, HoldsNeeds, ExchangeByNeeds}
use Rattle.pac_commute.specs.Machine.{among}
use Rattle.pac_ops.proofs.StateLemmas.{least_none, least-assoc}
use Rattle.pac_base.proofs.TestLemmas.{or_left, or_right, or_cases, or_none, same_number, equal_number, and_left, and_right, and_both, unlike, not_false, any_mem, any_gives, mem_each}
use Rattle.pac_commute.proofs.Laws.{laws, says}
use Rattle.pac_commute.proofs.Present.{same_present}
use Rattle.pac_commute.proofs.Steps.{same_piece, piece_self, among_mem, mem_among}
use Rattle.pac_commute.proofs.Theorem.{same_picks}
use Rattle.pac_lanes.specs.Shares.{applied_each, adds_all, RunsInOrder, HasInputsAtTurns}
use Rattle.pac_lanes.specs.Lanes.{Lane, on_lane, StaysIn, AreDisjoint, is_lent_with, is_changed, Agree, ArePart, IsPutBack, SharesApart}
use Rattle.pac_lanes.proofs.ShareLemmas.{run_law, picks_these}

module _ (w : World) (well_formed : WellFormed w) (env : ℕ → Values) where
  -- ---- a piece on its lane

  home_lane : (lane : Lane) (p : PieceId) → StaysIn w env lane p → (a : Cell) → touches w env p (RowOf a) ≡ true → on_lane w lane a ≡ true
  home_lane lane p stays a t = and_both _ _
      (ap lane.blocks (sym (same_number p.block (w.home a.0) (and_left (p.block == w.home a.0) (covers (access w env p) a) t))) ∙ stays.0) (stays.1 a t)

  -- what a piece of the share touches is lent
  touched_lent : (lane : Lane) (share : List PieceId) (p : PieceId) → Mem p share → StaysIn w env lane p → (c : Location) → touches w env p c ≡ true → is_lent_with w lane share c ≡ true
  touched_lent lane share p m stays (RowOf a) t = home_lane lane p stays a t
  touched_lent lane share p m stays (VarOf u x) t = any_mem (λ (q : PieceId). u == q.txn && (used_in (ops w q) x || defined_in (ops w q) x)) p share m t

  written_changed : (lane : Lane) (share : List PieceId) (p : PieceId) → Mem p share → StaysIn w env lane p → (c : Location) → writes w env p c ≡ true → is_changed w lane share c ≡ true
  written_changed lane share p m stays (RowOf a) t = home_lane lane p stays a ((laws w well_formed env).within p (RowOf a) t)
  written_changed lane share p m stays (VarOf u x) t = any_mem (λ (q : PieceId). u == q.txn && defined_in (ops w q) x) p share m t

  -- both states take the piece
  step_both : (K : Location → Bool) (p : PieceId) → ((c : Location) → touches w env p c ≡ true → K c ≡ true)
      → (s s' : Present) → HasInputs w env p s → Agree K s s' → Agree K (apply w p s) (apply w p s') × HasInputs w env p s'
  step_both K p inside s s' good agree = (λ c k. go c k (writes w env p c) refl, good')
    where
      on_touched : (c : Location) → touches w env p c ≡ true → at_location s c ≡ at_location s' c
      on_touched c t = agree c (inside c t)

      good' : HasInputs w env p s'
      good' = (laws w well_formed env).good_alike p s s' good on_touched

      go : (c : Location) → K c ≡ true → (b : Bool) → writes w env p c ≡ b → at_location (apply w p s) c ≡ at_location (apply w p s') c
      go c k true e = (laws w well_formed env).alike p s s' good on_touched c ((laws w well_formed env).within p c e)
      go c k false e = (laws w well_formed env).kept p s good c e ∙ agree c k ∙ sym ((laws w well_formed env).kept p s' good' c e)

  pub alone : (lane : Lane) (share ps : List PieceId) → ArePart ps share → Each (StaysIn w env lane) share
      → (s s' : Present) → HasInputsAtTurns w env ps s → Agree (is_lent_with w lane share) s s'
      → Agree (is_lent_with w lane share) (applied_each w ps s) (applied_each w ps s') × HasInputsAtTurns w env ps s'
  alone lane share [] part stays s s' turns agree = (agree, tt)
  alone lane share (p ∷ ps) part stays s s' turns agree =
      let m = part p (inl refl) in
      let one = step_both (is_lent_with w lane share) p (touched_lent lane share p m (mem_each (StaysIn w env lane) share stays p m)) s s' turns.0 agree in
      let rest = alone lane share ps (λ q n. part q (inr n)) stays (apply w p s) (apply w p s') turns.1 one.0 in
      (rest.0, (one.1, rest.1))

  pub leaves_within : (lane : Lane) (share ps : List PieceId) → ArePart ps share → Each (StaysIn w env lane) share
      → (s : Present) → HasInputsAtTurns w env ps s → (c : Location) → is_changed w lane share c ≡ false → at_location (applied_each w ps s) c ≡ at_location s c
  leaves_within lane share [] part stays s turns c out = refl
  leaves_within lane share (p ∷ ps) part stays s turns c out =
      let m = part p (inl refl) in
      leaves_within lane share ps (λ q n. part q (inr n)) stays (apply w p s) turns.1 c out
      ∙ (laws w well_formed env).kept p s turns.0 c (unlike _ (λ wr. true≢false (sym (written_changed lane share p m (mem_each (StaysIn w env lane) share stays p m) c wr) ∙ out)))

  pub leaves : (lane : Lane) (ps : List PieceId) → Each (StaysIn w env lane) ps
      → (s : Present) → HasInputsAtTurns w env ps s → (c : Location) → is_changed w lane ps c ≡ false → at_location (applied_each w ps s) c ≡ at_location s c
  leaves lane ps stays = leaves_within lane ps ps (λ p m. m) stays

  -- the notes, from any that stood before
  notes_from : (lane : Lane) (share ps : List PieceId) → ArePart ps share → Each (StaysIn w env lane) share
      → (s s' : Present) (n : Option Note) → HasInputsAtTurns w env ps s → Agree (is_lent_with w lane share) s s' → s.note ≡ least n s'.note
      → (applied_each w ps s).note ≡ least n (applied_each w ps s').note
  notes_from lane share [] part stays s s' n turns agree e = e
  notes_from lane share (p ∷ ps) part stays s s' n turns agree e =
      let m = part p (inl refl) in
      let inside = touched_lent lane share p m (mem_each (StaysIn w env lane) share stays p m) in
      let one = step_both (is_lent_with w lane share) p inside s s' turns.0 agree in
      notes_from lane share ps (λ q k. part q (inr k)) stays (apply w p s) (apply w p s') n turns.1 one.0
      ((laws w well_formed env).noted p s
      ∙ ap (λ l. least s.note (first_note l)) ((laws w well_formed env).said_alike p s s' turns.0 (λ c t. agree c (inside c t)))
      ∙ ap (λ k. least k (first_note (says w p s'))) e
      ∙ sym (least-assoc n s'.note (first_note (says w p s')))
      ∙ ap (least n) (sym ((laws w well_formed env).noted p s')))

  pub notes : (lane : Lane) (share ps : List PieceId) → ArePart ps share → Each (StaysIn w env lane) share
      → (s s' : Present) → HasInputsAtTurns w env ps s → Agree (is_lent_with w lane share) s s' → s'.note ≡ None
      → (applied_each w ps s).note ≡ least s.note (applied_each w ps s').note
  notes lane share ps part stays s s' turns agree none = notes_from lane share ps part stays s s' s.note turns agree (sym (least_none s.note) ∙ ap (least s.note) (sym none))

  -- what isn't lent isn't changed
  pub changed_lent : (lane : Lane) (share : List PieceId) (c : Location) → is_changed w lane share c ≡ true → is_lent_with w lane share c ≡ true
  changed_lent lane share (RowOf a) e = e
  changed_lent lane share (VarOf u x) e =
      let r = any_gives (λ (p : PieceId). u == p.txn && defined_in (ops w p) x) share e in
      any_mem (λ (p : PieceId). u == p.txn && (used_in (ops w p) x || defined_in (ops w p) x)) r.0 share r.1
      (and_both (u == r.0.txn) _ (and_left (u == r.0.txn) (defined_in (ops w r.0) x) r.2) (or_right (used_in (ops w r.0) x) _ (and_right (u == r.0.txn) (defined_in (ops w r.0) x) r.2)))

  pub put_back : (lane : Lane) (share ps : List PieceId) → ArePart ps share → Each (StaysIn w env lane) share
      → (lent before after : Present) → HasInputsAtTurns w env ps before → Agree (is_lent_with w lane share) before lent → lent.note ≡ None
      → IsPutBack w lane share (applied_each w ps lent) before after → after ≡ applied_each w ps before
  put_back lane share ps part stays lent before after turns agree none put = same_present after (applied_each w ps before)
      (λ c. go c (is_changed w lane share c) refl)
      (put.note ∙ sym (notes lane share ps part stays before lent turns agree none))
    where
      go : (c : Location) (b : Bool) → is_changed w lane share c ≡ b → at_location after c ≡ at_location (applied_each w ps before) c
      go c true e = put.inside c e ∙ sym ((alone lane share ps part stays before lent turns agree).0 c (changed_lent lane share c e))
      go c false e = put.outside c e ∙ sym (leaves_within lane share ps part stays before turns c e)

  -- ---- another lane's piece

  -- what a share runs on may grow by a piece that isn't of it
  pub runs_more : (L : List PieceId) (q : PieceId) (ps : List PieceId) (F G : PieceId → Bool) → among ps q ≡ false
      → ((r : PieceId) → F r ≡ true → G r ≡ true) → ((r : PieceId) → G r ≡ true → (F r ≡ true) ⊎ (is_piece q r ≡ true))
      → RunsInOrder w env L F ps → RunsInOrder w env L G ps
  runs_more L q [] F G other sub new runs = tt
  runs_more L q (p ∷ ps) F G other sub new runs =
      let no = or_none (is_piece p q) (among ps q) other in (
        runs.0,
        unlike _ (λ g. ⊎_elim (λ f. true≢false (sym f ∙ runs.1)) (λ e. true≢false (sym (subst (λ x. is_piece x q ≡ true) (same_piece q p e) (piece_self q)) ∙ no.0)) (new p g)),
        λ r mr n. sub r (runs.2 r mr n),
        runs_more L q ps (adds F p) (adds G p) no.1
            (λ r h. ⊎_elim (λ e. or_left (is_piece p r) (G r) e) (λ f. or_right (is_piece p r) (G r) (sub r f)) (or_cases (is_piece p r) (F r) h))
            (λ r h. ⊎_elim (λ e. inl (or_left (is_piece p r) (F r) e)) (λ g. ⊎_elim (λ f. inl (or_right (is_piece p r) (F r) f)) (λ e. inr e) (new r g)) (or_cases (is_piece p r) (G r) h))
            runs.3,
      )

  -- what a piece of the share needs is in F, or of the share
  pub needs_inside : (L : List PieceId) (ps : List PieceId) (F : PieceId → Bool) → RunsInOrder w env L F ps → (p q : PieceId) → Mem p ps → Mem q L → needs w env q p ≡ true → (F q ≡ true) ⊎ (among ps q ≡ true)
  needs_inside L [] F runs p q m mq n = absurd m
  needs_inside L (r ∷ ps) F runs p q (inl same) mq n = inl (runs.2 q mq (subst (λ x. needs w env q x ≡ true) same n))
  needs_inside L (r ∷ ps) F runs p q (inr m) mq n = ⊎_elim
      (λ h. ⊎_elim (λ e. inr (or_left (is_piece r q) (among ps q) e)) (λ f. inl f) (or_cases (is_piece r q) (F q) h))
      (λ h. inr (or_right (is_piece r q) (among ps q) h))
      (needs_inside L ps (adds F r) runs.3 p q m mq n)

  pub spares : (L : List PieceId) (lane other : Lane) → AreDisjoint w lane other → (F : PieceId → Bool) (ps : List PieceId) → Each (StaysIn w env lane) ps → RunsInOrder w env L F ps
      → (q : PieceId) → Mem q L → F q ≡ false → among ps q ≡ false → StaysIn w env other q
      → ((s : Present) → HasInputs w env q s → Agree (is_lent_with w lane ps) (apply w q s) s) × RunsInOrder w env L (adds F q) ps
  spares L lane other disjoint F ps stays runs q mq out not_of stays_q = (
    λ s good c k. (laws w well_formed env).kept q s good c (unlike _ (λ wr. untouched c k wr)),
    runs_more L q ps F (adds F q) not_of (λ r f. or_right (is_piece q r) (F r) f) (λ r h. ⊎_elim (λ e. inr e) (λ f. inl f) (or_cases (is_piece q r) (F r) h)) runs,
  )
    where
      untouched : (c : Location) → is_lent_with w lane ps c ≡ true → writes w env q c ≡ true → ⊥
      untouched (RowOf a) k wr = true≢false (sym (home_lane other q stays_q a ((laws w well_formed env).within q (RowOf a) wr)) ∙ disjoint a k)
      untouched (VarOf u x) k wr = ⊎_elim
          (λ us. ⊎_elim same (λ edge. ⊎_elim (λ f. true≢false (sym f ∙ out)) (λ f. true≢false (sym f ∙ not_of))
          (needs_inside L ps F runs p q r.1 mq (or_left _ _ (and_both (q.txn == p.txn) _ (equal_number q.txn p.txn one) (ap (λ b. b) edge)))))
          (well_formed.flows p.txn q.block p.block x defined us))
          (λ d. same (well_formed.once p.txn q.block p.block x defined d))
          (or_cases (used_in (ops w p) x) (defined_in (ops w p) x) (and_right (u == p.txn) _ r.2))
        where
          r : (p : PieceId) × Mem p ps × ((u == p.txn && (used_in (ops w p) x || defined_in (ops w p) x)) ≡ true)
          r = any_gives (λ (p : PieceId). u == p.txn && (used_in (ops w p) x || defined_in (ops w p) x)) ps k

          p : PieceId
          p = r.0

          one : q.txn ≡ p.txn
          one = sym (same_number u q.txn (and_left (u == q.txn) (defined_in (ops w q) x) wr)) ∙ same_number u p.txn (and_left (u == p.txn) (used_in (ops w p) x || defined_in (ops w p) x) r.2)

          defined : defined_in (part (w.block p.txn) q.block (w.code p.txn)) x ≡ true
          defined = ap (λ t. defined_in (part (w.block t) q.block (w.code t)) x) (sym one) ∙ and_right (u == q.txn) (defined_in (ops w q) x) wr

          same : q.block ≡ p.block → ⊥
          same e = true≢false (sym (mem_among ps q (subst (λ z. Mem z ps) (λ i. record { txn = sym one i; block = sym e i }) r.1)) ∙ not_of)

  -- so do all pieces of a share of another lane
  pub others_spare : (L : List PieceId) (lane other : Lane) → AreDisjoint w lane other → (ps : List PieceId) → Each (StaysIn w env lane) ps
      → (F : PieceId → Bool) (qs : List PieceId) (s : Present) → ((q : PieceId) → Mem q qs → among ps q ≡ false) → Each (StaysIn w env other) qs
      → RunsInOrder w env L F ps → RunsInOrder w env L F qs → HasInputsAtTurns w env qs s
      → Agree (is_lent_with w lane ps) (applied_each w qs s) s × RunsInOrder w env L (adds_all F qs) ps
  others_spare L lane other disjoint ps stays F [] s apart stays' runs runs' turns = (λ c k. refl, runs)
  others_spare L lane other disjoint ps stays F (q ∷ qs) s apart stays' runs runs' turns =
      let one = spares L lane other disjoint F ps stays runs q runs'.0 runs'.1 (apart q (inl refl)) stays'.0 in
      let rest = others_spare L lane other disjoint ps stays (adds F q) qs (apply w q s) (λ r m. apart r (inr m)) stays'.1 one.1 runs'.3 turns.1 in
      (λ c k. rest.0 c k ∙ one.0 s turns.0 c k, rest.1)

pub disjoint_turned : (w : World) (lane other : Lane) → AreDisjoint w lane other → AreDisjoint w other lane
disjoint_turned w lane other disjoint a e = unlike _ (λ h. true≢false (sym e ∙ disjoint a h))

or_exchange : (a b c : Bool) → (a || (b || c)) ≡ (b || (a || c))
or_exchange true true c = refl
or_exchange true false c = refl
or_exchange false true c = refl
or_exchange false false c = refl

both_ways : (F : PieceId → Bool) (ps qs : List PieceId) (r : PieceId) → adds_all (adds_all F qs) ps r ≡ adds_all (adds_all F ps) qs r
both_ways F ps qs r =
    picks_these (adds_all F qs) ps r ∙ ap (λ b. among ps r || b) (picks_these F qs r) ∙ or_exchange (among ps r) (among qs r) (F r)
    ∙ sym (picks_these (adds_all F ps) qs r ∙ ap (λ b. among qs r || b) (picks_these F ps r))

module _ (w : World) (well_formed : WellFormed w) (ts bs : List ℕ) (exchange : ExchangeByNeeds w ts bs) where
  -- the second share, and then the first
  second_first : (s : Present) (F : PieceId → Bool) → HoldsNeeds w (env_after w ts s) (pieces w ts bs) F
      → (lane other : Lane) → AreDisjoint w lane other → (ps qs : List PieceId) → ((q : PieceId) → Mem q qs → among ps q ≡ false)
      → Each (StaysIn w (env_after w ts s) lane) ps → Each (StaysIn w (env_after w ts s) other) qs
      → RunsInOrder w (env_after w ts s) (pieces w ts bs) F ps → RunsInOrder w (env_after w ts s) (pieces w ts bs) F qs
      → Agree (is_lent_with w lane ps) (applied_each w qs (partial w F (pieces w ts bs) s)) (partial w F (pieces w ts bs) s)
      × RunsInOrder w (env_after w ts s) (pieces w ts bs) (adds_all F qs) ps
      × (applied_each w ps (applied_each w qs (partial w F (pieces w ts bs) s)) ≡ partial w (adds_all (adds_all F qs) ps) (pieces w ts bs) s)
  second_first s F holds lane other disjoint ps qs apart stays stays' runs runs' =
      let run = run_law w ts bs exchange s F qs holds runs' in
      let spared = others_spare w well_formed (env_after w ts s) (pieces w ts bs) lane other disjoint ps stays F qs (partial w F (pieces w ts bs) s) apart stays' runs runs' run.inputs in
      let next = run_law w ts bs exchange s (adds_all F qs) ps run.needs spared.1 in
      (spared.0, spared.1, ap (applied_each w ps) (sym run.ends) ∙ sym next.ends)

  pub shares_apart : SharesApart w ts bs
  shares_apart s F holds lane other disjoint ps qs apart stays stays' runs runs' =
      let one = second_first s F holds lane other disjoint ps qs (λ q m. unlike _ (λ e. not_false _ (apart q (among_mem ps q e)) (mem_among qs q m))) stays stays' runs runs' in
      let two = second_first s F holds other lane (disjoint_turned w lane other disjoint) qs ps apart stays' stays runs' runs in
      record {
        stays = one.0;
        next = one.1;
        swap = one.2 ∙ same_picks w _ _ (pieces w ts bs) s (λ r m. both_ways F ps qs r) ∙ sym two.2;
        ends = one.2;
      }
