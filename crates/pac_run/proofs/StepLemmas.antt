-- One line is served after others.
use Rattle.std.proofs.Common.{◌≡◌, ◌∙◌, ◌⊎◌, inl, inr, ℕ, ◌<◌, ◌≤◌, true, List, [], ◌∷◌, ◌++◌, length, Option, refl, sym, ap, ap₂, subst, arith}
use Rattle.std.specs.List.{AllByRecursion, fold}
use Rattle.std.proofs.lemmas.List.{append-nil}
use Rattle.std.proofs.lemmas.List.Sums.{fold-append}
use Rattle.pac_ops.specs.declared.transaction.Txn.{Txn}
use Rattle.pac_outside.specs.Devices.{WhileAllKnown}
use Rattle.pac_outside.specs.Disk.{DiskHistory}
use Rattle.pac_outside.specs.declared.devices.Devices.{Devices}
use Rattle.pac_log.specs.declared.position.NextGate.{NextGate}
use Rattle.pac_check.specs.declared.limits.TheConstants.{MAX_SLOT_LEN}
use Rattle.pac_request.specs.declared.request.Request.{Request}
use Rattle.pac_request.specs.declared.request.Request.TheVariants as request
use Rattle.pac_request.specs.declared.request.Reply.{Reply}
use Rattle.pac_request.specs.declared.request.Reply.TheVariants as reply
use Rattle.pac_session.specs.Session.{Rules, SessionState, committed, ends}
use Rattle.pac_session.specs.Groups.{GroupCut, all_requests, LogSpot, cut, cut_on, cut_one, saves_anew}
use Rattle.pac_session.specs.Open.{rules_of, state_now}
use Rattle.pac_session.proofs.SessionLemmas.{committed-append, ends-append}
use Rattle.pac_session.proofs.CutLemmas.{whole-cut}
use Rattle.pac_engine.specs.declared.parts.EngineParts.{EngineParts}
use Rattle.pac_engine.specs.Closing.{Closes, IsGateUnsaved, IsKept, slot_len}
use Rattle.pac_engine.specs.Standing.{OnlyGrows, KeepsHistory, StandsOn, durable_of, saved_of, spot_of}
use Rattle.pac_engine.proofs.LawLemmas.{begins, history-then, stands-then, unsaved-then}
use Rattle.pac_engine.proofs.KnownLemmas.{refused-keeps}
use Rattle.pac_run.specs.Serving.{Answered, GoesFrom, KeepsEach, StandsForEach}
use Rattle.pac_run.specs.Stopping.{EndsGroups, EndsUnsaved, SaveFits}
use Rattle.pac_run.specs.Texts.{IsPlain}

-- ---- lists

pub all-both : (P : Reply → Type 0) (xs ys : List Reply) → AllByRecursion P xs → AllByRecursion P ys → AllByRecursion P (xs ++ ys)
all-both P [] ys first second = second
all-both P (x ∷ xs) ys first second = (first.0, all-both P xs ys first.1 second)

kept-one : (old new : EngineParts) → OnlyGrows old new → (r : Reply) → IsKept old r → IsKept new r
kept-one old new grows (reply.Committed txn) is = let k : txn ≤ durable_of old = is in omega (arith, k, grows.durable)
kept-one old new grows (reply.Aborted op reason) is = tt
kept-one old new grows (reply.AbortedFull table) is = tt
kept-one old new grows (reply.Shown table key row) is = tt
kept-one old new grows (reply.Refused fault) is = tt
kept-one old new grows (reply.Saved txns) is = λ few. let k : txns < saved_of old = is few in omega (arith, k, grows.saved)

pub kept-grows : (old new : EngineParts) → OnlyGrows old new → (given : List Reply) → AllByRecursion (IsKept old) given → AllByRecursion (IsKept new) given
kept-grows old new grows [] kept = tt
kept-grows old new grows (r ∷ given) kept = (kept-one old new grows r kept.0, kept-grows old new grows given kept.1)

pub grown-then : (a b c : EngineParts) → OnlyGrows a b → OnlyGrows b c → OnlyGrows a c
grown-then a b c first second = record { durable = omega (arith, first.durable, second.durable); saved = omega (arith, first.saved, second.saved) }

-- lists of requests that are the same begin with the same one, and go on with the same ones
head-same : (x y : Request) (xs ys : List Request) → x ∷ xs ≡ y ∷ ys → x ≡ y
head-same x y xs ys e = cc

tail-same : (x y : Request) (xs ys : List Request) → x ∷ xs ≡ y ∷ ys → xs ≡ ys
tail-same x y xs ys e = cc

-- a request among these and one more is that one, which is the last, or one of these
pub data-free : (xs before rest : List Request) (x y : Request) → xs ++ x ∷ [] ≡ before ++ y ∷ rest → ((before ≡ xs) × (x ≡ y) × (rest ≡ [])) ⊎ ((more : List Request) × (xs ≡ before ++ y ∷ more))
data-free [] [] rest x y same = inl (refl, head-same x y [] rest same, sym (tail-same x y [] rest same))
data-free [] (b ∷ bs) rest x y same = absurd (none bs (tail-same x b [] (bs ++ y ∷ rest) same))
  where
    none : (bs : List Request) → [] ≡ bs ++ y ∷ rest → ⊥
    none [] e = absurd cc
    none (c ∷ cs) e = absurd cc
data-free (z ∷ zs) [] rest x y same = inr (zs, ap (λ (r : Request). r ∷ zs) (head-same z y (zs ++ x ∷ []) rest same))
data-free (z ∷ zs) (b ∷ bs) rest x y same = go (data-free zs bs rest x y (tail-same z b (zs ++ x ∷ []) (bs ++ y ∷ rest) same))
  where
    first : z ≡ b
    first = head-same z b (zs ++ x ∷ []) (bs ++ y ∷ rest) same

    go : ((bs ≡ zs) × (x ≡ y) × (rest ≡ [])) ⊎ ((more : List Request) × (zs ≡ bs ++ y ∷ more)) → ((b ∷ bs ≡ z ∷ zs) × (x ≡ y) × (rest ≡ [])) ⊎ ((more : List Request) × (z ∷ zs ≡ b ∷ (bs ++ y ∷ more)))
    go (inl is) = inl (ap₂ (λ (r : Request) (l : List Request). r ∷ l) (sym first) is.0, is.1, is.2)
    go (inr is) = inr (is.0, ap₂ (λ (r : Request) (l : List Request). r ∷ l) first is.1)

-- what is said of all requests, and one request more
pub both-parts : (P : Request → Type 0) (xs ys : List Request) → AllByRecursion P (xs ++ ys) → AllByRecursion P xs × AllByRecursion P ys
both-parts P [] ys all = (tt, all)
both-parts P (x ∷ xs) ys all = let rest = both-parts P xs ys all.1 in ((all.0, rest.0), rest.1)

none-before : (xs ys : List Request) → xs ++ ys ≡ [] → xs ≡ []
none-before [] ys e = refl
none-before (x ∷ xs) ys e = absurd (none e)
  where
    none : x ∷ (xs ++ ys) ≡ [] → ⊥
    none h = cc

none-after : (xs ys : List Request) → xs ++ ys ≡ [] → ys ≡ []
none-after [] ys e = e
none-after (x ∷ xs) ys e = absurd (none e)
  where
    none : x ∷ (xs ++ ys) ≡ [] → ⊥
    none h = cc

pub never-none : (xs : List Request) (x : Request) → xs ++ x ∷ [] ≡ [] → ⊥
never-none xs x e = none (none-after xs (x ∷ []) e)
  where
    none : x ∷ [] ≡ [] → ⊥
    none h = cc

-- ---- nothing is asked

pub nothing-keeps : (e : EngineParts) (known : Devices (Option DiskHistory)) → KeepsEach [] e e known known
nothing-keeps e known = λ text history. refused-keeps text history e e _ refl refl

-- ---- after what was served

-- the engine is at the end of the requests
module _ (first now : EngineParts) (requests : List Request) (given : List Reply) (known known' : Devices (Option DiskHistory)) (goes : GoesFrom first now requests given known known') where
  abbrev rules : Rules
  rules = rules_of first.session

  abbrev start : SessionState
  start = state_now first.session

  abbrev spot : LogSpot
  spot = spot_of first

  abbrev whole : GroupCut
  whole = cut (rules_of first.session) (state_now first.session) requests

  abbrev middle : SessionState
  middle = ends (rules_of first.session) (state_now first.session) (all_requests (cut (rules_of first.session) (state_now first.session) requests).closed)

  pub reached : state_now now.session ≡ ends (rules_of first.session) (state_now first.session) requests
  reached = sym goes.closes.within.here ∙ ap (λ (r : Rules). ends r middle whole.rest) goes.closes.same ∙ sym (ends-append rules start (all_requests whole.closed) whole.rest) ∙ ap (ends rules start) (whole-cut rules start requests)

  pub committed-more : (asked : List Request) → committed (rules_of first.session) (state_now first.session) requests ++ committed (rules_of now.session) (state_now now.session) asked ≡ committed (rules_of first.session) (state_now first.session) (requests ++ asked)
  committed-more asked = ap (λ (t : List Txn). committed rules start requests ++ t) (ap (λ (r : Rules). committed r (state_now now.session) asked) goes.closes.same ∙ ap (λ (s : SessionState). committed rules s asked) reached) ∙ sym (committed-append rules start requests asked)

  pub cut-more : (asked : List Request) → cut (rules_of first.session) (state_now first.session) (requests ++ asked) ≡ fold (cut_on (rules_of first.session) (state_now first.session)) (cut (rules_of first.session) (state_now first.session) requests) asked
  cut-more asked = fold-append (cut_on rules start) (record { closed = []; rest = [] }) requests asked

  -- the log's gate stands after the groups that were closed, and after those of one request more
  pub gate-reached : EndsGroups (rules_of first.session) (spot_of first) (state_now first.session) requests now.log.gate
  gate-reached = record { counted = goes.durable ∙ sym goes.closes.within.begun; there = ap (λ (s : LogSpot). s.place) goes.closes.there }

  pub gate-more : (asked : Request) (gate : NextGate)
      → IsGateUnsaved (rules_of now.session) (spot_of now) (ends (rules_of first.session) (state_now first.session) (all_requests (cut (rules_of first.session) (state_now first.session) requests).closed)) (cut_one (rules_of now.session) (ends (rules_of first.session) (state_now first.session) (all_requests (cut (rules_of first.session) (state_now first.session) requests).closed)) (cut (rules_of first.session) (state_now first.session) requests).rest asked).closed gate
      → EndsUnsaved (rules_of first.session) (spot_of first) (state_now first.session) (requests ++ asked ∷ []) gate
  gate-more asked gate after =
      let here : IsGateUnsaved rules (spot_of now) middle (cut_one rules middle whole.rest asked).closed gate = subst (λ (r : Rules). IsGateUnsaved r (spot_of now) middle (cut_one r middle whole.rest asked).closed gate) goes.closes.same after in
      subst (λ (c : GroupCut). IsGateUnsaved rules spot start c.closed gate) (sym (cut-more (asked ∷ []))) (unsaved-then rules spot start whole given now goes.closes (cut_one rules middle whole.rest asked).closed gate here)

  -- a save that was handled had room, where it wrote
  pub save-room : (saves_anew (saved_of now) (state_now now.session).number ≡ true → slot_len (rules_of now.session) (state_now now.session) ≤ MAX_SLOT_LEN) → SaveFits (rules_of first.session) (spot_of first) (state_now first.session) requests
  save-room fits anew =
      let here : saves_anew (saved_of now) (state_now now.session).number ≡ true = ap₂ (λ (s : LogSpot) (state : SessionState). saves_anew s.reach state.number) goes.closes.there reached ∙ anew in
      subst (λ (s : SessionState). slot_len rules s ≤ MAX_SLOT_LEN) reached (subst (λ (r : Rules). slot_len r (state_now now.session) ≤ MAX_SLOT_LEN) goes.closes.same (fits here))

  module _ (new : EngineParts) (known'' : Devices (Option DiskHistory)) where
    pub keeps-more : (asked : List Request) → KeepsEach (committed (rules_of now.session) (state_now now.session) asked) now new known' known''
        → KeepsEach (committed (rules_of first.session) (state_now first.session) (requests ++ asked)) first new known known''
    keeps-more asked keeps = λ text history. subst (λ (t : List Txn). WhileAllKnown (StandsOn text history first) (KeepsHistory text (history ++ t) first new) known known'') (committed-more asked)
        (history-then text history (committed rules start requests) (committed (rules_of now.session) (state_now now.session) asked) first now new known known' known'' goes.closes.same goes.grows (goes.keeps text history) (goes.stands text history) (keeps text (history ++ committed rules start requests)))

    stands-more : (asked : List Request) → StandsForEach (committed (rules_of now.session) (state_now now.session) asked) now new known' known''
        → StandsForEach (committed (rules_of first.session) (state_now first.session) (requests ++ asked)) first new known known''
    stands-more asked stands = λ text history. subst (λ (t : List Txn). WhileAllKnown (StandsOn text history first) (λ was is. StandsOn text (history ++ t) new is) known known'') (committed-more asked)
        (stands-then text history (committed rules start requests) (committed (rules_of now.session) (state_now now.session) asked) first now new known known' known'' (goes.stands text history) (stands text (history ++ committed rules start requests)))

    module _ (asked : List Request) (more : List Reply) (answered : Answered asked more now new known' known'') where
      closes-more : Closes (rules_of first.session) (spot_of first) (state_now first.session) (cut (rules_of first.session) (state_now first.session) (requests ++ asked)) (given ++ more) new
      closes-more = subst (λ (c : GroupCut). Closes rules spot start c (given ++ more) new) (sym (cut-more asked)) (answered.closes rules spot start whole given goes.closes)

      -- a save that was answered had room
      save-fits : asked ≡ request.Save ∷ [] → SaveFits (rules_of first.session) (spot_of first) (state_now first.session) requests
      save-fits is =
          let saves : Answered (request.Save ∷ []) more now new known' known'' = subst (λ (l : List Request). Answered l more now new known' known'') is answered in
          save-room (saves.saves refl)

      saves-more : (before rest : List Request) → requests ++ asked ≡ before ++ request.Save ∷ rest → SaveFits (rules_of first.session) (spot_of first) (state_now first.session) before
      saves-more before rest same = by asked refl
        where
          one : (asks : Request) → asked ≡ asks ∷ [] → ((before ≡ requests) × (asks ≡ request.Save) × (rest ≡ [])) ⊎ ((others : List Request) × (requests ≡ before ++ request.Save ∷ others)) → SaveFits rules spot start before
          one asks is (inl at) = subst (λ (l : List Request). SaveFits rules spot start l) (sym at.0) (save-fits (is ∙ ap (λ (r : Request). r ∷ []) at.1))
          one asks is (inr at) = goes.saves before at.0 at.1

          by : (list : List Request) → asked ≡ list → SaveFits rules spot start before
          by [] is = goes.saves before rest (sym (append-nil requests) ∙ ap (λ (l : List Request). requests ++ l) (sym is) ∙ same)
          by (asks ∷ []) is = one asks is (data-free requests before rest asks request.Save (ap (λ (l : List Request). requests ++ l) (sym is) ∙ same))
          by (asks ∷ next ∷ others) is = absurd (omega (arith, answered.few, ap (λ (l : List Request). length l) is))

      pub goes-more : GoesFrom first new (requests ++ asked) (given ++ more) known known''
      goes-more = record {
        closes = closes-more;
        keeps = keeps-more asked answered.keeps;
        stands = stands-more asked answered.stands;
        grows = grown-then first now new goes.grows answered.grows;
        kept = all-both (IsKept new) given more (kept-grows now new answered.grows given goes.kept) answered.kept;
        plain = all-both IsPlain given more goes.plain answered.plain;
        saves = saves-more;
        durable = answered.durable goes.durable;
        slots = λ none. let parts = both-parts (λ r. r ≡ request.Save → ⊥) requests asked none in answered.slots parts.1 ∙ goes.slots parts.0;
        still = λ none. answered.still (none-after requests asked none) ∙ goes.still (none-before requests asked none);
      }

-- ---- from the beginning

pub goes-first : (first : EngineParts) (known : Devices (Option DiskHistory)) → first.session.txns ≡ [] → first.session.held ≡ [] → ((text : List ℕ) (history : List Txn) → WhileAllKnown (StandsOn text history first) (λ was is. StandsOn text (history ++ []) first is) known known)
    → durable_of first ≡ first.session.before → GoesFrom first first [] [] known known
goes-first first known txns held stands durable = record {
  closes = begins first txns held;
  keeps = nothing-keeps first known;
  stands = stands;
  grows = record { durable = omega arith; saved = omega arith };
  kept = tt;
  plain = tt;
  saves = λ before rest same. absurd (none before rest same);
  durable = durable;
  slots = λ none. refl;
  still = λ none. refl;
}
  where
    none : (before rest : List Request) → [] ≡ before ++ request.Save ∷ rest → ⊥
    none [] rest e = absurd cc
    none (b ∷ bs) rest e = absurd cc
