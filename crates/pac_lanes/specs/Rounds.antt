-- Which pieces make a share: those of one round, one stage and one group that aren't finished; when such a share runs in order, and
-- that one always does.
use Rattle.std.specs.Prelude.{◌≡◌, ◌⊎◌, ℕ, ◌<◌, ◌≤◌, Bool, true, false, ◌&&◌, ◌==◌, not, if◌then◌else◌, List, [], ◌∷◌, ◌++◌, filter, Option, Some, None}
use Rattle.pac_value.specs.Expressions.{Values}
use Rattle.pac_ops.specs.declared.piece.PieceId.{PieceId}
use Rattle.pac_base.specs.Members.{Mem}
use Rattle.pac_plan.specs.Pieces.{World, pieces, access, conflicts, needs}
use Rattle.pac_lanes.specs.Shares.{adds_all, HasNeeds, RunsInOrder}

-- ---- any pieces

-- the pieces of L that pass the test and that F doesn't pick, in the order of L: by transaction, then by block
abbrev pub rest_of : List PieceId → (PieceId → Bool) → (PieceId → Bool) → List PieceId
rest_of L F test = filter (λ p. test p && not (F p)) L

-- what such a piece needs is in F or passes the test
abbrev pub HoldTogether : World → (ℕ → Values) → List PieceId → (PieceId → Bool) → (PieceId → Bool) → Type 0
HoldTogether w env L F test = (p q : PieceId) → Mem p L → Mem q L → test p ≡ true → F p ≡ false → needs w env q p ≡ true → (F q ≡ true) ⊎ (test q ≡ true)

-- then they run in order
abbrev pub RestRuns : World → List ℕ → List ℕ → Type 0
RestRuns w ts bs = (env : ℕ → Values) (F test : PieceId → Bool) → HoldTogether w env (pieces w ts bs) F test → RunsInOrder w env (pieces w ts bs) F (rest_of (pieces w ts bs) F test)

-- ---- rounds, stages and groups

-- the round of each transaction, the stage of each block, the group of each transaction in each stage, which stages lead to which, and which
-- groups of a stage clash
pub record StageCut : Type 0 where
  pub round : ℕ → ℕ
  pub stage : ℕ → ℕ
  pub group : ℕ → ℕ → ℕ
  pub leads : ℕ → ℕ → Bool
  pub clash : ℕ → ℕ → ℕ → Bool

-- rounds rise with the numbers of transactions; an edge between blocks stays in its stage or leads to a higher one; pieces of one block whose
-- groups don't clash don't conflict; and of one round, groups of a stage are one or don't clash
pub record IsCut (w : World) (env : ℕ → Values) (L : List PieceId) (cut : StageCut) : Type 0 where
  pub rounds : (t u : ℕ) → t < u → cut.round t ≤ cut.round u
  pub edges : (b c : ℕ) → w.edge b c ≡ true → (cut.stage b ≡ cut.stage c) ⊎ (cut.leads (cut.stage b) (cut.stage c) ≡ true)
  pub up : (k l : ℕ) → cut.leads k l ≡ true → k < l
  pub groups : (p q : PieceId) → Mem p L → Mem q L → p.block ≡ q.block → cut.clash (cut.stage p.block) (cut.group (cut.stage p.block) p.txn) (cut.group (cut.stage p.block) q.txn) ≡ false
      → conflicts (access w env p) (access w env q) ≡ false
  pub one_round : (p q : PieceId) → Mem p L → Mem q L → p.block ≡ q.block → cut.round p.txn ≡ cut.round q.txn
      → (cut.group (cut.stage p.block) p.txn ≡ cut.group (cut.stage p.block) q.txn) ⊎ (cut.clash (cut.stage p.block) (cut.group (cut.stage p.block) p.txn) (cut.group (cut.stage p.block) q.txn) ≡ false)

-- a piece of this round, this stage and this group
abbrev pub is_of : StageCut → ℕ → ℕ → ℕ → PieceId → Bool
is_of cut r k g p = cut.round p.txn == r && (cut.stage p.block == k && cut.group k p.txn == g)

-- the stages that lead to this one are finished for this round, and the groups of this stage that clash with this one for earlier rounds
abbrev pub MayBeLent : List PieceId → StageCut → (PieceId → Bool) → ℕ → ℕ → ℕ → Type 0
MayBeLent L cut F r k g =
    ((q : PieceId) → Mem q L → cut.round q.txn ≡ r → cut.leads (cut.stage q.block) k ≡ true → F q ≡ true)
    × ((q : PieceId) → Mem q L → cut.round q.txn < r → cut.stage q.block ≡ k → cut.clash k (cut.group k q.txn) g ≡ true → F q ≡ true)

-- then all its unfinished pieces, by transaction and block, run in order
abbrev pub ShareReady : World → List ℕ → List ℕ → Type 0
ShareReady w ts bs = (env : ℕ → Values) (cut : StageCut) → IsCut w env (pieces w ts bs) cut → (F : PieceId → Bool) (r k g : ℕ) → MayBeLent (pieces w ts bs) cut F r k g
    → RunsInOrder w env (pieces w ts bs) F (rest_of (pieces w ts bs) F (is_of cut r k g))

-- and once they are in, all its pieces are
abbrev pub ShareDone : World → List ℕ → List ℕ → Type 0
ShareDone w ts bs = (F test : PieceId → Bool) (p : PieceId) → Mem p (pieces w ts bs) → test p ≡ true → adds_all F (rest_of (pieces w ts bs) F test) p ≡ true

-- where the first of them are in, what is left of them is the rest
abbrev pub RestStays : World → List ℕ → List ℕ → Type 0
RestStays w ts bs = (F test : PieceId → Bool) (run rest : List PieceId) → rest_of (pieces w ts bs) F test ≡ run ++ rest → rest_of (pieces w ts bs) (adds_all F run) test ≡ rest

-- while something is unfinished, some share that has an unfinished piece may be lent
abbrev pub SomeMayBeLent : World → List ℕ → List ℕ → Type 0
SomeMayBeLent w ts bs = (env : ℕ → Values) (cut : StageCut) → IsCut w env (pieces w ts bs) cut → (F : PieceId → Bool) (q : PieceId) → Mem q (pieces w ts bs) → F q ≡ false
    → (p : PieceId) × Mem p (pieces w ts bs) × (F p ≡ false) × MayBeLent (pieces w ts bs) cut F (cut.round p.txn) (cut.stage p.block) (cut.group (cut.stage p.block) p.txn)

-- ---- one by one

-- the first piece that F doesn't pick
abbrev pub first_left : List PieceId → (PieceId → Bool) → Option PieceId
first_left [] F = None
first_left (p ∷ ps) F = if F p then first_left ps F else Some p

-- by transaction and block p isn't after q
abbrev pub NotAfter : PieceId → PieceId → Type 0
NotAfter p q = (p.txn < q.txn) ⊎ ((p.txn ≡ q.txn) × (p.block ≤ q.block))

-- nothing is left, or the piece is the first one left, and F has what it needs
abbrev pub IsFirstUnfinished : World → (ℕ → Values) → List PieceId → (PieceId → Bool) → Option PieceId → Type 0
IsFirstUnfinished w env L F None = (q : PieceId) → Mem q L → F q ≡ true
IsFirstUnfinished w env L F (Some p) = Mem p L × (F p ≡ false) × ((q : PieceId) → Mem q L → F q ≡ false → NotAfter p q) × HasNeeds w env L F p

-- whatever F picks
abbrev pub FirstHasNeeds : World → List ℕ → List ℕ → Type 0
FirstHasNeeds w ts bs = (env : ℕ → Values) (F : PieceId → Bool) → IsFirstUnfinished w env (pieces w ts bs) F (first_left (pieces w ts bs) F)

-- so all that is left runs in order
abbrev pub DrainRuns : World → List ℕ → List ℕ → Type 0
DrainRuns w ts bs = (env : ℕ → Values) (F : PieceId → Bool) → RunsInOrder w env (pieces w ts bs) F (filter (λ p. not (F p)) (pieces w ts bs))
