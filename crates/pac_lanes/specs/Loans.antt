-- What is at home while shares are lent: of each loan its lane, its share and what stood there, and what one who lends, loads and takes back keeps.
use Rattle.std.specs.Prelude.{◌≡◌, ℕ, Bool, true, false, List, [], ◌∷◌, ◌++◌, None}
use Rattle.std.specs.List.{list_any}
use Rattle.pac_value.specs.declared.values.Key.{Key}
use Rattle.pac_ops.specs.declared.batch.Batch.{Batch}
use Rattle.pac_ops.specs.declared.piece.PieceId.{PieceId}
use Rattle.pac_base.specs.Members.{Each, Mem}
use Rattle.pac_plan.specs.Analysis.{IsPlan}
use Rattle.pac_plan.specs.Pieces.{Present, World, Location, at_location}
use Rattle.pac_commute.specs.PlanLaws.{txns_of}
use Rattle.pac_ops.specs.Notes.{first_note}
use Rattle.pac_ops.specs.Shapes.{RowsFit}
use Rattle.pac_ops.specs.Transactions.{replayed}
use Rattle.pac_commute.specs.PartialFits.{PresentFits, TxnsFitPlan}
use Rattle.pac_commute.specs.Loads.{Job, begin, next_in_job, loaded, and_batch}
use Rattle.pac_commute.specs.Machine.{Machine, among, opening_machine, world_at, pieces_at, ends_at}
use Rattle.pac_lanes.specs.Shares.{applied_each, HasInputsAtTurns, PieceCode, codes_of}
use Rattle.pac_lanes.specs.Lanes.{Lane, AreDisjoint, is_lent_with, is_changed, Agree, IsPutBack}
use Rattle.pac_lanes.specs.Rounds.{StageCut, IsCut, rest_of, is_of, MayBeLent}
use Rattle.pac_lanes.specs.Stays.{groups_clash, lane_of, IsOfGroup}
use Rattle.pac_commute.specs.Machine.{KeepsJob}
use Rattle.pac_lanes.specs.Finish.{NothingOut, after_share, IsLent}

-- ---- loans

-- a lane, the share that is run there, its code, and a state that has what was lent, as it was then, and no note
pub record Loan : Type 0 where
  pub lane : Lane
  pub share : List PieceId
  pub codes : List PieceCode
  pub given : Present

-- the share is lent, the code is its pieces', what was given is what stands, and no note
pub record IsLoan (job : Job) (m : Machine) (loan : Loan) : Type 0 where
  pub lent : IsLent job m loan.lane loan.share
  pub code : loan.codes ≡ codes_of (world_at job m) loan.share
  pub held : Agree (is_lent_with (world_at job m) loan.lane loan.share) m.now loan.given
  pub noteless : loan.given.note ≡ None

-- two loans: their lanes are disjoint, and no piece is of both shares
abbrev pub LoanApart : World → Loan → Loan → Type 0
LoanApart w loan other = AreDisjoint w loan.lane other.lane × ((p : PieceId) → Mem p loan.share → among other.share p ≡ false)

-- each two of them are so
abbrev pub LoansApart : World → List Loan → Type 0
LoansApart w [] = Unit {0}
LoansApart w (loan ∷ loans) = Each (LoanApart w loan) loans × LoansApart w loans

-- one of them may change what stands here
abbrev pub is_away : World → List Loan → Location → Bool
is_away w loans c = list_any (λ loan. is_changed w loan.lane loan.share c) loans

-- ---- home

-- the state of the machine is the partial replay of what is finished; loans are apart; what isn't away is at home, and the note is
pub record KeepsHome (job : Job) (m : Machine) (home : Present) (loans : List Loan) : Type 0 where
  pub keeps : KeepsJob job m
  pub in_hand : NothingOut m
  pub each : Each (IsLoan job m) loans
  pub apart : LoansApart (world_at job m) loans
  pub at_home : (c : Location) → is_away (world_at job m) loans c ≡ false → at_location home c ≡ at_location m.now c
  pub note : home.note ≡ m.now.note

-- nothing is loaded
abbrev pub OpensHome : Type 0
OpensHome = (job : Job) → KeepsHome job (opening_machine job) (begin job []) []

-- a batch is loaded: the arguments of its transactions come home, whatever is lent
abbrev pub LoadKeepsHome : Type 0
LoadKeepsHome = (job : Job) → IsPlan job.parts → (m : Machine) (home : Present) (loans : List Loan) → KeepsHome job m home loans
    → (batch : Batch) → batch.first ≡ next_in_job job m.batches → TxnsFitPlan job.parts batch.txns
    → KeepsHome job (record m { batches = and_batch m.batches batch; now = loaded (next_in_job job m.batches) (begin job (and_batch m.batches batch)).envs m.now })
    (loaded (next_in_job job m.batches) (begin job (and_batch m.batches batch)).envs home) loans

-- a share is lent whose lane and pieces are apart from all that is lent, with what is at home
abbrev pub LendKeepsHome : Type 0
LendKeepsHome = (job : Job) → IsPlan job.parts → (m : Machine) (home : Present) (loans : List Loan) → KeepsHome job m home loans
    → (loan : Loan) → IsLent job m loan.lane loan.share → Each (LoanApart (world_at job m) loan) loans → loan.codes ≡ codes_of (world_at job m) loan.share
    → Agree (is_lent_with (world_at job m) loan.lane loan.share) home loan.given → loan.given.note ≡ None
    → KeepsHome job m home (loan ∷ loans)

-- whoever has it finds the inputs of each piece at its turn
abbrev pub LoanHasInputs : Type 0
LoanHasInputs = (job : Job) → IsPlan job.parts → (m : Machine) (home : Present) (loans : List Loan) → KeepsHome job m home loans
    → (loan : Loan) → Mem loan loans → HasInputsAtTurns (world_at job m) (ends_at job m) loan.share loan.given

-- one comes back, of which the first pieces were run on what was given: these are finished, and what was made is at home
abbrev pub ReturnKeepsHome : Type 0
ReturnKeepsHome = (job : Job) → IsPlan job.parts → (m : Machine) (home : Present) (before : List Loan) (loan : Loan) (after : List Loan)
    → KeepsHome job m home (before ++ loan ∷ after)
    → (run rest : List PieceId) → loan.share ≡ run ++ rest
    → (home' : Present) → IsPutBack (world_at job m) loan.lane loan.share (applied_each (world_at job m) run loan.given) home home'
    → KeepsHome job (after_share job m run) home' (before ++ after)

-- with nothing lent, all is at home
abbrev pub AllAtHome : Type 0
AllAtHome = (job : Job) (m : Machine) (home : Present) → KeepsHome job m home [] → home ≡ m.now

-- so where all pieces are finished, what is at home is what the flat form of the transactions leaves, one after another
abbrev pub HomeEnds : Type 0
HomeEnds = (job : Job) → IsPlan job.parts → (m : Machine) (home : Present) → KeepsHome job m home [] → ((p : PieceId) → Mem p (pieces_at job m) → m.finished p ≡ true)
    → (home.tables ≡ (replayed job.parts.programs job.first (txns_of m.batches) job.tables).tables)
    × (home.note ≡ first_note (replayed job.parts.programs job.first (txns_of m.batches) job.tables).notes)

-- ---- loans of a cut

-- the unfinished pieces of a round, a stage and a group
abbrev pub share_at : Job → Machine → StageCut → ℕ → ℕ → ℕ → List PieceId
share_at job m cut r k g = rest_of (pieces_at job m) m.finished (is_of cut r k g)

-- where they may be lent, and each piece is of its group, they are, on the lane of the stage and the group
abbrev pub CutLends : Type 0
CutLends = (job : Job) → IsPlan job.parts → (m : Machine) → (cut : StageCut) (of_key : ℕ → Key → ℕ) → IsCut (world_at job m) (ends_at job m) (pieces_at job m) cut
    → ((p : PieceId) → Mem p (pieces_at job m) → IsOfGroup (world_at job m) (ends_at job m) cut of_key p)
    → (r k g : ℕ) → MayBeLent (pieces_at job m) cut m.finished r k g → IsLent job m (lane_of cut of_key k g) (share_at job m cut r k g)

-- shares of two stages, or of groups of one that don't clash, are apart
abbrev pub CutLoansApart : Type 0
CutLoansApart = (job : Job) (m : Machine) (cut : StageCut) (of_key : ℕ → Key → ℕ) (r k g s l h : ℕ) (codes codes' : List PieceCode) (given given' : Present) → (k ≡ l → groups_clash k g h ≡ false)
    → LoanApart (world_at job m) (record { lane = lane_of cut of_key k g; share = share_at job m cut r k g; codes = codes; given = given }) (record { lane = lane_of cut of_key l h; share = share_at job m cut s l h; codes = codes'; given = given' })

-- ---- fitting

-- where the opening tables fit and what was given does, what is made of it does at each turn
abbrev pub LoanFits : Type 0
LoanFits = (job : Job) → IsPlan job.parts → RowsFit job.parts.tables job.tables → (m : Machine) (home : Present) (loans : List Loan) → KeepsHome job m home loans
    → (loan : Loan) → Mem loan loans → PresentFits job.parts (world_at job m) loan.given → (run rest : List PieceId) → loan.share ≡ run ++ rest
    → PresentFits job.parts (world_at job m) (applied_each (world_at job m) run loan.given)

-- and so does what is at home, once it is put back
abbrev pub ReturnFits : Type 0
ReturnFits = (job : Job) (m : Machine) (loan : Loan) (made home home' : Present) → PresentFits job.parts (world_at job m) made → PresentFits job.parts (world_at job m) home
    → IsPutBack (world_at job m) loan.lane loan.share made home home' → PresentFits job.parts (world_at job m) home'
