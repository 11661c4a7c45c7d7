-- When a piece stays in a lane: in all tables of its stage by definition, and in a group of keys where all keys that it names are one.
use Rattle.std.specs.Prelude.{◌≡◌, ◌⊎◌, ℕ, ◌<◌, ◌≤◌, Bool, true, false, ◌||◌, ◌==◌, List, Some, Ok}
use Rattle.std.specs.List.{list_all}
use Rattle.pac_value.specs.declared.values.Key.{Key}
use Rattle.pac_value.specs.declared.expr.Expr.{Expr}
use Rattle.pac_value.specs.Expressions.{Values}
use Rattle.pac_ops.specs.declared.piece.PieceId.{PieceId}
use Rattle.pac_ops.specs.Operations.{key_at}
use Rattle.pac_ops.specs.Effects.{NumberedOp, target_of, defined_in}
use Rattle.pac_base.specs.Members.{Each, Mem}
use Rattle.pac_plan.specs.declared.access.Touch.{Touch}
use Rattle.pac_plan.specs.declared.access.Access.TheVariants.{Keys, Whole}
use Rattle.pac_plan.specs.declared.parts.PlanParts.{PlanParts}
use Rattle.pac_plan.specs.Pieces.{Present, World, ops, pieces, access, conflicts, HasInputs, avoids}
use Rattle.pac_plan.specs.Analysis.{IsPlan}
use Rattle.pac_plan.specs.Worlds.{blocks_in}
use Rattle.pac_ops.specs.declared.batch.Batch.{Batch}
use Rattle.pac_commute.specs.Exchange.{env_after}
use Rattle.pac_commute.specs.PlanLaws.{txns_of, NumbersRunOn, AllInTables, planned, numbers_of}
use Rattle.pac_lanes.specs.Lanes.{Lane, StaysIn, AreDisjoint}
use Rattle.pac_lanes.specs.Rounds.{StageCut, IsCut}

-- ---- all rows

-- all rows of the tables whose home is one of some blocks
abbrev pub whole_lane : (ℕ → Bool) → Lane
whole_lane blocks = record { blocks = blocks; rows = λ a. true }

-- a piece of one of these blocks stays there, whatever its access is
abbrev pub WholeStays : World → Type 0
WholeStays w = (env : ℕ → Values) (blocks : ℕ → Bool) (p : PieceId) → blocks p.block ≡ true → StaysIn w env (whole_lane blocks) p

-- ---- rows of a group of keys

-- the rows of these tables at some keys
abbrev pub key_lane : (ℕ → Bool) → (Key → Bool) → Lane
key_lane blocks keys = record { blocks = blocks; rows = λ a. keys a.1 }

-- each key that the operations name is this expression, over variables that none of them defines
abbrev pub KeysAre : List NumberedOp → Expr → Type 0
KeysAre os e = Each (λ (o : NumberedOp). (n : ℕ × Expr) → target_of o.1.kind ≡ Some n → n.1 ≡ e) os × (avoids (defined_in os) e ≡ true)

-- a piece of one of these blocks stays in the group of the value of that expression, and its access is of keys
abbrev pub OneKeyStays : World → Type 0
OneKeyStays w = (env : ℕ → Values) (blocks : ℕ → Bool) (keys : Key → Bool) (p : PieceId) (e : Expr) → KeysAre (ops w p) e → blocks p.block ≡ true
    → ((key : Key) → key_at e (env p.txn) ≡ Ok key → keys key ≡ true)
    → StaysIn w env (key_lane blocks keys) p × (access w env p ≡ Whole → ⊥)

-- the inputs of a piece give the value
abbrev pub KeyFromInputs : World → Type 0
KeyFromInputs w = (env : ℕ → Values) (p : PieceId) (e : Expr) → KeysAre (ops w p) e → (o : NumberedOp) (n : ℕ × Expr) → Mem o (ops w p) → target_of o.1.kind ≡ Some n
    → (s : Present) → HasInputs w env p s → key_at e (s.envs p.txn) ≡ key_at e (env p.txn)

-- and so do the arguments, where no operation of the transaction defines a variable of the expression
abbrev pub KeyFromArguments : World → List ℕ → List ℕ → Type 0
KeyFromArguments w ts bs = (s : Present) (t : ℕ) (e : Expr) → avoids (defined_in (w.code t)) e ≡ true → key_at e (s.envs t) ≡ key_at e (env_after w ts s t)

-- ---- the lanes of a cut

-- group 0 of a stage is all of it; the others have the keys that this tells. Two groups clash where one is 0 or they are the same
abbrev pub groups_clash : ℕ → ℕ → ℕ → Bool
groups_clash k g h = g == 0 || (h == 0 || g == h)

-- the rows of the tables of a stage at keys of a group
abbrev pub lane_of : StageCut → (ℕ → Key → ℕ) → ℕ → ℕ → Lane
lane_of cut of_key k g = key_lane (λ b. cut.stage b == k) (λ key. g == 0 || of_key k key == g)

-- the group of its transaction is all of the stage; or all keys of the piece are the value of one expression, which is of that group; or its access
-- is of keys that are
abbrev pub IsOfGroup : World → (ℕ → Values) → StageCut → (ℕ → Key → ℕ) → PieceId → Type 0
IsOfGroup w env cut of_key p =
    (cut.group (cut.stage p.block) p.txn ≡ 0)
    ⊎ (((e : Expr) × KeysAre (ops w p) e × ((key : Key) → key_at e (env p.txn) ≡ Ok key → of_key (cut.stage p.block) key ≡ cut.group (cut.stage p.block) p.txn))
    ⊎ ((l : List Touch) × (access w env p ≡ Keys l) × Each (λ (t : Touch). of_key (cut.stage p.block) t.key ≡ cut.group (cut.stage p.block) p.txn) l))

-- then each piece stays in the lane of its stage and group
abbrev pub StaysInGroup : World → Type 0
StaysInGroup w = (env : ℕ → Values) (cut : StageCut) (of_key : ℕ → Key → ℕ) (p : PieceId) → IsOfGroup w env cut of_key p
    → StaysIn w env (lane_of cut of_key (cut.stage p.block) (cut.group (cut.stage p.block) p.txn)) p

-- pieces of one block whose groups don't clash don't conflict
abbrev pub GroupsAreApart : World → Type 0
GroupsAreApart w = (env : ℕ → Values) (cut : StageCut) (of_key : ℕ → Key → ℕ) (p q : PieceId) → IsOfGroup w env cut of_key p → IsOfGroup w env cut of_key q → p.block ≡ q.block
    → groups_clash (cut.stage p.block) (cut.group (cut.stage p.block) p.txn) (cut.group (cut.stage p.block) q.txn) ≡ false → conflicts (access w env p) (access w env q) ≡ false

-- and lanes of different stages, or of groups that don't clash, are disjoint
abbrev pub LanesAreDisjoint : Type 0
LanesAreDisjoint = (w : World) (cut : StageCut) (of_key : ℕ → Key → ℕ) (k g l h : ℕ) → (k ≡ l → groups_clash k g h ≡ false) → AreDisjoint w (lane_of cut of_key k g) (lane_of cut of_key l h)

-- each edge of the plan stays in its stage or leads to another: a test of the plan alone
abbrev pub edges_kept : PlanParts → StageCut → Bool
edges_kept parts cut = list_all (λ e. cut.stage e.0 == cut.stage e.1 || cut.leads (cut.stage e.0) (cut.stage e.1)) parts.edges

-- where the plan passes that test, rounds and stages rise, each piece is of its group, and of one round either all transactions of a stage are of
-- group 0 or none is, it is a cut
abbrev pub GroupsGiveCut : World → PlanParts → List ℕ → List ℕ → Type 0
GroupsGiveCut w parts ts bs = (env : ℕ → Values) (cut : StageCut) (of_key : ℕ → Key → ℕ)
    → cut.clash ≡ groups_clash → edges_kept parts cut ≡ true
    → ((t u : ℕ) → t < u → cut.round t ≤ cut.round u) → ((k l : ℕ) → cut.leads k l ≡ true → k < l)
    → ((p : PieceId) → Mem p (pieces w ts bs) → IsOfGroup w env cut of_key p)
    → ((k t u : ℕ) → cut.round t ≡ cut.round u → cut.group k t ≡ 0 → cut.group k u ≡ 0)
    → IsCut w env (pieces w ts bs) cut

-- this for each plan
abbrev pub PlanGivesCut : Type 0
PlanGivesCut = (parts : PlanParts) → IsPlan parts → (first : ℕ) (batches : List Batch) → NumbersRunOn first batches → AllInTables parts (txns_of batches)
    → GroupsGiveCut (planned parts first batches) parts (numbers_of first batches) (blocks_in parts)
