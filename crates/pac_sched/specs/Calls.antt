-- Calls of a scheduler one after another: what each leaves, and which pieces they hand out again.
use Rattle.std.specs.Prelude.{◌≡◌, ℕ, Bool, true, false, List, [], ◌∷◌, ◌++◌, length, Some}
use Rattle.std.specs.List.{list_any}
use Rattle.pac_ops.specs.declared.piece.PieceId.{PieceId}
use Rattle.pac_plan.specs.Pieces.{is_piece}
use Rattle.pac_sched.specs.declared.state.PieceState.TheVariants.{Waiting, Out, Finished}
use Rattle.pac_sched.specs.declared.state.Pick.TheVariants.{Piece}
use Rattle.pac_sched.specs.Schedules.{Schedule, AreDifferent, ArePairsBelow, after_opening, after_take, with_state, reclaimed, state_of_piece, piece_is_ready, pick}

-- a call that changes what is open
pub data SchedCall : Type 0 where
  Opens : List PieceId → List (ℕ × ℕ) → SchedCall
  Takes : SchedCall
  Finishes : PieceId → SchedCall
  GivesBack : PieceId → SchedCall
  Reclaims : SchedCall

-- what a call leaves
abbrev pub after_call : Schedule → SchedCall → Schedule
after_call s (Opens pieces pairs) = after_opening s pieces pairs
after_call s Takes = after_take s
after_call s (Finishes id) = with_state s id Finished
after_call s (GivesBack id) = with_state s id Waiting
after_call s Reclaims = reclaimed s

-- the condition of a call: new pieces differ from all others, and the later position of each pair is one of theirs; or the piece
-- is out
abbrev pub MayCall : Schedule → SchedCall → Type 0
MayCall s (Opens pieces pairs) = AreDifferent (s.pieces ++ pieces) × ArePairsBelow (length pieces) pairs
MayCall s Takes = Unit {0}
MayCall s (Finishes id) = state_of_piece s id ≡ Some Out
MayCall s (GivesBack id) = state_of_piece s id ≡ Some Out
MayCall s Reclaims = Unit {0}

-- calls one after another lead from a schedule to another
abbrev pub CallsLead : List SchedCall → Schedule → Schedule → Type 0
CallsLead [] s t = s ≡ t
CallsLead (c ∷ cs) s t = MayCall s c × CallsLead cs (after_call s c) t

-- a call gives a piece back, by itself or with all others
abbrev pub frees : PieceId → SchedCall → Bool
frees id (Opens pieces pairs) = false
frees id Takes = false
frees id (Finishes other) = false
frees id (GivesBack other) = is_piece id other
frees id Reclaims = true

-- a piece is handed out while it is neither out nor finished, after all that it waits for
abbrev pub HandsOutReady : Type 0
HandsOutReady = (s : Schedule) (id : PieceId) → pick s ≡ Piece id → piece_is_ready s id ≡ true

-- a piece that was handed out is handed out again only after it was given back
abbrev pub HandsOutOnce : Type 0
HandsOutOnce = (calls : List SchedCall) (s t : Schedule) (id : PieceId) → pick s ≡ Piece id → CallsLead (Takes ∷ calls) s t → pick t ≡ Piece id
    → list_any (frees id) calls ≡ true

-- a finished piece is never handed out, whatever is called
abbrev pub FinishesForGood : Type 0
FinishesForGood = (calls : List SchedCall) (s t : Schedule) (id : PieceId) → state_of_piece s id ≡ Some Finished → CallsLead calls s t → pick t ≡ Piece id → ⊥
