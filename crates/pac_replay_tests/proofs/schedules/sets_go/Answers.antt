-- Both sets are parts of one list of pieces.
use Rattle.std.proofs.Common.{◌≡◌, ◌++◌, ◌-◌, List, length, take, drop, sym, ap, subst, ◌∙◌, arith}
use Rattle.std.proofs.lemmas.List.{take_rest, take-append-drop}
use Rattle.pac_ops.specs.declared.piece.PieceId.{PieceId}
use Rattle.pac_sched.specs.Schedules.{Schedule, AreDifferent}
use Rattle.pac_replay_tests.proofs.Numbered.{numbered, first_numbered}
use Rattle.pac_replay_tests.proofs.schedules.sets_go.Goals as goal

pub open_set-requires-clause-distinct : goal.open_set-requires-clause-distinct
open_set-requires-clause-distinct c = subst (λ (xs : List PieceId). AreDifferent (xs ++ take c.args.cut c.args.pieces.now)) (sym (ap (λ (s : Schedule). s.pieces) c.new-sched.ensures))
    (first_numbered c.args.pieces.now c.args.cut (omega arith) c.requires.numbers)

pub open_set-requires-2-clause-distinct : goal.open_set-requires-2-clause-distinct
open_set-requires-2-clause-distinct c =
    let front : c.open_set.new.self.pieces ≡ take c.args.cut c.args.pieces.now = ap (λ (s : Schedule). s.pieces) c.in-Ok.ensures.ok ∙ ap (λ (s : Schedule). s.pieces ++ take c.args.cut c.args.pieces.now) c.new-sched.ensures in
    let all : c.open_set.new.self.pieces ++ take (length c.args.pieces.now - c.args.cut) (drop c.args.cut c.args.pieces.now) ≡ c.args.pieces.now
    = ap (λ (xs : List PieceId). c.open_set.new.self.pieces ++ xs) (take_rest c.args.pieces.now c.args.cut) ∙ ap (λ (xs : List PieceId). xs ++ drop c.args.cut c.args.pieces.now) front ∙ take-append-drop c.args.cut c.args.pieces.now in
    subst (λ (xs : List PieceId). AreDifferent xs) (sym all) (numbered c.args.pieces.now c.requires.numbers)
