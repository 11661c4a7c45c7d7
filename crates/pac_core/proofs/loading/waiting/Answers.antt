-- One set more.
use Rattle.std.proofs.Common.{List, [], ◌∷◌, ◌++◌, get_or, take, Some, sym, ap, subst, ◌∙◌}
use Rattle.std.specs.List.{AllZip}
use Rattle.std.proofs.lemmas.List.{take_all, take_more}
use Rattle.pac_batch.specs.declared.piece_set.PieceSet.{PieceSet}
use Rattle.pac_sets.specs.Sets.{Kept}
use Rattle.pac_core.specs.declared.stage.SetStage.{SetStage}
use Rattle.pac_core.specs.declared.stage.SetStage.TheVariants.{Waiting}
use Rattle.pac_core.specs.Moves.{IsWaitingSet}
use Rattle.pac_core.proofs.loading.waiting.Goals as goal

zip_more : {A B : Type 0} (R : A → B → Type 0) (xs : List A) (ys : List B) (x : A) (y : B) → AllZip R xs ys → R x y → AllZip R (xs ++ x ∷ []) (ys ++ y ∷ [])
zip_more R [] [] x y all r = (r, tt)
zip_more R [] (b ∷ bs) x y all r = absurd all
zip_more R (a ∷ xs) [] x y all r = absurd all
zip_more R (a ∷ xs) (b ∷ bs) x y all r = (all.0, zip_more R xs bs x y all.1 r)

pub loop-set-init : goal.loop-set-init
loop-set-init c = subst (λ (l : List (Kept SetStage)). AllZip (IsWaitingSet c.args.batch) [] l) (sym c.in_ok-more.ensures.items) tt

pub loop-set-preserved : goal.loop-set-preserved
loop-set-preserved c =
    let sets = c.args.sets.now in
    let i = c.loop-set.set-index in
    let x = c.set-item.result in
    subst (λ (l : List PieceSet). AllZip (IsWaitingSet c.args.batch) l c.push.new.self.items) (sym (take_more sets i x c.loop-set-test.true))
    (subst (λ (l : List (Kept SetStage)). AllZip (IsWaitingSet c.args.batch) (take i sets ++ get_or sets i x ∷ []) l) (sym c.in_ok-push.ensures.items)
    (zip_more (IsWaitingSet c.args.batch) (take i sets) c.loop-set.more.items (get_or sets i x) _ c.loop-set.invariant
    (λ k. (record { batch = c.args.batch; block = (c.set-item.is k).block }, Some (Waiting ((c.new.ensures ∙ c.in_ok-txns.ensures ∙ ap (λ (s : PieceSet). s.txns) c.set-item.is) k))))))

pub returns : goal.returns
returns c = subst (λ (l : List PieceSet). AllZip (IsWaitingSet c.args.batch) l c.loop-set.more.items) (take_all c.loop-set.set-index c.args.sets.now c.loop-set-test.false) c.loop-set.invariant
