-- What is kept stands where the search ended, or nowhere.
use Rattle.std.proofs.Common.{◌≡◌, Bool, true, false, not, refl, sym, ap, ◌∙◌, is_some}
use Rattle.pac_sets.proofs.SetLemmas.{kept_offset, kept_gap}
use Rattle.pac_sets.proofs.sets.is_done.Goals as goal

twice : (b : Bool) → not (not b) ≡ b
twice true = refl
twice false = refl

pub returns-in-Ok : goal.returns-in-Ok
returns-in-Ok g c =
    let kept = kept_offset c.args.sets.now c.requires c.args.set c.in-Ok.at (c.in-Ok.ensures.found) c.index-sets-at.result in
    sym (ap (λ o. not (is_some o)) kept ∙ ap not c.is_none.ensures ∙ twice c.is_none.result)

pub returns-in-Err : goal.returns-in-Err
returns-in-Err g c = sym (ap (λ o. not (is_some o)) (kept_gap c.args.sets.now c.requires c.args.set c.in-Err.field-0 c.in-Err.ensures.absent))
