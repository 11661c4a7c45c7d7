-- What waits is taken out, and kept again without its first transaction.
use Rattle.std.proofs.Common.{◌≡◌, ℕ, List, ◌∷◌, drop, Some, sym, ap, ◌∙◌}
use Rattle.std.specs.Prelude.{slice_get}
use Rattle.std.proofs.lemmas.Option.{same_Some}
use Rattle.pac_sets.specs.Sets.{Kept, Setting, with_kept_at}
use Rattle.pac_core.specs.declared.stage.SetStage.{SetStage}
use Rattle.pac_core.specs.declared.stage.SetStage.TheVariants.{Waiting}
use Rattle.pac_core.proofs.KeptAt.{get_changed}
use Rattle.pac_core.proofs.Moved.{kept_twice}
use Rattle.pac_core.proofs.progress.Progress.drop_first.Goals as goal

waiting_same : (one other : List ℕ) → ◌≡◌ {A = SetStage} (Waiting one) (Waiting other) → one ≡ other
waiting_same one other e = cc

pub keep-requires : goal.keep-requires
keep-requires c = (
  c.requires.set,
  Waiting c.none.result,
  ap (λ (s : Setting SetStage). slice_get s.sets c.args.at) c.exchange.ensures.new
      ∙ get_changed c.args.self.now.sets.sets c.args.at (c.requires.set, Some (Waiting (c.requires.first ∷ c.requires.rest))) (Some (Waiting c.none.result)) c.requires.there,
)

pub returns-clause-dropped : goal.returns-clause-dropped
returns-clause-dropped c = λ set first rest there.
    let p = c.args.self.now in
    let stage : Waiting (first ∷ rest) ≡ c.exchange.result = same_Some _ _ (ap (λ (x : Kept SetStage). x.1) (same_Some _ _ (sym there ∙ c.exchange.ensures.old.1))) in
    let list : first ∷ rest ≡ c.in-Waiting.rest = waiting_same (first ∷ rest) c.in-Waiting.rest (stage ∙ c.in-Waiting.is) in
    let left : c.drop_first.new.self ≡ rest = c.drop_first.ensures ∙ ap (drop 1) (sym list) in
    let sets = c.keep.ensures
    ∙ ap (λ (s : Setting SetStage). record s { sets = with_kept_at s.sets c.args.at (Some (Waiting c.drop_first.new.self)) }) c.exchange.ensures.new
    ∙ (λ k. record p.sets { sets = kept_twice p.sets.sets c.args.at (Some (Waiting c.none.result)) (Some (Waiting c.drop_first.new.self)) k })
    ∙ ap (λ (ts : List ℕ). record p.sets { sets = with_kept_at p.sets.sets c.args.at (Some (Waiting ts)) }) left in
    λ k. record p { sets = sets k }
