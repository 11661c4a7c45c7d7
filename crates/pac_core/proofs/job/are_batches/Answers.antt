-- One batch more is the same.
use Rattle.std.proofs.Common.{◌≡◌, ℕ, zero, suc, ◌<◌, List, [], ◌∷◌, map, length, get_or, refl, sym, subst, ◌∙◌, arith}
use Rattle.std.proofs.lemmas.List.{length-map, take_more_same}
use Rattle.pac_core.specs.declared.loaded.LoadedBatch.{LoadedBatch}
use Rattle.pac_core.proofs.job.are_batches.Goals as goal

get_map : {A B : Type 0} (f : A → B) (xs : List A) (i : ℕ) (d : B) (e : A) → i < length xs → get_or (map f xs) i d ≡ f (get_or xs i e)
get_map f [] i d e lt = absurd (omega (arith, lt))
get_map f (x ∷ xs) zero d e lt = refl
get_map f (x ∷ xs) (suc i) d e lt = get_map f xs i d e (omega (arith, lt))

pub loop-i-preserved : goal.loop-i-preserved
loop-i-preserved c =
    let loaded = c.args.loaded.now in
    let batches = c.args.batches.now in
    let i = c.loop-i.i in
    let one = c.index-loaded-i.result in
    let other = c.index-batches-i.result in
    let lt = c.loop-i-test.true in
    let len = c.loop-i.invariant.equal in
    let same : (get_or loaded i one).batch ≡ other = c.same.ensures.0 c.if-not-same.false in
    record {
      equal = len;
      so_far = take_more_same (map (λ (x : LoadedBatch). x.batch) loaded) batches i other (subst (λ n. i < n) (sym (length-map loaded (λ (x : LoadedBatch). x.batch))) lt) (omega (arith, lt, len)) c.loop-i.invariant.so_far
          (get_map (λ (x : LoadedBatch). x.batch) loaded i other one lt ∙ same ∙ c.index-batches-i.is);
    }
