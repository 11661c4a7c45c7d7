-- What one block takes of another.
use Rattle.std.proofs.Common.{◌≡◌, ◌<◌, ℕ, Bool, true, false, not, ◌&&◌, get_or, refl, sym, ap, subst, ◌∙◌, zero-add}
use Rattle.std.specs.Prelude.{◌==◌}
use Rattle.std.proofs.lemmas.List.Folds.{list_any_at}
use Rattle.std.proofs.lemmas.List.FromFn.{length-range_with_len, get_or-range_with_len}
use Rattle.pac_base.proofs.TestLemmas.{and_both, and_left, and_right, same_number, unlike}
use Rattle.pac_ops.specs.Effects.{used_in, defined_in}
use Rattle.pac_plan.specs.Worlds.{blocks_in}
use Rattle.pac_plan.specs.Codes.{proc_ops}
use Rattle.pac_keys.specs.Interfaces.{is_used_outside, InputsAreOutputs}

not_true : (b : Bool) → b ≡ false → not b ≡ true
not_true b h = ap not h

not_false : (b : Bool) → not b ≡ true → b ≡ false
not_false true h = absurd (cc h)
not_false false h = refl

pub inputs_are_outputs : InputsAreOutputs
inputs_are_outputs parts proc block other x within taken defined =
    and_both (defined_in (proc_ops parts proc other) x) (is_used_outside parts proc other x) defined
    (list_any_at test (blocks_in parts) block 0 (subst (λ (n : ℕ). block < n) (sym (length-range_with_len 0 parts.blocks)) within) passes)
  where
    test : ℕ → Bool
    test b = not (b == other) && used_in (proc_ops parts proc b) x

    used : used_in (proc_ops parts proc block) x ≡ true
    used = and_left (used_in (proc_ops parts proc block) x) (not (defined_in (proc_ops parts proc block) x)) taken

    undefined : defined_in (proc_ops parts proc block) x ≡ false
    undefined = not_false (defined_in (proc_ops parts proc block) x) (and_right (used_in (proc_ops parts proc block) x) (not (defined_in (proc_ops parts proc block) x)) taken)

    differs : (block == other) ≡ false
    differs = unlike (block == other) (λ same.
        let both : true ≡ false = sym defined ∙ ap (λ b. defined_in (proc_ops parts proc b) x) (sym (same_number block other same)) ∙ undefined in
        cc both)

    passes : test (get_or (blocks_in parts) block 0) ≡ true
    passes = ap test (get_or-range_with_len 0 parts.blocks block 0 within ∙ zero-add block) ∙ and_both (not (block == other)) (used_in (proc_ops parts proc block) x) (not_true (block == other) differs) used
