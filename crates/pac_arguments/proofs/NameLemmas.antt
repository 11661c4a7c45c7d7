-- A name that is none of the seven.
use Rattle.std.proofs.Common.{◌≡◌, false, List, None, refl, codes}
use Rattle.std.specs.Str.{bytes_eq}
use Rattle.std.proofs.lemmas.Slice.Eq.{bytes_eq-Decides}
use Rattle.std.proofs.lemmas.Bool.{false_from_ne_true}
use Rattle.clap.specs.Words.{Text}
use Rattle.pac_arguments.specs.Commands.{command_named}

differ : (a b : Text) → (a ≡ b → ⊥) → bytes_eq a b ≡ false
differ a b other = false_from_ne_true _ (λ h. other ((bytes_eq-Decides a b).0 h))

pub no_name : (name : Text) (arguments : List Text) → (name ≡ codes "init" → ⊥) → (name ≡ codes "run" → ⊥) → (name ≡ codes "recover" → ⊥) → (name ≡ codes "explain" → ⊥) → (name ≡ codes "replay" → ⊥) → (name ≡ codes "stress" → ⊥) → (name ≡ codes "lay" → ⊥) → None ≡ command_named name arguments
no_name name arguments a b c d e f h = rw (differ _ _ a, differ _ _ b, differ _ _ c, differ _ _ d, differ _ _ e, differ _ _ f, differ _ _ h) refl
