-- The texts of slices, while operations are added to them.
use Rattle.std.proofs.Common.{◌≡◌, ◌<◌, ℕ, ◌+◌, List, [], ◌∷◌, ◌++◌, flat_map, set, Vec, Global, sym, ap, ◌∙◌, append-nil, slice_index}
use Rattle.std.specs.List.{range_with_len}
use Rattle.std.proofs.lemmas.Grind.{flat_map-append}
use Rattle.pac_graph.specs.Classes.{class_count}
use Rattle.pac_report.specs.Explain.{members, slice_member}
use Rattle.pac_report.specs.GroupTexts.{Hold, first_slice_members}
use Rattle.pac_report.proofs.GroupLemmas.{hold_put, numbers_more, members_in, members_out}

-- an operation more stands in its slice's text
pub slice_put : (slice_of : List ℕ) (texts : List (Vec ℕ Global)) (op slice : ℕ) (text : Vec ℕ Global) → Hold texts (first_slice_members slice_of op) (class_count slice_of) → slice ≡ slice_index slice_of op → slice < class_count slice_of → text.items ≡ first_slice_members slice_of op slice ++ slice_member op → Hold (set texts slice text) (first_slice_members slice_of (op + 1)) (class_count slice_of)
slice_put slice_of texts op slice text hold is lt grew =
    hold_put texts (first_slice_members slice_of op) (first_slice_members slice_of (op + 1)) (class_count slice_of) slice text hold lt (grew ∙ sym inside) outside
  where
    inside : first_slice_members slice_of (op + 1) slice ≡ first_slice_members slice_of op slice ++ slice_member op
    inside =
        ap (λ (ops : List ℕ). flat_map slice_member (members (slice_index slice_of) ops slice)) (numbers_more op)
        ∙ ap (flat_map slice_member) (members_in (slice_index slice_of) (range_with_len 0 op) op slice is)
        ∙ flat_map-append slice_member (members (slice_index slice_of) (range_with_len 0 op) slice) (op ∷ [])
        ∙ ap (λ (l : List ℕ). first_slice_members slice_of op slice ++ l) (append-nil (slice_member op))

    outside : (s : ℕ) → (s ≡ slice → ⊥) → first_slice_members slice_of (op + 1) s ≡ first_slice_members slice_of op s
    outside s other =
        ap (λ (ops : List ℕ). flat_map slice_member (members (slice_index slice_of) ops s)) (numbers_more op)
        ∙ ap (flat_map slice_member) (members_out (slice_index slice_of) (range_with_len 0 op) op s (λ e. other (e ∙ sym is)))
