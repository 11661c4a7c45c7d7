-- The laws of one operation in the words of the page of laws.
use Rattle.std.proofs.Common.{◌≡◌, false, List, sym, ap, ◌∙◌, Option, Some}
use Rattle.std.specs.Ordering.{eq_by_cmp}
use Rattle.std.specs.FinMap.{get}
use Rattle.pac_value.specs.declared.values.Ty.{Ty}
use Rattle.pac_value.specs.State.{Cell, cell_cmp, RowValues}
use Rattle.pac_value.proofs.CellLemmas.{tied_same}
use Rattle.pac_ops.specs.declared.program.FlatOp.{FlatOp}
use Rattle.pac_ops.specs.Uses.{defined_variable, modifies}
use Rattle.pac_ops.specs.Operations.{State}
use Rattle.pac_ops.specs.Flat.{flat_done}
use Rattle.pac_ops.specs.Effects.{Now, flat_cell}
use Rattle.pac_ops.specs.OperationLaws.{ChangesOnlyItsOwn}
use Rattle.pac_base.proofs.TestLemmas.{unlike}
use Rattle.pac_ops.proofs.EffectLemmas.{form, cell-table, flat_same_row}
use Rattle.pac_ops.proofs.StateLemmas.{get-changed}
use Rattle.pac_ops.proofs.FrameLemmas.{unchanged, not_now, effect_in}
use Rattle.pac_ops.proofs.DefinedLemmas.{undefined_op, var-named}

other_row : (vars : List Ty) (op : FlatOp) (s : State) (q : Cell) → (flat_cell op s.env ≡ Some q → modifies op.kind ≡ false) → get (flat_done vars op s).tables q ≡ get s.tables q
other_row vars op s q other = ap (λ (z : State). get z.tables q) (form vars op s) ∙ get-changed _ _ s.tables q ∙ unchanged _ _ _ q apart
  where
    apart : (p : Cell) (n : Option RowValues) → flat_cell op s.env ≡ Some p → (effect_in vars op s).change ≡ Now n → eq_by_cmp cell_cmp q p ≡ false
    apart p n at ch = unlike _ (λ e. not_now n (sym (flat_same_row vars op s.env _ (other (at ∙ ap (λ c. Some c) (sym (tied_same q p e))))) ∙ ch))

pub own : ChangesOnlyItsOwn
own vars op s = (
  λ cell e. cell-table op s.env cell e,
  λ y other. undefined_op vars op s y (unlike _ (λ e. other (var-named y (defined_variable op.kind) e))),
  other_row vars op s,
)
