-- An ad hoc piece makes the changes of its records.
use Rattle.std.proofs.Common.{◌≡◌, ◌+◌, ◌==◌, Bool, true, false, cond, List, [], ◌∷◌, map, refl, ap, ◌∙◌}
use Rattle.pac_ops.specs.declared.transaction.Change.{Change}
use Rattle.pac_ops.specs.declared.transaction.Change.TheVariants.{Put as PutRow, Delete as DeleteRow}
use Rattle.pac_ops.specs.Uses.{accessed_table}
use Rattle.pac_ops.specs.Operations.{State}
use Rattle.pac_ops.specs.Transactions.{with_change, with_changes}
use Rattle.pac_plan.specs.declared.parts.PlanParts.{PlanParts}
use Rattle.pac_ops.specs.Effects.{NumberedOp, numbered_from, numbered_meaning, record_op}
use Rattle.pac_plan.specs.Pieces.{part}
use Rattle.pac_plan.specs.Worlds.{home_in, home_or}
use Rattle.pac_plan.specs.PieceFits.{change_table, records_in, AdHocPieces}
use Rattle.pac_ops.proofs.RecordLemmas.{record_flat}

home-record : (parts : PlanParts) (c : Change) → home_or parts (accessed_table (record_op c).kind) ≡ home_in parts (change_table c)
home-record parts (PutRow table key row) = refl
home-record parts (DeleteRow table key) = refl

pub adhoc_pieces : AdHocPieces
unfolding numbered_meaning numbered_from
adhoc_pieces parts vars b n [] s = refl
adhoc_pieces parts vars b n (c ∷ cs) s =
    ap (λ h. numbered_meaning vars (cond (h == b) ((n, record_op c) ∷ rest) rest) s) (home-record parts c)
    ∙ go (home_in parts (change_table c) == b) (adhoc_pieces parts vars b (n + 1) cs)
  where
    rest : List NumberedOp
    rest = part (λ o. home_or parts (accessed_table o.1.kind)) b (numbered_from (n + 1) (map record_op cs))

    go : (h : Bool) → ((s : State) → numbered_meaning vars (part (λ o. home_or parts (accessed_table o.1.kind)) b (numbered_from (n + 1) (map record_op cs))) s ≡ record { env = s.env; tables = with_changes s.tables (records_in parts b cs) })
        → numbered_meaning vars (cond h ((n, record_op c) ∷ part (λ o. home_or parts (accessed_table o.1.kind)) b (numbered_from (n + 1) (map record_op cs))) (part (λ o. home_or parts (accessed_table o.1.kind)) b (numbered_from (n + 1) (map record_op cs)))) s
        ≡ record { env = s.env; tables = with_changes s.tables (cond h (c ∷ records_in parts b cs) (records_in parts b cs)) }
    go true later = ap (λ z. numbered_meaning vars (part (λ o. home_or parts (accessed_table o.1.kind)) b (numbered_from (n + 1) (map record_op cs))) z) (record_flat vars c s) ∙ later (record { env = s.env; tables = with_change s.tables c })
    go false later = later s
