-- What work leaves is what the piece means in its plan.
use Rattle.std.proofs.Common.{◌≡◌, ℕ, ◌+◌, ◌==◌, Bool, true, false, cond, List, [], ◌∷◌, ◌++◌, map, Option, Some, None, refl, sym, ap, ◌∙◌, subst}
use Rattle.std.specs.Prelude.{slice_get, IsSomeAnd}
use Rattle.std.specs.Option.{option_map}
use Rattle.std.proofs.lemmas.Option.{slice_get-map}
use Rattle.pac_value.specs.Values.{type_of}
use Rattle.pac_ops.specs.declared.program.Program.{Program}
use Rattle.pac_ops.specs.declared.transaction.Call.{Call}
use Rattle.pac_ops.specs.declared.transaction.Change.{Change}
use Rattle.pac_ops.specs.declared.transaction.Txn.TheVariants.{Call as ACall, AdHoc}
use Rattle.pac_ops.specs.Notes.{note_at, first_note}
use Rattle.pac_ops.specs.Uses.{accessed_table}
use Rattle.pac_ops.specs.Flat.{flat_done}
use Rattle.pac_ops.specs.Transactions.{with_change, with_changes}
use Rattle.pac_ops.specs.Operations.{State}
use Rattle.pac_ops.specs.Effects.{numbered_from, numbered_meaning, numbered_notes, record_op}
use Rattle.pac_plan.specs.declared.code.Code.{Code}
use Rattle.pac_plan.specs.declared.parts.PlanParts.{PlanParts}
use Rattle.pac_plan.specs.Nodes.{Operation}
use Rattle.pac_plan.specs.Analysis.{IsPlan, block_in}
use Rattle.pac_plan.specs.Pieces.{part}
use Rattle.pac_plan.specs.PieceFits.{records_in}
use Rattle.pac_plan.specs.Worlds.{ops_of, types_in, home_or}
use Rattle.pac_plan.specs.Codes.{code_ops, piece_ops}
use Rattle.pac_plan.proofs.AdHocLemmas.{adhoc_pieces}
use Rattle.pac_piece.specs.Frames.{after_op, after_ops, notes_after}
use Rattle.pac_piece.specs.Values.{begun}
use Rattle.pac_piece.specs.PieceLaws.{CodeMeansPiece, WorkMeansPiece}
use Rattle.pac_piece.proofs.FitLemmas.{same_meaning, same_notes}
use Rattle.pac_piece.proofs.RunnableLemmas.{typable_ops}
use Rattle.pac_piece.proofs.RunLemmas.{record_after, record_silent}

-- records make their changes, and leave no note
records_after : (n : ℕ) (cs : List Change) (s : State) → after_ops (numbered_from n (map record_op cs)) s ≡ record { env = s.env; tables = with_changes s.tables cs }
unfolding numbered_from
records_after n [] s = refl
records_after n (c ∷ cs) s = ap (after_ops (numbered_from (n + 1) (map record_op cs))) (record_after c s) ∙ records_after (n + 1) cs (record { env = s.env; tables = with_change s.tables c })

pub records_silent : (txn n : ℕ) (cs : List Change) (s : State) → notes_after txn (numbered_from n (map record_op cs)) s ≡ []
unfolding numbered_from
records_silent txn n [] s = refl
records_silent txn n (c ∷ cs) s = ap (λ r. note_at txn n r ++ notes_after txn (numbered_from (n + 1) (map record_op cs)) (after_op (record_op c) s)) (record_silent c s)
    ∙ records_silent txn (n + 1) cs (after_op (record_op c) s)

part_silent : (parts : PlanParts) (b txn n : ℕ) (cs : List Change) (s : State) → numbered_notes [] txn (part (λ o. home_or parts (accessed_table o.1.kind)) b (numbered_from n (map record_op cs))) s ≡ []
unfolding numbered_from numbered_notes
part_silent parts b txn n [] s = refl
part_silent parts b txn n (c ∷ cs) s = go (home_or parts (accessed_table (record_op c).kind) == b) (part_silent parts b txn (n + 1) cs)
  where
    go : (h : Bool) → ((s : State) → numbered_notes [] txn (part (λ o. home_or parts (accessed_table o.1.kind)) b (numbered_from (n + 1) (map record_op cs))) s ≡ [])
        → numbered_notes [] txn (cond h ((n, record_op c) ∷ part (λ o. home_or parts (accessed_table o.1.kind)) b (numbered_from (n + 1) (map record_op cs))) (part (λ o. home_or parts (accessed_table o.1.kind)) b (numbered_from (n + 1) (map record_op cs)))) s ≡ []
    go true later = ap (λ r. note_at txn n r ++ numbered_notes [] txn (part (λ o. home_or parts (accessed_table o.1.kind)) b (numbered_from (n + 1) (map record_op cs))) (flat_done [] (record_op c) s)) (record_silent c s)
        ∙ later (flat_done [] (record_op c) s)
    go false later = later s

module _ (parts : PlanParts) (is : IsPlan parts) (block number : ℕ) (s : State) where
  -- of a call
  call_means : (call : Call) (o : Option Program) → slice_get parts.programs call.proc ≡ o → IsSomeAnd (option_map (λ (program : Program). program.params) o) (λ types. map type_of call.args ≡ types)
      → (after_ops (part (λ o. block_in parts (Operation call.proc o.0)) block (numbered_from 0 (ops_of o))) s
      ≡ numbered_meaning (types_in o) (part (λ o. block_in parts (Operation call.proc o.0)) block (numbered_from 0 (ops_of o))) s)
      × (first_note (notes_after number (part (λ o. block_in parts (Operation call.proc o.0)) block (numbered_from 0 (ops_of o))) s)
      ≡ first_note (numbered_notes (types_in o) number (part (λ o. block_in parts (Operation call.proc o.0)) block (numbered_from 0 (ops_of o))) s))
  call_means call None at f = absurd f
  call_means call (Some program) at f =
      let each = typable_ops parts is call.proc program at block in (
        same_meaning parts.tables program.vars _ s each,
        ap first_note (same_notes parts.tables program.vars number _ s each),
      )

  -- of records, whatever their numbers
  record_means : (records : List Change)
      → (after_ops (numbered_from 0 (map record_op (records_in parts block records))) s ≡ numbered_meaning [] (piece_ops parts block (AdHoc records)) s)
      × (first_note (notes_after number (numbered_from 0 (map record_op (records_in parts block records))) s) ≡ first_note (numbered_notes [] number (piece_ops parts block (AdHoc records)) s))
  record_means records = (
    records_after 0 (records_in parts block records) s ∙ sym (adhoc_pieces parts [] block 0 records s),
    ap first_note (records_silent number 0 (records_in parts block records) s ∙ sym (part_silent parts block number 0 records s)),
  )

pub code_means_piece : CodeMeansPiece
code_means_piece parts is (ACall call) fits block number s = call_means parts is block number s call (slice_get parts.programs call.proc) refl
    (subst (λ o. IsSomeAnd o (λ types. map type_of call.args ≡ types)) (slice_get-map (λ (program : Program). program.params) parts.programs call.proc) fits)
code_means_piece parts is (AdHoc records) fits block number s = record_means parts is block number s records

pub work_means_piece : WorkMeansPiece
work_means_piece parts is txn fits work code =
    let h = code_means_piece parts is txn fits work.piece.block work.piece.txn (begun work) in (
      ap (λ (c : Code). after_ops (code_ops c) (begun work)) code ∙ h.0,
      ap (λ (c : Code). first_note (notes_after work.piece.txn (code_ops c) (begun work))) code ∙ h.1,
    )
