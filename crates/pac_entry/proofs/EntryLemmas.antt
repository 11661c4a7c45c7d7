-- Entries are codecs.
use Rattle.std.proofs.Common.{◌≡◌, ◌∙◌, ℕ, ◌<◌, false, cond, eqb, List, [], ◌∷◌, ◌++◌, length, Option, Some, None, Result, Ok, Err, IsSomeAnd, refl, sym, ap, ap₂, subst, arith}
use Rattle.std.specs.Prelude.{slice_get, ok_or}
use Rattle.std.specs.List.{flat_map, All}
use Rattle.std.specs.Int.{w16, to_le_bytes}
use Rattle.std.proofs.lemmas.Bool.{eqb-true}
use Rattle.std.proofs.lemmas.List.{append-nil}
use Rattle.std.proofs.lemmas.Option.{slice_get_within}
use Rattle.pac_value.specs.declared.values.Value.{Value}
use Rattle.pac_value.specs.Expressions.{◌>>=◌}
use Rattle.pac_ops.specs.declared.transaction.Call.{Call}
use Rattle.pac_ops.specs.declared.transaction.Change.{Change}
use Rattle.pac_ops.specs.declared.transaction.Txn.{Txn}
use Rattle.pac_ops.specs.declared.transaction.Txn.TheVariants.{Call as ACall, AdHoc}
use Rattle.pac_types.specs.declared.procedure.Proc.{Proc}
use Rattle.pac_types.specs.Fits.{FitParams, FitsProcs}
use Rattle.pac_types.specs.WellFormed.{types}
use Rattle.pac_types.specs.Typing.{CatalogueState}
use Rattle.pac_bytes.specs.Reading.{Rest}
use Rattle.pac_bytes.specs.Values.{HasBytes}
use Rattle.pac_bytes.specs.Typed.{HaveTypes}
use Rattle.pac_bytes.proofs.Results.{not_both}
use Rattle.pac_bytes.proofs.Codec.{IsCodec, ended, seq, either, never, same}
use Rattle.pac_bytes.proofs.Numbers.{IsByte, one_byte}
use Rattle.pac_entry.specs.declared.fault.EntryFault.{EntryFault}
use Rattle.pac_entry.specs.declared.fault.EntryFaultKind.TheVariants.{Tag, UnknownProc, WrongArgs}
use Rattle.pac_entry.specs.Kinds.{fault_at}
use Rattle.pac_entry.specs.Entries.{counted_bytes, change_bytes, txn_bytes, IsEntry}
use Rattle.pac_entry.specs.EntryReading.{entry_byte, entry_number, counted_values, next_call, next_records, called_entry, ad_hoc_entry, next_entry}
use Rattle.pac_entry.proofs.RowLemmas.{entry_byte_codec, entry_number_codec, counted_codec}
use Rattle.pac_entry.proofs.ChangeLemmas.{AreFewTables, AreChanges, records_codec}

-- the procedures have numbers of two bytes, and their parameters a number of one
pub record AreFewProcs (procs : List Proc) : Type 0 where
  pub count : length procs < 65536
  pub params : (n : ℕ) (proc : Proc) → slice_get procs n ≡ Some proc → length proc.params < 256

-- ---- calls

-- a call of one of the procedures that has bytes
abbrev IsCall : List Proc → Call → Type 0
IsCall procs call = FitsProcs procs call × All HasBytes call.args

-- a call of this procedure that has bytes
abbrev CallsHere : Option Proc → Call → Type 0
CallsHere None call = ⊥
CallsHere (Some proc) call = HaveTypes (types proc.params) call.args

abbrev call_bytes : Call → List ℕ
call_bytes call = to_le_bytes w16 call.proc ++ counted_bytes call.args

calls_here : (o : Option Proc) (call : Call) → IsSomeAnd o (λ proc. FitParams proc.params call.args) → All HasBytes call.args → CallsHere o call
calls_here None call h b = absurd h
calls_here (Some proc) call h b = (h, b)

calls_there : (o : Option Proc) (call : Call) → CallsHere o call → IsSomeAnd o (λ proc. FitParams proc.params call.args) × All HasBytes call.args
calls_there None call h = absurd h
calls_there (Some proc) call h = h

within : (procs : List Proc) (call : Call) (o : Option Proc) → slice_get procs call.proc ≡ o → CallsHere o call → call.proc < length procs
within procs call None is h = absurd h
within procs call (Some proc) is h = slice_get_within procs call.proc proc is

call_is : (n : ℕ) (args : List Value) (call : Call) → call.proc ≡ n → call.args ≡ args → call ≡ record { proc = n; args = args }
call_is n args call p a = ap₂ (λ (m : ℕ) (vs : List Value). the_call m vs) p a
  where
    the_call : ℕ → List Value → Call
    the_call m vs = record { proc = m; args = vs }

-- the arguments of a call of this procedure
abbrev args_of : ℕ → Proc → Rest → Result (Call × Rest) EntryFault
args_of n proc s = counted_values WrongArgs proc.params s >>= λ args. Ok (record { proc = n; args = args.0 }, args.1)

args_rest : (n : ℕ) (proc : Proc) → length proc.params < 256 → IsCodec (λ call. CallsHere (Some proc) call × (call.proc ≡ n)) (λ call. counted_bytes call.args) (args_of n proc)
args_rest n proc short = same _ _ _ _ _
    (λ call h. (h.1, h.0))
    (λ call h. (h.1, h.0))
    (λ call h. append-nil (counted_bytes call.args))
    (seq (λ call. call.args) (HaveTypes (types proc.params)) counted_bytes (counted_values WrongArgs proc.params) (λ call. call.proc ≡ n) (λ call. []) (λ at args s. Ok (record { proc = n; args = args }, s))
    (counted_codec WrongArgs proc.params short)
    (λ at args are. same _ _ _ _ _
    (λ call h. call_is n args call h.0 h.1)
    (λ call e. (ap (λ (c : Call). c.proc) e, ap (λ (c : Call). c.args) e))
    (λ call h. refl)
    (ended (record { proc = n; args = args }))))

-- the procedure is there, and the rest is read by its parameters
of_proc : (procs : List Proc) (at n : ℕ) → AreFewProcs procs → (o : Option Proc) → slice_get procs n ≡ o
    → IsCodec (λ call. CallsHere (slice_get procs call.proc) call × (call.proc ≡ n)) (λ call. counted_bytes call.args) (λ s. ok_or o (fault_at UnknownProc at) >>= λ proc. args_of n proc s)
of_proc procs at n few None is = never _ _ (λ s. fault_at UnknownProc at) (λ call h. none call (subst (λ (o : Option Proc). CallsHere o call) (ap (λ (k : ℕ). slice_get procs k) h.1 ∙ is) h.0))
  where
    none : (call : Call) → CallsHere None call → ⊥
    none call h = h
of_proc procs at n few (Some proc) is = same _ _ _ _ (args_of n proc)
    (λ call h. (subst (λ (o : Option Proc). CallsHere o call) (ap (λ (k : ℕ). slice_get procs k) h.1 ∙ is) h.0, h.1))
    (λ call h. (subst (λ (o : Option Proc). CallsHere o call) (sym (ap (λ (k : ℕ). slice_get procs k) h.1 ∙ is)) h.0, h.1))
    (λ call h. refl)
    (args_rest n proc (few.params n proc is))

call_codec : (procs : List Proc) → AreFewProcs procs → IsCodec (IsCall procs) call_bytes (next_call procs)
unfolding next_call
call_codec procs few = same _ _ _ _ _
    (λ call h. let is = calls_here (slice_get procs call.proc) call h.0 h.1 in (is, omega (arith, within procs call (slice_get procs call.proc) refl is, few.count)))
    (λ call h. calls_there (slice_get procs call.proc) call h.0)
    (λ call h. refl)
    (seq (λ call. call.proc) (λ n. n < 65536) (to_le_bytes w16) entry_number (λ call. CallsHere (slice_get procs call.proc) call) (λ call. counted_bytes call.args)
    (λ at n s. ok_or (slice_get procs n) (fault_at UnknownProc at) >>= λ proc. args_of n proc s)
    entry_number_codec
    (λ at n lt. of_proc procs at n few (slice_get procs n) refl))

-- ---- entries

abbrev call_in : Txn → Call
call_in (ACall call) = call
call_in (AdHoc records) = record { proc = 0; args = [] }

abbrev records_in : Txn → List Change
records_in (ACall call) = []
records_in (AdHoc records) = records

abbrev tag_of : Txn → ℕ
tag_of (ACall call) = 1
tag_of (AdHoc records) = 2

-- what stands after the tag
abbrev after_tag : Txn → List ℕ
after_tag (ACall call) = call_bytes call
after_tag (AdHoc records) = length records ∷ flat_map change_bytes records

-- an entry with this tag
abbrev Tagged : CatalogueState → ℕ → Txn → Type 0
Tagged catalogue tag txn = IsEntry catalogue txn × (tag_of txn ≡ tag)

module _ (catalogue : CatalogueState) where
  is_call : (txn : Txn) → Tagged catalogue 1 txn → (tag_of txn ≡ 1) × IsCall catalogue.procs (call_in txn)
  is_call (ACall call) h = (refl, h.0)
  is_call (AdHoc records) h = absurd (omega (arith, h.1))

  of_call : (txn : Txn) → (tag_of txn ≡ 1) × IsCall catalogue.procs (call_in txn) → Tagged catalogue 1 txn
  of_call (ACall call) h = (h.1, refl)
  of_call (AdHoc records) h = absurd (omega (arith, h.0))

  call_words : (txn : Txn) → tag_of txn ≡ 1 → call_bytes (call_in txn) ++ [] ≡ after_tag txn
  call_words (ACall call) tag = append-nil (call_bytes call)
  call_words (AdHoc records) tag = absurd (omega (arith, tag))

  txn_of_call : (call : Call) (txn : Txn) → (tag_of txn ≡ 1) × (call_in txn ≡ call) → txn ≡ ACall call
  txn_of_call call (ACall c) h = ap (λ x. ACall x) h.1
  txn_of_call call (AdHoc records) h = absurd (omega (arith, h.0))

  called_codec : AreFewProcs catalogue.procs → IsCodec (Tagged catalogue 1) after_tag (called_entry catalogue)
  called_codec few = same _ _ _ _ _ is_call of_call (λ txn h. call_words txn h.1)
      (seq call_in (IsCall catalogue.procs) call_bytes (next_call catalogue.procs) (λ txn. tag_of txn ≡ 1) (λ txn. []) (λ at call s. Ok (ACall call, s))
      (call_codec catalogue.procs few)
      (λ at call is. same _ _ _ _ _
      (txn_of_call call)
      (λ txn e. subst (λ (x : Txn). (tag_of x ≡ 1) × (call_in x ≡ call)) (sym e) (refl, refl))
      (λ txn h. refl)
      (ended (ACall call))))

  is_ad_hoc : (txn : Txn) → Tagged catalogue 2 txn → (tag_of txn ≡ 2) × AreChanges catalogue.tables (records_in txn)
  is_ad_hoc (ACall call) h = absurd (omega (arith, h.1))
  is_ad_hoc (AdHoc records) h = (refl, h.0)

  of_ad_hoc : (txn : Txn) → (tag_of txn ≡ 2) × AreChanges catalogue.tables (records_in txn) → Tagged catalogue 2 txn
  of_ad_hoc (ACall call) h = absurd (omega (arith, h.0))
  of_ad_hoc (AdHoc records) h = (h.1, refl)

  ad_hoc_words : (txn : Txn) → tag_of txn ≡ 2 → (length (records_in txn) ∷ flat_map change_bytes (records_in txn)) ++ [] ≡ after_tag txn
  ad_hoc_words (ACall call) tag = absurd (omega (arith, tag))
  ad_hoc_words (AdHoc records) tag = append-nil (length records ∷ flat_map change_bytes records)

  txn_of_records : (records : List Change) (txn : Txn) → (tag_of txn ≡ 2) × (records_in txn ≡ records) → txn ≡ AdHoc records
  txn_of_records records (ACall c) h = absurd (omega (arith, h.0))
  txn_of_records records (AdHoc rs) h = ap (λ x. AdHoc x) h.1

  ad_hoc_codec : AreFewTables catalogue.tables → IsCodec (Tagged catalogue 2) after_tag (ad_hoc_entry catalogue)
  ad_hoc_codec few = same _ _ _ _ _ is_ad_hoc of_ad_hoc (λ txn h. ad_hoc_words txn h.1)
      (seq records_in (AreChanges catalogue.tables) (λ rs. length rs ∷ flat_map change_bytes rs) (next_records catalogue.tables) (λ txn. tag_of txn ≡ 2) (λ txn. []) (λ at rs s. Ok (AdHoc rs, s))
      (records_codec catalogue.tables few)
      (λ at rs are. same _ _ _ _ _
      (txn_of_records rs)
      (λ txn e. subst (λ (x : Txn). (tag_of x ≡ 2) × (records_in x ≡ rs)) (sym e) (refl, refl))
      (λ txn h. refl)
      (ended (AdHoc rs))))

no_tag : (tag : ℕ) (txn : Txn) → eqb tag 1 ≡ false → eqb tag 2 ≡ false → tag_of txn ≡ tag → ⊥
no_tag tag (ACall call) a b e = not_both (eqb tag 1) (rw (← e) refl) a
no_tag tag (AdHoc records) a b e = not_both (eqb tag 2) (rw (← e) refl) b

small_tag : (txn : Txn) → IsByte (tag_of txn)
small_tag (ACall call) = omega arith
small_tag (AdHoc records) = omega arith

txn_words : (txn : Txn) → tag_of txn ∷ after_tag txn ≡ txn_bytes txn
txn_words (ACall call) = refl
txn_words (AdHoc records) = refl

pub entry_codec : (catalogue : CatalogueState) → AreFewTables catalogue.tables → AreFewProcs catalogue.procs → IsCodec (IsEntry catalogue) txn_bytes (next_entry catalogue)
unfolding next_entry
entry_codec catalogue few_tables few_procs = same _ _ _ _ _
    (λ txn h. (h, small_tag txn))
    (λ txn h. h.0)
    (λ txn h. txn_words txn)
    (seq tag_of IsByte one_byte entry_byte (IsEntry catalogue) after_tag
    (λ at tag s. cond (eqb tag 1) (called_entry catalogue s) (cond (eqb tag 2) (ad_hoc_entry catalogue s) (Err (fault_at Tag at))))
    entry_byte_codec
    (λ at tag lt. either _ _ (eqb tag 1) (called_entry catalogue) (λ s. cond (eqb tag 2) (ad_hoc_entry catalogue s) (Err (fault_at Tag at)))
    (λ one. subst (λ (k : ℕ). IsCodec (Tagged catalogue k) after_tag (called_entry catalogue)) (sym (eqb-true _ _ one)) (called_codec catalogue few_procs))
    (λ not_one. either _ _ (eqb tag 2) (ad_hoc_entry catalogue) (λ s. Err (fault_at Tag at))
    (λ two. subst (λ (k : ℕ). IsCodec (Tagged catalogue k) after_tag (ad_hoc_entry catalogue)) (sym (eqb-true _ _ two)) (ad_hoc_codec catalogue few_tables))
    (λ not_two. never _ _ (λ s. fault_at Tag at) (λ txn h. no_tag tag txn not_one not_two h.1)))))
