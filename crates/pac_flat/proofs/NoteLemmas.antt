-- The notes of a replay rise by transaction and operation, so the first of them is the least.
use Rattle.std.proofs.Common.{◌≡◌, ℕ, ◌+◌, ◌<◌, ◌≤◌, Bool, true, false, cond, List, [], ◌∷◌, ◌++◌, Option, Some, None, ◌⊎◌, inl, inr, refl, sym, ap, ◌∙◌, arith, Equal, Greater, nat_cmp}
use Rattle.std.specs.List.{AllByRecursion}
use Rattle.std.specs.Cmp.{nat_cmp_total}
use Rattle.std.specs.Ordering.{ordering_then, is_lt}
use Rattle.std.proofs.lemmas.Bool.Decides.{nat_tests}
use Rattle.std.proofs.lemmas.Cmp.{tied_itself}
use Rattle.pac_value.specs.declared.values.Ty.{Ty}
use Rattle.pac_value.specs.State.{Tables}
use Rattle.pac_ops.specs.declared.note.Note.{Note}
use Rattle.pac_ops.specs.declared.program.FlatOp.{FlatOp}
use Rattle.pac_ops.specs.declared.program.Program.{Program}
use Rattle.pac_ops.specs.declared.reason.Reason.{Reason}
use Rattle.pac_ops.specs.declared.transaction.Txn.{Txn}
use Rattle.pac_ops.specs.declared.transaction.Txn.TheVariants.{Call as ACall, AdHoc}
use Rattle.pac_ops.specs.Flat.{flat_done, flat_reason, notes_of}
use Rattle.pac_ops.specs.Notes.{note_at, reason_number, note_cmp, lesser_note, first_note}
use Rattle.pac_ops.specs.Operations.{State, opening}
use Rattle.pac_ops.specs.Transactions.{call_notes, txn_state, txn_notes, replayed}
use Rattle.pac_value.specs.declared.values.Value.{Value}
use Rattle.std.specs.Prelude.{slice_get}

-- a note of a later transaction, or of a later operation of the same
abbrev pub Later : Note → Note → Type 0
Later a b = (a.txn < b.txn) ⊎ ((a.txn ≡ b.txn) × (a.op < b.op))

greater : (a b : ℕ) → b < a → nat_cmp a b ≡ Greater
greater a b h = grind (arith, nat_tests)

not_less : (a b : Note) → Later a b → is_lt (note_cmp b a) ≡ false
not_less a b (inl h) = ap (λ o. is_lt (ordering_then o (ordering_then (nat_cmp b.op a.op) (nat_cmp (reason_number b.reason) (reason_number a.reason))))) (greater b.txn a.txn h)
not_less a b (inr h) =
    let tied : nat_cmp b.txn a.txn ≡ Equal = ap (λ n. nat_cmp b.txn n) h.0 ∙ tied_itself nat_cmp_total b.txn in
    ap (λ o. is_lt (ordering_then o (ordering_then (nat_cmp b.op a.op) (nat_cmp (reason_number b.reason) (reason_number a.reason))))) tied
    ∙ ap (λ o. is_lt (ordering_then o (nat_cmp (reason_number b.reason) (reason_number a.reason)))) (greater b.op a.op h.1)

-- a property of the item of an option, if it has one
abbrev OfSome : (Note → Type 0) → Option Note → Type 0
OfSome P None = Unit {0}
OfSome P (Some note) = P note

first_has : (P : Note → Type 0) (notes : List Note) → AllByRecursion P notes → OfSome P (first_note notes)
first_has P [] all = tt
first_has P (note ∷ notes) all = go (first_note notes) (first_has P notes all.1)
  where
    pick : (b : Bool) (m : Note) → P m → P (cond b m note)
    pick true m h = h
    pick false m h = all.0

    go : (o : Option Note) → OfSome P o → P (lesser_note note o)
    go None h = all.0
    go (Some m) h = pick (is_lt (note_cmp m note)) m h

-- notes that rise
abbrev pub Rises : List Note → Type 0
Rises [] = Unit {0}
Rises (note ∷ notes) = AllByRecursion (Later note) notes × Rises notes

-- the first of them is the least
pub first-rises : (note : Note) (notes : List Note) → Rises (note ∷ notes) → first_note (note ∷ notes) ≡ Some note
first-rises note notes h = ap Some (go (first_note notes) (first_has (Later note) notes h.0))
  where
    go : (o : Option Note) → OfSome (Later note) o → lesser_note note o ≡ note
    go None h = refl
    go (Some m) h = ap (λ b. cond b m note) (not_less note m h)

weaker : (P Q : Note → Type 0) → ((note : Note) → P note → Q note) → (notes : List Note) → AllByRecursion P notes → AllByRecursion Q notes
weaker P Q f [] all = tt
weaker P Q f (note ∷ notes) all = (f note all.0, weaker P Q f notes all.1)

all-append : (P : Note → Type 0) (xs ys : List Note) → AllByRecursion P xs → AllByRecursion P ys → AllByRecursion P (xs ++ ys)
all-append P [] ys h g = g
all-append P (x ∷ xs) ys h g = (h.0, all-append P xs ys h.1 g)

-- notes of a transaction, from an operation on
abbrev From : ℕ → ℕ → Note → Type 0
From txn n note = (note.txn ≡ txn) × (n ≤ note.op)

module _ (vars : List Ty) (txn : ℕ) where
  from_next : (n : ℕ) (o : Option Reason) (notes : List Note) → AllByRecursion (From txn (n + 1)) notes → AllByRecursion (From txn n) (note_at txn n o ++ notes)
  from_next n None notes h = weaker (From txn (n + 1)) (From txn n) (λ note f. (f.0, omega (arith, f.1))) notes h
  from_next n (Some reason) notes h = ((refl, omega arith), weaker (From txn (n + 1)) (From txn n) (λ note f. (f.0, omega (arith, f.1))) notes h)

  notes-from : (n : ℕ) (ops : List FlatOp) (s : State) → AllByRecursion (From txn n) (notes_of vars txn n ops s)
  notes-from n [] s = tt
  notes-from n (op ∷ ops) s = from_next n (flat_reason op s) (notes_of vars txn (n + 1) ops (flat_done vars op s)) (notes-from (n + 1) ops (flat_done vars op s))

  rises_next : (n : ℕ) (o : Option Reason) (notes : List Note) → AllByRecursion (From txn (n + 1)) notes → Rises notes → Rises (note_at txn n o ++ notes)
  rises_next n None notes h rises = rises
  rises_next n (Some reason) notes h rises = (weaker (From txn (n + 1)) (Later (record { txn = txn; op = n; reason = reason })) (λ note f. inr (sym f.0, omega (arith, f.1))) notes h, rises)

  pub rises-notes : (n : ℕ) (ops : List FlatOp) (s : State) → Rises (notes_of vars txn n ops s)
  rises-notes n [] s = tt
  rises-notes n (op ∷ ops) s =
      rises_next n (flat_reason op s) (notes_of vars txn (n + 1) ops (flat_done vars op s)) (notes-from (n + 1) ops (flat_done vars op s)) (rises-notes (n + 1) ops (flat_done vars op s))

rises-append : (txn : ℕ) (xs ys : List Note) → AllByRecursion (λ (note : Note). note.txn ≡ txn) xs → AllByRecursion (λ (note : Note). txn < note.txn) ys → Rises xs → Rises ys → Rises (xs ++ ys)
rises-append txn [] ys same later h g = g
rises-append txn (x ∷ xs) ys same later h g = (
  all-append (Later x) xs ys h.0 (weaker (λ (note : Note). txn < note.txn) (Later x) (λ note lt. inl (omega (arith, same.0, lt))) ys later),
  rises-append txn xs ys same.1 later h.1 g,
)

module _ (programs : List Program) where
  call-own : (o : Option Program) (txn : ℕ) (args : List Value) (tables : Tables) → AllByRecursion (λ (note : Note). note.txn ≡ txn) (call_notes o txn args tables)
  call-own None txn args tables = tt
  call-own (Some program) txn args tables = weaker (From txn 0) (λ (note : Note). note.txn ≡ txn) (λ note h. h.0) _ (notes-from program.vars txn 0 program.ops (opening args tables))

  txn-own : (n : ℕ) (txn : Txn) (tables : Tables) → AllByRecursion (λ (note : Note). note.txn ≡ n) (txn_notes programs n txn tables)
  txn-own n (ACall call) tables = call-own (slice_get programs call.proc) n call.args tables
  txn-own n (AdHoc records) tables = tt

  call-rises : (o : Option Program) (txn : ℕ) (args : List Value) (tables : Tables) → Rises (call_notes o txn args tables)
  call-rises None txn args tables = tt
  call-rises (Some program) txn args tables = rises-notes program.vars txn 0 program.ops (opening args tables)

  txn-rises : (n : ℕ) (txn : Txn) (tables : Tables) → Rises (txn_notes programs n txn tables)
  txn-rises n (ACall call) tables = call-rises (slice_get programs call.proc) n call.args tables
  txn-rises n (AdHoc records) tables = tt

  replayed-later : (txns : List Txn) (first : ℕ) (tables : Tables) → AllByRecursion (λ (note : Note). first ≤ note.txn) (replayed programs first txns tables).notes
  replayed-later [] first tables = tt
  replayed-later (txn ∷ txns) first tables = all-append (λ (note : Note). first ≤ note.txn) (txn_notes programs first txn tables) _
      (weaker (λ (note : Note). note.txn ≡ first) (λ (note : Note). first ≤ note.txn) (λ note h. omega (arith, h)) _ (txn-own first txn tables))
      (weaker (λ (note : Note). first + 1 ≤ note.txn) (λ (note : Note). first ≤ note.txn) (λ note h. omega (arith, h)) _ (replayed-later txns (first + 1) (txn_state programs txn tables).tables))

  pub rises-replayed : (txns : List Txn) (first : ℕ) (tables : Tables) → Rises (replayed programs first txns tables).notes
  rises-replayed [] first tables = tt
  rises-replayed (txn ∷ txns) first tables = rises-append first (txn_notes programs first txn tables) _ (txn-own first txn tables)
      (weaker (λ (note : Note). first + 1 ≤ note.txn) (λ (note : Note). first < note.txn) (λ note h. omega (arith, h)) _ (replayed-later txns (first + 1) (txn_state programs txn tables).tables))
      (txn-rises first txn tables) (rises-replayed txns (first + 1) (txn_state programs txn tables).tables)
