-- What stands in a state after an effect, when two states are one, and the least of notes.
use Rattle.std.proofs.Common.{◌≡◌, ℕ, ◌==◌, Bool, true, false, cond, List, [], ◌∷◌, ◌++◌, refl, sym, ap, ◌∙◌, true≢false, Option, Some, None, Ordering, Less, Equal, Greater, nat_cmp, arith}
use Rattle.std.specs.Cmp.{IsTotalOrder, nat_cmp_total, unsigned_ties}
use Rattle.std.proofs.lemmas.Cmp.{then_total, on_total}
use Rattle.std.specs.Ordering.{is_eq, is_lt, eq_by_cmp, ordering_then, ordering_reverse}
use Rattle.std.specs.FinMap.{get, get-insert, IsAntisymmetric, nat_cmp-IsAntisymmetric}
use Rattle.pac_value.specs.declared.values.Value.{Value}
use Rattle.pac_value.specs.Expressions.{Values}
use Rattle.pac_value.specs.State.{Cell, cell_cmp, RowValues, Tables}
use Rattle.pac_value.proofs.CellLemmas.{get-with_row}
use Rattle.pac_ops.specs.declared.note.Note.{Note}
use Rattle.pac_ops.specs.declared.reason.Reason.{Reason}
use Rattle.pac_ops.specs.declared.reason.Reason.TheVariants.{Missing, Overflow, DivZero, Asked}
use Rattle.pac_ops.specs.Notes.{reason_number, note_cmp, first_note, least}
use Rattle.pac_ops.specs.Effects.{RowChange, Same, Now, given, changed}

-- what stands at a location after an effect
abbrev pub row_now : Option Cell → RowChange → Option RowValues → Cell → Option RowValues
row_now None c r q = r
row_now (Some a) Same r q = r
row_now (Some a) (Now n) r q = cond (eq_by_cmp cell_cmp q a) n r

pub get-changed : (a : Option Cell) (c : RowChange) (tables : Tables) (q : Cell) → get (changed a c tables) q ≡ row_now a c (get tables q) q
get-changed None c tables q = refl
get-changed (Some a) Same tables q = refl
get-changed (Some a) (Now row) tables q = get-with_row tables a row q

abbrev pub value_now : Option (ℕ × Value) → Option Value → ℕ → Option Value
value_now None r y = r
value_now (Some g) r y = cond (y == g.0) (Some g.1) r

pub get-given : (g : Option (ℕ × Value)) (env : Values) (y : ℕ) → get (given g env) y ≡ value_now g (get env y) y
get-given None env y = refl
get-given (Some g) env y = get-insert nat_cmp_total env g.0 g.1 y ∙ ap (λ b. cond b (Some g.1) (get env y)) (sym (unsigned_ties y g.0))

-- ---- notes

then_equal : (a b : Ordering) → ordering_then a b ≡ Equal → (a ≡ Equal) × (b ≡ Equal)
then_equal Less b e = absurd (true≢false (sym (ap is_eq e)))
then_equal Equal b e = (refl, e)
then_equal Greater b e = absurd (true≢false (sym (ap is_eq e)))

notes_total : IsTotalOrder note_cmp
notes_total = then_total (on_total (λ (n : Note). n.txn) nat_cmp_total) (then_total (on_total (λ (n : Note). n.op) nat_cmp_total) (on_total (λ (n : Note). reason_number n.reason) nat_cmp_total))

reason_same : (a b : Reason) → reason_number a ≡ reason_number b → a ≡ b
reason_same Missing Missing e = refl
reason_same Overflow Overflow e = refl
reason_same DivZero DivZero e = refl
reason_same Asked Asked e = refl
reason_same _ _ e = absurd (omega arith)

note_same : IsAntisymmetric note_cmp
note_same a b e i =
    let rest : (nat_cmp a.op b.op ≡ Equal) × (nat_cmp (reason_number a.reason) (reason_number b.reason) ≡ Equal) = then_equal _ _ (then_equal _ _ e).1 in
    record {
      txn = nat_cmp-IsAntisymmetric a.txn b.txn (then_equal _ _ e).0 i;
      op = nat_cmp-IsAntisymmetric a.op b.op rest.0 i;
      reason = reason_same a.reason b.reason (nat_cmp-IsAntisymmetric _ _ rest.1) i;
    }

is_lt-Less : (o : Ordering) → is_lt o ≡ true → o ≡ Less
is_lt-Less Less e = refl
is_lt-Less Equal e = absurd (true≢false (sym e))
is_lt-Less Greater e = absurd (true≢false (sym e))

least_pair : (a b : Note) → least (Some a) (Some b) ≡ least (Some b) (Some a)
least_pair a b = rw (notes_total.antisymm b a) (go (note_cmp a b) refl)
  where
    go : (r : Ordering) → note_cmp a b ≡ r → Some (cond (is_lt (ordering_reverse r)) b a) ≡ Some (cond (is_lt r) a b)
    go Less e = refl
    go Equal e = ap Some (note_same a b e)
    go Greater e = refl

-- the least of several does not hang on their order
least_three : (n a b : Note) (u v : Bool) → is_lt (note_cmp a n) ≡ u → is_lt (note_cmp b n) ≡ v
    → least (Some (cond u a n)) (Some b) ≡ least (Some (cond v b n)) (Some a)
least_three n a b true true eu ev = least_pair a b
least_three n a b true false eu ev = rw eu (go (is_lt (note_cmp b a)) refl)
  where
    go : (w : Bool) → is_lt (note_cmp b a) ≡ w → Some (cond w b a) ≡ Some a
    go true e = absurd (true≢false (sym (ap is_lt (notes_total.trans b a n (is_lt-Less _ e) (is_lt-Less _ eu))) ∙ ev))
    go false e = refl
least_three n a b false true eu ev = rw ev (go (is_lt (note_cmp a b)) refl)
  where
    go : (w : Bool) → is_lt (note_cmp a b) ≡ w → Some b ≡ Some (cond w a b)
    go true e = absurd (true≢false (sym (ap is_lt (notes_total.trans a b n (is_lt-Less _ e) (is_lt-Less _ ev))) ∙ eu))
    go false e = refl
least_three n a b false false eu ev = rw (eu, ev) refl

pub least_none : (a : Option Note) → least a None ≡ a
least_none None = refl
least_none (Some a) = refl

pub least-swap : (n a b : Option Note) → least (least n a) b ≡ least (least n b) a
least-swap None None b = sym (least_none b)
least-swap None (Some a) None = refl
least-swap None (Some a) (Some b) = least_pair a b
least-swap (Some n) None b = sym (least_none _)
least-swap (Some n) (Some a) None = least_none _
least-swap (Some n) (Some a) (Some b) = least_three n a b _ _ refl refl

least-turn : (a b : Option Note) → least a b ≡ least b a
least-turn a b = least-swap None a b

pub least-assoc : (a b c : Option Note) → least a (least b c) ≡ least (least a b) c
least-assoc a b c = least-turn a (least b c) ∙ least-swap b c a ∙ ap (λ n. least n c) (least-turn b a)

-- the first of two lists of notes is the lesser of their firsts
pub first-append : (xs ys : List Note) → first_note (xs ++ ys) ≡ least (first_note xs) (first_note ys)
first-append [] ys = refl
first-append (x ∷ xs) ys = ap (least (Some x)) (first-append xs ys) ∙ least-assoc (Some x) (first_note xs) (first_note ys)
