-- A loop that reads ascending images: those that it has, before what reading gives of the rest, are what reading gives.
use Rattle.std.proofs.Common.{◌≡◌, ◌∙◌, ℕ, zero, suc, ◌-◌, ◌+◌, ◌<◌, ◌≤◌, List, [], ◌∷◌, ◌++◌, length, Option, Some, None, cond, Result, Ok, Err, IfOk, IsTrue, refl, sym, ap, subst, append_assoc, arith}
use Rattle.std.proofs.lemmas.List.{append-nil}
use Rattle.pac_base.specs.declared.refusal.Refusal.{Refusal}
use Rattle.pac_base.specs.declared.refusal.Refusal.TheVariants.{Fault, NoMemory}
use Rattle.pac_base.specs.Refusals.{Fails, Reports}
use Rattle.pac_value.specs.Expressions.{◌>>=◌}
use Rattle.pac_value.specs.State.{Cell}
use Rattle.pac_ops.specs.declared.transaction.Change.{Change}
use Rattle.pac_types.specs.declared.table.Table.{Table}
use Rattle.pac_bytes.specs.Reading.{Rest, from, reported_as}
use Rattle.pac_bytes.proofs.Results.{bind_ok, ok_same, true_ok, reported_as_ok}
use Rattle.pac_bytes.proofs.Loops.{preceding}
use Rattle.pac_tuple.specs.declared.fault.ImageFault.{ImageFault}
use Rattle.pac_entry.specs.declared.fault.EntryFault.{EntryFault}
use Rattle.pac_entry.specs.EntryReading.{next_cell, next_change}
use Rattle.pac_tuple.specs.declared.fault.ImageFaultKind.TheVariants.{Order}
use Rattle.pac_serial.specs.Writes.{image_cell}
use Rattle.pac_tuple.specs.Images.{is_cell_above, AscendAfter}
use Rattle.pac_tuple.specs.Kinds.{image_fault_at, as_image_fault}
use Rattle.pac_tuple.proofs.CellLemmas.{cell_read}
use Rattle.pac_tuple.specs.ImageReading.{next_image, next_ascending}

moved_prefix : {A F : Type 0} (prefix : List A) (x : A) (r : Result (List A × Rest) F) → preceding prefix (r >>= λ xs. Ok (x ∷ xs.0, xs.1)) ≡ preceding (prefix ++ x ∷ []) r
moved_prefix {A} prefix x (Ok xs) = ap (λ (ys : List A). Ok (ys, xs.1)) (sym (append_assoc prefix (x ∷ []) xs.0))
moved_prefix prefix x (Err fault) = refl

module _ (tables : List Table) where
  pub ascending-on : (prefix : List Change) (last : Option Cell) (count i : ℕ) (s t : Rest) (x : Change) (total : Result (List Change × Rest) ImageFault) → i < count → next_image tables last s ≡ Ok (x, t)
      → preceding prefix (next_ascending tables last (count - i) s) ≡ total → preceding (prefix ++ x ∷ []) (next_ascending tables (Some (image_cell x)) (count - (i + 1)) t) ≡ total
  unfolding next_ascending
  ascending-on prefix last count i s t x total lt h so_far =
      let k : count - i ≡ suc (count - (i + 1)) = omega arith in
      let one : preceding prefix (next_ascending tables last (count - i) s) ≡ preceding (prefix ++ x ∷ []) (next_ascending tables (Some (image_cell x)) (count - (i + 1)) t) = rw (k, h) (moved_prefix prefix x (next_ascending tables (Some (image_cell x)) (count - (i + 1)) t)) in
      sym one ∙ so_far

  pub ascending-fails : (refusal : Refusal ImageFault) (prefix : List Change) (last : Option Cell) (count i : ℕ) (s : Rest) (total : Result (List Change × Rest) ImageFault) → i < count → Fails refusal (next_image tables last s)
      → preceding prefix (next_ascending tables last (count - i) s) ≡ total → Fails refusal total
  unfolding next_ascending
  ascending-fails NoMemory prefix last count i s total lt h so_far = tt
  ascending-fails (Fault fault) prefix last count i s total lt h so_far =
      let k : count - i ≡ suc (count - (i + 1)) = omega arith in
      let one : preceding prefix (next_ascending tables last (count - i) s) ≡ Err fault = rw (k, h) refl in
      sym so_far ∙ one

  pub ascending-done : (prefix : List Change) (last : Option Cell) (count i : ℕ) (s : Rest) (total : Result (List Change × Rest) ImageFault) → count ≤ i → preceding prefix (next_ascending tables last (count - i) s) ≡ total → total ≡ Ok (prefix, s)
  unfolding next_ascending
  ascending-done prefix last count i s total le so_far =
      let k : count - i ≡ 0 = omega arith in
      let one : preceding prefix (next_ascending tables last (count - i) s) ≡ Ok (prefix, s) = rw k (ap (λ (xs : List Change). Ok (xs, s)) (append-nil prefix)) in
      sym so_far ∙ one

-- the image that is read is above the last cell
above_read : (tables : List Table) (last : Option Cell) (s t : Rest) (c : Change) → next_image tables last s ≡ Ok (c, t) → IsTrue (is_cell_above last (image_cell c))
unfolding next_image
above_read tables last s t c e =
    let steps = bind_ok (reported_as as_image_fault (next_cell tables s)) (λ cell. cond (is_cell_above last cell.0) (reported_as as_image_fault (next_change tables s)) (Err (image_fault_at Order (s.at + 3)))) (c, t) e in
    let above = true_ok (is_cell_above last steps.0.0) (image_fault_at Order (s.at + 3)) (reported_as as_image_fault (next_change tables s)) (c, t) steps.2 in
    let read = reported_as_ok as_image_fault (next_change tables s) (c, t) above.1 in
    let cell = cell_read tables s t c read in
    let here : next_cell tables s ≡ Ok steps.0 = reported_as_ok as_image_fault (next_cell tables s) steps.0 steps.1 in
    let same_cell : ◌≡◌ {A = Cell × Rest} (image_cell c, cell.0) steps.0 = ok_same {F = EntryFault} (image_cell c, cell.0) steps.0 (sym cell.1 ∙ here) in
    let one : image_cell c ≡ steps.0.0 = ap (λ (p : Cell × Rest). p.0) same_cell in
    subst (λ (x : Cell). IsTrue (is_cell_above last x)) (sym one) above.0

-- what is read ascends after the last cell, and is as many
ascending_read : (tables : List Table) (n : ℕ) (last : Option Cell) (s t : Rest) (cs : List Change) → next_ascending tables last n s ≡ Ok (cs, t) → AscendAfter last cs × (length cs ≡ n)
unfolding next_ascending
ascending_read tables zero last s t cs e =
    let both : ◌≡◌ {A = List Change × Rest} ([], s) (cs, t) = ok_same {F = ImageFault} ([], s) (cs, t) e in
    let is : [] ≡ cs = ap (λ (p : List Change × Rest). p.0) both in
    subst (λ (xs : List Change). AscendAfter last xs × (length xs ≡ 0)) is (tt, refl)
ascending_read tables (suc n) last s t cs e =
    let steps = bind_ok (next_image tables last s) (λ image. next_ascending tables (Some (image_cell image.0)) n image.1 >>= λ images. Ok (image.0 ∷ images.0, images.1)) (cs, t) e in
    let more = bind_ok (next_ascending tables (Some (image_cell steps.0.0)) n steps.0.1) (λ images. Ok (steps.0.0 ∷ images.0, images.1)) (cs, t) steps.2 in
    let both : ◌≡◌ {A = List Change × Rest} (steps.0.0 ∷ more.0.0, more.0.1) (cs, t) = ok_same {F = ImageFault} (steps.0.0 ∷ more.0.0, more.0.1) (cs, t) more.2 in
    let is : steps.0.0 ∷ more.0.0 ≡ cs = ap (λ (p : List Change × Rest). p.0) both in
    let rest = ascending_read tables n (Some (image_cell steps.0.0)) steps.0.1 more.0.1 more.0.0 more.1 in
    subst (λ (xs : List Change). AscendAfter last xs × (length xs ≡ suc n)) is ((above_read tables last s steps.0.1 steps.0.0 steps.1, rest.0), omega (arith, rest.1))

pub count_read : (tables : List Table) (n : ℕ) (bytes : List ℕ) (at : ℕ) {V : Type 0} (view : V → List Change) (result : Result (V × ℕ) (Refusal ImageFault)) → Reports (λ found. (view found.0, from bytes found.1)) result (next_ascending tables None n (from bytes at))
    → IfOk result (λ found. length (view found.0) ≡ n)
count_read tables n bytes at view (Ok found) e = (ascending_read tables n None (from bytes at) (from bytes found.1) (view found.0) e).1
count_read tables n bytes at view (Err refusal) e = tt

pub order_read : (tables : List Table) (n : ℕ) (bytes : List ℕ) (at : ℕ) {V : Type 0} (view : V → List Change) (result : Result (V × ℕ) (Refusal ImageFault)) → Reports (λ found. (view found.0, from bytes found.1)) result (next_ascending tables None n (from bytes at))
    → IfOk result (λ found. AscendAfter None (view found.0))
order_read tables n bytes at view (Ok found) e = (ascending_read tables n None (from bytes at) (from bytes found.1) (view found.0) e).0
order_read tables n bytes at view (Err refusal) e = tt
