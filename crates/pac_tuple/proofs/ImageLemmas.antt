-- Images, and lists of them, are codecs.
use Rattle.std.proofs.Common.{◌≡◌, ◌∙◌, ℕ, zero, suc, ◌+◌, ◌<◌, ◌≤◌, cond, eqb, ltb, List, [], ◌∷◌, ◌++◌, length, Option, Some, None, Result, Ok, Err, IsTrue, refl, sym, ap, subst, append_assoc, arith}
use Rattle.std.specs.List.{flat_map, AllByRecursion}
use Rattle.std.specs.Int.{w16, to_le_bytes}
use Rattle.std.proofs.lemmas.Bool.{eqb-true, eqb-false, ltb-true, ltb-false}
use Rattle.std.proofs.lemmas.List.{length-append}
use Rattle.std.proofs.lemmas.List.Concat.{flat_map-cons}
use Rattle.pac_value.specs.Expressions.{◌>>=◌}
use Rattle.pac_value.specs.State.{Cell}
use Rattle.pac_ops.specs.declared.transaction.Change.{Change}
use Rattle.pac_types.specs.declared.table.Table.{Table}
use Rattle.pac_bytes.specs.Reading.{Rest, reported_as, next_byte, next_uint}
use Rattle.pac_bytes.specs.Readers.{IsAtStart}
use Rattle.pac_bytes.proofs.Bytes.{IsBytes-after}
use Rattle.pac_bytes.proofs.Results.{bind_ok, bind_of_ok, true_ok, reported_as_ok, ok_same}
use Rattle.pac_bytes.proofs.Codec.{IsCodec, ended, seq, either, never, same, reported_again}
use Rattle.pac_bytes.proofs.Numbers.{IsByte, one_byte, byte_codec, uint_codec, width16}
use Rattle.pac_entry.specs.declared.fault.EntryFault.{EntryFault}
use Rattle.pac_entry.specs.Entries.{change_bytes, IsRecord}
use Rattle.pac_entry.specs.EntryReading.{next_cell, next_change}
use Rattle.pac_entry.proofs.ChangeLemmas.{AreFewTables, change_codec}
use Rattle.pac_tuple.specs.declared.fault.ImageFaultKind.TheVariants.{Tag, TooMany, Order}
use Rattle.pac_tuple.specs.declared.images.TheConstants.{MAX_IMAGES}
use Rattle.pac_serial.specs.Writes.{image_cell}
use Rattle.pac_tuple.specs.Images.{is_cell_above, AscendAfter, AreTxnImagesOf, images_bytes}
use Rattle.pac_tuple.specs.ImageReading.{image_byte, image_number, next_image, next_ascending, counted_images, next_images}
use Rattle.pac_tuple.specs.Kinds.{image_fault_at, as_short_image, as_image_fault}
use Rattle.pac_tuple.proofs.CellLemmas.{cell_read}

-- a record of the tables at a cell above the last one
abbrev IsNext : List Table → Option Cell → Change → Type 0
IsNext tables last c = IsTrue (is_cell_above last (image_cell c)) × IsRecord tables c

image_codec : (tables : List Table) → AreFewTables tables → (last : Option Cell) → IsCodec (IsNext tables last) change_bytes (next_image tables last)
unfolding next_image
image_codec tables few last = record {
  again = λ c at more fits.
      let whole = (change_codec tables few).again c at more fits.1 in
      let cell = cell_read tables (record { at = at; bytes = change_bytes c ++ more }) (record { at = at + length (change_bytes c); bytes = more }) c whole in
      rw (cell.1, fits.0, whole) refl;
  found = λ s c t are e.
      let steps = bind_ok (reported_as as_image_fault (next_cell tables s)) (λ cell. cond (is_cell_above last cell.0) (reported_as as_image_fault (next_change tables s)) (Err (image_fault_at Order (s.at + 3)))) (c, t) e in
      let above = true_ok (is_cell_above last steps.0.0) (image_fault_at Order (s.at + 3)) (reported_as as_image_fault (next_change tables s)) (c, t) steps.2 in
      let read = reported_as_ok as_image_fault (next_change tables s) (c, t) above.1 in
      let is = (change_codec tables few).found s c t are read in
      let cell = cell_read tables s t c read in
      let here : next_cell tables s ≡ Ok steps.0 = reported_as_ok as_image_fault (next_cell tables s) steps.0 steps.1 in
      let same_cell : ◌≡◌ {A = Cell × Rest} (image_cell c, cell.0) steps.0 = ok_same {F = EntryFault} (image_cell c, cell.0) steps.0 (sym cell.1 ∙ here) in
      let one : image_cell c ≡ steps.0.0 = ap (λ (p : Cell × Rest). p.0) same_cell in
      record {
        bytes = is.bytes;
        offset = is.offset;
        form = (subst (λ (x : Cell). IsTrue (is_cell_above last x)) (sym one) above.0, is.form);
      };
}

-- the list with one more at the start, and what is left
abbrev with_first : {A F : Type 0} → A → List A × Rest → Result (List A × Rest) F
with_first x xs = Ok (x ∷ xs.0, xs.1)

-- One, and then others that may depend on it: a list that isn't empty, of a form that says so.
cons_codec : {A F : Type 0} (one_form : A → Type 0) (others_form : A → List A → Type 0) (spell : A → List ℕ) (read_one : Rest → Result (A × Rest) F) (read_others : A → Rest → Result (List A × Rest) F)
    → IsCodec one_form spell read_one → ((x : A) → IsCodec (others_form x) (λ xs. flat_map spell xs) (read_others x))
    → (form : List A → Type 0) → ((x : A) (xs : List A) → form (x ∷ xs) → one_form x × others_form x xs) → ((x : A) (xs : List A) → one_form x × others_form x xs → form (x ∷ xs)) → (form [] → ⊥)
    → IsCodec form (λ xs. flat_map spell xs) (λ s. read_one s >>= λ x. read_others x.0 x.1 >>= with_first x.0)
cons_codec {A} {F} one_form others_form spell read_one read_others one others form parts joined some = record {
  again = λ xs at more fits. again_of xs at more fits;
  found = λ s xs t are e.
      let steps = bind_ok (read_one s) (λ x. read_others x.0 x.1 >>= with_first x.0) (xs, t) e in
      let more = bind_ok (read_others steps.0.0 steps.0.1) (with_first steps.0.0) (xs, t) steps.2 in
      let prefix = one.found s steps.0.0 steps.0.1 are steps.1 in
      let back = (others steps.0.0).found steps.0.1 more.0.0 more.0.1 (IsBytes-after (spell steps.0.0) steps.0.1.bytes s.bytes prefix.bytes are) more.1 in
      let both : (steps.0.0 ∷ more.0.0, more.0.1) ≡ (xs, t) = ok_same {F = F} (steps.0.0 ∷ more.0.0, more.0.1) (xs, t) more.2 in
      subst (λ (p : List A × Rest). IsAtStart form (λ ys. flat_map spell ys) s p.0 p.1) both (record {
        bytes = prefix.bytes ∙ ap (λ (x : List ℕ). spell steps.0.0 ++ x) back.bytes ∙ sym (append_assoc (spell steps.0.0) (flat_map spell more.0.0) more.0.1.bytes) ∙ ap (λ (x : List ℕ). x ++ more.0.1.bytes) (sym (flat_map-cons spell steps.0.0 more.0.0));
        offset = omega (arith, length-append (spell steps.0.0) (flat_map spell more.0.0), ap (λ (x : List ℕ). length x) (flat_map-cons spell steps.0.0 more.0.0), prefix.offset, back.offset);
        form = joined steps.0.0 more.0.0 (prefix.form, back.form);
      });
}
  where
    again_of : (xs : List A) (at : ℕ) (more : List ℕ) → form xs → (read_one (record { at = at; bytes = flat_map spell xs ++ more }) >>= λ x. read_others x.0 x.1 >>= with_first x.0) ≡ Ok (xs, record { at = at + length (flat_map spell xs); bytes = more })
    again_of [] at more fits = absurd (some fits)
    again_of (x ∷ xs) at more fits =
        let p = parts x xs fits in
        let words : flat_map spell (x ∷ xs) ++ more ≡ spell x ++ (flat_map spell xs ++ more) = ap (λ (y : List ℕ). y ++ more) (flat_map-cons spell x xs) ∙ append_assoc (spell x) (flat_map spell xs) more in
        let offset : at + length (spell x) + length (flat_map spell xs) ≡ at + length (flat_map spell (x ∷ xs)) = omega (arith, length-append (spell x) (flat_map spell xs), ap (λ (y : List ℕ). length y) (flat_map-cons spell x xs)) in
        ap (λ (b : List ℕ). read_one (record { at = at; bytes = b }) >>= λ y. read_others y.0 y.1 >>= with_first y.0) words
        ∙ bind_of_ok _ _ (λ y. read_others y.0 y.1 >>= with_first y.0) _ (one.again x at (flat_map spell xs ++ more) p.0)
        (bind_of_ok _ _ (with_first x) _ ((others x).again xs (at + length (spell x)) more p.1)
        (ap (λ (n : ℕ). Ok (x ∷ xs, record { at = n; bytes = more })) offset))

-- that many records of the tables, each above the one before
abbrev Ascending : List Table → Option Cell → ℕ → List Change → Type 0
Ascending tables last zero [] = Unit {0}
Ascending tables last zero (c ∷ cs) = ⊥
Ascending tables last (suc n) [] = ⊥
Ascending tables last (suc n) (c ∷ cs) = IsNext tables last c × Ascending tables (Some (image_cell c)) n cs

to_ascending : (tables : List Table) (last : Option Cell) (n : ℕ) (cs : List Change) → AscendAfter last cs → AllByRecursion (IsRecord tables) cs → length cs ≡ n → Ascending tables last n cs
to_ascending tables last zero [] a r is = tt
to_ascending tables last zero (c ∷ cs) a r is = absurd (omega (arith, is))
to_ascending tables last (suc n) [] a r is = absurd (omega (arith, is))
to_ascending tables last (suc n) (c ∷ cs) a r is = ((a.0, r.0), to_ascending tables (Some (image_cell c)) n cs a.1 r.1 (omega (arith, is)))

of_ascending : (tables : List Table) (last : Option Cell) (n : ℕ) (cs : List Change) → Ascending tables last n cs → AscendAfter last cs × (AllByRecursion (IsRecord tables) cs × (length cs ≡ n))
of_ascending tables last zero [] h = (tt, (tt, refl))
of_ascending tables last zero (c ∷ cs) h = absurd h
of_ascending tables last (suc n) [] h = absurd h
of_ascending tables last (suc n) (c ∷ cs) h =
    let rest = of_ascending tables (Some (image_cell c)) n cs h.1 in
    ((h.0.0, rest.0), ((h.0.1, rest.1.0), omega (arith, rest.1.1)))

none_left : (tables : List Table) (last : Option Cell) (cs : List Change) → Ascending tables last zero cs → cs ≡ []
none_left tables last [] h = refl
none_left tables last (c ∷ cs) h = absurd h

ascending_codec : (tables : List Table) → AreFewTables tables → (n : ℕ) (last : Option Cell) → IsCodec (Ascending tables last n) (λ cs. flat_map change_bytes cs) (next_ascending tables last n)
unfolding next_ascending
ascending_codec tables few zero last = same _ _ _ _ _ (none_left tables last) (λ cs e. subst (Ascending tables last zero) (sym e) tt) (λ cs h. ap (λ (x : List Change). flat_map change_bytes x) (sym (none_left tables last cs h))) (ended [])
ascending_codec tables few (suc n) last = cons_codec (IsNext tables last) (λ c cs. Ascending tables (Some (image_cell c)) n cs) change_bytes (next_image tables last) (λ c. next_ascending tables (Some (image_cell c)) n)
    (image_codec tables few last) (λ c. ascending_codec tables few n (Some (image_cell c))) (Ascending tables last (suc n)) (λ c cs h. h) (λ c cs h. h) (λ h. h)

image_byte_codec : IsCodec IsByte one_byte image_byte
image_byte_codec = reported_again _ _ next_byte as_short_image byte_codec

image_number_codec : IsCodec (λ n. n < 65536) (to_le_bytes w16) image_number
image_number_codec = reported_again _ _ (next_uint w16) as_short_image (uint_codec w16 65536 width16)

-- the number of images, and they
abbrev counted_bytes : List Change → List ℕ
counted_bytes cs = to_le_bytes w16 (length cs) ++ flat_map change_bytes cs

counted_codec : (tables : List Table) → AreFewTables tables → IsCodec (AreTxnImagesOf tables) counted_bytes (counted_images tables)
unfolding counted_images
counted_codec tables few = same _ _ _ _ _
    (λ cs h. (h, omega (arith, h.0.0)))
    (λ cs h. h.0)
    (λ cs h. refl)
    (seq (λ cs. length cs) (λ n. n < 65536) (to_le_bytes w16) image_number (AreTxnImagesOf tables) (λ cs. flat_map change_bytes cs)
    (λ at n s. cond (ltb MAX_IMAGES n) (Err (image_fault_at TooMany at)) (next_ascending tables None n s))
    image_number_codec
    (λ at n lt. either _ _ (ltb MAX_IMAGES n) (λ s. Err (image_fault_at TooMany at)) (next_ascending tables None n)
    (λ out. never _ _ (λ s. image_fault_at TooMany at) (λ cs h. too_many n cs (ltb-true _ _ out) h.0.0.0 h.1))
    (λ inside. same _ _ _ _ (next_ascending tables None n)
    (λ cs h. to_ascending tables None n cs h.0.0.1 h.0.1 h.1)
    (λ cs h. let parts = of_ascending tables None n cs h in (((few_images n cs (ltb-false _ _ inside) parts.1.1, parts.0), parts.1.0), parts.1.1))
    (λ cs h. refl)
    (ascending_codec tables few n None))))
  where
    too_many : (n : ℕ) (cs : List Change) → MAX_IMAGES < n → length cs ≤ MAX_IMAGES → length cs ≡ n → ⊥
    too_many n cs out most is = omega (arith, out, most, is)

    few_images : (n : ℕ) (cs : List Change) → n ≤ MAX_IMAGES → length cs ≡ n → length cs ≤ MAX_IMAGES
    few_images n cs most is = omega (arith, most, is)

pub images_codec : (tables : List Table) → AreFewTables tables → IsCodec (AreTxnImagesOf tables) images_bytes (next_images tables)
unfolding next_images
images_codec tables few = same _ _ _ _ _
    (λ cs h. (h, omega arith))
    (λ cs h. h.0)
    (λ cs h. refl)
    (seq (λ (cs : List Change). 3) IsByte one_byte image_byte (AreTxnImagesOf tables) counted_bytes
    (λ at tag s. cond (eqb tag 3) (counted_images tables s) (Err (image_fault_at Tag at)))
    image_byte_codec
    (λ at tag lt. either _ _ (eqb tag 3) (counted_images tables) (λ s. Err (image_fault_at Tag at))
    (λ yes. same _ _ _ _ (counted_images tables) (λ cs h. h.0) (λ cs h. (h, sym (eqb-true _ _ yes))) (λ cs h. refl) (counted_codec tables few))
    (λ no. never _ _ (λ s. image_fault_at Tag at) (λ cs h. eqb-false _ _ no (sym h.1)))))
