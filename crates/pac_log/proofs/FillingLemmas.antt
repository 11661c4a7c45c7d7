-- The steps by which what stands after an open gate is read.
use Rattle.std.proofs.Common.{◌≡◌, ◌∙◌, ℕ, ◌+◌, ◌<◌, ◌≤◌, Bool, true, false, eqb, ltb, List, length, take, drop, Result, Ok, Err, IfOk, refl, sym, ap, subst, arith}
use Rattle.std.proofs.lemmas.Bool.{le-ltb, eq-eqb, eqb-true}
use Rattle.std.proofs.lemmas.List.{length-take, length-drop, drop-take, drop-drop}
use Rattle.pac_base.specs.declared.refusal.Refusal.{Refusal}
use Rattle.pac_base.specs.declared.refusal.Refusal.TheVariants.{Fault, NoMemory}
use Rattle.pac_base.specs.Refusals.{Fails}
use Rattle.pac_value.specs.Expressions.{◌>>=◌}
use Rattle.pac_ops.specs.declared.transaction.Txn.{Txn}
use Rattle.pac_types.specs.Typing.{CatalogueState}
use Rattle.pac_bytes.specs.Reading.{Rest, from, reported_as, times, all_read, within}
use Rattle.pac_bytes.specs.Readers.{AnswersUnlessMemory}
use Rattle.pac_entry.specs.declared.fault.EntryFault.{EntryFault}
use Rattle.pac_entry.specs.EntryReading.{next_entry}
use Rattle.pac_log.specs.declared.damage.LinkFault.{LinkFault}
use Rattle.pac_log.specs.declared.limits.TheConstants.{MAX_ENTRIES_LEN}
use Rattle.pac_log.specs.declared.link.Link.{Link}
use Rattle.pac_log.specs.BodyReading.{link_number, next_entries, entries_and_gate, counted_link}
use Rattle.pac_log.specs.Damages.{short_from, out_of_range, of_entry}

-- ---- what fills n bytes

module _ {A F : Type 0} (short left : ℕ → F) (read : Rest → Result (A × Rest) F) (bytes : List ℕ) (at n : ℕ) where
  -- it is read from the bytes that end with it
  pub within_from : at + n ≤ length bytes → within short left n read (from bytes at) ≡ (read (from (take (at + n) bytes) at) >>= all_read left (from bytes (at + n)))
  within_from long =
      let there : ltb (length (drop at bytes)) n ≡ false = le-ltb _ _ (omega (arith, length-drop at bytes)) in
      rw (there, ← drop-take at n bytes, drop-drop n at bytes) refl

  -- no byte is left after it
  pub within_filled : (x : A) (place : ℕ) → at + n ≤ length bytes → at + n ≤ place → read (from (take (at + n) bytes) at) ≡ Ok (x, from (take (at + n) bytes) place)
      → within short left n read (from bytes at) ≡ Ok (x, from bytes (at + n))
  within_filled x place long filled is =
      let none : eqb (length (drop place (take (at + n) bytes))) 0 ≡ true = eq-eqb _ _ (omega (arith, length-drop place (take (at + n) bytes), length-take (at + n) bytes)) in
      within_from long ∙ (rw (is, none) refl)

  -- the first byte that is left after it
  pub within_left : (x : A) (place : ℕ) → at + n ≤ length bytes → place < at + n → read (from (take (at + n) bytes) at) ≡ Ok (x, from (take (at + n) bytes) place)
      → within short left n read (from bytes at) ≡ Err (left place)
  within_left x place long less is = within_from long ∙ (rw is (by (eqb (length (drop place (take (at + n) bytes))) 0) refl))
    where
      by : (b : Bool) → eqb (length (drop place (take (at + n) bytes))) 0 ≡ b → all_read left (from bytes (at + n)) (x, from (take (at + n) bytes) place) ≡ Err (left place)
      by true e = let none : length (drop place (take (at + n) bytes)) ≡ 0 = eqb-true _ _ e in absurd (omega (arith, none, length-drop place (take (at + n) bytes), length-take (at + n) bytes))
      by false e = rw e refl

  -- its own fault
  pub within_fails : (refusal : Refusal F) → at + n ≤ length bytes → Fails refusal (read (from (take (at + n) bytes) at)) → Fails refusal (within short left n read (from bytes at))
  within_fails NoMemory long is = tt
  within_fails (Fault fault) long is = within_from long ∙ (rw is refl)

-- ---- the entries after their length

module _ (catalogue : CatalogueState) (count at len first : ℕ) (bytes : List ℕ) (number : link_number (from bytes at) ≡ Ok (len, from bytes first)) (few : len ≤ MAX_ENTRIES_LEN) where
  counted_so : counted_link catalogue count (from bytes at) ≡ within short_from out_of_range (len + 1) (entries_and_gate catalogue count len) (from bytes first)
  unfolding counted_link
  counted_so =
      let small : ltb MAX_ENTRIES_LEN len ≡ false = le-ltb _ _ few in
      rw (number, small) refl

  pub counted_ok : (link : Link) (end : ℕ) → first + (len + 1) ≤ length bytes → end ≡ first + (len + 1) → entries_and_gate catalogue count len (from (take (first + (len + 1)) bytes) first) ≡ Ok (link, from (take (first + (len + 1)) bytes) end)
      → counted_link catalogue count (from bytes at) ≡ Ok (link, from bytes end)
  counted_ok link end long is_end is =
      counted_so ∙ within_filled short_from out_of_range (entries_and_gate catalogue count len) bytes first (len + 1) link end long (omega (arith, is_end)) is
      ∙ ap (λ (n : ℕ). Ok (link, from bytes n)) (sym is_end)

  pub counted_fails : (refusal : Refusal LinkFault) → first + (len + 1) ≤ length bytes → Fails refusal (entries_and_gate catalogue count len (from (take (first + (len + 1)) bytes) first)) → Fails refusal (counted_link catalogue count (from bytes at))
  counted_fails refusal long is = subst (λ r. Fails refusal r) (sym counted_so) (within_fails short_from out_of_range (entries_and_gate catalogue count len) bytes first (len + 1) refusal long is)

  -- the same by what a reader of the bytes up to the gate answers
  abbrev AnswersOn : Result (Link × ℕ) (Refusal LinkFault) → ℕ → Type 0
  AnswersOn result end = IfOk result (λ found. found.1 ≡ end) × AnswersUnlessMemory (take end bytes) result (entries_and_gate catalogue count len (from (take end bytes) first))

  answers_on : (result : Result (Link × ℕ) (Refusal LinkFault)) → first + (len + 1) ≤ length bytes → AnswersOn result (first + (len + 1)) → AnswersUnlessMemory bytes result (counted_link catalogue count (from bytes at))
  answers_on (Ok found) long h = counted_ok found.0 found.1 long h.0 h.1
  answers_on (Err refusal) long h = counted_fails refusal long h.1

  pub counted_answers : (result : Result (Link × ℕ) (Refusal LinkFault)) → first + len + 1 ≤ length bytes → IfOk result (λ found. found.1 ≡ first + len + 1)
      → AnswersUnlessMemory (take (first + len + 1) bytes) result (entries_and_gate catalogue count len (from (take (first + len + 1) bytes) first))
      → AnswersUnlessMemory bytes result (counted_link catalogue count (from bytes at))
  counted_answers result long is_end is =
      let sums : first + len + 1 ≡ first + (len + 1) = omega arith in
      answers_on result (omega (arith, long)) (subst (λ (n : ℕ). AnswersOn result n) sums (is_end, is))

-- ---- the entries

module _ (catalogue : CatalogueState) (count len at : ℕ) (bytes : List ℕ) (long : at + len ≤ length bytes) where
  pub entries_there : (txns : List Txn) (place : ℕ) → at + len ≤ place → times (next_entry catalogue) count (from (take (at + len) bytes) at) ≡ Ok (txns, from (take (at + len) bytes) place)
      → next_entries catalogue count len (from bytes at) ≡ Ok (txns, from bytes (at + len))
  entries_there txns place filled is = within_filled short_from out_of_range (λ t. reported_as of_entry (times (next_entry catalogue) count t)) bytes at len txns place long filled (rw is refl)

  pub entries_left : (txns : List Txn) (place : ℕ) → place < at + len → times (next_entry catalogue) count (from (take (at + len) bytes) at) ≡ Ok (txns, from (take (at + len) bytes) place)
      → next_entries catalogue count len (from bytes at) ≡ Err (out_of_range place)
  entries_left txns place less is = within_left short_from out_of_range (λ t. reported_as of_entry (times (next_entry catalogue) count t)) bytes at len txns place long less (rw is refl)

  pub entries_fail : (refusal : Refusal EntryFault) (fault : EntryFault) → refusal ≡ Fault fault → Fails refusal (times (next_entry catalogue) count (from (take (at + len) bytes) at)) → next_entries catalogue count len (from bytes at) ≡ Err (of_entry fault)
  entries_fail refusal fault e is =
      let fails : times (next_entry catalogue) count (from (take (at + len) bytes) at) ≡ Err fault = subst (λ (r : Refusal EntryFault). Fails r (times (next_entry catalogue) count (from (take (at + len) bytes) at))) e is in
      within_fails short_from out_of_range (λ t. reported_as of_entry (times (next_entry catalogue) count t)) bytes at len (Fault (of_entry fault)) long (rw fails refl)
