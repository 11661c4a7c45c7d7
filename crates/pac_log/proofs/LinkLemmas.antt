-- What stands after an open gate is a codec.
use Rattle.std.proofs.Common.{◌≡◌, ◌∙◌, ℕ, ◌+◌, ◌<◌, ◌≤◌, ◌^◌, ◌||◌, Bool, true, false, cond, eqb, ltb, List, [], ◌∷◌, ◌++◌, length, Ok, Err, refl, sym, ap, ap₂, arith, append_assoc}
use Rattle.std.specs.List.{All, AllByRecursion}
use Rattle.std.specs.Int.{w32, to_le_bytes}
use Rattle.std.proofs.lemmas.Bool.{eqb-true, eqb-false, ltb-true, ltb-false}
use Rattle.std.proofs.lemmas.List.{length-append}
use Rattle.std.proofs.lemmas.List.Elements.{All-nil, All-cons, All-head, All-tail}
use Rattle.pac_value.specs.Expressions.{◌>>=◌}
use Rattle.pac_ops.specs.declared.limits.TheConstants.{MAX_TXNS}
use Rattle.pac_ops.specs.declared.transaction.Txn.{Txn}
use Rattle.pac_ops.specs.Sizes.{HasOneTo}
use Rattle.pac_types.specs.Typing.{CatalogueState}
use Rattle.pac_bytes.specs.Reading.{reported_as, next_byte, next_uint, times, within}
use Rattle.pac_bytes.proofs.Codec.{IsCodec, ended, seq, either, never, same, reported_again}
use Rattle.pac_bytes.proofs.Filling.{within_codec}
use Rattle.pac_bytes.proofs.Lists.{times_codec}
use Rattle.pac_bytes.proofs.Numbers.{one_byte, byte_codec, uint_codec, width32}
use Rattle.pac_entry.specs.Entries.{txn_bytes, IsEntry}
use Rattle.pac_entry.specs.EntryReading.{next_entry}
use Rattle.pac_log.specs.declared.limits.TheConstants.{MAX_ENTRIES_LEN}
use Rattle.pac_log.specs.declared.link.Link.{Link}
use Rattle.pac_log.specs.Bodies.{entries_bytes, link_bytes, IsLogLink}
use Rattle.pac_log.specs.BodyReading.{link_number, next_entries, entries_and_gate, counted_link, next_link}
use Rattle.pac_log.specs.Damages.{short_from, out_of_range, as_link_fault, of_entry}

pub all_of : {X : Type 0} (P : X → Type 0) (xs : List X) → AllByRecursion P xs → All P xs
all_of P [] h = All-nil P
all_of P (x ∷ xs) h = All-cons P x xs h.0 (all_of P xs h.1)

pub each_of : {X : Type 0} (P : X → Type 0) (xs : List X) → All P xs → AllByRecursion P xs
each_of P [] h = tt
each_of P (x ∷ xs) h = (All-head P x xs h, each_of P xs (All-tail P x xs h))

pub number_codec : IsCodec (λ n. n < 2 ^ 32) (to_le_bytes w32) link_number
number_codec = reported_again _ _ (next_uint w32) as_link_fault (uint_codec w32 (2 ^ 32) width32)

-- any number is read as a gate, and what is read as one is a byte where only bytes are there
abbrev IsGate : ℕ → Type 0
IsGate gate = Unit {0}

gate_codec : IsCodec IsGate one_byte (λ s. reported_as as_link_fault (next_byte s))
gate_codec = record {
  again = λ gate at more fits. refl;
  found = λ s gate t are e. let is = (reported_again _ _ next_byte as_link_fault byte_codec).found s gate t are e in record { bytes = is.bytes; offset = is.offset; form = tt };
}

link_is : (txns : List Txn) (gate : ℕ) (link : Link) → link.txns ≡ txns → link.gate ≡ gate → link ≡ record { txns = txns; gate = gate }
link_is txns gate link t g = ap₂ (λ (ts : List Txn) (n : ℕ). the_link ts n) t g
  where
    the_link : List Txn → ℕ → Link
    the_link ts n = record { txns = ts; gate = n }

module _ (catalogue : CatalogueState) (entry_codec : IsCodec (IsEntry catalogue) txn_bytes (next_entry catalogue)) where
  -- that many entries of that many bytes
  abbrev AreEntries : ℕ → ℕ → List Txn → Type 0
  AreEntries count len txns = (AllByRecursion (IsEntry catalogue) txns × (length txns ≡ count)) × (length (entries_bytes txns) ≡ len)

  pub entries_codec : (count len : ℕ) → IsCodec (AreEntries count len) entries_bytes (next_entries catalogue count len)
  entries_codec count len = within_codec (λ txns. AllByRecursion (IsEntry catalogue) txns × (length txns ≡ count)) entries_bytes (λ t. reported_as of_entry (times (next_entry catalogue) count t)) short_from out_of_range len
      (reported_again _ _ (times (next_entry catalogue) count) of_entry (times_codec (IsEntry catalogue) txn_bytes (next_entry catalogue) entry_codec count))

  -- the same in a link, and its gate
  abbrev HasEntries : ℕ → ℕ → Link → Type 0
  HasEntries count len link = IsGate link.gate × AreEntries count len link.txns

  abbrev entries_gate : Link → List ℕ
  entries_gate link = entries_bytes link.txns ++ (link.gate ∷ [])

  entries_and_gate_codec : (count len : ℕ) → IsCodec (HasEntries count len) entries_gate (entries_and_gate catalogue count len)
  entries_and_gate_codec count len =
      seq (λ link. link.txns) (AreEntries count len) entries_bytes (next_entries catalogue count len) (λ link. IsGate link.gate) (λ link. link.gate ∷ [])
      (λ at txns s. reported_as as_link_fault (next_byte s) >>= λ gate. Ok (record { txns = txns; gate = gate.0 }, gate.1))
      (entries_codec count len)
      (λ at txns are. same _ _ _ _ _
      (λ link h. (h.1, h.0))
      (λ link h. (h.1, h.0))
      (λ link h. refl)
      (seq (λ link. link.gate) IsGate one_byte (λ s. reported_as as_link_fault (next_byte s)) (λ link. link.txns ≡ txns) (λ link. []) (λ at2 gate s. Ok (record { txns = txns; gate = gate }, s))
      gate_codec
      (λ at2 gate lt. same _ _ _ _ _
      (λ link h. link_is txns gate link h.0 h.1)
      (λ link e. (ap (λ (l : Link). l.txns) e, ap (λ (l : Link). l.gate) e))
      (λ link h. refl)
      (ended (record { txns = txns; gate = gate })))))

  -- that many entries, which are not too long, and a gate
  abbrev IsCounted : ℕ → Link → Type 0
  IsCounted count link = (IsGate link.gate × (AllByRecursion (IsEntry catalogue) link.txns × (length link.txns ≡ count))) × (length (entries_bytes link.txns) ≤ MAX_ENTRIES_LEN)

  abbrev counted_bytes : Link → List ℕ
  counted_bytes link = to_le_bytes w32 (length (entries_bytes link.txns)) ++ entries_gate link

  counted_codec : (count : ℕ) → IsCodec (IsCounted count) counted_bytes (counted_link catalogue count)
  unfolding counted_link
  counted_codec count = same _ _ _ _ _
      (λ link h. (h, omega (arith, h.1)))
      (λ link h. h.0)
      (λ link h. refl)
      (seq (λ link. length (entries_bytes link.txns)) (λ n. n < 2 ^ 32) (to_le_bytes w32) link_number (IsCounted count) entries_gate
      (λ at len s. cond (ltb MAX_ENTRIES_LEN len) (Err (out_of_range at)) (within short_from out_of_range (len + 1) (entries_and_gate catalogue count len) s))
      number_codec
      (λ at len lt. either _ _ (ltb MAX_ENTRIES_LEN len) (λ s. Err (out_of_range at)) (λ s. within short_from out_of_range (len + 1) (entries_and_gate catalogue count len) s)
      (λ large. never _ _ (λ s. out_of_range at) (λ link h. let l : MAX_ENTRIES_LEN < len = ltb-true _ _ large in omega (arith, h.0.1, h.1)))
      (λ small. same _ _ _ _ _
      (λ link h. ((h.0.0.0, (h.0.0.1, h.1)), omega (arith, length-append (entries_bytes link.txns) (link.gate ∷ []), h.1)))
      (λ link h. let l : len ≤ MAX_ENTRIES_LEN = ltb-false _ _ small in (((h.0.0, h.0.1.0), omega (arith, h.0.1.1)), h.0.1.1))
      (λ link h. refl)
      (within_codec (HasEntries count len) entries_gate (entries_and_gate catalogue count len) short_from out_of_range (len + 1) (entries_and_gate_codec count len)))))

  or_false : (a b : Bool) → (a || b) ≡ false → (a ≡ false) × (b ≡ false)
  or_false true b h = absurd cc
  or_false false b h = (refl, h)

  in_range : (n : ℕ) → (eqb n 0 || ltb MAX_TXNS n) ≡ false → (1 ≤ n) × (n ≤ MAX_TXNS)
  in_range n h =
      let two = or_false (eqb n 0) (ltb MAX_TXNS n) h in
      let not_zero : n ≡ 0 → ⊥ = eqb-false _ _ two.0 in
      let most : n ≤ MAX_TXNS = ltb-false _ _ two.1 in
      (omega arith, most)

  out_of : (n : ℕ) → 1 ≤ n → n ≤ MAX_TXNS → (eqb n 0 || ltb MAX_TXNS n) ≡ true → ⊥
  out_of n low high h = by (eqb n 0) (ltb MAX_TXNS n) refl refl h
    where
      by : (a b : Bool) → eqb n 0 ≡ a → ltb MAX_TXNS n ≡ b → (a || b) ≡ true → ⊥
      by true b zero_is large e = let z : n ≡ 0 = eqb-true _ _ zero_is in absurd (omega arith)
      by false true zero_is large e = let l : MAX_TXNS < n = ltb-true _ _ large in absurd (omega arith)
      by false false zero_is large e = absurd cc

  link_words : (link : Link) → to_le_bytes w32 (length link.txns) ++ counted_bytes link ≡ link_bytes link
  link_words link =
      let count = to_le_bytes w32 (length link.txns) in
      let len = to_le_bytes w32 (length (entries_bytes link.txns)) in
      ap (λ (x : List ℕ). count ++ x) (sym (append_assoc len (entries_bytes link.txns) (link.gate ∷ []))) ∙ sym (append_assoc count (len ++ entries_bytes link.txns) (link.gate ∷ []))

  -- the number of transactions is in its range
  abbrev IsCountedLink : Link → Type 0
  IsCountedLink link = IsCounted (length link.txns) link × HasOneTo MAX_TXNS link.txns

  pub link_codec : IsCodec (IsLogLink catalogue) link_bytes (next_link catalogue)
  unfolding next_link
  link_codec = same _ _ _ _ _
      (λ link h. ((((tt, (each_of (IsEntry catalogue) link.txns h.each, refl)), h.short), h.count), omega (arith, h.count.1)))
      (λ link h. record { count = h.0.1; short = h.0.0.1; each = all_of (IsEntry catalogue) link.txns h.0.0.0.1.0 })
      (λ link h. link_words link)
      (seq (λ link. length link.txns) (λ n. n < 2 ^ 32) (to_le_bytes w32) link_number IsCountedLink counted_bytes
      (λ at n s. cond (eqb n 0 || ltb MAX_TXNS n) (Err (out_of_range at)) (counted_link catalogue n s))
      number_codec
      (λ at n lt. either _ _ (eqb n 0 || ltb MAX_TXNS n) (λ s. Err (out_of_range at)) (counted_link catalogue n)
      (λ out. never _ _ (λ s. out_of_range at) (λ link h. out_of n (omega (arith, h.0.1.0, h.1)) (omega (arith, h.0.1.1, h.1)) out))
      (λ inside. same _ _ _ _ (counted_link catalogue n)
      (λ link h. ((h.0.0.0.0, (h.0.0.0.1.0, h.1)), h.0.0.1))
      (λ link h. let range = in_range n inside in ((((h.0.0, (h.0.1.0, refl)), h.1), (omega (arith, h.0.1.1, range.0), omega (arith, h.0.1.1, range.1))), h.0.1.1))
      (λ link h. refl)
      (counted_codec n))))
