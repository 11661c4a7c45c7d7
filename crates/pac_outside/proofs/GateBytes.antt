-- What the two steps that open a gate leave.
use Rattle.std.proofs.Common.{◌≡◌, ◌⊎◌, inl, inr, ℕ, ◌+◌, ◌≤◌, ◌<◌, List, [], ◌∷◌, ◌++◌, length, get_or, take, drop, Option, Some, None, sym, ap, ◌∙◌, subst, arith, length-append, length-take, append_assoc, take-append-drop}
use Rattle.std.proofs.lemmas.Bool.{cases_eq}
use Rattle.std.proofs.lemmas.List.{take_at, drop_at, drop_more, take-take, take-append-le}
use Rattle.pac_outside.specs.Disk.{DiskState, DiskHistory, IsImage, IsDurable, LeavesOnly, LeavesTorn, BothKnown, IfKnown, wrote, settled, spliced}
use Rattle.pac_outside.specs.GateByte.{IsShut, IsOpen, OneImage, ShutOrOpen, Opens}
use Rattle.pac_outside.proofs.Histories.{goes_on, weaken, both, both_and, both_then}
use Rattle.pac_outside.proofs.Images.{prefix_stays, length_stays, back_stays}

module _ (prefix piece : List ℕ) (offset : ℕ) (placed : offset ≡ length prefix) where
  abbrev Either : List ℕ → Type 0
  Either image = IsShut prefix image ⊎ IsOpen prefix piece image

  -- the piece after a gate
  abbrev staged : ℕ → List ℕ → List ℕ
  staged gate rest = prefix ++ (gate ∷ (piece ++ rest))

  past_gate : (gate : ℕ) → length (prefix ++ (gate ∷ [])) ≡ offset + 1
  past_gate gate = omega (arith, placed, length-append prefix (gate ∷ []))

  module _ (seen : List ℕ) (shut : IsShut prefix seen) where
    upto_gate : take (offset + 1) seen ≡ prefix ++ (shut.gate ∷ [])
    upto_gate = ap (take (offset + 1)) (shut.split ∙ sym (append_assoc prefix (shut.gate ∷ []) shut.rest)) ∙ take_at (prefix ++ (shut.gate ∷ [])) shut.rest (offset + 1) (past_gate shut.gate)

    gate_within : offset + 1 ≤ length seen
    gate_within = omega (arith, placed, ap length shut.split, length-append prefix (shut.gate ∷ shut.rest))

    -- the shut gate stands in each image of the first write
    piece_torn : (image : List ℕ) → IsImage (wrote (offset + 1) piece (settled seen)) image → IsShut prefix image
    piece_torn image is = record {
      gate = shut.gate;
      rest = drop (offset + 1) image;
      split = sym (take-append-drop (offset + 1) image) ∙ ap (λ (l : List ℕ). l ++ drop (offset + 1) image) (prefix_stays (offset + 1) piece seen image is gate_within ∙ upto_gate) ∙ append_assoc prefix (shut.gate ∷ []) (drop (offset + 1) image);
      shut = shut.shut;
    }

    abbrev after : List ℕ
    after = drop (offset + 1 + length piece) seen

    is_staged : spliced (offset + 1) piece seen ≡ staged shut.gate after
    is_staged = ap (λ (l : List ℕ). l ++ (piece ++ after)) upto_gate ∙ append_assoc prefix (shut.gate ∷ []) (piece ++ after)

  module _ (gate : ℕ) (rest : List ℕ) where
    staged_length : offset + 1 ≤ length (staged gate rest)
    staged_length = omega (arith, placed, length-append prefix (gate ∷ (piece ++ rest)))

    staged_prefix : take offset (staged gate rest) ≡ prefix
    staged_prefix = take_at prefix (gate ∷ (piece ++ rest)) offset (sym placed)

    staged_back : drop (offset + 1) (staged gate rest) ≡ piece ++ rest
    staged_back = ap (drop (offset + 1)) (sym (append_assoc prefix (gate ∷ []) (piece ++ rest))) ∙ drop_at (prefix ++ (gate ∷ [])) (piece ++ rest) (offset + 1) (past_gate gate)

    is_opened : spliced offset (1 ∷ []) (staged gate rest) ≡ staged 1 rest
    is_opened = ap (λ (l : List ℕ). l ++ (1 ∷ drop (offset + 1) (staged gate rest))) staged_prefix ∙ ap (λ (l : List ℕ). prefix ++ (1 ∷ l)) staged_back

    -- the piece stands whole in each image of the second write
    gate_torn : (image : List ℕ) → IsImage (wrote offset (1 ∷ []) (settled (staged gate rest))) image → Either image
    gate_torn image is =
        let old = staged gate rest in
        let long = length_stays offset (1 ∷ []) old image is staged_length in
        let torn = get_or image offset 0 in
        let back : drop offset image ≡ torn ∷ (piece ++ rest) = drop_more image offset 0 (omega (arith, long, staged_length)) ∙ ap (λ (l : List ℕ). torn ∷ l) (back_stays offset (1 ∷ []) old image is staged_length ∙ staged_back) in
        let whole : image ≡ staged torn rest = sym (take-append-drop offset image) ∙ ap (λ (l : List ℕ). l ++ drop offset image) (prefix_stays offset (1 ∷ []) old image is (omega (arith, staged_length)) ∙ staged_prefix) ∙ ap (λ (l : List ℕ). prefix ++ l) back in
        elim (cases_eq torn 1) [
          | inl is_open ↦ inr (record { rest = rest; split = whole ∙ ap (λ (g : ℕ). staged g rest) is_open })
          | inr not_open ↦ inl (record { gate = torn; rest = piece ++ rest; split = whole; shut = not_open })
        ]

  stage : (a b : DiskHistory) → LeavesTorn (offset + 1) piece a b → ShutOrOpen prefix piece a b
  stage a b run alone = weaken (IsImage (wrote (offset + 1) piece a.now)) Either a b (λ image is. inl (piece_torn a.now.seen alone.has image (subst (λ (s : DiskState). IsImage (wrote (offset + 1) piece s) image) alone.one is))) run

  -- what is there between the steps
  between : (a b : DiskHistory) (alone : OneImage (IsShut prefix) a.now) → IsDurable (offset + 1) piece a b → b.now ≡ settled (staged alone.has.gate (after a.now.seen alone.has))
  between a b alone durable = durable ∙ ap settled (is_staged a.now.seen alone.has)

  open_gate : (a b c : DiskHistory) → OneImage (IsShut prefix) a.now → IsDurable (offset + 1) piece a b → LeavesTorn offset (1 ∷ []) b c → LeavesOnly Either b c
  open_gate a b c alone durable = weaken (IsImage (wrote offset (1 ∷ []) b.now)) Either b c (λ image is. gate_torn alone.has.gate (after a.now.seen alone.has) image (subst (λ (state : DiskState). IsImage (wrote offset (1 ∷ []) state) image) (between a b alone durable) is))

  both_steps : (a b c : DiskHistory) → LeavesTorn (offset + 1) piece a b × IsDurable (offset + 1) piece a b → LeavesTorn offset (1 ∷ []) b c → ShutOrOpen prefix piece a c
  both_steps a b c first second alone = goes_on Either a b c (stage a b first.0 alone) (open_gate a b c alone first.1 second)

  opened : (a b c : DiskHistory) → IsDurable (offset + 1) piece a b → IsDurable offset (1 ∷ []) b c → Opens prefix piece a c
  opened a b c first second alone =
      let rest = after a.now.seen alone.has in
      let seen_between = ap (λ (state : DiskState). state.seen) (between a b alone first) in
      let is = second ∙ ap (λ (l : List ℕ). settled (spliced offset (1 ∷ []) l)) seen_between ∙ ap settled (is_opened alone.has.gate rest) in
      let seen_is = ap (λ (state : DiskState). state.seen) is in
      record { one = is ∙ ap settled (sym seen_is); has = record { rest = rest; split = seen_is } }

  pub first_step : (a b : Option DiskHistory) → BothKnown (LeavesTorn (offset + 1) piece) a b → BothKnown (ShutOrOpen prefix piece) a b
  first_step = both (LeavesTorn (offset + 1) piece) (ShutOrOpen prefix piece) stage

  pub any_moment : (a b c : Option DiskHistory) → BothKnown (LeavesTorn (offset + 1) piece) a b → BothKnown (IsDurable (offset + 1) piece) a b → BothKnown (LeavesTorn offset (1 ∷ [])) b c → BothKnown (ShutOrOpen prefix piece) a c
  any_moment a b c moments durable second = both_then (λ old new. LeavesTorn (offset + 1) piece old new × IsDurable (offset + 1) piece old new) (LeavesTorn offset (1 ∷ [])) (ShutOrOpen prefix piece) both_steps a b c (both_and (LeavesTorn (offset + 1) piece) (IsDurable (offset + 1) piece) a b moments durable) second

  pub opens : (a b c : Option DiskHistory) → BothKnown (IsDurable (offset + 1) piece) a b → BothKnown (IsDurable offset (1 ∷ [])) b c → BothKnown (Opens prefix piece) a c
  opens = both_then (IsDurable (offset + 1) piece) (IsDurable offset (1 ∷ [])) (Opens prefix piece) opened

-- a piece and then the byte before it are one piece
spliced-spliced : (offset byte : ℕ) (piece bytes : List ℕ) → offset < length bytes → spliced offset (byte ∷ []) (spliced (offset + 1) piece bytes) ≡ spliced offset (byte ∷ piece) bytes
spliced-spliced offset byte piece bytes within =
    let rest = drop (offset + 1 + length piece) bytes in
    let long : length (take (offset + 1) bytes) ≡ offset + 1 = omega (arith, length-take (offset + 1) bytes, within) in
    let prefix : take offset (take (offset + 1) bytes ++ (piece ++ rest)) ≡ take offset bytes = take-append-le offset (take (offset + 1) bytes) (piece ++ rest) (omega (arith, long)) ∙ take-take offset (offset + 1) bytes (omega arith) in
    let back : drop (offset + 1) (take (offset + 1) bytes ++ (piece ++ rest)) ≡ piece ++ rest = drop_at (take (offset + 1) bytes) (piece ++ rest) (offset + 1) long in
    let same : offset + 1 + length piece ≡ offset + length (byte ∷ piece) = omega arith in
    ap (λ (l : List ℕ). l ++ (byte ∷ drop (offset + 1) (take (offset + 1) bytes ++ (piece ++ rest)))) prefix ∙ ap (λ (l : List ℕ). take offset bytes ++ (byte ∷ l)) back ∙ ap (λ (n : ℕ). take offset bytes ++ (byte ∷ (piece ++ drop n bytes))) same

one_write : (offset : ℕ) (piece : List ℕ) (a b c : DiskHistory) → offset < length a.now.seen → IsDurable (offset + 1) piece a b → IsDurable offset (1 ∷ []) b c → IsDurable offset (1 ∷ piece) a c
one_write offset piece a b c within first second = second ∙ ap (λ (state : DiskState). settled (spliced offset (1 ∷ []) state.seen)) first ∙ ap settled (spliced-spliced offset 1 piece a.now.seen within)

pub opens_whole : (offset : ℕ) (piece : List ℕ) (a b c : Option DiskHistory) → IfKnown (λ old. offset < length old.now.seen) a → BothKnown (IsDurable (offset + 1) piece) a b → BothKnown (IsDurable offset (1 ∷ [])) b c → BothKnown (IsDurable offset (1 ∷ piece)) a c
opens_whole offset piece None None None within first second = tt
opens_whole offset piece None None (Some c) within first second = absurd second
opens_whole offset piece None (Some b) c within first second = absurd first
opens_whole offset piece (Some a) None c within first second = absurd first
opens_whole offset piece (Some a) (Some b) None within first second = absurd second
opens_whole offset piece (Some a) (Some b) (Some c) within first second = one_write offset piece a b c within first second
