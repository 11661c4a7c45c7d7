-- Bytes and numbers are codecs.
use Rattle.std.proofs.Common.{◌≡◌, ◌∙◌, ℕ, zero, suc, ◌+◌, ◌<◌, ◌≤◌, ◌^◌, false, ltb, List, [], ◌∷◌, ◌++◌, length, take, Ok, refl, sym, ap, subst, arith}
use Rattle.std.specs.Int.{Width, w16, w32, w64, byte_len, byte_at, bytes_low_first, from_le_bytes, to_le_bytes}
use Rattle.std.proofs.lemmas.Bool.{ltb-false, le-ltb}
use Rattle.std.proofs.lemmas.List.{take_at, drop_at, take-append-drop, length-append, length-take, append-nil}
use Rattle.std.proofs.lemmas.Nat.{le_bytes_2, le_bytes_4, le_bytes_8, from_le_bytes-to_le_bytes_2, from_le_bytes-to_le_bytes_4, from_le_bytes-to_le_bytes_8}
use Rattle.pac_bytes.specs.declared.fault.Short.{Short}
use Rattle.pac_bytes.specs.Reading.{Rest, advanced, short_at, leading_byte, next_byte, next_bytes, next_uint}
use Rattle.pac_bytes.specs.Readers.{IsAtStart}
use Rattle.pac_bytes.proofs.Results.{ok_same, false_ok}
use Rattle.pac_bytes.proofs.Bytes.{IsBytes, AreBytes, IsBytes-nil, IsBytes-cons, IsBytes-take}
use Rattle.pac_bytes.proofs.Codec.{IsCodec, ended, seq, same}

abbrev pub IsByte : ℕ → Type 0
IsByte b = b < 256

abbrev pub one_byte : ℕ → List ℕ
one_byte b = b ∷ []

byte_found : (at : ℕ) (bytes : List ℕ) (x : ℕ) (t : Rest) → IsBytes bytes → leading_byte at bytes ≡ Ok (x, t) → IsAtStart IsByte one_byte (record { at = at; bytes = bytes }) x t
byte_found at [] x t are e = absurd cc
byte_found at (b ∷ bs) x t are e =
    let both : (b, record { at = at + 1; bytes = bs }) ≡ (x, t) = ok_same {F = Short} _ _ e in
    subst (λ (p : ℕ × Rest). IsAtStart IsByte one_byte (record { at = at; bytes = b ∷ bs }) p.0 p.1) both (record { bytes = refl; offset = refl; form = are 0 })

-- a byte
pub byte_codec : IsCodec IsByte one_byte next_byte
byte_codec = record {
  again = λ x at more fits. refl;
  found = λ s x t are e. byte_found s.at s.bytes x t are e;
}

-- n bytes
pub bytes_codec : {F : Type 0} (fault : Rest → F) (n : ℕ) → IsCodec (AreBytes n) (λ bs. bs) (λ s. next_bytes (fault s) n s)
bytes_codec {F} fault n = record {
  again = λ x at more fits.
      let long : ltb (length (x ++ more)) n ≡ false = le-ltb _ _ (omega (arith, length-append x more, fits.0)) in
      rw (long, take_at x more n fits.0, drop_at x more n fits.0, fits.0) refl;
  found = λ s x t are e.
      let test = false_ok (ltb (length s.bytes) n) (fault s) (Ok (take n s.bytes, advanced n s)) (x, t) e in
      let long : n ≤ length s.bytes = ltb-false _ _ test.0 in
      let len : length (take n s.bytes) ≡ n = omega (arith, length-take n s.bytes) in
      let both : (take n s.bytes, advanced n s) ≡ (x, t) = ok_same {F = F} (take n s.bytes, advanced n s) (x, t) test.1 in
      subst (λ (p : List ℕ × Rest). IsAtStart (AreBytes n) (λ bs. bs) s p.0 p.1) both
      (record { bytes = sym (take-append-drop n s.bytes); offset = ap (λ (k : ℕ). s.at + k) (sym len); form = (len, IsBytes-take n s.bytes are) });
}

byte_small : (i n : ℕ) → byte_at i n < 256
byte_small zero n = omega arith
byte_small (suc i) n = omega arith

low_bytes : (i k n : ℕ) → IsBytes (bytes_low_first i k n)
low_bytes i zero n = IsBytes-nil
low_bytes i (suc k) n = IsBytes-cons (byte_at i n) (bytes_low_first (suc i) k n) (byte_small i n) (low_bytes (suc i) k n)

-- a width whose numbers are those below limit
pub record IsWidth (w : Width) (limit : ℕ) : Type 0 where
  pub len : (n : ℕ) → length (to_le_bytes w n) ≡ byte_len w
  pub number_of_bytes : (n : ℕ) → n < limit → from_le_bytes w (to_le_bytes w n) ≡ n
  pub bytes_of_number : (bytes : List ℕ) → AreBytes (byte_len w) bytes → to_le_bytes w (from_le_bytes w bytes) ≡ bytes
  pub below : (bytes : List ℕ) → AreBytes (byte_len w) bytes → from_le_bytes w bytes < limit

pub width16 : IsWidth w16 (2 ^ 16)
width16 = record {
  len = λ n. refl;
  number_of_bytes = λ n lt. from_le_bytes-to_le_bytes_2 n lt;
  bytes_of_number = λ bytes are. le_bytes_2 bytes _ are.0 are.1 refl;
  below = λ bytes are. omega (arith, are.1 0, are.1 1);
}

pub width32 : IsWidth w32 (2 ^ 32)
width32 = record {
  len = λ n. refl;
  number_of_bytes = λ n lt. from_le_bytes-to_le_bytes_4 n lt;
  bytes_of_number = λ bytes are. le_bytes_4 bytes _ are.0 are.1 refl;
  below = λ bytes are. omega (arith, are.1 0, are.1 1, are.1 2, are.1 3);
}

pub width64 : IsWidth w64 (2 ^ 64)
width64 = record {
  len = λ n. refl;
  number_of_bytes = λ n lt. from_le_bytes-to_le_bytes_8 n lt;
  bytes_of_number = λ bytes are. le_bytes_8 bytes _ are.0 are.1 refl;
  below = λ bytes are. omega (arith, are.1 0, are.1 1, are.1 2, are.1 3, are.1 4, are.1 5, are.1 6, are.1 7);
}

-- a number of a width, the lowest byte first
pub uint_codec : (w : Width) (limit : ℕ) → IsWidth w limit → IsCodec (λ n. n < limit) (to_le_bytes w) (next_uint w)
uint_codec w limit width =
    same _ _ _ _ (next_uint w)
    (λ n lt. (lt, (width.len n, low_bytes 0 (byte_len w) n)))
    (λ n fits. fits.0)
    (λ n lt. append-nil (to_le_bytes w n))
    (seq {F = Short} (to_le_bytes w) (AreBytes (byte_len w)) (λ bs. bs) (λ s. next_bytes (short_at s.at) (byte_len w) s) (λ n. n < limit) (λ n. []) (λ at bs s. Ok (from_le_bytes w bs, s))
    (bytes_codec (λ s. short_at s.at) (byte_len w))
    (λ at bs are. same _ _ _ _ _
    (λ n h. sym (width.number_of_bytes n h.0) ∙ ap (from_le_bytes w) h.1)
    (λ n e. (rw e (width.below bs are), ap (to_le_bytes w) e ∙ width.bytes_of_number bs are))
    (λ n h. refl)
    (ended (from_le_bytes w bs))))
