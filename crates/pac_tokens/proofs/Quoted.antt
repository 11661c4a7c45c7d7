-- Texts between quotes: where they close, and what they are without their escapes.
use Rattle.std.proofs.Common.{◌≡◌, ◌<◌, ◌+◌, get_or, ℕ, suc, Bool, true, false, List, [], ◌∷◌, ◌++◌, length, take, drop, Option, Some, None, refl, sym, ap, ◌∙◌, append_assoc, nat_eq, if◌then◌else◌, not, ◌||◌, ◌&&◌}
use Rattle.std.specs.Cmp.{first_so, second_so}
use Rattle.std.specs.List.{list_all, list_any}
use Rattle.std.specs.Option.{option_map}
use Rattle.std.proofs.lemmas.Bool.{eqb-true}
use Rattle.std.proofs.lemmas.List.{drop_more}
use Rattle.std.proofs.Math.Seq.{take-append_seam}
use Rattle.pac_value.specs.Texts.{is_printable}
use Rattle.pac_value.specs.Literals.{escaped, escaped_byte, quoted}
use Rattle.pac_tokens.specs.Lexing.{closing_in, unescaped}

abbrev some : ℕ → Option ℕ
some n = Some n

abbrev none : Option ℕ
none = None

some_is : (m n : ℕ) → some m ≡ some n → m ≡ n
some_is m n e = cc

-- one offset further
further : (o : Option ℕ) (n : ℕ) → option_map suc o ≡ some n → (m : ℕ) × (o ≡ some m) × (n ≡ suc m)
further None n e = absurd cc
further (Some m) n e = (m, refl, sym (some_is (suc m) n e))

-- ---- what is escaped closes after it

closes_byte : (b : ℕ) (x rest : List ℕ) (q e p : Bool) → nat_eq b 34 ≡ q → nat_eq b 92 ≡ e → is_printable b ≡ p → p ≡ true
    → closing_in false rest ≡ some (length x) → closing_in false ((if q || e then 92 ∷ b ∷ [] else b ∷ []) ++ rest) ≡ some (length ((if q || e then 92 ∷ b ∷ [] else b ∷ []) ++ x))
closes_byte b x rest true e p is_q is_e is_p print h = rw (is_q, h) refl
closes_byte b x rest false true p is_q is_e is_p print h = rw (is_q, is_e, h) refl
closes_byte b x rest false false true is_q is_e is_p print h = rw (is_q, is_e, is_p, h) refl
closes_byte b x rest false false false is_q is_e is_p print h = absurd cc

pub closes : (x after : List ℕ) → list_all is_printable x ≡ true → closing_in false (escaped x ++ (34 ∷ after)) ≡ some (length (escaped x))
closes [] after all = refl
closes (b ∷ x) after all =
    ap (closing_in false) (append_assoc (escaped_byte b) (escaped x) (34 ∷ after))
    ∙ closes_byte b (escaped x) (escaped x ++ (34 ∷ after)) (nat_eq b 34) (nat_eq b 92) (is_printable b) refl refl refl (first_so (is_printable b) (list_all is_printable x) all) (closes x after (second_so (is_printable b) (list_all is_printable x) all))

-- ---- what is escaped is the text without its escapes

unescape_byte : (b : ℕ) (x rest : List ℕ) (q e : Bool) → nat_eq b 34 ≡ q → nat_eq b 92 ≡ e → unescaped false rest ≡ x → unescaped false ((if q || e then 92 ∷ b ∷ [] else b ∷ []) ++ rest) ≡ b ∷ x
unescape_byte b x rest true e is_q is_e h = ap (λ y. b ∷ y) h
unescape_byte b x rest false true is_q is_e h = ap (λ y. b ∷ y) h
unescape_byte b x rest false false is_q is_e h = rw is_e (ap (λ y. b ∷ y) h)

pub unescapes : (x : List ℕ) → unescaped false (escaped x) ≡ x
unescapes [] = refl
unescapes (b ∷ x) = unescape_byte b x (escaped x) (nat_eq b 34) (nat_eq b 92) refl refl (unescapes x)

-- ---- what closes is escaped

-- these bytes close at n: that many of them are a text with its escapes, and the closing quote stands after
pub record Closed (bytes : List ℕ) (n : ℕ) : Type 0 where
  pub rest : List ℕ
  pub parts : bytes ≡ escaped (unescaped false (take n bytes)) ++ (34 ∷ rest)
  pub printable : list_all is_printable (unescaped false (take n bytes)) ≡ true
  pub counted : length (escaped (unescaped false (take n bytes))) ≡ n

-- a byte that needs an escape is printable
quote_printable : (b : ℕ) (q e : Bool) → nat_eq b 34 ≡ q → nat_eq b 92 ≡ e → (q || e) ≡ true → is_printable b ≡ true
quote_printable b true e is_q is_e h = rw (eqb-true b 34 is_q) refl
quote_printable b false true is_q is_e h = rw (eqb-true b 92 is_e) refl
quote_printable b false false is_q is_e h = absurd cc

closed_escape : (c : ℕ) (bs : List ℕ) (m : ℕ) (t : Bool) → (nat_eq c 34 || nat_eq c 92) ≡ t → t ≡ true → Closed bs m → Closed (92 ∷ c ∷ bs) (suc (suc m))
closed_escape c bs m false is h k = absurd cc
closed_escape c bs m true is h k = record {
  rest = k.rest;
  parts = rw is (ap (λ y. 92 ∷ c ∷ y) k.parts);
  printable = rw (quote_printable c (nat_eq c 34) (nat_eq c 92) refl refl is) k.printable;
  counted = rw is (ap (λ n. suc (suc n)) k.counted);
}

closed_plain : (b : ℕ) (bs : List ℕ) (m : ℕ) → nat_eq b 34 ≡ false → nat_eq b 92 ≡ false → is_printable b ≡ true → Closed bs m → Closed (b ∷ bs) (suc m)
closed_plain b bs m q e p k = record {
  rest = k.rest;
  parts = rw (e, q, e) (ap (λ y. b ∷ y) k.parts);
  printable = rw (e, p) k.printable;
  counted = rw (e, q, e) (ap suc k.counted);
}

pub closed : (bytes : List ℕ) (n : ℕ) → closing_in false bytes ≡ some n → Closed bytes n
closed [] n h = absurd cc
closed (b ∷ []) n h = one (nat_eq b 34) (nat_eq b 92) (is_printable b) refl h
  where
    one : (q e p : Bool) → nat_eq b 34 ≡ q → (if q then Some 0 else (if e then None else (if p then None else None))) ≡ some n → Closed (b ∷ []) n
    one true e p is h = let zero_is : 0 ≡ n = some_is 0 n h in rw (← zero_is) (record { rest = []; parts = rw (eqb-true b 34 is) refl; printable = refl; counted = refl })
    one false true p is h = absurd cc
    one false false true is h = absurd cc
    one false false false is h = absurd cc
closed (b ∷ c ∷ bs) n h = step (nat_eq b 34) (nat_eq b 92) (is_printable b) (nat_eq c 34 || nat_eq c 92) refl refl refl refl (closed bs) (closed (c ∷ bs)) h
  where
    step : (q e p t : Bool) → nat_eq b 34 ≡ q → nat_eq b 92 ≡ e → is_printable b ≡ p → (nat_eq c 34 || nat_eq c 92) ≡ t
        → ((m : ℕ) → closing_in false bs ≡ some m → Closed bs m) → ((m : ℕ) → closing_in false (c ∷ bs) ≡ some m → Closed (c ∷ bs) m)
        → (if q then Some 0 else (if e then option_map suc (if t then option_map suc (closing_in false bs) else None) else (if p then option_map suc (closing_in false (c ∷ bs)) else None))) ≡ some n
        → Closed (b ∷ c ∷ bs) n
    step true e p t is_q is_e is_p is_t far near h = let zero_is : 0 ≡ n = some_is 0 n h in rw (← zero_is) (record { rest = c ∷ bs; parts = rw (eqb-true b 34 is_q) refl; printable = refl; counted = refl })
    step false true p false is_q is_e is_p is_t far near h = absurd cc
    step false true p true is_q is_e is_p is_t far near h =
        let one = further (option_map suc (closing_in false bs)) n h in
        let two = further (closing_in false bs) one.0 one.1 in
        let total : n ≡ suc (suc two.0) = one.2 ∙ ap suc two.2 in
        rw (total, eqb-true b 92 is_e) (closed_escape c bs two.0 true is_t refl (far two.0 two.1))
    step false false false t is_q is_e is_p is_t far near h = absurd cc
    step false false true t is_q is_e is_p is_t far near h =
        let one = further (closing_in false (c ∷ bs)) n h in
        rw one.2 (closed_plain b (c ∷ bs) one.0 is_q is_e is_p (near one.0 one.1))

-- ---- a text has one spelling

-- the text that closes in these bytes, where they begin with an escaped one
pub text_of_prefix : (bytes x after : List ℕ) (n : ℕ) → list_all is_printable x ≡ true → bytes ≡ escaped x ++ (34 ∷ after) → closing_in false bytes ≡ some n → (n ≡ length (escaped x)) × (unescaped false (take n bytes) ≡ x)
text_of_prefix bytes x after n all parts h =
    let len : n ≡ length (escaped x) = some_is n (length (escaped x)) (sym h ∙ ap (closing_in false) parts ∙ closes x after all) in
    (len, rw (len, parts, take-append_seam (escaped x) (34 ∷ after)) (unescapes x))

tails : (a b : ℕ) (x y : List ℕ) → a ∷ x ≡ b ∷ y → x ≡ y
tails a b x y e = cc

pub quoted_once : (x y : List ℕ) → list_all is_printable x ≡ true → list_all is_printable y ≡ true → quoted x ≡ quoted y → x ≡ y
quoted_once x y p q e =
    let same : escaped x ++ (34 ∷ []) ≡ escaped y ++ (34 ∷ []) = tails 34 34 _ _ e in
    let h = closes x [] p in
    sym (text_of_prefix (escaped x ++ (34 ∷ [])) x [] (length (escaped x)) p refl h).1 ∙ (text_of_prefix (escaped x ++ (34 ∷ [])) y [] (length (escaped x)) q same h).1

-- ---- one byte at a time

pub plain_next : (e : Bool) (b : ℕ) (bs : List ℕ) → (not e && nat_eq b 92) ≡ false → unescaped e (b ∷ bs) ≡ b ∷ unescaped false bs
plain_next true b bs h = refl
plain_next false b bs h = rw h refl

pub plain_step : (e : Bool) (i : ℕ) (bytes : List ℕ) → i < length bytes → (not e && nat_eq (get_or bytes i 0) 92) ≡ false → unescaped e (drop i bytes) ≡ get_or bytes i 0 ∷ unescaped false (drop (i + 1) bytes)
plain_step e i bytes lt h = ap (unescaped e) (drop_more bytes i 0 lt) ∙ plain_next e (get_or bytes i 0) (drop (i + 1) bytes) h

-- bytes without a `\` are a text without escapes
pub without_escape : (bs : List ℕ) → list_any (λ b. nat_eq b 92) bs ≡ false → unescaped false bs ≡ bs
without_escape [] h = refl
without_escape (b ∷ bs) h = by_byte (nat_eq b 92) refl (without_escape bs) h
  where
    by_byte : (t : Bool) → nat_eq b 92 ≡ t → (list_any (λ b. nat_eq b 92) bs ≡ false → unescaped false bs ≡ bs) → (t || list_any (λ b. nat_eq b 92) bs) ≡ false → unescaped false (b ∷ bs) ≡ b ∷ bs
    by_byte true is more h = absurd cc
    by_byte false is more h = rw is (ap (λ y. b ∷ y) (more h))
