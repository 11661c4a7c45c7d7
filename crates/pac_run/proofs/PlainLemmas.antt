-- What is written without a line feed.
use Rattle.std.proofs.Common.{◌≡◌, ◌≢◌, ◌∙◌, ℕ, suc, ◌+◌, ◌^◌, ◌<◌, ◌%◌, Bool, true, false, ◌||◌, List, [], ◌∷◌, ◌++◌, Some, refl, ap, ap₂, subst, arith}
use Rattle.std.specs.Prelude.{ℤ, pos, negsuc, codes, flat_map, nat_eq, if◌then◌else◌}
use Rattle.std.specs.Cmp.{first_so, second_so}
use Rattle.std.specs.Int.Signed.{mag}
use Rattle.std.specs.List.{AllByRecursion, list_all}
use Rattle.std.specs.Fmt.{decimal, signed_decimal}
use Rattle.std.proofs.lemmas.Bool.Decides.{nat_tests}
use Rattle.std.proofs.lemmas.List.Folds.{list_any-append}
use Rattle.std.proofs.lemmas.Fmt.{decimal_by_steps}
use Rattle.pac_value.specs.Ascii.{quote, backslash}
use Rattle.pac_value.specs.declared.values.Value.{Value}
use Rattle.pac_value.specs.Literals.{escaped, escaped_byte, quoted, value_text, values_text, further_value_text}
use Rattle.pac_value.specs.State.{RowValues}
use Rattle.pac_value.specs.Texts.{is_printable}
use Rattle.pac_lines.specs.Lines.{HasNoFeed}
use Rattle.pac_report.specs.Replies.{shown_row}

pub no_feed_both : (xs ys : List ℕ) → HasNoFeed xs → HasNoFeed ys → HasNoFeed (xs ++ ys)
no_feed_both xs ys first second = list_any-append (λ b. nat_eq b 10) xs ys ∙ ap₂ (λ (a b : Bool). a || b) first second

byte_no_feed : (b : ℕ) → b ≢ 10 → HasNoFeed (b ∷ [])
byte_no_feed b other = ap (λ (t : Bool). t || false) test
  where
    test : nat_eq b 10 ≡ false
    test = grind (arith, nat_tests)

pub cons_no_feed : (b : ℕ) (bs : List ℕ) → b ≢ 10 → HasNoFeed bs → HasNoFeed (b ∷ bs)
cons_no_feed b bs other rest = no_feed_both (b ∷ []) bs (byte_no_feed b other) rest

pub decimal_no_feed : (n : ℕ) → n < 2 ^ 64 → HasNoFeed (decimal n)
decimal_no_feed = decimal_by_steps (λ n ds. HasNoFeed ds) (λ n small. byte_no_feed _ (λ e. omega (arith, e))) (λ n ds large more. no_feed_both ds ((48 + n % 10) ∷ []) more (byte_no_feed _ (λ e. omega (arith, e))))

pub signed_no_feed : (z : ℤ) → mag z < 2 ^ 63 → HasNoFeed (signed_decimal z)
signed_no_feed (pos n) small = decimal_no_feed n (omega (arith, small))
signed_no_feed (negsuc n) small = cons_no_feed 45 (decimal (suc n)) (λ e. omega (arith, e)) (decimal_no_feed (suc n) (omega (arith, small)))

escaped_one : (b : ℕ) → is_printable b ≡ true → HasNoFeed (escaped_byte b)
escaped_one b printable = by (nat_eq b quote || nat_eq b backslash)
  where
    other : b ≢ 10
    other e = let wrong : is_printable 10 ≡ true = subst (λ (x : ℕ). is_printable x ≡ true) e printable in cc

    by : (test : Bool) → HasNoFeed (if test then backslash ∷ b ∷ [] else b ∷ [])
    by true = cons_no_feed backslash (b ∷ []) (λ e. omega (arith, e)) (byte_no_feed b other)
    by false = byte_no_feed b other

escaped_no_feed : (text : List ℕ) → list_all is_printable text ≡ true → HasNoFeed (escaped text)
escaped_no_feed [] all = refl
escaped_no_feed (b ∷ bs) all = no_feed_both (escaped_byte b) (escaped bs) (escaped_one b (first_so (is_printable b) (list_all is_printable bs) all)) (escaped_no_feed bs (second_so (is_printable b) (list_all is_printable bs) all))

pub quoted_no_feed : (text : List ℕ) → list_all is_printable text ≡ true → HasNoFeed (quoted text)
quoted_no_feed text all = cons_no_feed quote (escaped text ++ (quote ∷ [])) (λ e. omega (arith, e)) (no_feed_both (escaped text) (quote ∷ []) (escaped_no_feed text all) refl)

further_no_feed : (values : List Value) → AllByRecursion (λ value. HasNoFeed (value_text value)) values → HasNoFeed (flat_map further_value_text values)
further_no_feed [] all = refl
further_no_feed (v ∷ vs) all = no_feed_both (further_value_text v) (flat_map further_value_text vs) (no_feed_both (codes ", ") (value_text v) refl all.0) (further_no_feed vs all.1)

values_no_feed : (values : List Value) → AllByRecursion (λ value. HasNoFeed (value_text value)) values → HasNoFeed (values_text values)
values_no_feed [] all = refl
values_no_feed (v ∷ vs) all = no_feed_both (value_text v) (flat_map further_value_text vs) all.0 (further_no_feed vs all.1)

pub row_no_feed : (row : RowValues) → AllByRecursion (λ value. HasNoFeed (value_text value)) row → HasNoFeed (shown_row (Some row))
row_no_feed row all = no_feed_both (codes " = (" ++ values_text row) (codes ")") (no_feed_both (codes " = (") (values_text row) refl (values_no_feed row all)) refl
