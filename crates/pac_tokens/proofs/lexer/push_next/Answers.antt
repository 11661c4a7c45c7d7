use Rattle.std.proofs.Common.{◌-◌, ◌∷◌, length, take, drop, get_or, refl, sym, ap, ◌∙◌}
use Rattle.std.specs.List.{take_while}
use Rattle.std.proofs.lemmas.Bool.{eq-eqb, ne_eqb}
use Rattle.std.proofs.lemmas.List.{take_rest}
use Rattle.pac_tokens.specs.Tokens.{is_name}
use Rattle.pac_tokens.specs.Lexing.{word_at, symbol_at, first_symbol}
use Rattle.pac_tokens.proofs.Steps.{word_is, int_is, text_is, symbol_is, step_is, step_within}
use Rattle.pac_tokens.proofs.lexer.push_next.Goals as goal

pub returns-then-is_letter_byte : goal.returns-then-is_letter_byte
returns-then-is_letter_byte c =
    let s = c.push_word in
    let found = word_at (take_while is_name c.args.bytes.now) in
    let is = word_is c.args.before c.args.bytes.now found c.requires (sym c.is_letter_byte.ensures ∙ c.if-is_letter_byte.true) refl in
    let step = step_is c.args.before c.args.at c.args.bytes.now found c.args.items.now.items s.new.items.items s.result c.requires is s.ensures in
    record { step = step; within = step_within c.args.before c.args.at c.args.bytes.now c.args.items.now.items s.new.items.items s.result step }

pub returns-then-is_digit_byte : goal.returns-then-is_digit_byte
returns-then-is_digit_byte c =
    let s = c.push_found-then-is_digit_byte in
    let is = int_is c.args.before c.args.bytes.now c.int.result c.requires (sym c.is_letter_byte.ensures ∙ c.if-is_letter_byte.false) (sym c.is_digit_byte.ensures ∙ c.if-is_digit_byte.true) c.int.ensures in
    let step = step_is c.args.before c.args.at c.args.bytes.now c.int.result c.args.items.now.items s.new.items.items s.result c.requires is s.ensures in
    record { step = step; within = step_within c.args.before c.args.at c.args.bytes.now c.args.items.now.items s.new.items.items s.result step }

pub returns-then-first-eq34 : goal.returns-then-first-eq34
returns-then-first-eq34 c =
    let s = c.push_found-then-first-eq34 in
    let quote = eq-eqb (get_or c.args.bytes.now 0 0) 34 c.if-first-eq34.true in
    let is = text_is c.args.before c.args.bytes.now c.text.result c.requires (sym c.is_letter_byte.ensures ∙ c.if-is_letter_byte.false) (sym c.is_digit_byte.ensures ∙ c.if-is_digit_byte.false) quote (simp take_rest at c.text.ensures) in
    let step = step_is c.args.before c.args.at c.args.bytes.now c.text.result c.args.items.now.items s.new.items.items s.result c.requires is s.ensures in
    record { step = step; within = step_within c.args.before c.args.at c.args.bytes.now c.args.items.now.items s.new.items.items s.result step }

pub returns : goal.returns
returns c =
    let s = c.push_symbol in
    let after = take (length c.args.bytes.now - 1) (drop 1 c.args.bytes.now) in
    let found = symbol_at c.args.before (first_symbol (get_or c.args.bytes.now 0 0 ∷ after)) after in
    let same = ap (λ x. symbol_at c.args.before (first_symbol (get_or c.args.bytes.now 0 0 ∷ x)) x) (take_rest c.args.bytes.now 1) in
    let quote = ne_eqb (get_or c.args.bytes.now 0 0) 34 c.if-first-eq34.false in
    let is = symbol_is c.args.before c.args.bytes.now found c.requires (sym c.is_letter_byte.ensures ∙ c.if-is_letter_byte.false) (sym c.is_digit_byte.ensures ∙ c.if-is_digit_byte.false) quote same in
    let step = step_is c.args.before c.args.at c.args.bytes.now found c.args.items.now.items s.new.items.items s.result c.requires is s.ensures in
    record { step = step; within = step_within c.args.before c.args.at c.args.bytes.now c.args.items.now.items s.new.items.items s.result step }
