use Rattle.std.proofs.Common.{◌≡◌, ℕ, length, take, Result, Ok, sym, ap, ◌∙◌, arith}
use Rattle.std.specs.List.{take_while}
use Rattle.std.proofs.lemmas.Grind.{common_steps}
use Rattle.pac_tokens.specs.declared.fault.FaultKind.{FaultKind}
use Rattle.pac_tokens.specs.declared.token.Token.{Token}
use Rattle.pac_tokens.specs.declared.token.Token.TheVariants as token
use Rattle.pac_tokens.specs.Tokens.{is_name}
use Rattle.pac_tokens.specs.Lexing.{word_at}
use Rattle.pac_tokens.proofs.Candidates.{keyword_at}
use Rattle.pac_tokens.proofs.Steps.{pushed_as}
use Rattle.pac_tokens.proofs.lexer.push_word.Goals as goal

pub returns-in-Some : goal.returns-in-Some
returns-in-Some c =
    let s = c.push_found in
    let word = take c.word_len.result c.args.bytes.now in
    let same : take c.word_len.result c.args.bytes.now ≡ take_while is_name c.args.bytes.now = grind (arith, common_steps) in
    let is : ◌≡◌ {A = Result (Token × ℕ) FaultKind} (Ok (token.Keyword c.in-Some.keyword, length word)) (word_at (take_while is_name c.args.bytes.now)) =
    sym (keyword_at word c.in-Some.keyword (sym c.find_keyword.ensures ∙ c.in-Some.is)) ∙ ap word_at same in
    pushed_as c.args.before c.args.at (Ok (token.Keyword c.in-Some.keyword, length word)) (word_at (take_while is_name c.args.bytes.now)) c.args.items.now.items s.new.items.items s.result is s.ensures
