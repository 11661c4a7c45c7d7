use Rattle.std.proofs.Common.{◌≡◌, ◌∷◌, ℕ, length, Result, Ok, sym, ap, ◌∙◌}
use Rattle.pac_tokens.specs.declared.fault.FaultKind.{FaultKind}
use Rattle.pac_tokens.specs.declared.token.Token.{Token}
use Rattle.pac_tokens.specs.declared.token.Token.TheVariants as token
use Rattle.pac_tokens.specs.Lexing.{first_symbol, symbol_at}
use Rattle.pac_tokens.proofs.SymbolLemmas.{other_symbol}
use Rattle.pac_tokens.proofs.Steps.{pushed_as}
use Rattle.pac_tokens.proofs.lexer.push_symbol.Goals as goal

pub returns-in_default-symbol : goal.returns-in_default-symbol
returns-in_default-symbol c =
    let s = c.push_found-in_default-symbol in
    let prefix = sym c.leading_symbol.ensures ∙ c.in-Some.is in
    let all = symbol_at c.args.before (first_symbol (c.args.first ∷ c.args.following.now)) c.args.following.now in
    let is : ◌≡◌ {A = Result (Token × ℕ) FaultKind} (Ok (token.Symbol c.in-Some.symbol, length c.spelling.result.now)) all =
    rw c.spelling.ensures (sym (ap (λ o. symbol_at c.args.before o c.args.following.now) prefix ∙ other_symbol c.args.before c.in-Some.symbol c.args.following.now c.in_default-symbol.not-Minus)) in
    pushed_as c.args.before c.args.at (Ok (token.Symbol c.in-Some.symbol, length c.spelling.result.now)) all c.args.items.now.items s.new.items.items s.result is s.ensures
