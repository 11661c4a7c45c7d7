use Rattle.std.proofs.Common.{arith, ◌+◌, ◌*◌, ◌-◌, ℕ}
use Rattle.std.proofs.lemmas.List.Sums.{fold_more}
use Rattle.pac_tokens.proofs.NumberLemmas.{too_large}
use Rattle.pac_tokens.proofs.int.magnitude.Goals as goal

pub returns-then-value : goal.returns-then-value
returns-then-value c =
    let i = c.loop-digit.digit-index in
    let more = fold_more (λ (n digit : ℕ). n * 10 + (digit - 48)) 0 c.args.digits.now i 0 (omega arith) in
    too_large c.args.digits.now (i + 1) (omega (arith, more))
