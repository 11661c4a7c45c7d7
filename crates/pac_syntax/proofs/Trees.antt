-- What every tree of a text is: within the limits, and in the order of the text.
use Rattle.std.proofs.Common.{◌+◌, ◌≤◌, ℕ, List, [], ◌∷◌, length, drop, Option, ap, arith}
use Rattle.std.proofs.lemmas.List.{length-append, length-drop}
use Rattle.pac_tokens.specs.declared.lexer.Before.{Before}
use Rattle.pac_tokens.specs.declared.fault.Fault.{Fault}
use Rattle.pac_tokens.specs.declared.token.Spanned.{Spanned}
use Rattle.pac_syntax.specs.declared.tree.Tree.{Tree}
use Rattle.pac_tokens.specs.Tokens.{Lexed, gap, after}
use Rattle.pac_syntax.specs.Reading.{IsTree}
use Rattle.pac_syntax.specs.Limits.{IsWithinLimits}
use Rattle.pac_syntax.specs.Order.{IsOrdered}
use Rattle.pac_tokens.proofs.Spelled.{spells_some}
use Rattle.pac_syntax.proofs.WithinLimits.{reads-within}
use Rattle.pac_syntax.proofs.Ordered.{reads-ordered}

-- a text has no more tokens than bytes
few_tokens : (before : Before) (at : ℕ) (bytes : List ℕ) (ts : List Spanned) (f : Option Fault) → Lexed before at bytes ts f → length ts ≤ length bytes
few_tokens before at bytes [] f h = omega arith
few_tokens before at bytes (t ∷ ts) f h =
    let following = drop (gap bytes) bytes in
    let next = h.1 in
    let some = spells_some before t.token next.prefix next.longest.spells in
    let more = few_tokens (after before t.token) (at + gap bytes + h.0) (drop h.0 following) ts f h.3 in
    omega (arith, some, more, next.counted, ap length next.longest.parts, length-append next.prefix next.rest, length-drop h.0 following, length-drop (gap bytes) bytes)

pub tree-within : (tree : Tree) → IsTree tree → IsWithinLimits tree
tree-within tree is =
    let reads = is.1 in
    reads-within reads.tokens tree (omega (arith, few_tokens _ 0 is.0 reads.tokens _ reads.lexed, reads.short)) reads.parsed

pub tree-ordered : (tree : Tree) → IsTree tree → IsOrdered tree
tree-ordered tree is = reads-ordered is.0 is.1.tokens _ tree is.1.lexed is.1.parsed
