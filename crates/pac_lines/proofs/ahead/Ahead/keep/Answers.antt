-- The bytes ahead are cut after the most that are wanted.
use Rattle.std.proofs.Common.{◌≡◌, ◌∙◌, ◌≤◌, ◌+◌, length, length-take, arith, sym, ap, subst, take, drop, List, [], ℕ}
use Rattle.pac_lines.specs.Lines.{HasNoFeed}
use Rattle.pac_lines.specs.Reading.{AheadState}
use Rattle.pac_lines.proofs.ShortLemmas.{kept_bytes, kept_none}
use Rattle.pac_lines.proofs.ahead.Ahead.keep.Goals as goal

pub invariant_of-self : goal.invariant_of-self
invariant_of-self c =
    let items = c.self.inside.buffer.items in
    let next = c.self.inside.next in
    let long : c.len.result ≡ length items = omega (arith, c.len.ensures, c.self.inside.buffer.ok) in
    let within : next ≤ c.len.result = omega (arith, c.self.invariant.1, c.len.ensures) in
    let none : HasNoFeed (drop next items) = subst HasNoFeed (sym (ap (λ (a : AheadState). a.bytes) c.self.view_is)) c.requires in (
      omega arith,
      omega (arith, long, within, c.min-count.ensures, c.truncate.new.self.ok, ap (λ (l : List ℕ). length l) c.truncate.ensures.items, length-take (next + c.min-count.result) items),
      subst (λ (l : List ℕ). HasNoFeed (take c.min-count.result (drop next l))) (sym c.truncate.ensures.items) (kept_none items c.len.result next c.min-count.result c.args.most long within c.min-count.ensures none),
    )

pub returns : goal.returns
returns c =
    let items = c.self.inside.buffer.items in
    let next = c.self.inside.next in
    let long : c.len.result ≡ length items = omega (arith, c.len.ensures, c.self.inside.buffer.ok) in
    let within : next ≤ c.len.result = omega (arith, c.self.invariant.1, c.len.ensures) in
    let bytes : drop next c.truncate.new.self.items ≡ take c.args.most c.args.self.now.bytes
    = ap (drop next) c.truncate.ensures.items ∙ kept_bytes items c.len.result next c.min-count.result c.args.most long within c.min-count.ensures ∙ ap (λ (a : AheadState). take c.args.most a.bytes) c.self.view_is in
    ap (λ (l : List ℕ). record { line = []; bytes = l }) bytes
