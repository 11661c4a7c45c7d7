-- What is read stands after what was held.
use Rattle.std.proofs.Common.{◌≡◌, ◌+◌, ◌-◌, ◌++◌, ℕ, List, OnOk, length, take, drop, sym, ap, subst, arith, length-drop}
use Rattle.pac_outside.specs.Disk.{IfKnown}
use Rattle.pac_check.specs.PieceStates.{PiecesState, AreOfImage}
use Rattle.pac_check.proofs.PieceLemmas.{filled_known}
use Rattle.pac_check.proofs.pieces.Pieces.fill.Goals as goal

abbrev the_state : ℕ → List ℕ → ℕ → PiecesState
the_state n bytes len = record { place = n; bytes = bytes; len = len }

pub returns-clause-filled : goal.returns-clause-filled
returns-clause-filled g c =
    let p = c.self.inside in
    let old : PiecesState = record { place = p.base + p.passed; bytes = drop p.passed p.buffer.items; len = p.len } in
    let new = c.read_more.new.bytes.items in
    let held = c.len.result - p.passed in
    let end = p.base + c.len-2.result in
    let count = c.min-count.result in
    let known = g.D.Disk.known c.args.disk.now in
    let of = subst (λ (q : PiecesState). IfKnown (λ h. AreOfImage h.now.seen q) known) (sym c.self.view_is) c.requires in
    let long : length old.bytes ≡ held = omega (arith, length-drop p.passed p.buffer.items, c.len.ensures, p.buffer.ok) in
    let ends : end ≡ old.place + held = omega (arith, c.len.ensures, c.len-2.ensures, c.self.invariant.0) in
    let read = subst (λ (l : List ℕ). OnOk c.read_more.result (IfKnown (λ h. new ≡ l ++ take count (drop end h.now.seen)) known)) c.forget_front.ensures c.read_more.ensures.bytes in
    filled_known c.read_more.result known old _ held end count new of long ends c.if-end-self.false c.if-held-ge-ITEM_LEN.false c.min-count.ensures read (ap (λ (n : ℕ). the_state n new p.len) (omega arith))
