use Rattle.std.proofs.Common.{◌<◌, ◌+◌, ◌++◌, ◌∷◌, [], false, length, take, drop, get_or, refl, sym, ap, ◌∙◌, append_assoc, arith}
use Rattle.std.proofs.lemmas.Bool.{lt-ltb}
use Rattle.std.proofs.lemmas.List.{length-append, length-set, length-take-le, take_more_set}
use Rattle.pac_tokens.specs.Lexing.{unescaped}
use Rattle.pac_tokens.proofs.Quoted.{plain_step}
use Rattle.pac_tokens.proofs.text.unescape.Goals as goal

pub returns-then-len-eq-MAX : goal.returns-then-len-eq-MAX
returns-then-len-eq-MAX c =
    let step = plain_step c.loop-byte.escaped c.loop-byte.byte-index c.args.bytes.now c.loop-byte-test.true (sym c.begins_escape.ensures ∙ c.if-begins_escape.false) in
    let whole = c.loop-byte.invariant.text ∙ ap (λ y. take c.loop-byte.len c.loop-byte.room ++ y) step in
    let prefix = length-take-le c.loop-byte.len c.loop-byte.room (omega (arith, c.loop-byte.invariant.few, c.loop-byte.invariant.room)) in
    let many : 64 < length (unescaped false c.args.bytes.now) =
    omega (arith, ap length whole, length-append (take c.loop-byte.len c.loop-byte.room) (get_or c.args.bytes.now c.loop-byte.byte-index 0 ∷ unescaped false (drop (c.loop-byte.byte-index + 1) c.args.bytes.now)), prefix, c.if-len-eq-MAX.true) in
    rw (lt-ltb 64 (length (unescaped false c.args.bytes.now)) many) refl

pub loop-byte-preserved : goal.loop-byte-preserved
loop-byte-preserved c =
    let byte = get_or c.args.bytes.now c.loop-byte.byte-index 0 in
    let rest = unescaped false (drop (c.loop-byte.byte-index + 1) c.args.bytes.now) in
    let step = plain_step c.loop-byte.escaped c.loop-byte.byte-index c.args.bytes.now c.loop-byte-test.true (sym c.begins_escape.ensures ∙ c.if-begins_escape.false) in
    let inside : c.loop-byte.len < length c.loop-byte.room = omega (arith, c.loop-byte.invariant.few, c.loop-byte.invariant.room, c.if-len-eq-MAX.false) in
    record {
      few = omega (arith, inside, c.loop-byte.invariant.room);
      room = length-set c.loop-byte.room c.loop-byte.len byte ∙ c.loop-byte.invariant.room;
      text = c.loop-byte.invariant.text ∙ ap (λ y. take c.loop-byte.len c.loop-byte.room ++ y) step ∙ sym (append_assoc (take c.loop-byte.len c.loop-byte.room) (byte ∷ []) rest)
          ∙ ap (λ x. x ++ rest) (sym (take_more_set c.loop-byte.room c.loop-byte.len byte inside));
    }
