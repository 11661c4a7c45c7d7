-- What is read stands after the old bytes.
use Rattle.std.proofs.Common.{◌≡◌, ◌∙◌, ◌-◌, take, drop, length, arith, length-take, length-drop}
use Rattle.pac_outside.proofs.ReadLemmas.{appended, old_prefix}
use Rattle.pac_outside.proofs.piece.read_more.Goals as goal

pub returns-in-Ok-clause-bytes : goal.returns-in-Ok-clause-bytes
returns-in-Ok-clause-bytes g c =
    let old = c.args.bytes.now.items in
    let place = c.deref_mut.result.now in
    let n = c.len-old.result in
    let long : length old ≡ n = omega (arith, c.len-old.ensures, c.args.bytes.now.ok) in
    let room : length (take (length place - n) (drop n place)) ≡ c.args.count
    = omega (arith, length-take (length place - n) (drop n place), length-drop n place, c.deref_mut.ensures.len, c.in_ok-resize.ensures.len, c.len-old.ensures) in
    appended _ c.truncate.new.self.items old c.read.new.buf _ _ place n c.in-Ok.len c.resize.new.self.len c.args.count _ c.args.at long
    (old_prefix old _ place n c.args.count long (c.deref_mut.ensures.value ∙ c.in_ok-resize.ensures.items)) c.in-Ok.ensures.bound.0 (omega (arith, c.in_ok-resize.ensures.len, c.in-Ok.ensures.bound.0, c.read.auto.buf, room)) room
    c.truncate.ensures.items c.in-Ok.ensures.bytes
