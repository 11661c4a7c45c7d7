-- What was read stands after the old bytes.
use Rattle.std.proofs.Common.{◌≡◌, ◌-◌, take, drop, length, arith, length-take, length-drop}
use Rattle.pac_lines.proofs.ReadLemmas.{old_prefix, read_after}
use Rattle.pac_lines.proofs.ahead.append.Goals as goal

pub returns-in-Ok-clause-bytes : goal.returns-in-Ok-clause-bytes
returns-in-Ok-clause-bytes g c =
    let old = c.args.buffer.now.items in
    let longer = c.deref_mut.result.now in
    let n = c.len-old.result in
    let count = c.in-Ok.count in
    let long : length old ≡ n = omega (arith, c.len-old.ensures, c.args.buffer.now.ok) in
    let room : length (take (length longer - n) (drop n longer)) ≡ c.args.most
    = omega (arith, length-take (length longer - n) (drop n longer), length-drop n longer, c.deref_mut.ensures.len, c.in_ok-resize.ensures.len, c.len-old.ensures) in
    let prefix = old_prefix old _ _ longer n c.args.most long c.in_ok-resize.ensures.items c.deref_mut.ensures.value in record {
      given = take count c.read.new.buf;
      gave = c.in-Ok.ensures.bytes.bytes;
      bytes = read_after old c.read.new.buf _ _ longer c.truncate.new.self.items n count c.resize.new.self.len long prefix c.in-Ok.ensures.bound.0
          (omega (arith, c.in_ok-resize.ensures.len, c.in-Ok.ensures.bound.0, c.read.auto.buf, room)) c.truncate.ensures.items;
      counted = c.in-Ok.ensures.bound.1;
    }
