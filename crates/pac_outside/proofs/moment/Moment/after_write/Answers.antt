-- What a read gives after a write is one of the images.
use Rattle.std.proofs.Common.{◌≡◌, ◌<◌, ℕ, List, get_or, sym, ap, subst, arith, rules}
use Rattle.pac_outside.specs.Disk.{DiskState, wrote}
use Rattle.pac_outside.specs.Moments.{moment_state}
use Rattle.pac_outside.proofs.DiskWrites.{next_seen_is_image, spliced_bytes}
use Rattle.pac_outside.proofs.moment.Moment.after_write.Goals as goal

pub invariant_of-result : goal.invariant_of-result
invariant_of-result c =
    let state = moment_state c.args.self.now in
    let next : DiskState = record { synced = c.in_ok-to_vec.field-0.items; written = c.extend_from_slice.new.self.items; seen = c.in_ok-splice.field-0.items } in
    let same : next ≡ wrote c.args.at c.args.piece.now state = search rules in
    record {
      image = next_seen_is_image c.args.at c.args.piece.now state c.requires c.args.self.now.image next same;
      bytes = subst (λ (bytes : List ℕ). (i : ℕ) → get_or bytes i 0 < 256) (sym (ap (λ (s : DiskState). s.seen) same)) (spliced_bytes c.args.at c.args.piece.now c.args.self.now.seen.items (λ i. omega (arith, c.type_inv.piece i)) c.args.self.now.bytes);
    }
