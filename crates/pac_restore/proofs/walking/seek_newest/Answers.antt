-- A refusal is one of this device, or of the newest slot.
use Rattle.std.proofs.Common.{◌∙◌, ℕ, [], inl, inr, sym, subst}
use Rattle.pac_log.specs.declared.damage.DamageKind.{DamageKind}
use Rattle.pac_log.specs.declared.header.Header.{Header}
use Rattle.pac_log.specs.Reading.{StandsAfter}
use Rattle.pac_outside.specs.Disk.{IfKnown}
use Rattle.pac_restore.specs.Opening.{IsInLog}
use Rattle.pac_restore.specs.Reads.{IsDamagedAfter, IsSought}
use Rattle.pac_restore.proofs.CauseLemmas.{as-error}
use Rattle.pac_restore.proofs.FromLemmas.{missed-from}
use Rattle.pac_restore.proofs.SlotLemmas.{log-refused}
use Rattle.pac_restore.proofs.walking.seek_newest.Goals as goal

pub returns-in-Err-clause-refused : goal.returns-in-Err-clause-refused
returns-in-Err-clause-refused g c =
    let P : ℕ → DamageKind → Type 0 = λ at kind. (header : Header) → IfKnown (λ old. StandsAfter header [] c.args.reader.now.gate old.now.seen → IsDamagedAfter header c.args.reader.now.gate.catalogue at kind old.now.seen) (g.D.Disk.known c.args.disk.now) in
    inl (subst (λ e. IsInLog c.args.name P e) (sym c.in_log.ensures)
    (log-refused c.args.name P c.in-Err.cause (λ is. c.seek.ensures.known (c.in-Err.is ∙ as-error _ _ is)) (λ at kind is header. c.seek.ensures.damaged at kind (c.in-Err.is ∙ as-error _ _ is) header)))

pub returns-in-Ok-false-clause-refused : goal.returns-in-Ok-false-clause-refused
returns-in-Ok-false-clause-refused g c =
    let missed = missed-from (g.D.Disk.known c.args.disk.now) c.args.newest c.args.reader.now.gate c.seek.new.reader.gate (subst (λ t. IsSought (g.D.Disk.known c.args.disk.now) c.args.newest c.args.reader.now.gate c.seek.new.reader.gate t) c.in-Ok-false.field-0-test c.in-Ok-false.ensures.sought) in
    inr (missed, c.misplaced.ensures missed.0 missed.1)
