-- The header and a closed gate are written, and are a log without a batch.
use Rattle.std.proofs.Common.{◌≡◌, ◌++◌, ◌∷◌, [], ℕ, length, sym, subst, arith, ◌∙◌}
use Rattle.pac_outside.specs.Disk.{BothKnown, IfKnown, settled}
use Rattle.pac_log.specs.declared.header.HeaderForm.TheVariants.{First}
use Rattle.pac_log.specs.Logs.{header_bytes, header_with}
use Rattle.pac_log.proofs.CreateLemmas.{written, made, where_known}
use Rattle.pac_log.proofs.creation.create.Goals as goal

pub returns-clause-bytes : goal.returns-clause-bytes
returns-clause-bytes g c =
    let framed = c.deref.ensures.value ∙ c.in_ok-bytes.ensures in
    let empty = where_known (λ old. c.in_ok-length.length ≡ length old.now.seen) (λ old. length old.now.seen ≡ 0) (λ h e. omega (arith, e, c.if-length-gt0.false)) _ c.in_ok-length.ensures.len in
    subst (λ t. BothKnown (λ old new. new.now ≡ settled (header_bytes (header_with First c.args.text.now) ++ (0 ∷ []))) t (g.D.Disk.known c.write_and_sync.new.disk)) c.len.ensures.same
    (written (header_with First c.args.text.now) _ framed _ _ (subst (λ t. IfKnown (λ old. length old.now.seen ≡ 0) t) (sym c.len.ensures.same) empty) c.in_ok-write_and_sync.ensures.durable)

pub returns-clause-made : goal.returns-clause-made
returns-clause-made g c = λ catalogue accepted. made (header_with First c.args.text.now) catalogue accepted (omega arith) _ _ (returns-clause-bytes g c)
