-- The header comes first, and the reader stands after it.
use Rattle.std.proofs.Common.{◌≡◌, ◌∙◌, ◌+◌, ℕ, Result, Err, List, length, take, drop, sym, ap, subst, arith}
use Rattle.pac_outside.specs.Disk.{IfKnown}
use Rattle.pac_types.specs.Accepted.{IsAccepted}
use Rattle.pac_types.specs.Typing.{CatalogueState}
use Rattle.pac_log.specs.declared.errors.LogError.TheVariants.{NoStore}
use Rattle.pac_log.specs.declared.header.Header.{Header}
use Rattle.pac_log.specs.declared.position.NextGate.{NextGate}
use Rattle.pac_log.specs.Logs.{base_of, start_bytes, header_bytes, header_with}
use Rattle.pac_log.proofs.HeaderLemmas.{attached, no_head, no_text}
use Rattle.pac_log.proofs.reader.LogReader.attach.Goals as goal

-- an error of one result is that of another
moved : {T U E : Type 0} (refusal cause : E) → ◌≡◌ {A = Result T E} (Err refusal) (Err cause) → ◌≡◌ {A = Result U E} (Err refusal) (Err cause)
moved {T} {U} {E} refusal cause same = ap (λ (e : E). the_error e) (one same)
  where
    one : ◌≡◌ {A = Result T E} (Err refusal) (Err cause) → refusal ≡ cause
    one h = cc

    the_error : E → Result U E
    the_error e = Err e

pub returns-in_default-clause-no_store : goal.returns-in_default-clause-no_store
returns-in_default-clause-no_store g c = λ e. no_head _ c.in_ok-start.start.items c.in_ok-start.ensures.bytes
    (λ form len rest few short head. c.in_default.not-Some (form, len) (c.head_of.ensures.again form len rest few short (c.deref.ensures.value ∙ head)))

pub returns-then-len-clause-no_store : goal.returns-then-len-clause-no_store
returns-then-len-clause-no_store g c = λ e.
    let form = c.in-Some.form in
    let len = c.in-Some.len in
    let read = c.in_ok-text.text.items in
    let after = subst (λ t. IfKnown (λ old. read ≡ take (len + 1) (drop (length (start_bytes form len)) old.now.seen)) t) c.in_ok-start.ensures.same
    (subst (λ (n : ℕ). IfKnown (λ old. read ≡ take (len + 1) (drop n old.now.seen)) (g.D.Disk.known c.read_piece.new.disk)) (c.head_len.ensures.exact len) c.in_ok-text.ensures.bytes) in
    no_text _ c.in_ok-start.start.items read form len c.in-Some.ensures.some.0 (sym c.deref.ensures.value ∙ c.in-Some.ensures.some.1) c.in-Some.ensures.base c.in-Some.ensures.few c.in_ok-start.ensures.bytes after
    (λ long catalogue is. absurd (omega (arith, long, c.if-len.true, c.len.ensures)))

pub returns-in-Err-clause-no_store : goal.returns-in-Err-clause-no_store
returns-in-Err-clause-no_store g c = λ e.
    let form = c.in-Some.form in
    let len = c.in-Some.len in
    let read = c.in_ok-text.text.items in
    let after = subst (λ t. IfKnown (λ old. read ≡ take (len + 1) (drop (length (start_bytes form len)) old.now.seen)) t) c.in_ok-start.ensures.same
    (subst (λ (n : ℕ). IfKnown (λ old. read ≡ take (len + 1) (drop n old.now.seen)) (g.D.Disk.known c.read_piece.new.disk)) (c.head_len.ensures.exact len) c.in_ok-text.ensures.bytes) in
    no_text _ c.in_ok-start.start.items read form len c.in-Some.ensures.some.0 (sym c.deref.ensures.value ∙ c.in-Some.ensures.some.1) c.in-Some.ensures.base c.in-Some.ensures.few c.in_ok-start.ensures.bytes after
    (λ long catalogue is. c.in-Err.ensures.refused (moved c.in-Err.refusal NoStore e) catalogue (subst (λ (t : List ℕ). IsAccepted t catalogue) (sym (c.deref-2.ensures.value ∙ c.truncate.ensures.items)) is))

pub returns-clause-store : goal.returns-clause-store
returns-clause-store g c =
    let form = c.in-Some.form in
    let len = c.in-Some.len in
    let read = c.in_ok-text.text.items in
    let after = subst (λ t. IfKnown (λ old. read ≡ take (len + 1) (drop (length (start_bytes form len)) old.now.seen)) t) c.in_ok-start.ensures.same
    (subst (λ (n : ℕ). IfKnown (λ old. read ≡ take (len + 1) (drop n old.now.seen)) (g.D.Disk.known c.read_piece.new.disk)) (c.head_len.ensures.exact len) c.in_ok-text.ensures.bytes) in
    let text = c.listed-text.result in
    let headed : c.first-gate.result.header ≡ header_with form text = ap (λ (p : NextGate). p.header) c.first-gate.ensures in
    let accepted = subst (λ (k : CatalogueState). IsAccepted text k) (sym (ap (λ (p : NextGate). p.catalogue) c.first-gate.ensures)) (subst (λ (t : List ℕ). IsAccepted t c.in-Ok.catalogue) (c.deref-2.ensures.value ∙ sym c.listed-text.ensures) c.in-Ok.ensures.ok) in
    attached _ c.in_ok-start.start.items read text form len c.in-Some.ensures.some.0 c.first-gate.result (sym c.deref.ensures.value ∙ c.in-Some.ensures.some.1) c.in-Some.ensures.base (omega (arith, c.if-len.false, c.len.ensures)) (c.listed-text.ensures ∙ c.truncate.ensures.items) accepted headed
    (ap (λ (p : NextGate). p.place) c.first-gate.ensures ∙ ap (λ (h : Header). length (header_bytes h)) (sym headed)) (ap (λ (p : NextGate). p.txns) c.first-gate.ensures ∙ ap (λ (h : Header). base_of h) (sym headed)) c.in_ok-start.ensures.bytes after
