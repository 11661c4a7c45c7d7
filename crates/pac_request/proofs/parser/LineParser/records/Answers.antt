use Rattle.std.proofs.Common.{List, [], ◌∷◌, ◌++◌, ◌∙◌, arith}
use Rattle.std.proofs.lemmas.Result.{err_from_is_err_and}
use Rattle.pac_request.specs.declared.node.RecordNode.{RecordNode}
use Rattle.pac_request.specs.LineSteps.{MoreRecords}
use Rattle.pac_request.proofs.LineStepping.{semicolon_read, no_semicolon, all_records, pushed, fails_along}
use Rattle.pac_request.proofs.parser.LineParser.records.Goals as goal

pub returns-then-len-ge-MAX_RECORDS : goal.returns-then-len-ge-MAX_RECORDS
returns-then-len-ge-MAX_RECORDS c = record { run = c.loop-records.invariant ∙ all_records _ _ _ (omega (arith, c.len.ensures, c.if-len-ge-MAX_RECORDS.true)) }

pub returns-in_default : goal.returns-in_default
returns-in_default c = record { run = c.loop-records.invariant ∙ rw c.in_default.ensures.token.0 (no_semicolon _ _ _ _ c.takes.ensures.end c.in_default.ensures.token.1) }

pub returns-in_err-record : goal.returns-in_err-record
returns-in_err-record c =
    let p = err_from_is_err_and c.from_residual-in_err-record.result c.from_residual-in_err-record.ensures.1 in
    record {
      run = rw (p.1, p.2) (fails_along _ _ _
          (c.loop-records.invariant ∙ semicolon_read _ _ _ _ _ _ c.takes.ensures.end (omega (arith, c.len.ensures, c.loop-records.records.ok.0, c.if-len-ge-MAX_RECORDS.false)) c.in-Some.ensures.token)
          (c.in_err-record.ensures.run (λ x. MoreRecords (c.loop-records.records.items ++ (x ∷ [])))));
    }

pub loop-records-preserved : goal.loop-records-preserved
loop-records-preserved c = c.loop-records.invariant ∙ semicolon_read _ _ _ _ _ _ c.takes.ensures.end (omega (arith, c.len.ensures, c.loop-records.records.ok.0, c.if-len-ge-MAX_RECORDS.false)) c.in-Some.ensures.token
    ∙ c.in_ok-record.ensures.run (λ x. MoreRecords (c.loop-records.records.items ++ (x ∷ [])))
    ∙ pushed (λ (xs : List RecordNode). MoreRecords xs) _ _ _ _ _ c.in_ok-push-2.ensures.items
