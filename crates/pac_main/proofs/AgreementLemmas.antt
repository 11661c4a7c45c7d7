-- The log of a script is laid, and gives the dump of the script's replay.
use Rattle.std.proofs.Common.{◌≡◌, ◌∙◌, ◌≤◌, ◌<◌, ◌+◌, ◌&&◌, ◌⊎◌, inl, inr, ℕ, zero, suc, Bool, List, [], ◌∷◌, ◌++◌, length, take, drop, Option, Some, None, Result, Ok, refl, sym, ap, ap₂, subst, append-nil, arith}
use Rattle.std.specs.FinMap.{empty}
use Rattle.std.specs.List.{AllZip, flat_map}
use Rattle.std.proofs.lemmas.Bool.{cases_lt}
use Rattle.std.proofs.lemmas.List.{length-take-le, take_all, take-append-le, take-append-drop, drop_at, length-drop}
use Rattle.pac_value.specs.State.{Tables}
use Rattle.pac_ops.specs.declared.batch.Batch.{Batch}
use Rattle.pac_ops.specs.declared.note.Note.{Note}
use Rattle.pac_ops.specs.declared.transaction.Change.{Change}
use Rattle.pac_ops.specs.declared.transaction.Txn.{Txn}
use Rattle.pac_types.specs.Accepted.{IsAccepted}
use Rattle.pac_types.specs.Execution.{first_over}
use Rattle.pac_types.specs.Typing.{CatalogueState}
use Rattle.pac_restore.specs.Batches.{txns_in}
use Rattle.pac_report.specs.Dump.{tables_text}
use Rattle.pac_request.specs.declared.request.Request.{Request}
use Rattle.pac_run.specs.declared.limits.TheConstants.{MAX_INPUT}
use Rattle.pac_script.specs.Batches.{AreCutInto, AreLongest, as_batches, steps}
use Rattle.pac_script.specs.Lines.{IsMark, HasNoMark, begins_line, begins_with_mark, is_mark_at}
use Rattle.pac_script.specs.Script.{Accepts, HasBatches, MarkOf, lines_after, text_after, text_before}
use Rattle.pac_script.specs.declared.script.Script.{Script}
use Rattle.pac_script.specs.declared.script_fault.ScriptFault.{ScriptFault}
use Rattle.pac_tuple.specs.AfterImages.{all_after_images}
use Rattle.pac_tuple.specs.Laying.{tables_laid}
use Rattle.pac_tuple.proofs.AfterLemmas.{laid_is_serial}
use Rattle.pac_main.specs.Lay.{IsLaidDumpOf, IsLaidInLimit, LogAnswer, LogSays, bytes_behind, laid_dump}
use Rattle.pac_main.specs.Record.{IsLogOf, catalogue_part, lists_bytes, lists_of, log_text}
use Rattle.pac_main.specs.Replay.{IsDumpOf, IsReadAs, dump, outcome}
use Rattle.pac_main.specs.declared.image_log.ImageLog.{ImageLog}
use Rattle.pac_main.proofs.LogLemmas.{one_mark}

-- ---- without lines there are no batches

no_parts : (ps : List (List Txn)) → AreLongest [] ps → ps ≡ []
no_parts [] h = refl
no_parts ([] ∷ qs) h = absurd h.2
no_parts ((t ∷ ts) ∷ qs) h = let no : [] ≡ t ∷ (ts ++ h.0) = h.1 in absurd cc

no_runs : (parts : List (List (List Txn))) (batches : List Batch) → AllZip AreLongest ([] ∷ []) parts → as_batches 1 (flat_map (λ run. run) parts) ≡ batches → batches ≡ []
no_runs [] batches each are = absurd each
no_runs (p ∷ []) batches each are = sym are ∙ ap (λ (q : List (List Txn)). as_batches 1 (q ++ [])) (no_parts p each.0)
no_runs (p ∷ q ∷ ps) batches each are = absurd each.1

no_lines : (catalogue : CatalogueState) (batches : List Batch) (said : List (Option Request)) → Accepts catalogue [] said → AreCutInto (steps said) batches → batches ≡ []
no_lines catalogue batches [] accepted cut = no_runs cut.parts batches cut.each cut.are
no_lines catalogue batches (s ∷ said) accepted cut = absurd accepted

no_batches : (catalogue : CatalogueState) (batches : List Batch) → HasBatches catalogue [] batches → batches ≡ []
no_batches catalogue batches h = no_lines catalogue batches h.said h.accepted h.cut

-- ---- the mark of a text, and of its part up to the mark with other bytes behind it

same_begin : (j : ℕ) (p r x : List ℕ) → j + 4 ≤ length p → begins_with_mark (drop j (p ++ r)) ≡ begins_with_mark (drop j (p ++ x))
same_begin zero [] r x h = absurd (omega (arith, h))
same_begin zero (a ∷ []) r x h = absurd (omega (arith, h))
same_begin zero (a ∷ b ∷ []) r x h = absurd (omega (arith, h))
same_begin zero (a ∷ b ∷ c ∷ []) r x h = absurd (omega (arith, h))
same_begin zero (a ∷ b ∷ c ∷ d ∷ p) r x h = refl
same_begin (suc j) [] r x h = absurd (omega (arith, h))
same_begin (suc j) (a ∷ p) r x h = same_begin j p r x (omega (arith, h))

same_line : (i : ℕ) (p r x : List ℕ) → i < length p → begins_line (p ++ r) (suc i) ≡ begins_line (p ++ x) (suc i)
same_line i [] r x h = absurd (omega (arith, h))
same_line zero (a ∷ p) r x h = refl
same_line (suc i) (a ∷ p) r x h = same_line i p r x (omega (arith, h))

same_mark : (j : ℕ) (p r x : List ℕ) → j + 4 ≤ length p → is_mark_at (p ++ r) j ≡ is_mark_at (p ++ x) j
same_mark zero p r x h = same_begin zero p r x h
same_mark (suc i) p r x h = ap₂ (λ (a b : Bool). a && b) (same_line i p r x (omega (arith, h))) (same_begin (suc i) p r x h)

mark_moved : (at : ℕ) (p r x : List ℕ) → length p ≡ at + 4 → IsMark (p ++ r) at → IsMark (p ++ x) at
mark_moved at p r x long is = record {
  mark = sym (same_mark at p r x (omega (arith, long))) ∙ is.mark;
  first = λ j less. sym (same_mark j p r x (omega (arith, long, less))) ∙ is.first j less;
}

-- ---- the parts of a log

-- how the parts of a script's log are read
pub record Laid (text : List ℕ) (mark : Option ℕ) (script : Script) : Type 0 where
  pub is_mark : MarkOf (log_text text mark script) mark
  pub prefix : text_before (log_text text mark script) mark ≡ text_before text mark
  pub bytes : bytes_behind (log_text text mark script) mark ≡ lists_bytes (lists_of script)

no_lists : (script : Script) → script.batches ≡ [] → lists_of script ≡ []
no_lists script none = ap (λ (batches : List Batch). all_after_images script.catalogue.procs (txns_in batches) empty) none

nothing : (bs : List ℕ) → length bs ≡ 0 → bs ≡ []
nothing [] e = refl
nothing (b ∷ bs) e = absurd (omega (arith, e))

module _ (text : List ℕ) (script : Script) where
  -- a text without batches is its own log
  own_log : (mark : Option ℕ) → catalogue_part text mark ≡ text → lists_of script ≡ [] → log_text text mark script ≡ text
  own_log mark whole none = ap₂ (λ (p : List ℕ) (lists : List (List Change)). p ++ lists_bytes lists) whole none ∙ append-nil text

  without_mark : HasNoMark text → HasBatches script.catalogue (lines_after []) script.batches → Laid text None script
  without_mark unmarked batches =
      let none = no_lists script (no_batches script.catalogue script.batches batches) in
      let same = own_log None refl none in
      record { is_mark = subst (λ (t : List ℕ). MarkOf t None) (sym same) unmarked; prefix = same; bytes = ap lists_bytes (sym none) }

  at_end : (at : ℕ) → IsMark text at → length text ≤ at + 3 → HasBatches script.catalogue (lines_after (drop (at + 3) text)) script.batches → Laid text (Some at) script
  at_end at is end batches =
      let over : drop (at + 3) text ≡ [] = nothing (drop (at + 3) text) (omega (arith, length-drop (at + 3) text, end)) in
      let none = no_lists script (no_batches script.catalogue script.batches (subst (λ (t : List ℕ). HasBatches script.catalogue (lines_after t) script.batches) over batches)) in
      let same = own_log (Some at) (take_all (at + 4) text (omega (arith, end))) none in
      record {
        is_mark = subst (λ (t : List ℕ). MarkOf t (Some at)) (sym same) is;
        prefix = ap (λ (t : List ℕ). take at t) same;
        bytes = ap (λ (t : List ℕ). drop (at + 4) t) same ∙ nothing (drop (at + 4) text) (omega (arith, length-drop (at + 4) text, end)) ∙ ap lists_bytes (sym none);
      }

  within : (at : ℕ) → IsMark text at → at + 3 < length text → Laid text (Some at) script
  within at is inside =
      let p = take (at + 4) text in
      let r = drop (at + 4) text in
      let x = lists_bytes (lists_of script) in
      let long : length p ≡ at + 4 = length-take-le (at + 4) text (omega (arith, inside)) in
      let whole : p ++ r ≡ text = take-append-drop (at + 4) text in
      record {
        is_mark = mark_moved at p r x long (subst (λ (t : List ℕ). IsMark t at) (sym whole) is);
        prefix = take-append-le at p x (omega (arith, long)) ∙ sym (take-append-le at p r (omega (arith, long))) ∙ ap (λ (t : List ℕ). take at t) whole;
        bytes = drop_at p x (at + 4) long;
      }

  laid_so : (mark : Option ℕ) → MarkOf text mark → HasBatches script.catalogue (lines_after (text_after text mark)) script.batches → Laid text mark script
  laid_so None unmarked batches = without_mark unmarked batches
  laid_so (Some at) is batches = by (cases_lt (at + 3) (length text))
    where
      by : (at + 3 < length text) ⊎ (length text ≤ at + 3) → Laid text (Some at) script
      by (inl inside) = within at is inside
      by (inr end) = at_end at is end batches

-- the log as it is laid
abbrev recorded : Script → ImageLog
recorded script = record { catalogue = script.catalogue; images = lists_of script }

module _ (limit : ℕ) (text log : List ℕ) (h : IsLogOf limit (Some text) (λ written. written ≡ log)) where
  log_says : LogSays log (Ok (recorded h.script))
  log_says =
      let says = h.is.says in
      let same = one_mark h.text says.mark h.mark says.is_mark h.is_mark in
      let accepted = subst (λ (m : Option ℕ). IsAccepted (text_before h.text m) h.script.catalogue) same says.parts.accepted in
      let batches = subst (λ (m : Option ℕ). HasBatches h.script.catalogue (lines_after (text_after h.text m)) h.script.batches) same says.parts.batches in
      let laid = laid_so h.text h.script h.mark h.is_mark batches in
      subst (λ (t : List ℕ). LogSays t (Ok (recorded h.script))) h.has (record {
        mark = h.mark;
        is_mark = laid.is_mark;
        parts = (subst (λ (p : List ℕ). IsAccepted p h.script.catalogue) (sym laid.prefix) accepted, h.lists, laid.bytes);
      })

  the_tables : tables_laid empty (lists_of h.script) ≡ h.tables
  the_tables = laid_is_serial h.script.catalogue.procs (txns_in h.script.batches) 1 empty h.tables h.ends

  pub log-in-limit : length log ≤ MAX_INPUT → IsLaidInLimit limit log
  log-in-limit short = record {
    log = recorded h.script;
    short = short;
    says = log_says;
    within = ap (λ (t : Tables). first_over limit (length h.script.catalogue.tables) t) the_tables ∙ h.within;
  }

  pub same-dump : (laid replayed : List ℕ) → IsLaidDumpOf limit (Some log) (λ written. written ≡ laid) → IsDumpOf limit (Some text) (λ written. written ≡ replayed) → laid ≡ replayed
  same-dump laid replayed k d =
      let logs : recorded h.script ≡ k.log = log_same (recorded h.script) k.log (k.is.only (Ok (recorded h.script)) log_says) in
      let read : IsReadAs h.text (Ok d.script) = subst (λ (t : List ℕ). IsReadAs t (Ok d.script)) h.whole d.is in
      let scripts : d.script ≡ h.script = script_same d.script h.script (h.is.only (Ok d.script) read.says) in
      let tables : d.tables ≡ h.tables = tables_same d.tables h.tables (sym d.ends ∙ ap outcome scripts ∙ h.ends) in
      sym k.has ∙ ap laid_dump (sym logs) ∙ ap (λ (t : Tables). tables_text t 0 h.script.catalogue.tables) the_tables ∙ sym (ap₂ dump scripts tables) ∙ d.has
    where
      log_same : (x y : ImageLog) → ◌≡◌ {A = LogAnswer} (Ok x) (Ok y) → x ≡ y
      log_same x y e = cc

      script_same : (x y : Script) → ◌≡◌ {A = Result Script ScriptFault} (Ok x) (Ok y) → x ≡ y
      script_same x y e = cc

      tables_same : (x y : Tables) → ◌≡◌ {A = Result Tables Note} (Ok x) (Ok y) → x ≡ y
      tables_same x y e = cc
