-- How `lay` ends by its stop.
use Rattle.std.proofs.Common.{◌≡◌, ◌∙◌, ◌<◌, ◌⊎◌, inl, inr, ℕ, List, [], ◌∷◌, length, Option, Some, None, Result, Ok, Err, refl, sym, ap, subst, arith}
use Rattle.std.specs.Prelude.{IfSome, IsSomeAnd}
use Rattle.pac_base.specs.declared.refusal.Refusal.{Refusal}
use Rattle.pac_base.specs.declared.refusal.Refusal.TheVariants as refusal
use Rattle.pac_restore.specs.Limits.{IsFirstOver}
use Rattle.pac_restore.specs.declared.limit.TooManyRows.{TooManyRows}
use Rattle.pac_run.specs.declared.limits.TheConstants.{MAX_INPUT}
use Rattle.pac_types.specs.Execution.{first_over}
use Rattle.pac_script.specs.declared.script_fault.ScriptFault.{ScriptFault}
use Rattle.pac_script.specs.declared.script_fault.ScriptFault.TheVariants as script
use Rattle.pac_main.specs.Causes.{IsOfCatalogue, IsUnread, LayingStops, LayStops}
use Rattle.pac_main.specs.Lay.{IsLaidInLimit, IsLaidOverOf, IsLogReadAs, IsNoLogFor, LayEnds, LogAnswer, first_laid_over, laid_tables, log_fault_line}
use Rattle.pac_main.specs.Replay.{IsLongScript}
use Rattle.pac_main.specs.Stop.{line_of, status_of, stop_of_excess, stop_of_input, stop_of_log}
use Rattle.pac_main.specs.Streams.{AnyFaulted, IsOneOf, IsReported, Observed}
use Rattle.pac_main.specs.declared.image_log.ImageLog.{ImageLog}
use Rattle.pac_main.specs.declared.image_log.LogFault.{LogFault}
use Rattle.pac_main.specs.declared.image_log.LogFault.TheVariants as log
use Rattle.pac_main.specs.declared.input.InputError.{InputError}
use Rattle.pac_main.specs.declared.input.InputError.TheVariants as input
use Rattle.pac_main.specs.declared.stop.Stop.{Stop}
use Rattle.pac_main.specs.declared.stop.Stop.TheVariants.{Usage, Script as ScriptStop, NotEmpty, NoStore, Damaged, Aborted, RowsOver, InputFault, OutputFault, DiskFault, NoMemory, LogFull, TooLong, TooLarge, Image}
use Rattle.pac_main.proofs.InputLemmas.{of-input, some_is}
use Rattle.pac_main.proofs.StatusLemmas.{AnImage, ARefusal, input_of, long_of, never_done, output_of, over_of, unread_of}
use Rattle.pac_main.proofs.StopLemmas.{Reported, reported_cause}

-- tables over the limit
pub laid-over : (limit : ℕ) (log : ImageLog) (excess : TooManyRows) → IsFirstOver limit log.catalogue.tables (laid_tables log) excess.table excess.rows → excess.limit ≡ limit → LayingStops limit log (stop_of_excess excess)
laid-over limit log excess over is = (over, is)

module _ (limit : ℕ) (source sink : Observed) where
  pub lay-unread : (error : InputError) → IsUnread source error → LayStops limit source sink (stop_of_input error)
  lay-unread input.Failed h = h
  lay-unread input.TooLong h = h
  lay-unread (input.Script fault) h = absurd h
  lay-unread input.NoMemory h = tt

  module _ (text : List ℕ) (whole : IfSome source.before (λ all. all ≡ text)) where
    -- what is said of the text that was read is said of the input
    pub read-so : (answer : LogAnswer) → IsLogReadAs text answer → IfSome source.before (λ t. IsLogReadAs t answer)
    read-so answer h = of-input (λ (t : List ℕ). IsLogReadAs t answer) source.before text whole h

    pub lay-refused : (error : Refusal LogFault) → ((fault : LogFault) → ◌≡◌ {A = Result ImageLog (Refusal LogFault)} (Err error) (Err (refusal.Fault fault)) → IsLogReadAs text (Err fault)) → LayStops limit source sink (stop_of_log error)
    lay-refused (refusal.Fault (log.Unaccepted fault)) h = read-so (Err (log.Unaccepted fault)) (h (log.Unaccepted fault) refl)
    lay-refused (refusal.Fault (log.Image fault)) h = read-so (Err (log.Image fault)) (h (log.Image fault) refl)
    lay-refused refusal.NoMemory h = tt

    pub laying-stops : (laid : ImageLog) (stop : Stop) → IsLogReadAs text (Ok laid) → LayingStops limit laid stop → LayStops limit source sink stop
    laying-stops laid Usage is h = absurd h
    laying-stops laid (ScriptStop fault) is h = absurd h
    laying-stops laid (NotEmpty device length) is h = absurd h
    laying-stops laid NoStore is h = absurd h
    laying-stops laid (Damaged damage) is h = absurd h
    laying-stops laid (Aborted note) is h = absurd h
    laying-stops laid (RowsOver name rows most) is h = ((laid, read-so (Ok laid) is, h.0), h.1)
    laying-stops laid InputFault is h = absurd h
    laying-stops laid OutputFault is h = absurd h
    laying-stops laid DiskFault is h = absurd h
    laying-stops laid NoMemory is h = tt
    laying-stops laid (LogFull need) is h = absurd h
    laying-stops laid TooLong is h = absurd h
    laying-stops laid (TooLarge bytes) is h = absurd h
    laying-stops laid (Image fault) is h = absurd h

  lay_status : (stop : Stop) → LayStops limit source sink stop → IsOneOf (status_of stop) (0 ∷ 2 ∷ 5 ∷ 6 ∷ 7 ∷ 9 ∷ 11 ∷ [])
  lay_status Usage h = absurd h
  lay_status (ScriptStop fault) h = refl
  lay_status (NotEmpty device length) h = absurd h
  lay_status NoStore h = absurd h
  lay_status (Damaged damage) h = absurd h
  lay_status (Aborted note) h = absurd h
  lay_status (RowsOver name rows most) h = refl
  lay_status InputFault h = refl
  lay_status OutputFault h = refl
  lay_status DiskFault h = absurd h
  lay_status NoMemory h = refl
  lay_status (LogFull need) h = absurd h
  lay_status TooLong h = refl
  lay_status (TooLarge bytes) h = absurd h
  lay_status (Image fault) h = refl

  -- a log that is laid to its end, within the limit
  module _ (text : List ℕ) (holds : IsLaidInLimit limit text) (is : source.before ≡ Some text) where
    log_same : (x y : ImageLog) → ◌≡◌ {A = LogAnswer} (Ok x) (Ok y) → x ≡ y
    log_same x y e = cc

    same_log : (laid : ImageLog) → IfSome source.before (λ t. IsLogReadAs t (Ok laid)) → laid ≡ holds.log
    same_log laid reads =
        let read : IsLogReadAs text (Ok laid) = subst (λ (o : Option (List ℕ)). IfSome o (λ t. IsLogReadAs t (Ok laid))) is reads in
        log_same laid holds.log (sym (read.only (Ok holds.log) holds.says))

    no_refusal : (fault : LogFault) → IsNoLogFor source.before fault → ⊥
    no_refusal fault refused =
        let read : IsLogReadAs text (Err fault) = subst (λ (o : Option (List ℕ)). IsNoLogFor o fault) is refused in
        let no : ◌≡◌ {A = LogAnswer} (Ok holds.log) (Err fault) = read.only (Ok holds.log) holds.says in
        absurd cc

    no_text : (fault : ScriptFault) → IsOfCatalogue (λ f. IsNoLogFor source.before (log.Unaccepted f)) fault → ⊥
    no_text (script.Unaccepted f) h = no_refusal (log.Unaccepted f) h
    no_text (script.Line number f) h = h

    none_over : (name : List ℕ) (rows : ℕ) → IsLaidOverOf limit source.before name rows → ⊥
    none_over name rows over =
        let none : first_over limit (length over.0.catalogue.tables) (laid_tables over.0) ≡ None = ap (first_laid_over limit) (same_log over.0 over.1) ∙ holds.within in
        let some = over.2.1 in
        absurd cc

    not_long : IsLongScript source.before → ⊥
    not_long long = let longer : MAX_INPUT < length text = subst (λ (o : Option (List ℕ)). IsLongScript o) is long in omega (arith, longer, holds.short)

    lays : (stop : Stop) → LayStops limit source sink stop → (AnyFaulted source → ⊥) → (AnyFaulted sink → ⊥) → IsOneOf (status_of stop) (0 ∷ 9 ∷ [])
    lays Usage h reads writes = absurd h
    lays (ScriptStop fault) h reads writes = absurd (no_text fault h)
    lays (NotEmpty device length) h reads writes = absurd h
    lays NoStore h reads writes = absurd h
    lays (Damaged damage) h reads writes = absurd h
    lays (Aborted note) h reads writes = absurd h
    lays (RowsOver name rows most) h reads writes = absurd (none_over name rows h.0)
    lays InputFault h reads writes = absurd (reads h)
    lays OutputFault h reads writes = absurd (writes h.0)
    lays DiskFault h reads writes = absurd h
    lays NoMemory h reads writes = refl
    lays (LogFull need) h reads writes = absurd h
    lays TooLong h reads writes = absurd (not_long h)
    lays (TooLarge bytes) h reads writes = absurd h
    lays (Image fault) h reads writes = absurd (no_refusal (log.Image fault) h)

  lay_complete : (stop : Stop) → LayStops limit source sink stop → IsSomeAnd source.before (IsLaidInLimit limit) → (AnyFaulted source → ⊥) → (AnyFaulted sink → ⊥) → IsOneOf (status_of stop) (0 ∷ 9 ∷ [])
  lay_complete stop h given = let known = some_is (IsLaidInLimit limit) source.before given in lays known.0 known.2 known.1 stop h

  module _ (errors : Observed) where
    -- a refused catalogue's text
    text_line : (fault : ScriptFault) → IsOfCatalogue (λ f. IsNoLogFor source.before (log.Unaccepted f)) fault → IsReported errors (line_of (ScriptStop fault)) → (f : LogFault) × IsNoLogFor source.before f × IsReported errors (log_fault_line f)
    text_line (script.Unaccepted f) h line = (log.Unaccepted f, h, line)
    text_line (script.Line number f) h line = absurd h

    refused_line : (stop : Stop) → LayStops limit source sink stop → IsReported errors (line_of stop) → ARefusal stop ⊎ AnImage stop → (f : LogFault) × IsNoLogFor source.before f × IsReported errors (log_fault_line f)
    refused_line stop cause line (inl r) = text_line r.fault (subst (LayStops limit source sink) r.is cause) (subst (λ (s : Stop). IsReported errors (line_of s)) r.is line)
    refused_line stop cause line (inr r) = (log.Image r.fault, subst (LayStops limit source sink) r.is cause, subst (λ (s : Stop). IsReported errors (line_of s)) r.is line)

    laid_reported : (stop : Stop) → LayStops limit source sink stop → IsReported errors (line_of stop) → LayEnds limit (status_of stop) source sink errors
    laid_reported stop cause line = record {
      statuses = lay_status stop cause;
      done = λ zero. absurd (never_done stop zero);
      refused = λ two. refused_line stop cause line (unread_of stop two);
      over_limit = λ five.
          let o = over_of stop five in
          let why = subst (LayStops limit source sink) o.is cause in
          (o.name, o.rows, why.0, subst (λ (n : ℕ). IsReported errors (line_of (RowsOver o.name o.rows n))) why.1 (subst (λ (s : Stop). IsReported errors (line_of s)) o.is line));
      input_fault = λ six. subst (LayStops limit source sink) (input_of stop six) cause;
      output_fault = λ seven. subst (LayStops limit source sink) (output_of stop seven) cause;
      too_long = λ eleven. subst (LayStops limit source sink) (long_of stop eleven) cause;
      complete = lay_complete stop cause;
    }

    pub lay-ends : (stop reported : Stop) (status : ℕ) → status ≡ status_of reported → Reported stop reported → LayStops limit source sink stop → IsReported errors (line_of reported) → LayEnds limit status source sink errors
    lay-ends stop reported status is which cause line =
        subst (λ (n : ℕ). LayEnds limit n source sink errors) (sym is) (laid_reported reported (reported_cause (LayStops limit source sink) stop reported which tt cause) line)
