-- The ways in which the loop over lines ends.
use Rattle.std.proofs.Common.{◌≡◌, ◌<◌, inl, inr, ℕ, Bool, true, false, List, [], ◌∷◌, ◌++◌, length, Option, Result, Ok, Err, refl, sym, ap, subst, arith}
use Rattle.std.specs.Prelude.{IsErrOf}
use Rattle.pac_outside.specs.Disk.{DiskHistory}
use Rattle.pac_outside.specs.declared.devices.Devices.{Devices}
use Rattle.pac_lines.specs.Calls.{IsCall, KeepsLimit}
use Rattle.pac_lines.specs.Reading.{ReaderState}
use Rattle.pac_lines.specs.declared.limits.TheConstants.{MAX_READ}
use Rattle.pac_lines.specs.declared.line_error.LineError.{LineError}
use Rattle.pac_lines.specs.declared.line_error.LineError.TheVariants as line
use Rattle.pac_request.specs.declared.request.Request.{Request}
use Rattle.pac_request.specs.declared.request.Request.TheVariants as request
use Rattle.pac_engine.specs.declared.parts.EngineParts.{EngineParts}
use Rattle.pac_run.specs.declared.stop.RunStop.{RunStop}
use Rattle.pac_run.specs.declared.stop.RunStop.TheVariants.{InputFault, NoMemory, TooLong}
use Rattle.pac_run.specs.Asked.{LinesAsk}
use Rattle.pac_run.specs.Causes.{stop_of_read}
use Rattle.pac_run.specs.Serving.{Broke, HasRead, LineBroke, LineServed, Replied, Served, Serving}
use Rattle.pac_run.proofs.ReadLemmas.{at-end, lines-ask, more-read, not-long, over-long, still-handled}
use Rattle.pac_run.proofs.ServeLemmas.{broke-served, still-served, stop-served}

module _ (first now : EngineParts) (left mid : Option (List ℕ)) (reader : ReaderState) (held held' : Option (List ℕ)) (known known' : Devices (Option DiskHistory)) (serving : Serving first now left mid reader held held' known known') where
  no-long : (e : LineError) → (e ≡ line.TooLong → ⊥) → IsErrOf {T = Bool} (Err e) line.TooLong → ⊥
  no-long e other is = other (same is)
    where
      same : ◌≡◌ {A = Result Bool LineError} (Err e) (Err line.TooLong) → e ≡ line.TooLong
      same h = cc

  ok-no-long : (b : Bool) → IsErrOf {T = Bool} {E = LineError} (Ok b) line.TooLong → ⊥
  ok-no-long b is = cc

  module _ (left' : Option (List ℕ)) (next : ReaderState) (faulted : Type 0) where
    -- the next line was not read
    pub read-stopped : (error : LineError) → IsCall reader next mid left' (Err error) → KeepsLimit next (Err error) → Served first now left left' held held' known known' faulted (Err (stop_of_read error))
    read-stopped line.Failed call keeps =
        still-served first now left mid reader held held' known known' serving left' faulted InputFault (reader.ahead ++ call.given) (still-handled left mid left' reader next serving.lines serving.read (Err line.Failed) call)
        (λ other. not-long left mid left' reader next serving.lines serving.read (Err line.Failed) call keeps (no-long line.Failed (λ e. cc))) (λ is. absurd cc) (λ is. call.answer.1) (inl refl)
    read-stopped line.TooLong call keeps =
        still-served first now left mid reader held held' known known' serving left' faulted TooLong (reader.ahead ++ call.given) (still-handled left mid left' reader next serving.lines serving.read (Err line.TooLong) call)
        (λ other. absurd (other refl)) (λ is. over-long left mid left' reader next serving.lines serving.read call keeps) (λ is. absurd cc) (inr (inl refl))
    read-stopped line.NoMemory call keeps =
        still-served first now left mid reader held held' known known' serving left' faulted NoMemory (reader.ahead ++ call.given) (still-handled left mid left' reader next serving.lines serving.read (Err line.NoMemory) call)
        (λ other. not-long left mid left' reader next serving.lines serving.read (Err line.NoMemory) call keeps (no-long line.NoMemory (λ e. cc))) (λ is. absurd cc) (λ is. absurd cc) (inr (inr refl))

    module _ (held'' : Option (List ℕ)) (known'' : Devices (Option DiskHistory)) (new : EngineParts) where
      -- the end was met, and the stop after it was answered or not
      module _ (call : IsCall reader next mid left' (Ok false)) (keeps : KeepsLimit next (Ok false)) where
        none-ahead : length (reader.ahead ++ call.given) < MAX_READ
        none-ahead = omega (arith, ap (λ (t : List ℕ). length t) call.answer.1)

        pub end-served : Replied first.session.catalogue (request.Stop ∷ []) now new held' held'' known' known'' → Served first new left left' held held'' known known'' faulted (Ok tt)
        end-served replied = stop-served first now left mid reader held held' known known' serving left' held'' known'' new faulted serving.lines (reader.ahead ++ call.given)
            (still-handled left mid left' reader next serving.lines serving.read (Ok false) call) (not-long left mid left' reader next serving.lines serving.read (Ok false) call keeps (ok-no-long false)) none-ahead
            (inr (serving.requests, serving.asked, refl, at-end left mid left' reader next serving.lines serving.read call)) replied

        pub end-broke : (faulted' : Type 0) (stop : RunStop) → (faulted' → faulted) → Broke first.session.catalogue request.Stop now new held' held'' known' known'' faulted' stop → Served first new left left' held held'' known known'' faulted (Err stop)
        end-broke faulted' stop later broke = broke-served first now left mid reader held held' known known' serving left' held'' known'' new request.Stop faulted faulted' stop serving.lines (reader.ahead ++ call.given)
            (still-handled left mid left' reader next serving.lines serving.read (Ok false) call) (not-long left mid left' reader next serving.lines serving.read (Ok false) call keeps (ok-no-long false)) none-ahead
            (inr (serving.requests, serving.asked, refl, at-end left mid left' reader next serving.lines serving.read call)) later broke

      -- a line was served, and is a stop; or it was not served
      module _ (call : IsCall reader next mid left' (Ok true)) (keeps : KeepsLimit next (Ok true)) where
        abbrev read : HasRead left left' next (serving.lines ++ next.line ∷ [])
        read = more-read left mid left' reader next serving.lines serving.read call keeps

        pub line-stopped : LineServed first.session.catalogue next.line true now new held' held'' known' known'' → Served first new left left' held held'' known known'' faulted (Ok tt)
        line-stopped served = stop-served first now left mid reader held held' known known' serving left' held'' known'' new faulted (serving.lines ++ next.line ∷ []) next.ahead
            read.handed (not-long left mid left' reader next serving.lines serving.read (Ok true) call keeps (ok-no-long true)) read.short
            (inl (subst (λ (l : List Request). LinesAsk first.session.catalogue (serving.lines ++ next.line ∷ []) (serving.requests ++ l)) served.stop (lines-ask first.session.catalogue serving.lines next.line serving.requests served.asked serving.asked served.asks)))
            (subst (λ (l : List Request). Replied first.session.catalogue l now new held' held'' known' known'') served.stop served.replied)

        pub line-broke : (faulted' : Type 0) (stop : RunStop) → (faulted' → faulted) → LineBroke first.session.catalogue next.line now new held' held'' known' known'' faulted' stop → Served first new left left' held held'' known known'' faulted (Err stop)
        line-broke faulted' stop later (inr broke) = broke-served first now left mid reader held held' known known' serving left' held'' known'' new broke.0 faulted faulted' stop (serving.lines ++ next.line ∷ []) next.ahead
            read.handed (not-long left mid left' reader next serving.lines serving.read (Ok true) call keeps (ok-no-long true)) read.short
            (inl (lines-ask first.session.catalogue serving.lines next.line serving.requests (broke.0 ∷ []) serving.asked broke.1)) later broke.2
        line-broke faulted' stop later (inl same) =
            subst (λ (e : EngineParts). Served first e left left' held held'' known known'' faulted (Err stop)) (sym same.engine)
            (subst (λ (h : Option (List ℕ)). Served first now left left' held h known known'' faulted (Err stop)) (sym same.output)
            (subst (λ (t : Devices (Option DiskHistory)). Served first now left left' held held' known t faulted (Err stop)) (sym same.devices)
            (subst (λ (s : RunStop). Served first now left left' held held' known known' faulted (Err s)) (sym same.stopped)
            (still-served first now left mid reader held held' known known' serving left' faulted NoMemory (reader.ahead ++ call.given) (still-handled left mid left' reader next serving.lines serving.read (Ok true) call)
            (λ other. not-long left mid left' reader next serving.lines serving.read (Ok true) call keeps (ok-no-long true)) (λ is. absurd cc) (λ is. absurd cc) (inr (inr refl))))))
