-- The loop over lines, as its calls answer.
use Rattle.std.proofs.Common.{◌≡◌, ◌∙◌, ℕ, ◌+◌, ◌-◌, ◌<◌, ◌≤◌, Bool, true, false, List, [], ◌∷◌, length, Option, Some, None, Result, Ok, Err, OnOk, inr, refl, sym, ap, subst, arith}
use Rattle.std.specs.Prelude.{IsErrOf}
use Rattle.std.proofs.KnownBytes.{prepend_known-nil}
use Rattle.pac_outside.specs.Causes.{Faulted}
use Rattle.pac_outside.specs.Disk.{DiskHistory}
use Rattle.pac_outside.specs.declared.devices.Devices.{Devices}
use Rattle.pac_lines.specs.Calls.{IsCall, KeepsLimit}
use Rattle.pac_lines.specs.Reading.{ReaderState}
use Rattle.pac_lines.specs.Short.{IsShortOf, ShortState}
use Rattle.pac_lines.specs.declared.line_error.LineError.{LineError}
use Rattle.pac_types.specs.Typing.{CatalogueState}
use Rattle.pac_request.specs.declared.request.Request.{Request}
use Rattle.pac_request.specs.declared.request.Request.TheVariants as request
use Rattle.pac_session.specs.Session.{Rules, ends}
use Rattle.pac_session.specs.Groups.{GroupCut, all_requests, cut}
use Rattle.pac_session.specs.Open.{rules_of, state_now}
use Rattle.pac_engine.specs.declared.parts.EngineParts.{EngineParts}
use Rattle.pac_engine.specs.Standing.{durable_of}
use Rattle.pac_run.specs.declared.limits.TheConstants.{MAX_INPUT}
use Rattle.pac_run.specs.declared.stop.RunStop.{RunStop}
use Rattle.pac_run.specs.declared.stop.RunStop.TheVariants.{InputFault, NoMemory}
use Rattle.pac_run.specs.Asked.{WereHandled}
use Rattle.pac_run.specs.Causes.{stop_of_read}
use Rattle.pac_run.specs.Serving.{Broke, HasRead, LineBroke, LineServed, Replied, Served, Serving}
use Rattle.pac_run.proofs.AnswerLemmas.{nothing-stands}
use Rattle.pac_run.proofs.LoopLemmas.{end-broke, end-served, line-broke, line-stopped, read-stopped}
use Rattle.pac_run.proofs.ReadLemmas.{first-read, more-read}
use Rattle.pac_run.proofs.ShortLines.{broke_whole, cut_line, served_whole, short_falls}
use Rattle.pac_run.proofs.ServeLemmas.{serving-more, still-served, took-nothing}
use Rattle.pac_run.proofs.StepLemmas.{goes-first}

-- before the first line
abbrev pub first-serving : (engine : EngineParts) (left held : Option (List ℕ)) (known : Devices (Option DiskHistory)) (reader : ReaderState) → engine.session.txns ≡ [] → engine.session.held ≡ [] → durable_of engine ≡ engine.session.before → reader ≡ record { line = []; ahead = []; taken = 0; limit = MAX_INPUT }
    → Serving engine engine left left reader held held known known
first-serving engine left held known reader none empty durable is = record {
  lines = [];
  read = subst (λ (r : ReaderState). HasRead left left r []) (sym is) (first-read left);
  requests = [];
  asked = refl;
  unstopped = tt;
  given = [];
  took = took-nothing held;
  goes = goes-first engine known none empty (nothing-stands engine known) durable;
}

module _ (first now : EngineParts) (left mid left' : Option (List ℕ)) (reader next : ReaderState) (held held' held'' : Option (List ℕ)) (known known' known'' : Devices (Option DiskHistory)) (serving : Serving first now left mid reader held held' known known') (new : EngineParts)
    (catalogue : CatalogueState) (same : catalogue ≡ first.session.catalogue) where
  pub end-any : (b : Bool) → b ≡ false → IsCall reader next mid left' (Ok b) → KeepsLimit next (Ok b) → (faulted faulted' : Type 0) → (faulted' → faulted) → (result : Result (Unit {0}) RunStop) → OnOk result (Replied catalogue (request.Stop ∷ []) now new held' held'' known' known'')
      → ((stop : RunStop) → IsErrOf result stop → Broke catalogue request.Stop now new held' held'' known' known'' faulted' stop) → Served first new left left' held held'' known known'' faulted result
  end-any b is call keeps faulted faulted' later (Ok x) ok err =
      end-served first now left mid reader held held' known known' serving left' next faulted held'' known'' new (subst (λ (t : Bool). IsCall reader next mid left' (Ok t)) is call) (subst (λ (t : Bool). KeepsLimit next (Ok t)) is keeps)
      (subst (λ (c : CatalogueState). Replied c (request.Stop ∷ []) now new held' held'' known' known'') same ok)
  end-any b is call keeps faulted faulted' later (Err stop) ok err =
      end-broke first now left mid reader held held' known known' serving left' next faulted held'' known'' new (subst (λ (t : Bool). IsCall reader next mid left' (Ok t)) is call) (subst (λ (t : Bool). KeepsLimit next (Ok t)) is keeps)
      faulted' stop later (subst (λ (c : CatalogueState). Broke c request.Stop now new held' held'' known' known'' faulted' stop) same (err stop refl))

  module _ (b : Bool) (is : b ≡ true) (call : IsCall reader next mid left' (Ok b)) (keeps : KeepsLimit next (Ok b)) (text : List ℕ) (line : text ≡ cut_line next.line) where
    call-is : IsCall reader next mid left' (Ok true)
    call-is = subst (λ (t : Bool). IsCall reader next mid left' (Ok t)) is call

    keeps-is : KeepsLimit next (Ok true)
    keeps-is = subst (λ (t : Bool). KeepsLimit next (Ok t)) is keeps

    pub broke-any : (faulted faulted' : Type 0) → (faulted' → faulted) → (result : Result (Unit {0}) RunStop) (stop : RunStop) → result ≡ Err stop → LineBroke catalogue text now new held' held'' known' known'' faulted' stop → Served first new left left' held held'' known known'' faulted result
    broke-any faulted faulted' later result stop gives broke = subst (λ (r : Result (Unit {0}) RunStop). Served first new left left' held held'' known known'' faulted r) (sym gives)
        (line-broke first now left mid reader held held' known known' serving left' next faulted held'' known'' new call-is keeps-is faulted' stop later
        (broke_whole first.session.catalogue next.line now new held' held'' known' known'' faulted' stop
        (subst (λ (l : List ℕ). LineBroke first.session.catalogue l now new held' held'' known' known'' faulted' stop) line (subst (λ (c : CatalogueState). LineBroke c text now new held' held'' known' known'' faulted' stop) same broke))))

    line-is : (stops : Bool) → LineServed catalogue text stops now new held' held'' known' known'' → LineServed first.session.catalogue next.line stops now new held' held'' known' known''
    line-is stops served = served_whole first.session.catalogue next.line stops now new held' held'' known' known''
        (subst (λ (l : List ℕ). LineServed first.session.catalogue l stops now new held' held'' known' known'') line (subst (λ (c : CatalogueState). LineServed c text stops now new held' held'' known' known'') same served))

    pub stopped-any : (faulted : Type 0) (stops : Bool) → stops ≡ true → LineServed catalogue text stops now new held' held'' known' known'' → Served first new left left' held held'' known known'' faulted (Ok tt)
    stopped-any faulted stops stopping served = line-stopped first now left mid reader held held' known known' serving left' next faulted held'' known'' new call-is keeps-is
        (subst (λ (t : Bool). LineServed first.session.catalogue next.line t now new held' held'' known' known'') stopping (line-is stops served))

    pub more-any : (stops : Bool) → stops ≡ false → LineServed catalogue text stops now new held' held'' known' known'' → Serving first new left left' next held held'' known known''
    more-any stops going served = serving-more first now left mid reader held held' known known' serving left' held'' known'' next new call-is keeps-is
        (subst (λ (t : Bool). LineServed first.session.catalogue next.line t now new held' held'' known' known'') going (line-is stops served))

    pub falls-any : (held now' : ShortState) → IsShortOf reader held → IsShortOf next now' → length now'.state.ahead + now'.state.limit - now'.state.taken < length held.state.ahead + held.state.limit - held.state.taken
    falls-any held now' short after =
        let read = more-read left mid left' reader next serving.lines serving.read call-is keeps-is in
        let less = short_falls reader next held now' mid left' short call-is after in
        omega (arith, less, read.within, read.limit, serving.read.within, serving.read.limit, short.taken, short.limit, after.taken, after.limit)

-- the catalogue stays the same
pub catalogue-stays : (catalogue : CatalogueState) (old new : EngineParts) (text : List ℕ) (stops : Bool) (c : CatalogueState) (held held' : Option (List ℕ)) (known known' : Devices (Option DiskHistory)) → catalogue ≡ old.session.catalogue → LineServed c text stops old new held held' known known' → catalogue ≡ new.session.catalogue
catalogue-stays catalogue old new text stops c held held' known known' same served = same ∙ ap (λ (r : Rules). r.catalogue) (sym served.replied.answered.same)

-- where nothing could be served
pub nothing-served : (engine : EngineParts) (left held : Option (List ℕ)) (known : Devices (Option DiskHistory)) (faulted : Type 0) (result : Result (Unit {0}) RunStop) (stop : RunStop) → engine.session.txns ≡ [] → engine.session.held ≡ [] → durable_of engine ≡ engine.session.before → result ≡ Err stop → stop ≡ NoMemory
    → Served engine engine left left held held known known faulted result
nothing-served engine left held known faulted result stop none empty durable gives is =
    let reader : ReaderState = record { line = []; ahead = []; taken = 0; limit = MAX_INPUT } in
    let serving = first-serving engine left held known reader none empty durable refl in
    subst (λ (r : Result (Unit {0}) RunStop). Served engine engine left left held held known known faulted r) (sym (gives ∙ ap (λ (s : RunStop). Err s) is))
    (still-served engine engine left left reader held held known known serving left faulted NoMemory [] (none-handled left) (λ other. record { bytes = []; gave = sym (prepend_known-nil left); few = omega arith }) (λ long. absurd cc) (λ cut. absurd cc) (inr (inr refl)))
  where
    none-handled : (l : Option (List ℕ)) → WereHandled l [] [] l
    none-handled None = tt
    none-handled (Some t) = (t, refl, refl)

pub faulted-later : (a b c : ℕ) → a ≤ b → Faulted b c → Faulted a c
faulted-later a b c later faulted = omega (arith, later, faulted)

pub read-any : (first now : EngineParts) (left mid left' : Option (List ℕ)) (reader next : ReaderState) (held held' : Option (List ℕ)) (known known' : Devices (Option DiskHistory)) → Serving first now left mid reader held held' known known' → (faulted : Type 0) (error : LineError) (stop : RunStop) → stop ≡ stop_of_read error
    → IsCall reader next mid left' (Err error) → KeepsLimit next (Err error) → Served first now left left' held held' known known' faulted (Err stop)
read-any first now left mid left' reader next held held' known known' serving faulted error stop is call keeps =
    subst (λ (s : RunStop). Served first now left left' held held' known known' faulted (Err s)) (sym is) (read-stopped first now left mid reader held held' known known' serving left' next faulted error call keeps)

-- a request is never refused by the input
pub never-input : (first now : EngineParts) (left mid : Option (List ℕ)) (reader : ReaderState) (held held' held'' : Option (List ℕ)) (known known' known'' : Devices (Option DiskHistory)) → Serving first now left mid reader held held' known known' → (catalogue : CatalogueState) (asked : Request) (new : EngineParts) (faulted : Type 0)
    → Broke catalogue asked now new held' held'' known' known'' faulted InputFault → ⊥
never-input first now left mid reader held held' held'' known known' known'' serving catalogue asked new faulted broke =
    let whole : GroupCut = cut (rules_of first.session) (state_now first.session) serving.requests in
    broke.stops (ends (rules_of first.session) (state_now first.session) (all_requests whole.closed)) whole.rest serving.goes.closes.within
