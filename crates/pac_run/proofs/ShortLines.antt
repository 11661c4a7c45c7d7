-- A reader that leaves bytes of long lines out, beside one that leaves nothing out: a line says the same, and each takes a byte.
use Rattle.std.proofs.Common.{◌≡◌, ◌⊎◌, ℕ, ◌+◌, ◌<◌, ◌≤◌, Bool, true, false, ltb, List, [], ◌∷◌, ◌++◌, length, take, Option, Result, Ok, inl, inr, refl, sym, ap, subst, ◌∙◌, arith}
use Rattle.std.proofs.lemmas.Bool.{ltb-true, ltb-false}
use Rattle.std.proofs.lemmas.List.{length-append, length-take-le, take_all}
use Rattle.pac_outside.specs.Content.{IsAtEnd}
use Rattle.pac_outside.specs.Disk.{DiskHistory}
use Rattle.pac_outside.specs.declared.devices.Devices.{Devices}
use Rattle.pac_lines.specs.Calls.{IsCall, KeepsLimit}
use Rattle.pac_lines.specs.Lines.{IsEndedLine, IsLastLine}
use Rattle.pac_lines.specs.Reading.{ReaderState}
use Rattle.pac_lines.specs.Short.{IsShort, IsShortOf, ShortState}
use Rattle.pac_lines.specs.declared.line_error.LineError.{LineError}
use Rattle.pac_types.specs.Typing.{CatalogueState}
use Rattle.pac_request.specs.declared.request.Request.{Request}
use Rattle.pac_request.specs.declared.limits.TheConstants.{MAX_LINE}
use Rattle.pac_request.specs.LineReading.{LineAnswer, LineSays}
use Rattle.pac_engine.specs.declared.parts.EngineParts.{EngineParts}
use Rattle.pac_run.specs.declared.stop.RunStop.{RunStop}
use Rattle.pac_run.specs.Asked.{LineAsks}
use Rattle.pac_run.specs.Serving.{LineBroke, LineServed}
use Rattle.pac_run.proofs.ReadLemmas.{feed-behind}

-- ---- what a line says

-- as many bytes of a line as show that it is too long
abbrev pub cut_line : List ℕ → List ℕ
cut_line line = take (MAX_LINE + 1) line

-- they say what the line does
says_whole : (catalogue : CatalogueState) (line : List ℕ) (answer : LineAnswer) → LineSays catalogue (cut_line line) answer → LineSays catalogue line answer
says_whole catalogue line answer says = go (ltb MAX_LINE (length line)) refl
  where
    go : (b : Bool) → ltb MAX_LINE (length line) ≡ b → LineSays catalogue line answer
    go true over = long says
      where
        more : MAX_LINE < length line
        more = ltb-true MAX_LINE (length line) over

        long : LineSays catalogue (cut_line line) answer → LineSays catalogue line answer
        long (inl is) = inl (more, is.1)
        long (inr asks) = absurd (omega (arith, asks.are.short, more, length-take-le (MAX_LINE + 1) line (omega (arith, more))))
    go false short = subst (λ (l : List ℕ). LineSays catalogue l answer) (take_all (MAX_LINE + 1) line (omega (arith, ltb-false MAX_LINE (length line) short))) says

asks_whole : (catalogue : CatalogueState) (line : List ℕ) (asked : List Request) → LineAsks catalogue (cut_line line) asked → LineAsks catalogue line asked
asks_whole catalogue line asked asks = record { answer = asks.answer; says = says_whole catalogue line asks.answer asks.says; is = asks.is }

pub served_whole : (catalogue : CatalogueState) (line : List ℕ) (stops : Bool) (old new : EngineParts) (held held' : Option (List ℕ)) (known known' : Devices (Option DiskHistory)) → LineServed catalogue (cut_line line) stops old new held held' known known'
    → LineServed catalogue line stops old new held held' known known'
served_whole catalogue line stops old new held held' known known' served = record { asked = served.asked; asks = asks_whole catalogue line served.asked served.asks; stop = served.stop; replied = served.replied }

pub broke_whole : (catalogue : CatalogueState) (line : List ℕ) (old new : EngineParts) (held held' : Option (List ℕ)) (known known' : Devices (Option DiskHistory)) (faulted : Type 0) (stop : RunStop) → LineBroke catalogue (cut_line line) old new held held' known known' faulted stop
    → LineBroke catalogue line old new held held' known known' faulted stop
broke_whole catalogue line old new held held' known known' faulted stop (inl same) = inl same
broke_whole catalogue line old new held held' known known' faulted stop (inr broke) = inr (broke.0, asks_whole catalogue line (broke.0 ∷ []) broke.1, broke.2)

-- ---- how far it is read

pub keeps_whole : (whole : ReaderState) (now : ShortState) (result : Result Bool LineError) → IsShortOf whole now → KeepsLimit now.state result → KeepsLimit whole result
keeps_whole whole now result short keeps = record {
  most = omega (arith, keeps.most, short.taken, short.limit);
  long = (λ is. let over = keeps.long.0 is in omega (arith, over, short.taken, short.limit), λ over. keeps.long.1 (omega (arith, over, short.taken, short.limit)));
}

-- what is held is no more than all
no_more : (most : ℕ) (text held : List ℕ) → IsShort most text held → length held ≤ length text
no_more most text held short = omega (
  arith,
  ap (λ (t : List ℕ). length t) short.text_is,
  ap (λ (t : List ℕ). length t) short.held_is,
  length-append short.head (short.dropped ++ short.more),
  length-append short.dropped short.more,
  length-append short.head short.more,
)

-- a line takes a byte at least of what is held or read
pub short_falls : (before next : ReaderState) (reader now : ShortState) (left left' : Option (List ℕ)) → IsShortOf before reader → IsCall before next left left' (Ok true) → IsShortOf next now
    → length now.state.ahead + reader.state.taken < length reader.state.ahead + now.state.taken
short_falls before next reader now left left' short call after = by call.answer
  where
    head : List ℕ
    head = short.ahead.head

    dropped : List ℕ
    dropped = short.ahead.dropped

    more : List ℕ
    more = short.ahead.more

    few : length now.state.ahead ≤ length next.ahead
    few = no_more now.most next.ahead now.state.ahead after.ahead

    held : length reader.state.ahead ≡ length head + length more
    held = ap (λ (t : List ℕ). length t) short.ahead.held_is ∙ length-append head more

    all : length (before.ahead ++ call.given) ≡ length head + (length dropped + length more) + length call.given
    all = length-append before.ahead call.given ∙ ap (λ (n : ℕ). n + length call.given) (ap (λ (t : List ℕ). length t) short.ahead.text_is ∙ length-append head (dropped ++ more) ∙ ap (λ (n : ℕ). length head + n) (length-append dropped more))

    append_assoc : (xs ys zs : List ℕ) → (xs ++ ys) ++ zs ≡ xs ++ (ys ++ zs)
    append_assoc [] ys zs = refl
    append_assoc (x ∷ xs) ys zs = ap (λ (t : List ℕ). x ∷ t) (append_assoc xs ys zs)

    split : before.ahead ++ call.given ≡ (head ++ dropped) ++ (more ++ call.given)
    split = ap (λ (t : List ℕ). t ++ call.given) (short.ahead.text_is ∙ sym (append_assoc head dropped more)) ∙ append_assoc (head ++ dropped) more call.given

    some : (xs : List ℕ) → (xs ≡ [] → ⊥) → 0 < length xs
    some [] not = absurd (not refl)
    some (x ∷ xs) not = omega arith

    by : IsEndedLine (before.ahead ++ call.given) next.line next.ahead ⊎ (IsLastLine (before.ahead ++ call.given) next.line next.ahead × IsAtEnd left') → length now.state.ahead + reader.state.taken < length reader.state.ahead + now.state.taken
    by (inl ended) =
        let reach = feed-behind (head ++ dropped) next.line (more ++ call.given) next.ahead short.ahead.none (sym split ∙ ended.split) in
        omega (arith, reach, length-append head dropped, all, ap (λ (t : List ℕ). length t) ended.split, length-append next.line (10 ∷ next.ahead), few, held, call.counted, short.taken, after.taken)
    by (inr last) = go short.ahead.long
      where
        whole : 0 < length next.line
        whole = some next.line last.0.some

        go : (dropped ≡ []) ⊎ (reader.most < length head) → length now.state.ahead + reader.state.taken < length reader.state.ahead + now.state.taken
        go (inl none) = omega (arith, whole, all, ap (λ (t : List ℕ). length t) last.0.all, ap (λ (t : List ℕ). length t) last.0.end, ap (λ (t : List ℕ). length t) none, few, held, call.counted, short.taken, after.taken)
        go (inr many) = omega (arith, many, ap (λ (t : List ℕ). length t) last.0.end, few, held, call.counted, short.taken, after.taken)
