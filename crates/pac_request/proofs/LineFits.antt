-- What a line of a script asks fits the catalogue.
use Rattle.std.proofs.Common.{◌≡◌, ℕ, inl, inr, List, Option, Result, Ok, Err, sym}
use Rattle.pac_types.specs.Typing.{CatalogueState}
use Rattle.pac_request.specs.RequestFits.{AskedFits}
use Rattle.pac_request.specs.RequestMeaning.{request_of_tokens}
use Rattle.pac_request.specs.ScriptLines.{ScriptLineSays}
use Rattle.pac_request.specs.declared.fault.LineFault.{LineFault}
use Rattle.pac_request.specs.declared.node.LineNode.{LineNode}
use Rattle.pac_request.specs.declared.request.Request.{Request}
use Rattle.pac_request.proofs.RequestFitLemmas.{asked_fits}

tokens_fit : (catalogue : CatalogueState) (asked : Option Request) (said : Result LineNode LineFault) → request_of_tokens catalogue said ≡ Ok asked → AskedFits catalogue asked
tokens_fit catalogue asked (Ok node) e = asked_fits catalogue node asked e
tokens_fit catalogue asked (Err fault) e = absurd cc

no_fault : (asked : Option Request) (fault : LineFault) → ◌≡◌ {A = Result (Option Request) LineFault} (Ok asked) (Err fault) → ⊥
no_fault asked fault e = cc

pub line_fits : (catalogue : CatalogueState) (line : List ℕ) (asked : Option Request) → ScriptLineSays catalogue line (Ok asked) → AskedFits catalogue asked
line_fits catalogue line asked (inl h) = absurd (no_fault asked _ h.1)
line_fits catalogue line asked (inr (inl h)) = absurd (no_fault asked _ h.2)
line_fits catalogue line asked (inr (inr h)) = tokens_fit catalogue asked h.1.said (sym h.1.answers)
