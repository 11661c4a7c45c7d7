-- The texts of replies.
use Rattle.std.specs.Prelude.{◌≡◌, ◌⊎◌, ◌<◌, ◌^◌, ℕ, List, take, Option}
use Rattle.std.specs.List.{flat_map}
use Rattle.pac_lines.specs.Lines.{HasNoFeed}
use Rattle.pac_outside.specs.Content.{Took, TookPrefix}
use Rattle.pac_types.specs.Typing.{CatalogueState}
use Rattle.pac_value.specs.Literals.{key_text}
use Rattle.pac_request.specs.declared.request.Reply.{Reply}
use Rattle.pac_request.specs.declared.request.Reply.TheVariants as reply
use Rattle.pac_report.specs.Replies.{reply_text, shown_row}

-- the lines of replies, one after another
abbrev pub texts : CatalogueState → List Reply → List ℕ
texts catalogue replies = flat_map (reply_text catalogue) replies

-- a prefix of a text
pub record IsTextPrefix (prefix text : List ℕ) : Type 0 where
  pub count : ℕ
  pub is : prefix ≡ take count text

-- a reply is written in one line: its numbers have 64 bits, and no line feed stands in the key and the row that it shows
abbrev pub IsPlain : Reply → Type 0
IsPlain (reply.Committed txn) = txn < 2 ^ 64
IsPlain (reply.Aborted op reason) = op < 2 ^ 64
IsPlain (reply.AbortedFull table) = Unit {0}
IsPlain (reply.Shown table key row) = HasNoFeed (key_text key) × HasNoFeed (shown_row row)
IsPlain (reply.Refused fault) = fault.at < 2 ^ 64
IsPlain (reply.Saved txns) = txns < 2 ^ 64

-- the sink took the text, or its count of faults rose and it took a prefix of it
abbrev pub SaysUnlessFault : Option (List ℕ) → List ℕ → Option (List ℕ) → Type 0 → Type 0
SaysUnlessFault old text new faulted = Took old text new ⊎ (faulted × TookPrefix old text new)
