-- The texts of replies.
use Rattle.std.specs.Prelude.{ℕ, List, [], ◌++◌, codes, map, slice_index_or, Option, Some, None}
use Rattle.std.specs.Fmt.{decimal}
use Rattle.pac_value.specs.Literals.{key_text, values_text}
use Rattle.pac_value.specs.State.{RowValues}
use Rattle.pac_ops.specs.Reasons.{reason_name}
use Rattle.pac_types.specs.Typing.{CatalogueState}
use Rattle.pac_request.specs.declared.request.Reply.{Reply}
use Rattle.pac_request.specs.declared.request.Reply.TheVariants.{Committed, Aborted, AbortedFull, Shown, Refused, Saved}
use Rattle.pac_request.specs.LineKinds.{line_kind_name}

-- the name of the table with this number; one that isn't there has none
abbrev pub table_name : CatalogueState → ℕ → List ℕ
table_name cat t = slice_index_or (map (λ table. table.name) cat.tables) t []

-- what stands at a cell: = (V1, V2), or absent
abbrev pub shown_row : Option RowValues → List ℕ
shown_row None = codes " absent"
shown_row (Some row) = codes " = (" ++ values_text row ++ codes ")"

-- a reply without its line feed
abbrev pub reply_words : CatalogueState → Reply → List ℕ
reply_words cat (Committed txn) = codes "committed " ++ decimal txn
reply_words cat (Aborted op reason) = codes "aborted " ++ decimal op ++ codes " " ++ reason_name reason
reply_words cat (AbortedFull table) = codes "aborted Full " ++ table_name cat table
reply_words cat (Shown table key row) = table_name cat table ++ codes "[" ++ key_text key ++ codes "]" ++ shown_row row
reply_words cat (Refused fault) = codes "refused " ++ decimal fault.at ++ codes " " ++ line_kind_name fault.kind
reply_words cat (Saved txns) = codes "saved " ++ decimal txns

-- a reply is one line
abbrev pub reply_text : CatalogueState → Reply → List ℕ
reply_text cat reply = reply_words cat reply ++ codes "\n"
