-- Requests that fit a catalogue.
use Rattle.std.specs.Prelude.{map, slice_get, Option, Some, None, IsSomeAnd}
use Rattle.pac_ops.specs.Shapes.{KeyFits, RecordsFit}
use Rattle.pac_types.specs.Fits.{FitsCall, shape}
use Rattle.pac_types.specs.Typing.{CatalogueState}
use Rattle.pac_request.specs.declared.request.Request.{Request}
use Rattle.pac_request.specs.declared.request.Request.TheVariants as request

-- A call is of one of the catalogue's procedures and its arguments have the types of the parameters; each record fits its
-- table; and the key of a row that is shown has the type of the keys of its table, which is there.
abbrev pub RequestFits : CatalogueState → Request → Type 0
RequestFits catalogue (request.Call call) = FitsCall catalogue.procs call.proc call.args
RequestFits catalogue (request.AdHoc records) = RecordsFit (map shape catalogue.tables) records
RequestFits catalogue (request.Show table key) = IsSomeAnd (slice_get (map shape catalogue.tables) table) (KeyFits key)
RequestFits catalogue _ = Unit {0}

-- the same of what a line asks, if it asks anything
abbrev pub AskedFits : CatalogueState → Option Request → Type 0
AskedFits catalogue None = Unit {0}
AskedFits catalogue (Some asked) = RequestFits catalogue asked
