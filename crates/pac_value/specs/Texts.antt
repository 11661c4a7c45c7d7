-- The bytes that a text may have.
use Rattle.std.specs.Prelude.{◌≤◌, ℕ, Bool, ◌&&◌, nat_le, List, length, IsTrue}
use Rattle.std.specs.List.{list_all}
use Rattle.pac_value.specs.declared.limits.TheConstants.{MAX_TEXT}
use Rattle.pac_value.specs.Ascii.{space, tilde}

-- a printable ASCII byte, from the space to the tilde
abbrev pub is_printable : ℕ → Bool
is_printable byte = nat_le space byte && nat_le byte tilde

-- not too many bytes, all printable
abbrev pub IsText : List ℕ → Type 0
IsText bytes = (length bytes ≤ MAX_TEXT) × IsTrue (list_all is_printable bytes)
