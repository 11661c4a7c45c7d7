-- What a call that writes does to what was written.
use Rattle.std.specs.Prelude.{◌≡◌, List, ◌++◌}

-- the new items are the old ones, and these after them
abbrev pub Grew : {A : Type 0} → List A → List A → List A → Type 0
Grew old new added = new ≡ old ++ added
