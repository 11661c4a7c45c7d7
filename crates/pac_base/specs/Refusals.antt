-- What contracts say of a call that a fault of its input, or running out of memory, can stop.
use Rattle.std.specs.Prelude.{◌≡◌, Result, Ok, Err}
use Rattle.pac_base.specs.declared.refusal.Refusal.{Refusal}
use Rattle.pac_base.specs.declared.refusal.Refusal.TheVariants.{Fault, NoMemory}

-- what is meant is this very fault, unless there was no memory
abbrev pub Fails : {Y F : Type 0} → Refusal F → Result Y F → Type 0
Fails (Fault fault) meant = meant ≡ Err fault
Fails NoMemory meant = Unit {0}

-- what is meant is what follows from the answer, or its fault, unless there was no memory
abbrev pub Gives : {X Y F : Type 0} → (X → Result Y F) → Result X (Refusal F) → Result Y F → Type 0
Gives after (Ok x) meant = meant ≡ after x
Gives after (Err refusal) meant = Fails refusal meant

-- what is meant is the answer, seen so, or its fault, unless there was no memory
abbrev pub Reports : {X Y F : Type 0} → (X → Y) → Result X (Refusal F) → Result Y F → Type 0
Reports view result meant = Gives (λ x. Ok (view x)) result meant

-- the answer has this property, or there was no memory: it is no fault
abbrev pub OkUnlessMemory : {X F : Type 0} → Result X (Refusal F) → (X → Type 0) → Type 0
OkUnlessMemory (Ok x) P = P x
OkUnlessMemory (Err refusal) P = refusal ≡ NoMemory

-- the answer is this, or there was no memory
abbrev pub Only : {X F : Type 0} → Result X (Refusal F) → X → Type 0
Only result meant = OkUnlessMemory result (λ x. x ≡ meant)
