-- What is found of a share while its lists are looked at from their ends.
use Rattle.std.proofs.Common.{◌≡◌, ◌∙◌, ℕ, ◌+◌, ◌*◌, ◌%◌, ◌<◌, Bool, true, false, cond, eqb, List, [], ◌∷◌, length, drop, get_or, Option, Some, None, is_some, refl, sym, ap, subst}
use Rattle.std.specs.Option.{option_or}
use Rattle.std.specs.Ordering.{eq_by_cmp}
use Rattle.std.specs.FinMap.{get, insert, get-insert}
use Rattle.pac_value.specs.State.{Cell, cell_cmp, RowValues}
use Rattle.pac_value.proofs.CellLemmas.{cells_total, tied_same}
use Rattle.pac_ops.specs.declared.transaction.Change.{Change}
use Rattle.pac_bytes.proofs.Loops.{next_key}
use Rattle.pac_tuple.specs.declared.share.CellShare.{CellShare}
use Rattle.pac_serial.specs.Writes.{image_cell}
use Rattle.pac_tuple.specs.Images.{image_row}
use Rattle.pac_tuple.specs.Shares.{bytes_mixed, share_number, image_left_at, last_at, last_in, in_share, LastRows}

-- ---- numbers of texts

-- one more byte
pub mixed-next : (bytes : List ℕ) (n i b total : ℕ) → i < length bytes → b ≡ get_or bytes i b → bytes_mixed n (drop i bytes) ≡ total → bytes_mixed ((n * 31 + b) % 4294967296) (drop (i + 1) bytes) ≡ total
mixed-next bytes n i b total lt is so_far =
    let rest : drop i bytes ≡ b ∷ drop (i + 1) bytes = next_key bytes i b lt ∙ ap (λ (x : ℕ). x ∷ drop (i + 1) bytes) (sym is) in
    sym (ap (bytes_mixed n) rest) ∙ so_far

-- ---- one image

or_none : {A : Type 0} (o : Option A) → option_or o None ≡ o
or_none None = refl
or_none (Some x) = refl

or_or : {A : Type 0} (a b c : Option A) → option_or a (option_or b c) ≡ option_or (option_or a b) c
or_or None b c = refl
or_or (Some x) b c = refl

or_there : {A : Type 0} (a b : Option A) → is_some a ≡ true → a ≡ option_or a b
or_there None b h = absurd cc
or_there (Some x) b h = refl

nothing : (share : CellShare) (q : Cell) → in_share share q None ≡ None
nothing share q = go (eqb (share_number share.count q) share.number)
  where
    go : (b : Bool) → cond b (let none : Option (Option RowValues) = None in none) None ≡ None
    go true = refl
    go false = refl

-- an image at a cell of another share adds nothing
pub add-outside : (share : CellShare) (found : LastRows) (c : Change) → eqb (share_number share.count (image_cell c)) share.number ≡ false → (q : Cell) → get found q ≡ option_or (get found q) (in_share share q (image_left_at q c))
add-outside share found c out q = sym (ap (option_or (get found q)) (go (eq_by_cmp cell_cmp q (image_cell c)) refl) ∙ or_none (get found q))
  where
    go : (b : Bool) → eq_by_cmp cell_cmp q (image_cell c) ≡ b → in_share share q (cond b (Some (image_row c)) None) ≡ None
    go true e =
        ap (λ (x : Cell). in_share share x (Some (image_row c))) (tied_same q (image_cell c) e)
        ∙ ap (λ (b : Bool). cond b (Some (image_row c)) None) out
    go false e = nothing share q

-- an image at a cell that has a later one adds nothing
pub add-known : (share : CellShare) (found : LastRows) (c : Change) → is_some (get found (image_cell c)) ≡ true → (q : Cell) → get found q ≡ option_or (get found q) (in_share share q (image_left_at q c))
add-known share found c has q = go (eq_by_cmp cell_cmp q (image_cell c)) refl
  where
    go : (b : Bool) → eq_by_cmp cell_cmp q (image_cell c) ≡ b → get found q ≡ option_or (get found q) (in_share share q (cond b (Some (image_row c)) None))
    go true e = or_there (get found q) (in_share share q (Some (image_row c))) (subst (λ (x : Cell). is_some (get found x) ≡ true) (sym (tied_same q (image_cell c) e)) has)
    go false e = sym (ap (option_or (get found q)) (nothing share q) ∙ or_none (get found q))

absent : {A : Type 0} (o : Option A) → is_some o ≡ false → o ≡ None
absent None h = refl
absent (Some x) h = absurd cc

-- an image at a cell of the share that has none yet is kept
pub add-new : (share : CellShare) (found new : LastRows) (c : Change) (row : Option RowValues) → eqb (share_number share.count (image_cell c)) share.number ≡ true → is_some (get found (image_cell c)) ≡ false → row ≡ image_row c → new ≡ insert found (image_cell c) row
    → (q : Cell) → get new q ≡ option_or (get found q) (in_share share q (image_left_at q c))
add-new share found new c row inside none is made q =
    ap (λ (m : LastRows). get m q) made
    ∙ get-insert cells_total found (image_cell c) row q
    ∙ ap (λ (r : Option RowValues). cond (eq_by_cmp cell_cmp q (image_cell c)) (Some r) (get found q)) is
    ∙ go (eq_by_cmp cell_cmp q (image_cell c)) refl
  where
    go : (b : Bool) → eq_by_cmp cell_cmp q (image_cell c) ≡ b → cond b (Some (image_row c)) (get found q) ≡ option_or (get found q) (in_share share q (cond b (Some (image_row c)) None))
    go true e =
        let same = tied_same q (image_cell c) e in
        sym (ap (λ (o : Option (Option RowValues)). option_or o (in_share share q (Some (image_row c)))) (ap (get found) same ∙ absent (get found (image_cell c)) none)
        ∙ ap (λ (x : Cell). in_share share x (Some (image_row c))) same
        ∙ ap (λ (b : Bool). cond b (Some (image_row c)) None) inside)
    go false e = sym (ap (option_or (get found q)) (nothing share q) ∙ or_none (get found q))

-- ---- lists, from their ends

pub drop-all : {A : Type 0} (xs : List A) → drop (length xs) xs ≡ []
drop-all [] = refl
drop-all (x ∷ xs) = drop-all xs

-- two parts of a share are a part of it
share_or : (share : CellShare) (q : Cell) (a b : Option (Option RowValues)) → option_or (in_share share q a) (in_share share q b) ≡ in_share share q (option_or a b)
share_or share q a b = go (eqb (share_number share.count q) share.number)
  where
    go : (t : Bool) → option_or (cond t a None) (cond t b None) ≡ cond t (option_or a b) None
    go true = refl
    go false = refl

-- nothing is looked at yet
pub no_image_yet : (share : CellShare) (old : LastRows) (images : List Change) (q : Cell) → images ≡ [] → get old q ≡ option_or (get old q) (in_share share q (last_at q images))
no_image_yet share old images q none = sym (ap (λ (cs : List Change). option_or (get old q) (in_share share q (last_at q cs))) none ∙ ap (option_or (get old q)) (nothing share q) ∙ or_none (get old q))

-- the next image of a list
pub one_image_more : (share : CellShare) (q : Cell) (old found new : LastRows) (images : List Change) (at : ℕ) (image : Change) → at < length images → image ≡ get_or images at image
    → get found q ≡ option_or (get old q) (in_share share q (last_at q (drop (at + 1) images)))
    → get new q ≡ option_or (get found q) (in_share share q (image_left_at q image))
    → get new q ≡ option_or (get old q) (in_share share q (last_at q (drop at images)))
one_image_more share q old found new images at image lt is so_far step =
    let rest : drop at images ≡ image ∷ drop (at + 1) images = next_key images at image lt ∙ ap (λ (c : Change). c ∷ drop (at + 1) images) (sym is) in
    step
    ∙ ap (λ (o : Option (Option RowValues)). option_or o (in_share share q (image_left_at q image))) so_far
    ∙ sym (or_or (get old q) (in_share share q (last_at q (drop (at + 1) images))) (in_share share q (image_left_at q image)))
    ∙ ap (option_or (get old q)) (share_or share q (last_at q (drop (at + 1) images)) (image_left_at q image))
    ∙ ap (λ (cs : List Change). option_or (get old q) (in_share share q (last_at q cs))) (sym rest)

-- no list is looked at yet
pub no_list_yet : (share : CellShare) (lists : List (List Change)) (q : Cell) → lists ≡ [] → None ≡ in_share share q (last_in q lists)
no_list_yet share lists q none = sym (ap (λ (ls : List (List Change)). in_share share q (last_in q ls)) none ∙ nothing share q)

-- the next list
pub one_list_more : (share : CellShare) (q : Cell) (found new : LastRows) (lists : List (List Change)) (at : ℕ) (images : List Change) → at < length lists → images ≡ get_or lists at images
    → get found q ≡ in_share share q (last_in q (drop (at + 1) lists))
    → get new q ≡ option_or (get found q) (in_share share q (last_at q images))
    → get new q ≡ in_share share q (last_in q (drop at lists))
one_list_more share q found new lists at images lt is so_far step =
    let rest : drop at lists ≡ images ∷ drop (at + 1) lists = next_key lists at images lt ∙ ap (λ (l : List Change). l ∷ drop (at + 1) lists) (sym is) in
    step
    ∙ ap (λ (o : Option (Option RowValues)). option_or o (in_share share q (last_at q images))) so_far
    ∙ share_or share q (last_in q (drop (at + 1) lists)) (last_at q images)
    ∙ ap (λ (ls : List (List Change)). in_share share q (last_in q ls)) (sym rest)
