-- What stands at a cell once lists are laid, and that what is found of all shares gives it.
use Rattle.std.proofs.Common.{◌≡◌, ◌∙◌, ℕ, ◌+◌, ◌<◌, ◌≤◌, Bool, true, false, cond, eqb, List, [], ◌∷◌, ◌++◌, length, get_or, Option, Some, None, is_some, Result, Ok, IfOk, refl, sym, ap, subst, arith}
use Rattle.std.specs.List.{All, AllByRecursion}
use Rattle.std.specs.Option.{option_or, unwrap_or}
use Rattle.std.specs.Ordering.{eq_by_cmp}
use Rattle.std.specs.FinMap.{get, same_map}
use Rattle.std.proofs.lemmas.Bool.{eqb-true, eqb-false}
use Rattle.std.proofs.lemmas.List.{length-append, get_or_append_left}
use Rattle.std.proofs.lemmas.List.Elements.{recursion_from_All}
use Rattle.pac_base.specs.declared.no_memory.NoMemory.{NoMemory}
use Rattle.pac_value.specs.State.{Cell, cell_cmp, RowValues, Tables}
use Rattle.pac_value.proofs.CellLemmas.{cells_total, cells_antisymmetric, get-with_row, tied_same}
use Rattle.pac_ops.specs.declared.transaction.Change.{Change}
use Rattle.pac_ops.specs.declared.transaction.Change.TheVariants.{Put, Delete}
use Rattle.pac_ops.specs.Transactions.{with_change, with_changes}
use Rattle.pac_tuple.specs.declared.share.CellShare.{CellShare}
use Rattle.pac_serial.specs.Writes.{image_cell}
use Rattle.pac_tuple.specs.Images.{image_row}
use Rattle.pac_tuple.specs.Laying.{tables_laid, AreLaidWithin}
use Rattle.pac_tuple.specs.Shares.{share_number, image_left_at, last_at, last_in, LastRows, AreLastOf, AreRowsWithin}

-- ---- lists, one after another

get-change : (t : Tables) (c : Change) (q : Cell) → get (with_change t c) q ≡ unwrap_or (image_left_at q c) (get t q)
get-change t (Put table key row) q = get-with_row t (table, key) (Some row) q ∙ go (eq_by_cmp cell_cmp q (table, key))
  where
    go : (b : Bool) → cond b (Some row) (get t q) ≡ unwrap_or (cond b (Some (Some row)) None) (get t q)
    go true = refl
    go false = refl
get-change t (Delete table key) q = get-with_row t (table, key) None q ∙ go (eq_by_cmp cell_cmp q (table, key))
  where
    go : (b : Bool) → cond b None (get t q) ≡ unwrap_or (cond b (Some None) None) (get t q)
    go true = refl
    go false = refl

one_or_other : {A : Type 0} (a b : Option A) (d : A) → unwrap_or a (unwrap_or b d) ≡ unwrap_or (option_or a b) d
one_or_other None b d = refl
one_or_other (Some x) b d = refl

get-changes : (cs : List Change) (t : Tables) (q : Cell) → get (with_changes t cs) q ≡ unwrap_or (last_at q cs) (get t q)
get-changes [] t q = refl
get-changes (c ∷ cs) t q = get-changes cs (with_change t c) q ∙ ap (unwrap_or (last_at q cs)) (get-change t c q) ∙ one_or_other (last_at q cs) (image_left_at q c) (get t q)

get-laid : (ls : List (List Change)) (t : Tables) (q : Cell) → get (tables_laid t ls) q ≡ unwrap_or (last_in q ls) (get t q)
get-laid [] t q = refl
get-laid (l ∷ ls) t q = get-laid ls (with_changes t l) q ∙ ap (unwrap_or (last_in q ls)) (get-changes l t q) ∙ one_or_other (last_in q ls) (last_at q l) (get t q)

-- ---- shares, from the last one on

-- the cells of the first shares have what they had before, and those of the others what laying leaves
abbrev pub AreLaidFrom : ℕ → ℕ → List (List Change) → Tables → Tables → Type 0
AreLaidFrom count first lists before now = (q : Cell) → (share_number count q < first → get now q ≡ get before q) × (first ≤ share_number count q → get now q ≡ get (tables_laid before lists) q)

module _ (count : ℕ) (lists : List (List Change)) (before : Tables) where
  -- the last of the first shares is made
  pub one_made : (first : ℕ) (last : LastRows) (now new : Tables) → AreLastOf (record { count = count; number = first }) lists last → ((q : Cell) → get new q ≡ unwrap_or (get last q) (get now q)) → AreLaidFrom count (first + 1) lists before now
      → AreLaidFrom count first lists before new
  one_made first last now new are step so_far q = (
    λ lt. at ∙ low (eqb (share_number count q) first) refl lt,
    λ le. at ∙ high (eqb (share_number count q) first) refl le,
  )
    where
      at : get new q ≡ unwrap_or (cond (eqb (share_number count q) first) (last_in q lists) None) (get now q)
      at = step q ∙ ap (λ (o : Option (Option RowValues)). unwrap_or o (get now q)) (are q)

      low : (b : Bool) → eqb (share_number count q) first ≡ b → share_number count q < first → unwrap_or (cond b (last_in q lists) None) (get now q) ≡ get before q
      low true e lt = let same : share_number count q ≡ first = eqb-true _ _ e in absurd (omega (arith, same, lt))
      low false e lt = (so_far q).0 (omega (arith, lt))

      high : (b : Bool) → eqb (share_number count q) first ≡ b → first ≤ share_number count q → unwrap_or (cond b (last_in q lists) None) (get now q) ≡ get (tables_laid before lists) q
      high true e le =
          let same : share_number count q ≡ first = eqb-true _ _ e in
          ap (unwrap_or (last_in q lists)) ((so_far q).0 (omega (arith, same))) ∙ sym (get-laid lists before q)
      high false e le =
          let other : share_number count q ≡ first → ⊥ = eqb-false _ _ e in
          (so_far q).1 (omega (arith, other, le))

  -- all shares are made
  pub all_made : (first : ℕ) (now : Tables) → first ≡ 0 → AreLaidFrom count first lists before now → now ≡ tables_laid before lists
  all_made first now none are = same_map cells_total cells_antisymmetric _ _ (λ q. (are q).1 (omega (arith, none)))

-- ---- what is found is in the tables that the lists are in

or_either : {A : Type 0} {P : Type 0} (a b : Option A) → (is_some a ≡ true → P) → (is_some b ≡ true → P) → is_some (option_or a b) ≡ true → P
or_either None b one two h = two h
or_either (Some x) b one two h = one refl

module _ (tables : ℕ) (q : Cell) where
  left-within : (c : Change) → (image_cell c).0 < tables → is_some (image_left_at q c) ≡ true → q.0 < tables
  left-within c lt h = go (eq_by_cmp cell_cmp q (image_cell c)) refl h
    where
      go : (b : Bool) → eq_by_cmp cell_cmp q (image_cell c) ≡ b → is_some (cond b (Some (image_row c)) None) ≡ true → q.0 < tables
      go true e h = subst (λ (x : Cell). x.0 < tables) (sym (tied_same q (image_cell c) e)) lt
      go false e h = absurd cc

  last-within : (cs : List Change) → AllByRecursion (λ (c : Change). (image_cell c).0 < tables) cs → is_some (last_at q cs) ≡ true → q.0 < tables
  last-within [] all h = absurd cc
  last-within (c ∷ cs) all h = or_either (last_at q cs) (image_left_at q c) (last-within cs all.1) (left-within c all.0) h

  lists-within : (ls : List (List Change)) → AllByRecursion (λ (cs : List Change). All (λ (c : Change). (image_cell c).0 < tables) cs) ls → is_some (last_in q ls) ≡ true → q.0 < tables
  lists-within [] all h = absurd cc
  lists-within (l ∷ ls) all h = or_either (last_in q ls) (last_at q l) (lists-within ls all.1) (last-within l (recursion_from_All _ l all.0)) h

pub found-within : (tables : ℕ) (share : CellShare) (lists : List (List Change)) (last : LastRows) → AreLaidWithin tables lists → AreLastOf share lists last → AreRowsWithin tables last
found-within tables share lists last within are q h = go (eqb (share_number share.count q) share.number) (ap is_some (sym (are q)) ∙ h)
  where
    go : (b : Bool) → is_some (cond b (last_in q lists) None) ≡ true → q.0 < tables
    go true k = lists-within tables q lists (recursion_from_All _ lists within) k
    go false k = absurd cc

-- ---- the shares that were found

-- each of these is the share of its number, where there was memory
abbrev pub AreShares : ℕ → List (List Change) → List (Result LastRows NoMemory) → Type 0
AreShares count lists found = (i : ℕ) (d : Result LastRows NoMemory) → i < length found → IfOk (get_or found i d) (AreLastOf (record { count = count; number = i }) lists)

module _ (count : ℕ) (lists : List (List Change)) (found others : List (Result LastRows NoMemory)) (last : Result LastRows NoMemory) (is : found ≡ others ++ last ∷ []) where
  pub one_fewer : length found ≡ length others + 1
  one_fewer = ap (λ (xs : List (Result LastRows NoMemory)). length xs) is ∙ length-append others (last ∷ [])

  -- the last of them
  pub last_found : (rows : LastRows) → last ≡ Ok rows → AreShares count lists found → AreLastOf (record { count = count; number = length others }) lists rows
  last_found rows well are =
      let fewer = one_fewer in
      subst (λ (r : Result LastRows NoMemory). IfOk r (AreLastOf (record { count = count; number = length others }) lists))
      (ap (λ (xs : List (Result LastRows NoMemory)). get_or xs (length others) last) is ∙ seam others ∙ well)
      (are (length others) last (omega (arith, fewer)))
    where
      seam : (ys : List (Result LastRows NoMemory)) → get_or (ys ++ last ∷ []) (length ys) last ≡ last
      seam [] = refl
      seam (y ∷ ys) = seam ys

  -- the others
  pub others_found : AreShares count lists found → AreShares count lists others
  others_found are i d lt =
      let fewer = one_fewer in
      subst (λ (r : Result LastRows NoMemory). IfOk r (AreLastOf (record { count = count; number = i }) lists))
      (ap (λ (xs : List (Result LastRows NoMemory)). get_or xs i d) is ∙ get_or_append_left others (last ∷ []) d i lt)
      (are i d (omega (arith, fewer, lt)))
