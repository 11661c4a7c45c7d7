-- Texts of groups: reading one, putting one member more, and lists of members.
use Rattle.std.proofs.Common.{◌≡◌, ◌<◌, ◌≤◌, ℕ, zero, suc, ◌+◌, List, [], ◌∷◌, ◌++◌, Bool, true, false, cond, map, flat_map, length, get_or, set, codes, nat_eq, Vec, Global, refl, sym, ap, subst, ◌∙◌, arith, append-nil, append_assoc, map-id, zero-add}
use Rattle.std.specs.List.{range_with_len}
use Rattle.std.proofs.lemmas.List.{map-set, map-append, length-map}
use Rattle.std.proofs.lemmas.List.FromFn.{length-range_with_len, get_or-map-range_with_len, map-range_with_len_more}
use Rattle.std.proofs.lemmas.List.Elements.{filter-append}
use Rattle.std.proofs.lemmas.Grind.{flat_map-append}
use Rattle.pac_report.specs.Explain.{members, listed_texts}
use Rattle.pac_report.specs.GroupTexts.{Hold, no_text, with_listed}

-- ---- texts of groups

same_from : (F G : ℕ → List ℕ) (first count : ℕ) → ((i : ℕ) → first ≤ i → G i ≡ F i) → map F (range_with_len first count) ≡ map G (range_with_len first count)
same_from F G first zero same = refl
same_from F G first (suc n) same =
    let here : F first ≡ G first = sym (same first (omega arith)) in
    let more : map F (range_with_len (first + 1) n) ≡ map G (range_with_len (first + 1) n) = same_from F G (first + 1) n (λ i le. same i (omega (arith, le))) in
    λ i. here i ∷ more i

put_text : (F G : ℕ → List ℕ) (first count k : ℕ) (y : List ℕ) → k < count → y ≡ G (first + k) → ((i : ℕ) → (i ≡ first + k → ⊥) → G i ≡ F i) → set (map F (range_with_len first count)) k y ≡ map G (range_with_len first count)
put_text F G first zero k y lt is same = absurd (omega (arith, lt))
put_text F G first (suc n) zero y lt is same =
    let here : y ≡ G first = is ∙ ap G (omega arith) in
    let more : map F (range_with_len (first + 1) n) ≡ map G (range_with_len (first + 1) n) = same_from F G (first + 1) n (λ i le. same i (λ e. omega (arith, le, e))) in
    λ i. here i ∷ more i
put_text F G first (suc n) (suc k) y lt is same =
    let here : F first ≡ G first = sym (same first (λ e. omega (arith, e))) in
    let at : first + suc k ≡ (first + 1) + k = omega arith in
    let more : set (map F (range_with_len (first + 1) n)) k y ≡ map G (range_with_len (first + 1) n) =
    put_text F G (first + 1) n k y (omega (arith, lt)) (is ∙ ap G at) (λ i other. same i (λ e. other (e ∙ at))) in
    λ i. here i ∷ more i

-- one text is put instead of another
pub hold_put : (texts : List (Vec ℕ Global)) (F G : ℕ → List ℕ) (count k : ℕ) (text : Vec ℕ Global) → Hold texts F count → k < count → text.items ≡ G k → ((i : ℕ) → (i ≡ k → ⊥) → G i ≡ F i) → Hold (set texts k text) G count
hold_put texts F G count k text hold lt is same =
    map-set (λ (v : Vec ℕ Global). v.items) texts k text
    ∙ ap (λ (ls : List (List ℕ)). set ls k text.items) hold
    ∙ put_text F G 0 count k text.items lt (is ∙ ap G (sym (zero-add k))) (λ i other. same i (λ e. other (e ∙ sym (zero-add k))))

pub hold_count : (texts : List (Vec ℕ Global)) (F : ℕ → List ℕ) (count : ℕ) → Hold texts F count → length texts ≡ count
hold_count texts F count hold =
    sym (length-map texts (λ (v : Vec ℕ Global). v.items)) ∙ ap length hold ∙ length-map (range_with_len 0 count) F ∙ length-range_with_len 0 count

items_at : (texts : List (Vec ℕ Global)) (k : ℕ) (d : Vec ℕ Global) (e : List ℕ) → k < length texts → (get_or texts k d).items ≡ get_or (map (λ (v : Vec ℕ Global). v.items) texts) k e
items_at [] k d e lt = absurd (omega (arith, lt))
items_at (t ∷ ts) zero d e lt = refl
items_at (t ∷ ts) (suc k) d e lt = items_at ts k d e (omega (arith, lt))

pub hold_at : (texts : List (Vec ℕ Global)) (F : ℕ → List ℕ) (count k : ℕ) (d : Vec ℕ Global) → Hold texts F count → k < count → (get_or texts k d).items ≡ F k
hold_at texts F count k d hold lt =
    items_at texts k d [] (subst (λ n. k < n) (sym (hold_count texts F count hold)) lt)
    ∙ ap (λ (ls : List (List ℕ)). get_or ls k []) hold
    ∙ get_or-map-range_with_len F 0 count k k [] lt (zero-add k)

-- an empty text more
pub hold_more : (texts : List (Vec ℕ Global)) (count : ℕ) (text : Vec ℕ Global) → Hold texts no_text count → text.items ≡ [] → Hold (texts ++ text ∷ []) no_text (count + 1)
hold_more texts count text hold is =
    map-append (λ (v : Vec ℕ Global). v.items) texts (text ∷ [])
    ∙ ap (λ (ls : List (List ℕ)). ls ++ text.items ∷ []) hold
    ∙ ap (λ (l : List ℕ). map no_text (range_with_len 0 count) ++ l ∷ []) is
    ∙ sym (map-range_with_len_more no_text 0 count count (zero-add count))

-- ---- numbers

pub numbers_more : (n : ℕ) → range_with_len 0 (n + 1) ≡ range_with_len 0 n ++ n ∷ []
numbers_more n =
    sym (map-id (range_with_len 0 (n + 1))) ∙ map-range_with_len_more (λ i. i) 0 n n (zero-add n) ∙ ap (λ (ns : List ℕ). ns ++ n ∷ []) (map-id (range_with_len 0 n))

pub lines_more : (line : ℕ → List ℕ) (n : ℕ) → flat_map line (range_with_len 0 (n + 1)) ≡ flat_map line (range_with_len 0 n) ++ line n
lines_more line n =
    ap (flat_map line) (numbers_more n) ∙ flat_map-append line (range_with_len 0 n) (n ∷ []) ∙ ap (λ (l : List ℕ). flat_map line (range_with_len 0 n) ++ l) (append-nil (line n))

-- a line more
pub line_added : (start out new added : List ℕ) (line : ℕ → List ℕ) (n : ℕ) → out ≡ start ++ flat_map line (range_with_len 0 n) → new ≡ out ++ added → added ≡ line n → new ≡ start ++ flat_map line (range_with_len 0 (n + 1))
line_added start out new added line n before grew is =
    grew ∙ ap (λ (o : List ℕ). o ++ added) before ∙ ap (λ (l : List ℕ). start ++ flat_map line (range_with_len 0 n) ++ l) is
    ∙ append_assoc start (flat_map line (range_with_len 0 n)) (line n) ∙ ap (λ (l : List ℕ). start ++ l) (sym (lines_more line n))

-- all lines, before what follows them
pub lines_before : (start out rest : List ℕ) (line : ℕ → List ℕ) (n count : ℕ) → out ≡ start ++ flat_map line (range_with_len 0 n) → n ≡ count → out ++ rest ≡ start ++ (flat_map line (range_with_len 0 count) ++ rest)
lines_before start out rest line n count is all =
    ap (λ (o : List ℕ). o ++ rest) (is ∙ ap (λ (k : ℕ). start ++ flat_map line (range_with_len 0 k)) all) ∙ append_assoc start (flat_map line (range_with_len 0 count)) rest

-- ---- members

members_kept : {N : Type 0} (b : Bool) (n : N) (ms : List N) → b ≡ true → ms ++ cond b (n ∷ []) [] ≡ ms ++ n ∷ []
members_kept true n ms is = refl
members_kept false n ms is = absurd cc

members_left : {N : Type 0} (b : Bool) (n : N) (ms : List N) → b ≡ false → ms ++ cond b (n ∷ []) [] ≡ ms
members_left true n ms is = absurd cc
members_left false n ms is = append-nil ms

-- a node more is a member of its group
pub members_in : {N : Type 0} (group : N → ℕ) (nodes : List N) (n : N) (b : ℕ) → b ≡ group n → members group (nodes ++ n ∷ []) b ≡ members group nodes b ++ n ∷ []
members_in {N} group nodes n b is =
    filter-append (λ (m : N). nat_eq (group m) b) nodes (n ∷ []) ∙ members_kept (nat_eq (group n) b) n (members group nodes b) (grind (arith, is))

-- and of no other
pub members_out : {N : Type 0} (group : N → ℕ) (nodes : List N) (n : N) (b : ℕ) → (b ≡ group n → ⊥) → members group (nodes ++ n ∷ []) b ≡ members group nodes b
members_out {N} group nodes n b other =
    filter-append (λ (m : N). nat_eq (group m) b) nodes (n ∷ []) ∙ members_left (nat_eq (group n) b) n (members group nodes b) (differ (nat_eq (group n) b) refl)
  where
    differ : (t : Bool) → nat_eq (group n) b ≡ t → nat_eq (group n) b ≡ false
    differ true is = absurd (other (grind (arith, is)))
    differ false is = is

-- ---- texts with commas between them

-- the first of the texts, if any, isn't empty
abbrev pub IsLed : List (List ℕ) → Type 0
IsLed [] = Unit {0}
IsLed ([] ∷ texts) = ⊥
IsLed ((b ∷ bs) ∷ texts) = Unit {0}

abbrev comma : List ℕ → List ℕ
comma text = codes ", " ++ text

pub listed_more : (texts : List (List ℕ)) (text : List ℕ) → IsLed texts → listed_texts (texts ++ text ∷ []) ≡ with_listed (listed_texts texts) text
listed_more [] text led = append-nil text
listed_more ([] ∷ texts) text led = absurd led
listed_more ((b ∷ bs) ∷ texts) text led =
    let others : List ℕ = flat_map comma texts in
    let further : flat_map comma (texts ++ text ∷ []) ≡ others ++ comma text =
    flat_map-append comma texts (text ∷ []) ∙ ap (λ (l : List ℕ). others ++ l) (append-nil (comma text)) in
    let left : listed_texts (((b ∷ bs) ∷ texts) ++ text ∷ []) ≡ (b ∷ bs) ++ flat_map comma (texts ++ text ∷ []) = refl in
    let right : ((b ∷ bs) ++ others) ++ comma text ≡ with_listed (listed_texts ((b ∷ bs) ∷ texts)) text = sym (append_assoc ((b ∷ bs) ++ others) (codes ", ") text) in
    left ∙ ap (λ (l : List ℕ). (b ∷ bs) ++ l) further ∙ sym (append_assoc (b ∷ bs) others (comma text)) ∙ right
