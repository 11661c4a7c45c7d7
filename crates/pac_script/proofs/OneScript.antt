-- A text is read as one thing: one script, or one first fault.
use Rattle.std.proofs.Common.{◌≡◌, ◌∙◌, ◌≤◌, ◌<◌, ◌+◌, ◌&&◌, ◌⊎◌, inl, inr, leb, ℕ, suc, Bool, true, false, List, [], ◌∷◌, ◌++◌, length, Option, Some, None, Result, Ok, Err, refl, sym, ap, ap₂, subst, arith}
use Rattle.std.specs.List.{AllZip, flat_map}
use Rattle.std.proofs.lemmas.List.{length-append}
use Rattle.std.proofs.lemmas.List.Sums.{sum_by-append}
use Rattle.std.proofs.lemmas.Bool.{cases_order, le-leb, leb-true}
use Rattle.pac_entry.specs.Entries.{txn_bytes}
use Rattle.pac_flat.specs.declared.acceptance.AcceptFault.{AcceptFault}
use Rattle.pac_flat.proofs.OneAcceptance.{accepted_or_not, one_catalogue, one_unaccepted}
use Rattle.pac_ops.specs.declared.batch.Batch.{Batch}
use Rattle.pac_ops.specs.declared.transaction.Txn.{Txn}
use Rattle.pac_types.specs.Typing.{CatalogueState}
use Rattle.pac_request.specs.declared.fault.LineFault.{LineFault}
use Rattle.pac_request.specs.declared.request.Request.{Request}
use Rattle.pac_script.specs.declared.script.Script.{Script}
use Rattle.pac_script.specs.declared.script_fault.ScriptFault.{ScriptFault}
use Rattle.pac_script.specs.declared.script_fault.ScriptFault.TheVariants.{Unaccepted, Line}
use Rattle.pac_script.specs.declared.step.ScriptStep.{ScriptStep}
use Rattle.pac_script.specs.Batches.{body_len, fits, flush_runs, steps, Ends, HasSome, AreLongest, as_batches, AreCutInto}
use Rattle.pac_script.specs.Lines.{IsMark}
use Rattle.pac_request.specs.LineReading.{LineAnswer}
use Rattle.pac_script.specs.Script.{MarkOf, text_before, text_after, lines_after, Accepts, HasBatches, IsFirstRefused, HasParts, IsPartsFault, PartsSay, ScriptSays}
use Rattle.pac_request.specs.ScriptLines.{ScriptLineSays}
use Rattle.pac_request.proofs.LineOnce.{script_line_once}

-- ---- the lines

same_ok : (x y : Option Request) → ◌≡◌ {A = LineAnswer} (Ok x) (Ok y) → x ≡ y
same_ok x y e = cc

same_err : (x y : LineFault) → ◌≡◌ {A = LineAnswer} (Err x) (Err y) → x ≡ y
same_err x y e = cc

not_both : (catalogue : CatalogueState) (line : List ℕ) (x : Option Request) (y : LineFault) → ScriptLineSays catalogue line (Ok x) → ScriptLineSays catalogue line (Err y) → ⊥
not_both catalogue line x y h k = let both : ◌≡◌ {A = LineAnswer} (Ok x) (Err y) = script_line_once catalogue line (Ok x) (Err y) h k in absurd cc

accepts_one : (catalogue : CatalogueState) (ls : List (List ℕ)) (a b : List (Option Request)) → Accepts catalogue ls a → Accepts catalogue ls b → a ≡ b
accepts_one catalogue [] [] [] h k = refl
accepts_one catalogue [] [] (y ∷ ys) h k = absurd k
accepts_one catalogue [] (x ∷ xs) b h k = absurd h
accepts_one catalogue (l ∷ ls) [] b h k = absurd h
accepts_one catalogue (l ∷ ls) (x ∷ xs) [] h k = absurd k
accepts_one catalogue (l ∷ ls) (x ∷ xs) (y ∷ ys) h k =
    ap₂ (λ (s : Option Request) (ss : List (Option Request)). s ∷ ss) (same_ok x y (script_line_once catalogue l (Ok x) (Ok y) h.0 k.0)) (accepts_one catalogue ls xs ys h.1 k.1)

-- the first line of a list, by two of its divisions
heads : (l m : List ℕ) (ls ms : List (List ℕ)) → l ∷ ls ≡ m ∷ ms → (l ≡ m) × (ls ≡ ms)
heads l m ls ms e = (head_is e, tail_is e)
  where
    head_is : l ∷ ls ≡ m ∷ ms → l ≡ m
    head_is h = cc

    tail_is : l ∷ ls ≡ m ∷ ms → ls ≡ ms
    tail_is h = cc

-- what is said of a line is said of the same line
said_of : (catalogue : CatalogueState) (l m : List ℕ) (a : LineAnswer) → l ≡ m → ScriptLineSays catalogue l a → ScriptLineSays catalogue m a
said_of catalogue l m a same h = subst (λ (line : List ℕ). ScriptLineSays catalogue line a) same h

refused_in : (c : CatalogueState) (a b : List (List ℕ)) (l m : List ℕ) (x y : List (List ℕ)) (s t : List (Option Request)) (f g : LineFault) → a ++ (l ∷ x) ≡ b ++ (m ∷ y) → Accepts c a s → Accepts c b t
    → ScriptLineSays c l (Err f) → ScriptLineSays c m (Err g) → (length a ≡ length b) × (f ≡ g)
refused_in c [] [] l m x y s t f g e h k p q =
    let two = heads l m x y e in
    (refl, same_err f g (script_line_once c m (Err f) (Err g) (said_of c l m (Err f) two.0 p) q))
refused_in c [] (n ∷ ns) l m x y s [] f g e h k p q = absurd k
refused_in c [] (n ∷ ns) l m x y s (o ∷ os) f g e h k p q =
    let two = heads l n x (ns ++ (m ∷ y)) e in
    absurd (not_both c n o f k.0 (said_of c l n (Err f) two.0 p))
refused_in c (n ∷ ns) [] l m x y [] t f g e h k p q = absurd h
refused_in c (n ∷ ns) [] l m x y (o ∷ os) t f g e h k p q =
    let two = heads n m (ns ++ (l ∷ x)) y e in
    absurd (not_both c m o g (said_of c n m (Ok o) two.0 h.0) q)
refused_in c (n ∷ ns) (w ∷ ws) l m x y [] t f g e h k p q = absurd h
refused_in c (n ∷ ns) (w ∷ ws) l m x y (o ∷ os) [] f g e h k p q = absurd k
refused_in c (n ∷ ns) (w ∷ ws) l m x y (o ∷ os) (u ∷ us) f g e h k p q =
    let two = heads n w (ns ++ (l ∷ x)) (ws ++ (m ∷ y)) e in
    let more = refused_in c ns ws l m x y os us f g two.1 h.1 k.1 p q in
    (ap suc more.0, more.1)

refused_once : (c : CatalogueState) (ls : List (List ℕ)) (m n : ℕ) (f g : LineFault) → IsFirstRefused c ls m f → IsFirstRefused c ls n g → (m ≡ n) × (f ≡ g)
refused_once c ls m n f g a b =
    let r = refused_in c a.before b.before a.line b.line a.after b.after a.said b.said f g (sym a.parts ∙ b.parts) a.accepted b.accepted a.refused b.refused in
    (a.counted ∙ ap (λ (i : ℕ). i + 1) r.0 ∙ sym b.counted, r.1)

accepted_line : (c : CatalogueState) (before : List (List ℕ)) (line : List ℕ) (after : List (List ℕ)) (said : List (Option Request)) (f : LineFault) → Accepts c (before ++ (line ∷ after)) said → ScriptLineSays c line (Err f) → ⊥
accepted_line c [] line after [] f h says = h
accepted_line c [] line after (s ∷ ss) f h says = not_both c line s f h.0 says
accepted_line c (b ∷ bs) line after [] f h says = h
accepted_line c (b ∷ bs) line after (s ∷ ss) f h says = accepted_line c bs line after ss f h.1 says

-- lines with a refused one have no batches
accepted_or_refused : (c : CatalogueState) (ls : List (List ℕ)) (made : List Batch) (number : ℕ) (f : LineFault) → HasBatches c ls made → IsFirstRefused c ls number f → ⊥
accepted_or_refused c ls made number f h r = accepted_line c r.before r.line r.after h.said f (subst (λ (x : List (List ℕ)). Accepts c x h.said) r.parts h.accepted) r.refused

-- ---- the batches

-- one of two prefixes of a list goes on where the other ends
data Prefixes (b r c q : List Txn) : Type 0 where
  alike : b ≡ c → r ≡ q → Prefixes b r c q
  longer : (t : Txn) (m : List Txn) → c ≡ b ++ (t ∷ m) → (more : List Txn) → r ≡ t ∷ more → Prefixes b r c q
  shorter : (t : Txn) (m : List Txn) → b ≡ c ++ (t ∷ m) → (more : List Txn) → q ≡ t ∷ more → Prefixes b r c q

prefixes : (b r c q : List Txn) → b ++ r ≡ c ++ q → Prefixes b r c q
prefixes [] r [] q e = alike refl e
prefixes [] r (t ∷ m) q e = longer t m refl (m ++ q) e
prefixes (t ∷ m) r [] q e = shorter t m refl (m ++ r) (sym e)
prefixes (x ∷ b) r (y ∷ c) q e = on (prefixes b r c q (tail_is e)) (head_is e)
  where
    head_is : x ∷ (b ++ r) ≡ y ∷ (c ++ q) → x ≡ y
    head_is h = cc

    tail_is : x ∷ (b ++ r) ≡ y ∷ (c ++ q) → b ++ r ≡ c ++ q
    tail_is h = cc

    on : Prefixes b r c q → x ≡ y → Prefixes (x ∷ b) r (y ∷ c) q
    on (alike i j) h = alike (ap₂ (λ (a : Txn) (l : List Txn). a ∷ l) h i) j
    on (longer t m i more j) h = longer t m (ap₂ (λ (a : Txn) (l : List Txn). a ∷ l) (sym h) i) more j
    on (shorter t m i more j) h = shorter t m (ap₂ (λ (a : Txn) (l : List Txn). a ∷ l) h i) more j

body_prefix : (b m : List Txn) (t : Txn) → body_len (b ++ (t ∷ [])) ≤ body_len (b ++ (t ∷ m))
body_prefix b m t = omega (arith, sum_by-append (λ txn. length (txn_bytes txn)) b (t ∷ []), sum_by-append (λ txn. length (txn_bytes txn)) b (t ∷ m), sum_by-append (λ txn. length (txn_bytes txn)) (t ∷ []) m)

both_true : (a b : Bool) → (a && b) ≡ true → (a ≡ true) × (b ≡ true)
both_true true b h = (refl, h)
both_true false b h = absurd cc

-- what fits has prefixes that fit
fits_prefix : (b m : List Txn) (t : Txn) → fits (b ++ (t ∷ m)) ≡ true → fits (b ++ (t ∷ [])) ≡ true
fits_prefix b m t h =
    let two = both_true (leb (length (b ++ (t ∷ m))) 1024) (leb (body_len (b ++ (t ∷ m))) 4194304) h in
    let count = leb-true _ _ two.0 in
    let size = leb-true _ _ two.1 in
    let few : leb (length (b ++ (t ∷ []))) 1024 ≡ true = le-leb _ _ (omega (arith, length-append b (t ∷ []), length-append b (t ∷ m), count)) in
    let small : leb (body_len (b ++ (t ∷ []))) 4194304 ≡ true = le-leb _ _ (omega (arith, body_prefix b m t, size)) in
    rw (few, small) refl

not_longer : (b r c : List Txn) (t : Txn) (m more : List Txn) → c ≡ b ++ (t ∷ m) → r ≡ t ∷ more → fits c ≡ true → Ends b r → ⊥
not_longer b r c t m more i j fit ends =
    let goes_on : fits (b ++ (t ∷ [])) ≡ true = fits_prefix b m t (ap fits (sym i) ∙ fit) in
    let stops : fits (b ++ (t ∷ [])) ≡ false = subst (λ (l : List Txn). Ends b l) j ends in
    differ (sym goes_on ∙ stops)
  where
    differ : true ≡ false → ⊥
    differ h = cc

no_batch : (b r : List Txn) → HasSome b → [] ≡ b ++ r → ⊥
no_batch [] r some e = some
no_batch (t ∷ ts) r some e = cc

longest_one : (ts us : List Txn) (p q : List (List Txn)) → ts ≡ us → AreLongest ts p → AreLongest us q → p ≡ q
longest_one ts us [] [] e h k = refl
longest_one ts us [] (c ∷ cs) e h k = absurd (no_batch c k.0 k.2 (sym h ∙ e ∙ k.1))
longest_one ts us (b ∷ bs) [] e h k = absurd (no_batch b h.0 h.2 (sym k ∙ sym e ∙ h.1))
longest_one ts us (b ∷ bs) (c ∷ cs) e h k = by (prefixes b h.0 c k.0 (sym h.1 ∙ e ∙ k.1)) (λ is. longest_one h.0 k.0 bs cs is h.5 k.5)
  where
    by : Prefixes b h.0 c k.0 → (h.0 ≡ k.0 → bs ≡ cs) → b ∷ bs ≡ c ∷ cs
    by (alike i j) next = ap₂ (λ (x : List Txn) (xs : List (List Txn)). x ∷ xs) i (next j)
    by (longer t m i more j) next = absurd (not_longer b h.0 c t m more i j k.3 h.4)
    by (shorter t m i more j) next = absurd (not_longer c k.0 b t m more i j h.3 k.4)

parts_one : (rs : List (List Txn)) (p q : List (List (List Txn))) → AllZip AreLongest rs p → AllZip AreLongest rs q → p ≡ q
parts_one [] [] [] h k = refl
parts_one [] [] (y ∷ ys) h k = absurd k
parts_one [] (x ∷ xs) q h k = absurd h
parts_one (r ∷ rs) [] q h k = absurd h
parts_one (r ∷ rs) (x ∷ xs) [] h k = absurd k
parts_one (r ∷ rs) (x ∷ xs) (y ∷ ys) h k = ap₂ (λ (s : List (List Txn)) (ss : List (List (List Txn))). s ∷ ss) (longest_one r r x y refl h.0 k.0) (parts_one rs xs ys h.1 k.1)

batches_one : (all : List ScriptStep) (a b : List Batch) → AreCutInto all a → AreCutInto all b → a ≡ b
batches_one all a b h k = sym h.are ∙ ap (λ (p : List (List (List Txn))). as_batches 1 (flat_map (λ run. run) p)) (parts_one (flush_runs all) h.parts k.parts h.each k.each) ∙ k.are

made_once : (c : CatalogueState) (ls : List (List ℕ)) (a b : List Batch) → HasBatches c ls a → HasBatches c ls b → a ≡ b
made_once c ls a b h k = batches_one (steps h.said) a b h.cut (subst (λ (s : List (Option Request)). AreCutInto (steps s) b) (sym (accepts_one c ls h.said k.said h.accepted k.accepted)) k.cut)

-- ---- the parts of a text

abbrev Answer : Type 0
Answer = Result Script ScriptFault

abbrev ok_answer : Script → Answer
ok_answer script = Ok script

abbrev fault_answer : ScriptFault → Answer
fault_answer fault = Err fault

lines_over : (after : List ℕ) (c d : CatalogueState) (number : ℕ) (f : LineFault) → c ≡ d → IsFirstRefused c (lines_after after) number f → IsFirstRefused d (lines_after after) number f
lines_over after c d number f same h = subst (λ (x : CatalogueState). IsFirstRefused x (lines_after after) number f) same h

scripts_once : (prefix after : List ℕ) (a b : Script) → HasParts prefix after a → HasParts prefix after b → a ≡ b
scripts_once prefix after a b h k =
    let same : a.catalogue ≡ b.catalogue = one_catalogue prefix a.catalogue b.catalogue h.accepted.has k.accepted.has in
    let made : a.batches ≡ b.batches = made_once b.catalogue (lines_after after) a.batches b.batches (subst (λ (c : CatalogueState). HasBatches c (lines_after after) a.batches) same h.batches) k.batches in
    λ i. record { catalogue = same i; batches = made i }

script_or_fault : (prefix after : List ℕ) (s : Script) (f : ScriptFault) → HasParts prefix after s → IsPartsFault prefix after f → ⊥
script_or_fault prefix after s (Unaccepted f) h k = accepted_or_not prefix s.catalogue f h.accepted k
script_or_fault prefix after s (Line number f) h k =
    accepted_or_refused s.catalogue (lines_after after) s.batches number f h.batches (lines_over after k.0 s.catalogue number f (one_catalogue prefix k.0 s.catalogue k.1.has h.accepted.has) k.2)

line_faults_once : (after : List ℕ) (c : CatalogueState) (m n : ℕ) (f g : LineFault) → IsFirstRefused c (lines_after after) m f → IsFirstRefused c (lines_after after) n g → ◌≡◌ {A = ScriptFault} (Line m f) (Line n g)
line_faults_once after c m n f g h k = let same = refused_once c (lines_after after) m n f g h k in λ i. Line (same.0 i) (same.1 i)

pub faults_once : (prefix after : List ℕ) (f g : ScriptFault) → IsPartsFault prefix after f → IsPartsFault prefix after g → f ≡ g
faults_once prefix after (Unaccepted f) (Unaccepted g) h k = ap (λ (x : AcceptFault). Unaccepted x) (one_unaccepted prefix f g h k)
faults_once prefix after (Unaccepted f) (Line number g) h k = absurd (accepted_or_not prefix k.0 f k.1 h)
faults_once prefix after (Line number f) (Unaccepted g) h k = absurd (accepted_or_not prefix h.0 g h.1 k)
faults_once prefix after (Line m f) (Line n g) h k = line_faults_once after k.0 m n f g (lines_over after h.0 k.0 m f (one_catalogue prefix h.0 k.0 h.1.has k.1.has) h.2) k.2

parts_once : (prefix after : List ℕ) (a b : Answer) → PartsSay prefix after a → PartsSay prefix after b → a ≡ b
parts_once prefix after (Ok s) (Ok t) h k = ap ok_answer (scripts_once prefix after s t h k)
parts_once prefix after (Ok s) (Err g) h k = absurd (script_or_fault prefix after s g h k)
parts_once prefix after (Err f) (Ok t) h k = absurd (script_or_fault prefix after t f k h)
parts_once prefix after (Err f) (Err g) h k = ap fault_answer (faults_once prefix after f g h k)

-- ---- the mark

no_earlier : (text : List ℕ) (i j : ℕ) → IsMark text i → IsMark text j → i < j → ⊥
no_earlier text i j a b less = let conflict : true ≡ false = sym a.mark ∙ b.first i less in absurd cc

mark_once : (text : List ℕ) (a b : Option ℕ) → MarkOf text a → MarkOf text b → a ≡ b
mark_once text None None h k = refl
mark_once text None (Some j) h k = let conflict : true ≡ false = sym k.mark ∙ h j in absurd cc
mark_once text (Some i) None h k = let conflict : true ≡ false = sym h.mark ∙ k i in absurd cc
mark_once text (Some i) (Some j) h k = ap (λ (n : ℕ). Some n) (by_order (cases_order i j))
  where
    by_order : (i ≡ j) ⊎ ((i < j) ⊎ (j < i)) → i ≡ j
    by_order (inl same) = same
    by_order (inr (inl less)) = absurd (no_earlier text i j h k less)
    by_order (inr (inr more)) = absurd (no_earlier text j i k h more)

pub script_once : (text : List ℕ) (a b : Answer) → ScriptSays text a → ScriptSays text b → a ≡ b
script_once text a b h k = parts_once (text_before text k.mark) (text_after text k.mark) a b
    (subst (λ (m : Option ℕ). PartsSay (text_before text m) (text_after text m) a) (mark_once text h.mark k.mark h.is_mark k.is_mark) h.parts) k.parts
