-- Cutting one step after another gives the longest prefixes between flushes.
use Rattle.std.proofs.Common.{◌≡◌, ◌∙◌, ◌+◌, ℕ, Bool, true, false, cond, leb, List, [], ◌∷◌, ◌++◌, length, refl, sym, ap, subst, append_assoc, arith}
use Rattle.std.specs.List.{AllZip, flat_map}
use Rattle.std.proofs.lemmas.List.{append-nil}
use Rattle.std.proofs.lemmas.List.Concat.{flat_map-cons}
use Rattle.std.proofs.lemmas.Bool.{le-leb}
use Rattle.pac_ops.specs.declared.batch.Batch.{Batch}
use Rattle.pac_ops.specs.declared.transaction.Txn.{Txn}
use Rattle.pac_script.specs.declared.step.ScriptStep.{ScriptStep}
use Rattle.pac_script.specs.declared.step.ScriptStep.TheVariants.{Add, Flush}
use Rattle.pac_script.specs.Batches.{body_len, fits, first_run, other_runs, HasSome, AreLongest, as_batches, AreCutInto}
use Rattle.pac_script.specs.Cutting.{Cut, closed_with, flushed, with_last, added, cut_all, nothing_cut, IsSmall}

abbrev pub Parts : Type 0
Parts = List (List Txn)

-- the parts of all runs
abbrev pub all_of : List Parts → Parts
all_of parts = flat_map (λ run. run) parts

pub one_part : (part : Parts) (parts : List Parts) → all_of (part ∷ parts) ≡ part ++ all_of parts
one_part part parts = flat_map-cons (λ (p : Parts). p) part parts

-- a batch can hold each transaction alone
abbrev pub AllSmall : List ScriptStep → Type 0
AllSmall [] = Unit {0}
AllSmall (step ∷ more) = IsSmall step × AllSmall more

-- what steps add to the batches that are closed, where these transactions are held and the first of them has this number:
-- the parts of the runs, the first of which begins with them
record Adds (held : List Txn) (closed : List Batch) (first : ℕ) (all : List ScriptStep) (after : List Batch) : Type 0 where
  pub parts : List Parts
  pub each : AllZip AreLongest ((held ++ first_run all) ∷ other_runs all) parts
  pub are : after ≡ closed ++ as_batches first (all_of parts)

-- the parts of a run that ends with what is held
abbrev last_part : List Txn → Parts
last_part [] = []
last_part (t ∷ ts) = (t ∷ ts) ∷ []

closed_with-part : (closed : List Batch) (first : ℕ) (held : List Txn) → closed_with closed first held ≡ closed ++ as_batches first (last_part held)
closed_with-part closed first [] = sym (append-nil closed)
closed_with-part closed first (t ∷ ts) = refl

as_batches-last : (first : ℕ) (held : List Txn) (parts : Parts) → as_batches first (last_part held) ++ as_batches (first + length held) parts ≡ as_batches first (last_part held ++ parts)
as_batches-last first [] parts = let none : first + 0 ≡ first = omega arith in rw none refl
as_batches-last first (t ∷ ts) parts = refl

last-longest : (held : List Txn) → fits held ≡ true → AreLongest (held ++ []) (last_part held)
last-longest [] h = refl
last-longest (t ∷ ts) h = ([], refl, tt, h, tt, refl)

small_fits : (t : Txn) → IsSmall (Add t) → fits (t ∷ []) ≡ true
small_fits t h = let few : leb (body_len (t ∷ [])) 4194304 ≡ true = le-leb _ _ h in rw few refl

-- the first run's parts, and those of the others
split_parts : (run : List Txn) (others : List (List Txn)) (parts : List Parts) → AllZip AreLongest (run ∷ others) parts
    → (part : Parts) × (more : List Parts) × (parts ≡ part ∷ more) × AreLongest run part × AllZip AreLongest others more
split_parts run others [] each = absurd each
split_parts run others (p ∷ ps) each = (p, ps, refl, each.0, each.1)

has_some : (held : List Txn) (t : Txn) → IsSmall (Add t) → fits (held ++ (t ∷ [])) ≡ false → HasSome held
has_some [] t small h = absurd (true_not (sym (small_fits t small) ∙ h))
  where
    true_not : true ≡ false → ⊥
    true_not e = cc
has_some (x ∷ xs) t small h = tt

adds : (all : List ScriptStep) (c : Cut) → fits c.held ≡ true → AllSmall all → Adds c.held c.closed c.first all (flushed (cut_all all c)).closed
adds [] c h small = record {
  parts = last_part c.held ∷ [];
  each = (last-longest c.held h, tt);
  are = closed_with-part c.closed c.first c.held
      ∙ ap (λ (x : Parts). c.closed ++ as_batches c.first x) (sym (one_part (last_part c.held) [] ∙ append-nil (last_part c.held)));
}
adds (Flush ∷ all) c h small =
    let more = adds all (flushed c) refl small.1 in
    record {
      parts = last_part c.held ∷ more.parts;
      each = (last-longest c.held h, more.each);
      are = more.are ∙ ap (λ (x : List Batch). x ++ as_batches (c.first + length c.held) (all_of more.parts)) (closed_with-part c.closed c.first c.held)
          ∙ append_assoc c.closed (as_batches c.first (last_part c.held)) (as_batches (c.first + length c.held) (all_of more.parts))
          ∙ ap (λ (x : List Batch). c.closed ++ x) (as_batches-last c.first c.held (all_of more.parts))
          ∙ ap (λ (x : Parts). c.closed ++ as_batches c.first x) (sym (one_part (last_part c.held) more.parts));
    }
adds (Add t ∷ all) c h small = by (λ d is. adds all d is small.1) (fits (c.held ++ (t ∷ []))) refl
  where
    by : ((d : Cut) → fits d.held ≡ true → Adds d.held d.closed d.first all (flushed (cut_all all d)).closed) → (b : Bool) → fits (c.held ++ (t ∷ [])) ≡ b
        → Adds c.held c.closed c.first (Add t ∷ all) (flushed (cut_all all (added t c))).closed
    by next true is =
        let more = next (with_last t c) is in
        let to : added t c ≡ with_last t c = ap (λ (b : Bool). cond b (with_last t c) (with_last t (flushed c))) is in
        record {
          parts = more.parts;
          each = subst (λ (x : List Txn). AllZip AreLongest (x ∷ other_runs all) more.parts) (append_assoc c.held (t ∷ []) (first_run all)) more.each;
          are = ap (λ (d : Cut). (flushed (cut_all all d)).closed) to ∙ more.are;
        }
    by next false is =
        let more = next (with_last t (flushed c)) (small_fits t small.0) in
        let to : added t c ≡ with_last t (flushed c) = ap (λ (b : Bool). cond b (with_last t c) (with_last t (flushed c))) is in
        let two = split_parts (t ∷ first_run all) (other_runs all) more.parts more.each in
        let some = has_some c.held t small.0 is in
        record {
          parts = (c.held ∷ two.0) ∷ two.1;
          each = ((t ∷ first_run all, refl, some, h, is, two.3), two.4);
          are = ap (λ (d : Cut). (flushed (cut_all all d)).closed) to ∙ more.are
              ∙ ap (λ (x : List Parts). closed_with c.closed c.first c.held ++ as_batches (c.first + length c.held) (all_of x)) two.2
              ∙ full c.closed c.first c.held two.0 two.1 some;
        }
      where
        full : (closed : List Batch) (first : ℕ) (held : List Txn) (part : Parts) (parts : List Parts) → HasSome held
            → closed_with closed first held ++ as_batches (first + length held) (all_of (part ∷ parts)) ≡ closed ++ as_batches first (all_of ((held ∷ part) ∷ parts))
        full closed first [] part parts some = absurd some
        full closed first (x ∷ xs) part parts some =
            append_assoc closed (record { first = first; txns = x ∷ xs } ∷ []) (as_batches (first + length (x ∷ xs)) (all_of (part ∷ parts)))
            ∙ ap (λ (y : Parts). closed ++ as_batches first y) (ap (λ (y : Parts). (x ∷ xs) ∷ y) (one_part part parts) ∙ sym (one_part ((x ∷ xs) ∷ part) parts))

pub are_batches : (all : List ScriptStep) → AllSmall all → AreCutInto all (flushed (cut_all all nothing_cut)).closed
are_batches all small = let a = adds all nothing_cut refl small in record { parts = a.parts; each = a.each; are = sym a.are }
