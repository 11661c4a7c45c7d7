-- The blocks of one program more stand after those so far.
use Rattle.std.proofs.Common.{◌≡◌, ℕ, ◌+◌, ◌<◌, [], ◌∷◌, ◌++◌, map, take, length, Some, get_or, refl, sym, ap, ◌∙◌, subst, arith, add-one}
use Rattle.std.specs.Prelude.{slice_get, slice_index, slice_index_or, IsSomeAnd}
use Rattle.std.proofs.lemmas.List.{length_push, take_all}
use Rattle.std.proofs.lemmas.Option.{slice_get_read}
use Rattle.pac_base.proofs.ItemLemmas.{inside}
use Rattle.pac_ops.specs.declared.program.Program.{Program}
use Rattle.pac_global.specs.Drawing.{first_of}
use Rattle.pac_global.proofs.OffsetLemmas.{first_next, first_within}
use Rattle.pac_global.proofs.BlockLemmas.{each_more, is_more}
use Rattle.pac_global.proofs.blocks.blocks_of.Goals as goal

pub row-requires : goal.row-requires
row-requires c = let programs = c.args.programs.now in
    let l = c.loop-program in
    let program = c.program-item.result in
    let at : slice_get programs l.program-index ≡ Some program = slice_get_read programs (length programs) l.program-index program refl c.loop-program-test.true c.program-item.is in
    omega (arith, first_within programs l.program-index program at, ap length c.as_slice-count.ensures, l.invariant.first, c.requires.room)

pub overflow_add-first : goal.overflow_add-first
overflow_add-first c = let programs = c.args.programs.now in
    let l = c.loop-program in
    let program = c.program-item.result in
    let at : slice_get programs l.program-index ≡ Some program = slice_get_read programs (length programs) l.program-index program refl c.loop-program-test.true c.program-item.is in
    omega (arith, first_within programs l.program-index program at, ap length c.as_slice-count.ensures, l.invariant.first, c.requires.few)

pub loop-program-preserved : goal.loop-program-preserved
loop-program-preserved c = let programs = c.args.programs.now in
    let numbers = c.args.numbers.now in
    let l = c.loop-program in
    let n = l.program-index in
    let blocks = l.blocks.items in
    let row = c.in_ok-row.field-0.items in
    let program = c.program-item.result in
    let at : slice_get programs n ≡ Some program = slice_get_read programs (length programs) n program refl c.loop-program-test.true c.program-item.is in
    let next : first_of programs (n + 1) ≡ first_of programs n + length program.ops = rw add-one (first_next programs n program at) in
    let count = ap length c.as_slice-count.ensures in
    let full : length row ≡ length program.ops = c.in_ok-row.ensures.length ∙ count in
    let items : c.push.new.self.items ≡ blocks ++ row ∷ [] = c.in_ok-push.ensures.items ∙ ap (λ r. blocks ++ r ∷ []) c.listed.ensures in
    let last : (i : ℕ) → i < length program.ops → get_or row i 0 ≡ get_or numbers (first_of programs n + i) 0 = λ i lt.
    c.in_ok-row.ensures.each i (omega (arith, lt, count)) ∙ ap (λ k. get_or numbers (k + i) 0) l.invariant.first in
    record {
      first = omega (arith, next, count, l.invariant.first);
      size = ap length items ∙ (length_push blocks row ∙ ap (λ k. k + 1) l.invariant.size);
      each = subst (λ xs. map (λ row. length row) xs ≡ map (λ (q : Program). length q.ops) (take (n + 1) programs)) (sym items) (each_more programs numbers blocks row n program at full l.invariant.each);
      is = subst (λ xs. (p i : ℕ) → p < n + 1 → IsSomeAnd (slice_get programs p) (λ (q : Program). i < length q.ops) → slice_index (slice_index_or xs p []) i ≡ slice_index numbers (first_of programs p + i)) (sym items)
          (is_more programs numbers blocks row n program at full l.invariant.size last l.invariant.is);
    }

pub returns : goal.returns
returns c = let programs = c.args.programs.now in
    let l = c.loop-program in
    record {
      each = l.invariant.each ∙ ap (λ xs. map (λ (q : Program). length q.ops) xs) (take_all l.program-index programs (omega (arith, c.loop-program-test.false)));
      is = λ p i there. l.invariant.is p i (let within : p < length programs = inside programs p (λ (q : Program). i < length q.ops) there in omega (arith, within, c.loop-program-test.false)) there;
    }
