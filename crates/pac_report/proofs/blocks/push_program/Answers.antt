-- An operation more stands in the text of its block.
use Rattle.std.proofs.Common.{◌≡◌, ◌<◌, ℕ, ◌++◌, List, Vec, Global, map, length, codes, decimal, set, sym, ap, subst, ◌∙◌, arith, Some, refl, slice_get, get_or, Option}
use Rattle.std.specs.List.{range_with_len}
use Rattle.std.specs.Prelude.{IsSomeAnd}
use Rattle.std.proofs.lemmas.Option.{slice_get_read}
use Rattle.pac_ops.specs.declared.program.Program.{Program}
use Rattle.pac_types.specs.declared.procedure.Proc.{Proc}
use Rattle.pac_plan.specs.Nodes.{Node, Operation}
use Rattle.pac_report.specs.GroupTexts.{Hold, listed_members, first_nodes, with_listed}
use Rattle.pac_report.proofs.GroupLemmas.{hold_at, hold_count}
use Rattle.pac_report.proofs.BlockLemmas.{node_put, operations_more, nodes_more, proc_name}
use Rattle.pac_report.proofs.blocks.push_program.Goals as goal

-- the operation is there
there : (o : Option Program) (program : Program) (i : ℕ) → o ≡ Some program → i < length program.ops → IsSomeAnd o (λ program. i < length program.ops)
there o program i is lt = subst (λ (p : Option Program). IsSomeAnd p (λ program. i < length program.ops)) (sym is) lt

pub index_mut-requires : goal.index_mut-requires
index_mut-requires c =
    let cat = c.args.cat.now in
    let plan = c.args.plan.now in
    let p = c.args.p in
    let l = c.loop-i in
    let within : l.i < length c.program.result.now.ops = omega (arith, c.loop-i-test.true, ap length c.as_slice-i-end.ensures) in
    omega (
      arith,
      hold_count l.texts.items (listed_members cat plan (first_nodes plan p ++ map (Operation p) (range_with_len 0 l.i))) plan.blocks l.invariant,
      c.is_plan.ensures.analysis.groups.below (Operation p l.i) (there (slice_get plan.programs p) c.program.result.now l.i c.program.ensures within),
      c.block_of-block.ensures,
      c.from-in-loop-i.ensures,
    )

pub loop-i-preserved : goal.loop-i-preserved
loop-i-preserved c =
    let cat = c.args.cat.now in
    let plan = c.args.plan.now in
    let p = c.args.p in
    let l = c.loop-i in
    let block = c.from-in-loop-i.result in
    let proc = c.index-procs-from.result in
    let seen = c.procs.result.now in
    let nodes : List Node = first_nodes plan p ++ map (Operation p) (range_with_len 0 l.i) in
    let within : l.i < length c.program.result.now.ops = omega (arith, c.loop-i-test.true, ap length c.as_slice-i-end.ensures) in
    let is : block ≡ c.block_of-block.result = c.from-in-loop-i.ensures in
    let lt : block < plan.blocks =
    omega (arith, c.is_plan.ensures.analysis.groups.below (Operation p l.i) (there (slice_get plan.programs p) c.program.result.now l.i c.program.ensures within), c.block_of-block.ensures, is) in
    let inside : p < length seen = omega (arith, c.requires.proc, ap length c.procs.ensures.value) in
    let read : slice_get seen p ≡ Some proc = slice_get_read seen (length seen) p proc refl inside (c.index-procs-from.is ∙ ap (λ (k : ℕ). get_or seen k proc) c.from.ensures) in
    let at : slice_get cat.procs p ≡ Some proc = ap (λ (ps : List Proc). slice_get ps p) (sym c.procs.ensures.value) ∙ read in
    let before : c.index_mut.result.now.items ≡ listed_members cat plan nodes block =
    ap (λ (v : Vec ℕ Global). v.items) c.index_mut.ensures.value ∙ hold_at l.texts.items (listed_members cat plan nodes) plan.blocks block c.index_mut.result.now l.invariant lt in
    subst (λ (ns : List Node). Hold (set l.texts.items block c.push_operation.new.text) (listed_members cat plan ns) plan.blocks) (sym (operations_more (first_nodes plan p) p l.i))
    (node_put cat plan nodes (Operation p l.i) l.texts.items plan.blocks block c.push_operation.new.text l.invariant (is ∙ c.block_of-block.ensures) lt
    (c.in_ok-push_operation.ensures ∙ ap (λ (x : Proc). with_listed c.index_mut.result.now.items (x.name ++ codes "." ++ decimal l.i)) (sym c.index-procs-from.is)
    ∙ ap (λ (bs : List ℕ). with_listed bs (proc.name ++ codes "." ++ decimal l.i)) before
    ∙ ap (λ (name : List ℕ). with_listed (listed_members cat plan nodes block) (name ++ codes "." ++ decimal l.i)) (sym (proc_name cat.procs p proc at))))

pub returns : goal.returns
returns c =
    let cat = c.args.cat.now in
    let plan = c.args.plan.now in
    let p = c.args.p in
    let l = c.loop-i in
    let all : l.i ≡ length c.program.result.now.ops = omega (arith, c.loop-i-test.false, c.loop-i.auto.i-end, ap length c.as_slice-i-end.ensures) in
    subst (λ (ns : List Node). Hold l.texts.items (listed_members cat plan ns) plan.blocks)
    (ap (λ (n : ℕ). first_nodes plan p ++ map (Operation p) (range_with_len 0 n)) all ∙ sym (nodes_more plan p c.program.result.now c.program.ensures))
    l.invariant
