-- The groups of the graph that was drawn are the blocks.
use Rattle.std.proofs.Common.{◌≡◌, ◌↔◌, ℕ, ◌+◌, ◌<◌, map, length, get_or, sym, ap, ◌∙◌, subst, arith}
use Rattle.std.proofs.lemmas.List.{length-map}
use Rattle.pac_ops.specs.Programs.{AreWellFormedPrograms}
use Rattle.pac_graph.specs.Graph.{HasEdge}
use Rattle.pac_graph.specs.Adding.{Adds}
use Rattle.pac_slice.proofs.PairLemmas.{only_added}
use Rattle.pac_plan.specs.declared.parts.PlanParts.{PlanParts}
use Rattle.pac_plan.specs.Analysis.{IsPlan}
use Rattle.pac_plan.proofs.OrderLemmas.{accessed_there}
use Rattle.pac_types.specs.Fits.{shape}
use Rattle.pac_ops.specs.Programs.{count_ops}
use Rattle.pac_global.specs.Drawing.{HasEdgeOf, AreBlocksOf}
use Rattle.pac_global.proofs.PlanLemmas.{is_analysis, well_formed_tables}
use Rattle.pac_global.proofs.plan.parts_of.Goals as goal

pub add_programs-requires-clause-tables : goal.add_programs-requires-clause-tables
add_programs-requires-clause-tables c = let tables = map shape c.args.cat.now.tables in
    let programs = c.args.programs.items in
    let types : c.in_ok-tables.tables.items ≡ tables = c.in_ok-tables.ensures ∙ ap (map shape) c.tables.ensures.value in
    let well_formed : AreWellFormedPrograms tables c.deref-2.result.now = subst (λ ps. AreWellFormedPrograms tables ps) (sym c.deref-2.ensures.value) c.requires.well_formed in
    λ p i t program at accesses.
    let below : t < length tables = accessed_there tables program i t (well_formed p program at) accesses in
    omega (arith, below, ap length types, c.in_ok-graph.ensures.nodes, c.len.ensures, c.in_ok-tables.tables.ok)

pub returns-clause-plan : goal.returns-clause-plan
returns-clause-plan c = let cat = c.args.cat.now in
    let programs = c.args.programs.items in
    let tables = map shape cat.tables in
    let types : c.in_ok-tables.tables.items ≡ tables = c.in_ok-tables.ensures ∙ ap (map shape) c.tables.ensures.value in
    let old = c.in_ok-graph.graph in
    let g = c.add_programs.new.graph in
    let numbers = c.in_ok-groups.groups.numbers in
    let count = c.in_ok-groups.groups.count in
    let edges = c.in_ok-groups.groups.edges in
    let block_of = c.in_ok-block_of.block_of.items in
    let homes = c.in_ok-homes.homes.items in
    let parts : PlanParts = record { programs = programs; tables = tables; block_of = block_of; homes = homes; blocks = count; edges = edges } in
    let total : c.op_count-total.result ≡ count_ops programs = c.op_count-total.ensures ∙ ap count_ops c.deref.ensures.value in
    let size : length c.in_ok-tables.tables.items ≡ length tables = ap length types in
    let nodes : g.nodes ≡ count_ops programs + length tables = omega (arith, c.add_programs.ensures.nodes, c.in_ok-graph.ensures.nodes, total, c.len.ensures, c.in_ok-tables.tables.ok, size) in
    let adds : Adds old (λ u v. (p : ℕ) × HasEdgeOf programs p u v) g = subst (λ ps. Adds old (λ u v. (p : ℕ) × HasEdgeOf ps p u v) g) c.deref-2.ensures.value c.add_programs.ensures in
    let drawn : (u v : ℕ) → HasEdge g u v ↔ ((p : ℕ) × HasEdgeOf programs p u v) = only_added old g (λ u v. (p : ℕ) × HasEdgeOf programs p u v) (λ u v. (p : ℕ) × HasEdgeOf programs p u v) c.in_ok-graph.ensures.empty adds (λ u v. ((λ e. e), (λ e. e))) in
    let blocks : AreBlocksOf programs numbers block_of = subst (λ ps. AreBlocksOf ps numbers block_of) c.deref-3.ensures.value (subst (λ ns. AreBlocksOf c.deref-3.result.now ns block_of) c.as_slice-numbers.ensures c.in_ok-block_of.ensures) in
    let homed : length homes ≡ length tables = omega (arith, c.in_ok-homes.ensures.length, c.len-2.ensures, c.in_ok-tables.tables.ok, size) in
    let at_home : (t : ℕ) → t < length tables → get_or homes t 0 ≡ get_or numbers (count_ops programs + t) 0 = λ t lt.
    c.in_ok-homes.ensures.each t (omega (arith, lt, c.len-2.ensures, c.in_ok-tables.tables.ok, size))
    ∙ (ap (λ ns. get_or ns (c.op_count-total.result + t) 0) c.as_slice-numbers.ensures ∙ ap (λ k. get_or numbers (k + t) 0) total) in
    let plan : IsPlan parts = record {
      few_programs = c.requires.few;
      few_tables = omega (arith, c.tables.ensures.few, length-map cat.tables shape);
      tables = well_formed_tables cat.tables c.tables.ensures.well_formed;
      programs = c.requires.well_formed;
      analysis = is_analysis parts g numbers c.requires.well_formed nodes drawn c.in_ok-groups.ensures.are blocks homed at_home;
    } in
    subst (λ x. IsPlan (record { programs = x; tables = c.listed-2.result; block_of = c.listed-3.result; homes = c.listed-4.result; blocks = count; edges = edges })) (sym c.listed.ensures)
    (subst (λ x. IsPlan (record { programs = programs; tables = x; block_of = c.listed-3.result; homes = c.listed-4.result; blocks = count; edges = edges })) (sym (c.listed-2.ensures ∙ types))
    (subst (λ x. IsPlan (record { programs = programs; tables = tables; block_of = x; homes = c.listed-4.result; blocks = count; edges = edges })) (sym c.listed-3.ensures)
    (subst (λ x. IsPlan (record { programs = programs; tables = tables; block_of = block_of; homes = x; blocks = count; edges = edges })) (sym c.listed-4.ensures) plan)))
