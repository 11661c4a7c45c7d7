-- The texts of blocks, while tables and operations are added to them.
use Rattle.std.proofs.Common.{◌≡◌, ◌<◌, ℕ, zero, suc, ◌+◌, List, [], ◌∷◌, ◌++◌, map, take, length, set, codes, decimal, Vec, Global, Some, sym, ap, ◌∙◌, arith, append-nil, append_assoc, zero-add, add-zero, slice_get, slice_index_or}
use Rattle.std.specs.List.{range_with_len}
use Rattle.std.proofs.lemmas.List.{map-append}
use Rattle.std.proofs.lemmas.List.FromFn.{map-range_with_len_more}
use Rattle.pac_ops.specs.declared.program.Program.{Program}
use Rattle.pac_plan.specs.declared.parts.PlanParts.{PlanParts}
use Rattle.pac_plan.specs.Nodes.{Node, Operation, VirtualWrite}
use Rattle.pac_plan.specs.Analysis.{block_in}
use Rattle.pac_types.specs.declared.table.Table.{Table}
use Rattle.pac_types.specs.declared.procedure.Proc.{Proc}
use Rattle.pac_types.specs.Typing.{CatalogueState}
use Rattle.pac_report.specs.Explain.{members, operation_nodes, node_text, listed_texts}
use Rattle.pac_report.specs.GroupTexts.{Hold, listed_members, first_nodes, with_listed}
use Rattle.pac_report.proofs.GroupLemmas.{IsLed, listed_more, hold_put, members_in, members_out}

-- no node's text is empty
led_after : (name rest : List ℕ) (texts : List (List ℕ)) → IsLed ((name ++ codes "." ++ rest) ∷ texts)
led_after [] rest texts = tt
led_after (b ∷ bs) rest texts = tt

nodes_led : (cat : CatalogueState) (nodes : List Node) → IsLed (map (node_text cat) nodes)
nodes_led cat [] = tt
nodes_led cat (VirtualWrite t ∷ nodes) = tt
nodes_led cat (Operation p i ∷ nodes) = led_after (slice_index_or (map (λ (proc : Proc). proc.name) cat.procs) p []) (decimal i) (map (node_text cat) nodes)

-- a node more stands in its block's text
pub node_put : (cat : CatalogueState) (plan : PlanParts) (nodes : List Node) (n : Node) (texts : List (Vec ℕ Global)) (count block : ℕ) (text : Vec ℕ Global) → Hold texts (listed_members cat plan nodes) count → block ≡ block_in plan n → block < count → text.items ≡ with_listed (listed_members cat plan nodes block) (node_text cat n) → Hold (set texts block text) (listed_members cat plan (nodes ++ n ∷ [])) count
node_put cat plan nodes n texts count block text hold is lt grew =
    hold_put texts (listed_members cat plan nodes) (listed_members cat plan (nodes ++ n ∷ [])) count block text hold lt (grew ∙ sym inside) outside
  where
    inside : listed_members cat plan (nodes ++ n ∷ []) block ≡ with_listed (listed_members cat plan nodes block) (node_text cat n)
    inside =
        ap (λ (ns : List Node). listed_texts (map (node_text cat) ns)) (members_in (block_in plan) nodes n block is)
        ∙ ap listed_texts (map-append (node_text cat) (members (block_in plan) nodes block) (n ∷ []))
        ∙ listed_more (map (node_text cat) (members (block_in plan) nodes block)) (node_text cat n) (nodes_led cat (members (block_in plan) nodes block))

    outside : (b : ℕ) → (b ≡ block → ⊥) → listed_members cat plan (nodes ++ n ∷ []) b ≡ listed_members cat plan nodes b
    outside b other = ap (λ (ns : List Node). listed_texts (map (node_text cat) ns)) (members_out (block_in plan) nodes n b (λ e. other (e ∙ sym is)))

-- one table more, and one operation more of a program
pub tables_more : (t : ℕ) → map VirtualWrite (range_with_len 0 (t + 1)) ≡ map VirtualWrite (range_with_len 0 t) ++ VirtualWrite t ∷ []
tables_more t = map-range_with_len_more VirtualWrite 0 t t (zero-add t)

pub operations_more : (nodes : List Node) (p i : ℕ) → nodes ++ map (Operation p) (range_with_len 0 (i + 1)) ≡ (nodes ++ map (Operation p) (range_with_len 0 i)) ++ Operation p i ∷ []
operations_more nodes p i =
    ap (λ (ns : List Node). nodes ++ ns) (map-range_with_len_more (Operation p) 0 i i (zero-add i)) ∙ sym (append_assoc nodes (map (Operation p) (range_with_len 0 i)) (Operation p i ∷ []))

program_more : (first p : ℕ) (programs : List Program) (program : Program) → slice_get programs p ≡ Some program → operation_nodes first (take (p + 1) programs) ≡ operation_nodes first (take p programs) ++ map (Operation (first + p)) (range_with_len 0 (length program.ops))
program_more first p [] program is = absurd cc
program_more first zero (q ∷ qs) program is =
    let same : q ≡ program = cc in
    append-nil (map (Operation first) (range_with_len 0 (length q.ops))) ∙ ap (λ (x : Program). map (Operation first) (range_with_len 0 (length x.ops))) same
    ∙ ap (λ (k : ℕ). map (Operation k) (range_with_len 0 (length program.ops))) (sym (add-zero first))
program_more first (suc p) (q ∷ qs) program is =
    let ops : List Node = map (Operation first) (range_with_len 0 (length q.ops)) in
    let next : (first + 1) + p ≡ first + suc p = omega arith in
    let more : suc p + 1 ≡ suc (p + 1) = omega arith in
    ap (λ (k : ℕ). operation_nodes first (take k (q ∷ qs))) more
    ∙ ap (λ (ns : List Node). ops ++ ns) (program_more (first + 1) p qs program is)
    ∙ sym (append_assoc ops (operation_nodes (first + 1) (take p qs)) (map (Operation ((first + 1) + p)) (range_with_len 0 (length program.ops))))
    ∙ ap (λ (k : ℕ). ops ++ operation_nodes (first + 1) (take p qs) ++ map (Operation k) (range_with_len 0 (length program.ops))) next

-- one program more
pub nodes_more : (plan : PlanParts) (p : ℕ) (program : Program) → slice_get plan.programs p ≡ Some program → first_nodes plan (p + 1) ≡ first_nodes plan p ++ map (Operation p) (range_with_len 0 (length program.ops))
nodes_more plan p program is =
    let tables : List Node = map VirtualWrite (range_with_len 0 (length plan.tables)) in
    ap (λ (ns : List Node). tables ++ ns) (program_more 0 p plan.programs program is ∙ ap (λ (k : ℕ). operation_nodes 0 (take p plan.programs) ++ map (Operation k) (range_with_len 0 (length program.ops))) (zero-add p))
    ∙ sym (append_assoc tables (operation_nodes 0 (take p plan.programs)) (map (Operation p) (range_with_len 0 (length program.ops))))

-- the name of a table, and of a procedure
pub table_name : (tables : List Table) (t : ℕ) (table : Table) → slice_get tables t ≡ Some table → slice_index_or (map (λ (x : Table). x.name) tables) t [] ≡ table.name
table_name [] t table is = absurd cc
table_name (x ∷ xs) zero table is = let same : x ≡ table = cc in ap (λ (y : Table). y.name) same
table_name (x ∷ xs) (suc t) table is = table_name xs t table is

pub proc_name : (procs : List Proc) (p : ℕ) (proc : Proc) → slice_get procs p ≡ Some proc → slice_index_or (map (λ (x : Proc). x.name) procs) p [] ≡ proc.name
proc_name [] p proc is = absurd cc
proc_name (x ∷ xs) zero proc is = let same : x ≡ proc = cc in ap (λ (y : Proc). y.name) same
proc_name (x ∷ xs) (suc p) proc is = proc_name xs p proc is
