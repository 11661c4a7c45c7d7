-- What the code does, one step at a time.
use Rattle.std.proofs.Common.{◌≡◌, ◌<◌, ◌≤◌, ℕ, ◌+◌, ◌-◌, zero, suc, ℤ, List, [], ◌∷◌, ◌++◌, length, take, drop, set, get_or, replicate, map, Result, Ok, Err, refl, sym, ap, ◌∙◌, arith, append_assoc, drop-cons, add-one, length-append, length-take}
use Rattle.std.specs.List.{flat_map}
use Rattle.std.proofs.lemmas.List.{length-replicate}
use Rattle.pac_syntax.specs.declared.tree.NameNode.{NameNode}
use Rattle.pac_syntax.specs.declared.tree.ExprNode.{ExprNode}
use Rattle.pac_syntax.specs.declared.tree.StmtNode.{StmtNode, If, For}
use Rattle.pac_syntax.specs.Limits.{size, size_step, sizes}
use Rattle.pac_syntax.proofs.NodeForms.{fold-If, fold-For}
use Rattle.pac_syntax.specs.declared.tree.ProcNode.{ProcNode}
use Rattle.pac_value.specs.Expressions.{◌>>=◌}
use Rattle.pac_types.specs.declared.table.Table.{Table}
use Rattle.pac_types.specs.declared.procedure.Proc.{Proc}
use Rattle.pac_types.specs.declared.type_error.TypeFault.{TypeFault}
use Rattle.pac_types.specs.Numbering.{in_a_row as joined_names, defined, defined_step}
use Rattle.pac_types.specs.Checking.{once, checked_proc, checked_procs}

-- a conditional is itself and the statements in its blocks
pub size_of_if : (test : ExprNode) (first second : List StmtNode) → size (If test first second) ≡ suc (sizes first + sizes second)
size_of_if test first second = fold-If ℕ size_step test first second

-- and so is a loop
pub size_of_for : (name : NameNode) (from to : ℤ) (body : List StmtNode) → size (For name from to body) ≡ suc (sizes body)
size_of_for name from to body = fold-For ℕ size_step name from to body

-- ---- names

pub joined-map : (nodes : List StmtNode) → joined_names (map defined nodes) ≡ flat_map defined nodes
joined-map [] = refl
joined-map (n ∷ ns) = ap (λ names. defined n ++ names) (joined-map ns)

pub defined-If : (node : StmtNode) (test : ExprNode) (first second : List StmtNode) → node ≡ If test first second → defined node ≡ flat_map defined first ++ flat_map defined second
defined-If node test first second is = ap defined is ∙ fold-If (List (List ℕ)) defined_step test first second ∙ ap (λ names. names ++ joined_names (map defined second)) (joined-map first) ∙ ap (λ names. flat_map defined first ++ names) (joined-map second)

pub defined-For : (node : StmtNode) (name : NameNode) (from to : ℤ) (body : List StmtNode) → node ≡ For name from to body → defined node ≡ name.name ∷ flat_map defined body
defined-For node name from to body is = ap defined is ∙ fold-For (List (List ℕ)) defined_step name from to body ∙ ap (λ names. name.name ∷ names) (joined-map body)

-- ---- one item after another is replaced

set-after : {A : Type 0} (xs : List A) (y v : A) (ys : List A) → set (xs ++ y ∷ ys) (length xs) v ≡ xs ++ v ∷ ys
set-after [] y v ys = refl
set-after (x ∷ xs) y v ys = ap (λ zs. x ∷ zs) (set-after xs y v ys)

replicate-more : {A : Type 0} (n : ℕ) (v : A) → replicate n v ++ v ∷ [] ≡ v ∷ replicate n v
replicate-more zero v = refl
replicate-more (suc n) v = ap (λ zs. v ∷ zs) (replicate-more n v)

pub set-next : {A : Type 0} (items : List A) (d v : A) (offset i : ℕ) → offset ≤ i → i < length items
    → set (take offset items ++ (replicate (i - offset) v ++ drop i items)) i v ≡ take offset items ++ (replicate (i + 1 - offset) v ++ drop (i + 1) items)
set-next items d v offset i le lt =
    let prefix = take offset items ++ replicate (i - offset) v in
    let long : length prefix ≡ i = omega (arith, length-append (take offset items) (replicate (i - offset) v), length-take offset items, length-replicate (i - offset) v) in
    let rest : drop i items ≡ get_or items i d ∷ drop (suc i) items = drop-cons items i d lt in
    let count : i + 1 - offset ≡ suc (i - offset) = omega arith in
    ap (λ zs. set zs i v) (sym (append_assoc (take offset items) (replicate (i - offset) v) (drop i items)) ∙ ap (λ zs. prefix ++ zs) rest)
    ∙ ap (λ n. set (prefix ++ get_or items i d ∷ drop (suc i) items) n v) (sym long) ∙ set-after prefix (get_or items i d) v (drop (suc i) items)
    ∙ append_assoc (take offset items) (replicate (i - offset) v) (v ∷ drop (suc i) items)
    ∙ ap (λ zs. take offset items ++ zs) (sym (append_assoc (replicate (i - offset) v) (v ∷ []) (drop (suc i) items)) ∙ ap (λ zs. zs ++ drop (suc i) items) (replicate-more (i - offset) v ∙ ap (λ n. replicate n v) (sym count)) ∙ ap (λ n. replicate (i + 1 - offset) v ++ drop n items) (sym (add-one i)))

-- ---- procedures

then_assoc : {A B C E : Type 0} (r : Result A E) (f : A → B) (g : B → Result C E) → ((r >>= λ x. Ok (f x)) >>= g) ≡ (r >>= λ x. g (f x))
then_assoc (Ok x) f g = refl
then_assoc (Err e) f g = refl

-- one procedure more
pub procs-step : (tables : List Table) (names found : List (List ℕ)) (nodes : List ProcNode) (i : ℕ) (node : ProcNode) (p : Proc) (ps new : List Proc) (whole : Result (List Proc) TypeFault) → i < length nodes → node ≡ get_or nodes i node
    → found ≡ names → once found i node.name ≡ Ok tt → checked_proc tables node ≡ Ok p → new ≡ ps ++ p ∷ [] → whole ≡ (checked_procs tables names i (drop i nodes) >>= λ more. Ok (ps ++ more))
    → whole ≡ (checked_procs tables names (i + 1) (drop (i + 1) nodes) >>= λ more. Ok (new ++ more))
procs-step tables names found nodes i node p ps new whole within at same first is more before =
    let rest : drop i nodes ≡ node ∷ drop (suc i) nodes = drop-cons nodes i node within ∙ ap (λ z. z ∷ drop (suc i) nodes) (sym at) in
    let later = checked_procs tables names (i + 1) (drop (i + 1) nodes) in
    before ∙ ap (λ zs. checked_procs tables names i zs >>= λ more. Ok (ps ++ more)) (rest ∙ ap (λ n. node ∷ drop n nodes) (sym (add-one i)))
    ∙ ap (λ (r : Result (Unit {0}) TypeFault). (r >>= λ _. checked_proc tables node >>= λ p. later >>= λ ps. Ok (p ∷ ps)) >>= λ more. Ok (ps ++ more)) (sym (ap (λ ns. once ns i node.name) same) ∙ first)
    ∙ ap (λ (r : Result Proc TypeFault). (r >>= λ p. later >>= λ ps. Ok (p ∷ ps)) >>= λ more. Ok (ps ++ more)) is
    ∙ then_assoc later (λ ps. p ∷ ps) (λ more. Ok (ps ++ more)) ∙ joined later
  where
    joined : (r : Result (List Proc) TypeFault) → (r >>= λ x. Ok (ps ++ p ∷ x)) ≡ (r >>= λ more. Ok (new ++ more))
    joined (Ok x) = ap Ok (sym (append_assoc ps (p ∷ []) x) ∙ ap (λ zs. zs ++ x) (sym more))
    joined (Err e) = refl
