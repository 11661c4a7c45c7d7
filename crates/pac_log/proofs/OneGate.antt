-- An offset in a log is that of one gate, and that has one number of transactions before it.
use Rattle.std.proofs.Common.{◌≡◌, ◌∙◌, ℕ, ◌≤◌, ◌+◌, ◌-◌, List, [], ◌∷◌, ◌++◌, length, drop, refl, sym, ap, ap₂, arith, append_assoc}
use Rattle.std.proofs.lemmas.List.{length-append, drop_at}
use Rattle.pac_ops.specs.declared.transaction.Txn.{Txn}
use Rattle.pac_log.specs.declared.header.Header.{Header}
use Rattle.pac_log.specs.declared.position.NextGate.{NextGate}
use Rattle.pac_log.specs.Bodies.{body_bytes}
use Rattle.pac_log.specs.Logs.{base_of, header_bytes, open_bodies, all_txns, number_after, HasGate}
use Rattle.pac_log.specs.Places.{IsAfter}
use Rattle.pac_log.proofs.LogLemmas.{all_txns-append}

others_of : (x y : List Txn) (a b : List (List Txn)) → x ∷ a ≡ y ∷ b → (x ≡ y) × (a ≡ b)
others_of x y a b e = (first e, rest e)
  where
    first : x ∷ a ≡ y ∷ b → x ≡ y
    first h = cc

    rest : x ∷ a ≡ y ∷ b → a ≡ b
    rest h = cc

-- prefixes of one list that are as long are one
same_prefix : (a b c d : List (List Txn)) → a ++ c ≡ b ++ d → length (open_bodies a) ≡ length (open_bodies b) → a ≡ b
same_prefix [] [] c d e long = refl
same_prefix [] (y ∷ b) c d e long = absurd (omega (arith, long))
same_prefix (x ∷ a) [] c d e long = absurd (omega (arith, long))
same_prefix (x ∷ a) (y ∷ b) c d e long =
    let parts = others_of x y (a ++ c) (b ++ d) e in
    let one : length (body_bytes x) ≡ length (body_bytes y) = ap (λ (t : List Txn). length (body_bytes t)) parts.0 in
    ap₂ (λ (t : List Txn) (ts : List (List Txn)). t ∷ ts) parts.0 (same_prefix a b c d parts.1 (omega (arith, long, one, length-append (body_bytes x) (open_bodies a), length-append (body_bytes y) (open_bodies b))))

pub one_number : (header : Header) (batches : List (List Txn)) (place m n : ℕ) → HasGate header batches place m → HasGate header batches place n → m ≡ n
one_number header batches place m n is other =
    let long : length (open_bodies is.before) ≡ length (open_bodies other.before) = omega (arith, is.there, other.there, length-append (header_bytes header) (open_bodies is.before), length-append (header_bytes header) (open_bodies other.before)) in
    let same : is.before ≡ other.before = same_prefix is.before other.before is.after other.after (sym is.split ∙ other.split) long in
    is.counted ∙ ap (λ (b : List (List Txn)). number_after header b) same ∙ sym other.counted

-- the transactions before a gate, and those after it
txns_of_gate : (header : Header) (batches : List (List Txn)) (place n : ℕ) → (is : HasGate header batches place n) → all_txns batches ≡ all_txns is.before ++ all_txns is.after
txns_of_gate header batches place n is = ap (λ (b : List (List Txn)). all_txns b) is.split ∙ all_txns-append is.before is.after

pub few : (header : Header) (batches : List (List Txn)) (place n : ℕ) → HasGate header batches place n → n ≤ number_after header batches
few header batches place n is = omega (arith, is.counted, ap (λ (l : List Txn). length l) (txns_of_gate header batches place n is), length-append (all_txns is.before) (all_txns is.after))

pub begun : (header : Header) (batches : List (List Txn)) (place n : ℕ) → HasGate header batches place n → base_of header ≤ n
begun header batches place n is = omega (arith, is.counted)

pub after_gate : (header : Header) (batches : List (List Txn)) (place n : ℕ) → (is : HasGate header batches place n) → drop (n - base_of header) (all_txns batches) ≡ all_txns is.after
after_gate header batches place n is = ap (λ (l : List Txn). drop (n - base_of header) l) (txns_of_gate header batches place n is) ∙ drop_at (all_txns is.before) (all_txns is.after) (n - base_of header) (omega (arith, is.counted))

pub stays : (header : Header) (batches more : List (List Txn)) (place n : ℕ) → HasGate header batches place n → HasGate header (batches ++ more) place n
stays header batches more place n is = record {
  before = is.before;
  after = is.after ++ more;
  split = ap (λ (b : List (List Txn)). b ++ more) is.split ∙ append_assoc is.before is.after more;
  there = is.there;
  counted = is.counted;
}

-- the gate that comes next is one of the log's, whatever stands after it
pub next_is_gate : (header : Header) (before after : List (List Txn)) (gate : NextGate) → IsAfter header before gate → HasGate header (before ++ after) gate.place gate.txns
next_is_gate header before after gate is = record { before = before; after = after; split = refl; there = is.place; counted = is.txns }
