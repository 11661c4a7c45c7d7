-- By whether the queue goes on, and whether the entry modifies.
use Rattle.std.proofs.Common.{◌≡◌, sym, ap, ◌∙◌, subst, arith}
use Rattle.pac_batch.specs.declared.queues.Queued.{Queued}
use Rattle.pac_batch.specs.Queues.{entry, AreJoinedAt, IsPairOf, IsPairSince, ArePairsAdded}
use Rattle.pac_batch.proofs.QueueMembers.{entry_here}
use Rattle.pac_batch.proofs.JoinLemmas.{new_start, none_next, write_next, write_only, read_next, read_only}
use Rattle.pac_batch.proofs.AddedLemmas.{added_as, added_none}
use Rattle.pac_batch.proofs.next_pairs.join.Goals as goal

pub returns-then-not-is_same_queue-clause-start : goal.returns-then-not-is_same_queue-clause-start
returns-then-not-is_same_queue-clause-start c =
    let queued = c.args.queued.now in
    let within = c.requires.start.within in
    let inside = c.requires.inside in
    let first = entry_here queued c.args.start c.index-queued-start.result (omega (arith, within, inside)) c.index-queued-start.is in
    let last = entry_here queued c.args.end c.index-queued-end.result inside c.index-queued-end.is in
    let new : (entry queued c.args.start).row ≡ (entry queued c.args.end).row → ⊥ = λ e. cc (c.is_same_queue.ensures.1 (ap (λ (x : Queued). x.row) (sym first) ∙ e ∙ ap (λ (x : Queued). x.row) last)) in
    new_start queued c.requires.order c.args.start c.args.end c.requires.start inside new

pub returns-then-not-is_same_queue-clause-pairs : goal.returns-then-not-is_same_queue-clause-pairs
returns-then-not-is_same_queue-clause-pairs c =
    let queued = c.args.queued.now in
    let within = c.requires.start.within in
    let inside = c.requires.inside in
    let first = entry_here queued c.args.start c.index-queued-start.result (omega (arith, within, inside)) c.index-queued-start.is in
    let last = entry_here queued c.args.end c.index-queued-end.result inside c.index-queued-end.is in
    let new : (entry queued c.args.start).row ≡ (entry queued c.args.end).row → ⊥ = λ e. cc (c.is_same_queue.ensures.1 (ap (λ (x : Queued). x.row) (sym first) ∙ e ∙ ap (λ (x : Queued). x.row) last)) in
    added_none c.args.pairs.now.items (AreJoinedAt queued c.args.end) (none_next queued c.requires.order c.args.start c.args.end c.requires.start inside new)

pub returns-then-last-clause-pairs : goal.returns-then-last-clause-pairs
returns-then-last-clause-pairs c =
    let queued = c.args.queued.now in
    let within = c.requires.start.within in
    let inside = c.requires.inside in
    let first = entry_here queued c.args.start c.index-queued-start.result (omega (arith, within, inside)) c.index-queued-start.is in
    let last = entry_here queued c.args.end c.index-queued-end.result inside c.index-queued-end.is in
    let same = ap (λ (x : Queued). x.row) first ∙ c.is_same_queue.ensures.0 c.if-not-is_same_queue.false ∙ ap (λ (x : Queued). x.row) (sym last) in
    let writes = ap (λ (x : Queued). x.is_write) last ∙ c.if-last.true in
    added_as c.args.pairs.now.items c.add_since.new.pairs.items (IsPairSince queued c.args.start c.args.end c.args.end) (AreJoinedAt queued c.args.end)
    (write_next queued c.requires.order c.args.start c.args.end c.requires.start inside same writes)
    (write_only queued c.requires.order c.args.start c.args.end c.requires.start inside same writes)
    c.in_ok-add_since.ensures.pairs

pub returns-in_ok-add_pair-clause-pairs : goal.returns-in_ok-add_pair-clause-pairs
returns-in_ok-add_pair-clause-pairs c =
    let queued = c.args.queued.now in
    let within = c.requires.start.within in
    let inside = c.requires.inside in
    let first = entry_here queued c.args.start c.index-queued-start.result (omega (arith, within, inside)) c.index-queued-start.is in
    let last = entry_here queued c.args.end c.index-queued-end.result inside c.index-queued-end.is in
    let same = ap (λ (x : Queued). x.row) first ∙ c.is_same_queue.ensures.0 c.if-not-is_same_queue.false ∙ ap (λ (x : Queued). x.row) (sym last) in
    let reads = ap (λ (x : Queued). x.is_write) last ∙ c.if-last.false in
    let writes = ap (λ (x : Queued). x.is_write) first ∙ c.if-first.true in
    let added : ArePairsAdded c.args.pairs.now.items c.add_pair.new.pairs.items (IsPairOf (entry queued c.args.start) (entry queued c.args.end)) =
    subst (λ (x : Queued). ArePairsAdded c.args.pairs.now.items c.add_pair.new.pairs.items (IsPairOf x (entry queued c.args.end))) (sym first)
    (subst (λ (x : Queued). ArePairsAdded c.args.pairs.now.items c.add_pair.new.pairs.items (IsPairOf c.index-queued-start.result x)) (sym last) c.in_ok-add_pair.ensures.pairs) in
    added_as c.args.pairs.now.items c.add_pair.new.pairs.items (IsPairOf (entry queued c.args.start) (entry queued c.args.end)) (AreJoinedAt queued c.args.end)
    (read_next queued c.requires.order c.args.start c.args.end c.requires.start inside same reads writes)
    (read_only queued c.requires.order c.args.start c.args.end c.requires.start inside same reads)
    added
