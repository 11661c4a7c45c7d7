-- What a batch adds stands after the rest.
use Rattle.std.proofs.Common.{◌≡◌, ◌+◌, false, List, [], ◌∷◌, ◌++◌, length, Result, Ok, Err, refl, sym, ap, ◌∙◌, true≢false, rules}
use Rattle.std.specs.Prelude.{OnOk, is_err}
use Rattle.pac_ops.specs.declared.transaction.Txn.{Txn}
use Rattle.pac_core.specs.declared.loaded.LoadedBatch.{LoadedBatch}
use Rattle.pac_core.proofs.LoadingFacts.{sets_left, sets_sorted}
use Rattle.pac_core.proofs.progress.Progress.load.Goals as goal

pub add_all-requires-clause-later : goal.add_all-requires-clause-later
add_all-requires-clause-later c = sets_sorted c.requires.kept.job c.args.self.now c.requires.kept.keeps c.args.batch c.in-Ok.added.sets.items c.in-Ok.ensures.sets

pub add_all-requires-clause-each : goal.add_all-requires-clause-each
add_all-requires-clause-each c = sets_left c.requires.kept.job c.args.self.now c.requires.kept.keeps c.args.batch c.in-Ok.added.sets.items c.in-Ok.ensures.sets

ok_there : {A E : Type 0} {P : Type 0} (r : Result A E) → is_err r ≡ false → OnOk r P → P
ok_there (Ok a) e p = p
ok_there (Err x) e p = absurd (true≢false e)

pub returns-clause-ok : goal.returns-clause-ok
returns-clause-ok c =
    let p = c.args.self.now in
    let more : c.in-Some.unfinished ≡ p.unfinished + c.in-Ok.added.pieces = search rules in
    record {
      pieces = refl;
      more = c.in-Ok.added.sets.items;
      sets = ok_there c.add_all.result (sym c.is_err-2.ensures.value ∙ c.if-is_err-2.false) c.add_all.ensures.ok;
      waiting = c.in-Ok.ensures.sets;
      note_is = refl;
      first = refl;
      next = ap (λ (l : List Txn). p.next + length l) c.items.ensures.value;
      unfinished = more ∙ ap (λ n. p.unfinished + n) c.in-Ok.ensures.pieces;
      closed = refl;
      recent = refl;
      loaded = record { batch = c.args.batch; kept = c.in-Ok.added.kept };
      batches = c.in-Ok-push.ensures.items ∙ ap (λ (l : List LoadedBatch). l ++ record { batch = c.args.batch; kept = c.in-Ok.added.kept } ∷ []) c.reserve.ensures.items;
      batch_is = refl;
      kept = c.in-Ok.ensures.kept;
    }
