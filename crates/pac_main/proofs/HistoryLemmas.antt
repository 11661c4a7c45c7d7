-- What a run leaves of a history.
use Rattle.std.proofs.Common.{◌≡◌, ◌∙◌, inl, inr, ℕ, List, length, take, Option, Some, None, Result, Ok, ◌≤◌, ◌+◌, sym, ap, subst}
use Rattle.pac_value.specs.State.{Tables}
use Rattle.pac_ops.specs.declared.note.Note.{Note}
use Rattle.pac_ops.specs.declared.transaction.Txn.{Txn}
use Rattle.pac_outside.specs.Devices.{WhileAllKnown, WhileKnown, all_known}
use Rattle.pac_outside.specs.Disk.{DiskHistory}
use Rattle.pac_outside.specs.Parts.{reads_of}
use Rattle.pac_outside.specs.declared.devices.Devices.{Devices}
use Rattle.pac_types.specs.Execution.{serial}
use Rattle.pac_types.specs.Typing.{CatalogueState}
use Rattle.pac_store.specs.Images.{Images}
use Rattle.pac_store.specs.Stands.{EndsWith, StandsFor}
use Rattle.pac_store.proofs.StandsLemmas.{goes-on}
use Rattle.pac_request.specs.declared.request.Request.{Request}
use Rattle.pac_session.specs.Groups.{LogSpot}
use Rattle.pac_session.specs.Session.{Rules, SessionState}
use Rattle.pac_run.specs.declared.stop.RunStop.{RunStop}
use Rattle.pac_run.specs.Opening.{AllStand}
use Rattle.pac_run.specs.Run.{AtExit, IsBegun, IsExit, IsRun, history_after}
use Rattle.pac_main.specs.Histories.{Commits, FoundStanding, LeavesHistory}

same_tables : (s t : Tables) → ◌≡◌ {A = Result Tables Note} (Ok s) (Ok t) → s ≡ t
same_tables s t e = cc

-- where less is asked, and more is known, it is known still
while-known : (P Q : Devices DiskHistory → Type 0) (R S : Devices DiskHistory → Devices DiskHistory → Type 0) → ((u : Devices DiskHistory) → Q u → P u) → ((u v : Devices DiskHistory) → Q u → R u v → S u v)
    → (x y : Option (Devices DiskHistory)) → WhileKnown P R x y → WhileKnown Q S x y
while-known P Q R S less more None y h = tt
while-known P Q R S less more (Some x) None h = λ q. h (less x q)
while-known P Q R S less more (Some x) (Some y) h = λ q. more x y q (h (less x q))

module _ (text : List ℕ) (catalogue : CatalogueState) (history : List Txn) (least : ℕ) (spot : LogSpot) (rules : Rules) (start : SessionState) (requests : List Request) (out : List ℕ) where
  -- the session began with what is stored
  commits : (images : Images) → StandsFor text catalogue history least images → IsBegun rules spot start images → (exit : Devices DiskHistory) → IsExit text catalogue (history_after history rules start requests) start.number out exit
      → Commits text catalogue history least rules start requests out exit
  commits images stands begun exit e =
      let from = begun.recovered in
      let on = goes-on text catalogue history least images from.stored stands from.is in
      let held : on.held ≡ start.tables
      = same_tables on.held start.tables (sym on.from_base ∙ ap (λ (c : CatalogueState). serial c.procs (from.stored.number + 1) from.stored.rest from.stored.base) (sym on.same) ∙ from.ends) in
      record {
        same = sym from.same ∙ on.same;
        enough = subst (λ (n : ℕ). least ≤ n) (sym from.counted) on.enough;
        within = subst (λ (n : ℕ). n ≤ length history) (sym from.counted) on.within;
        begun = subst (λ (n : ℕ). EndsWith catalogue (take n history) start.tables) (sym from.counted)
            (subst (λ (t : Tables). EndsWith catalogue (take (from.stored.number + length from.stored.rest) history) t) held on.ends);
        kept = e.least;
        more = e.more;
        acknowledged = e.acknowledged;
        stands = λ images are. (e.stands images are).stands;
      }

  left : (entry exit : Devices DiskHistory) → FoundStanding text catalogue history least entry → AtExit text catalogue history rules spot start requests out entry exit → LeavesHistory text catalogue history least rules start requests out entry exit
  left entry exit standing (inl none) = inl none
  left entry exit standing (inr e) = inr (commits (reads_of entry) standing.read e.0 exit e.1)

pub leaves-history : (batch limit : ℕ) (input input' held held' : Option (List ℕ)) (known known' : Devices (Option DiskHistory)) (faulted : Type 0) (result : Result (Unit {0}) RunStop)
    → (ran : IsRun batch limit input input' held held' known known' faulted result) → (text : List ℕ) (catalogue : CatalogueState) (history : List Txn) (least : ℕ)
    → WhileAllKnown (FoundStanding text catalogue history least) (LeavesHistory text catalogue history least ran.rules ran.start ran.requests ran.out) known known'
leaves-history batch limit input input' held held' known known' faulted result ran text catalogue history least =
    while-known (AllStand text catalogue history least) (FoundStanding text catalogue history least) (AtExit text catalogue history ran.rules ran.spot ran.start ran.requests ran.out) (LeavesHistory text catalogue history least ran.rules ran.start ran.requests ran.out)
    (λ u standing. standing.images) (λ u v standing at. left text catalogue history least ran.spot ran.rules ran.start ran.requests ran.out u v standing at) (all_known known) (all_known known') (ran.exit text catalogue history least)
