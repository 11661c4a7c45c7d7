-- Runs one after another keep what they acknowledge.
use Rattle.std.proofs.Common.{◌≡◌, ◌∙◌, ◌≤◌, ◌||◌, ◌==◌, ℕ, zero, suc, Bool, false, List, [], ◌∷◌, ◌++◌, length, take, drop, Option, Some, inl, inr, refl, sym, ap, subst, arith}
use Rattle.std.specs.Prelude.{◌≢◌, IsTrue}
use Rattle.std.specs.List.{list_any}
use Rattle.std.specs.FinMap.{empty}
use Rattle.std.proofs.lemmas.List.{append-nil, take-append-drop, take-append-le}
use Rattle.pac_base.proofs.TestLemmas.{or_of_false, same_number, unlike}
use Rattle.pac_ops.specs.declared.transaction.Txn.{Txn}
use Rattle.pac_outside.specs.Devices.{AreImages, OnceKnown, all_known}
use Rattle.pac_outside.specs.Disk.{DiskState, DiskHistory, IsImage, settled}
use Rattle.pac_outside.specs.Parts.{reads_of}
use Rattle.pac_outside.proofs.Images.{one_image}
use Rattle.pac_outside.specs.declared.devices.Devices.{Devices}
use Rattle.pac_types.specs.Typing.{CatalogueState}
use Rattle.pac_log.specs.declared.header.HeaderForm.TheVariants.{First}
use Rattle.pac_log.specs.Logs.{header_bytes, header_with}
use Rattle.pac_types.specs.Accepted.{IsAccepted}
use Rattle.pac_store.specs.Images.{Images, IfImagesKnown}
use Rattle.pac_check.specs.declared.state.SlotState.TheVariants.{Closed}
use Rattle.pac_outside.proofs.KnownDevices.{devices-same}
use Rattle.pac_store.proofs.ImageLemmas.{images-of}
use Rattle.pac_store.specs.Stands.{StandsFor}
use Rattle.pac_store.specs.Made.{IsNewStore, MakesStore}
use Rattle.pac_session.specs.Session.{committed}
use Rattle.pac_run.specs.Acked.{Acknowledges}
use Rattle.pac_run.specs.Opening.{AllStand}
use Rattle.pac_run.specs.Run.{history_after}
use Rattle.pac_main.specs.Init.{InitEnds, IsStoreText}
use Rattle.pac_main.specs.Headline.{AreAsLeft, AreFound, AreRuns, HoldImages, IsNextRun, KeepsAll, Life, OneRun, RecoversExactly}
use Rattle.pac_main.specs.Histories.{Commits, FoundStanding, StandsForNone, LeavesHistory}
use Rattle.pac_main.specs.Recover.{Recovery, RecoversPrefix}
use Rattle.pac_main.specs.Streams.{IsOneOf, Observed, ObservedDevices}

-- ---- prefixes of lists

-- a prefix of a prefix is one of what stands after it, too
prefix_on : {A : Type 0} (least m : ℕ) (history more : List A) → least ≤ length (take m history) → take least (take m history ++ more) ≡ take least history
prefix_on least m history more le =
    take-append-le least (take m history) more le ∙ sym (take-append-le least (take m history) (drop m history) le) ∙ ap (λ l. take least l) (take-append-drop m history)

take_length : {A : Type 0} (m : ℕ) (l : List A) → m ≤ length l → m ≤ length (take m l)
take_length zero l le = omega arith
take_length (suc m) [] le = absurd (omega (arith, le))
take_length (suc m) (x ∷ l) le = let rest = take_length m l (omega (arith, le)) in omega (arith, rest)

-- lists with one prefix have one shorter prefix
take_less : {A : Type 0} (few many : ℕ) (l : List A) → few ≤ many → take few (take many l) ≡ take few l
take_less zero many l le = refl
take_less (suc few) zero l le = absurd (omega (arith, le))
take_less (suc few) (suc many) [] le = refl
take_less (suc few) (suc many) (x ∷ l) le = ap (λ rest. x ∷ rest) (take_less few many l (omega (arith, le)))

shorter_prefix : {A : Type 0} (few many : ℕ) (a b : List A) → few ≤ many → take many a ≡ take many b → take few a ≡ take few b
shorter_prefix few many a b le same = sym (take_less few many a le) ∙ ap (λ l. take few l) same ∙ take_less few many b le

-- ---- devices that hold images

same_image : (image other : List ℕ) (state : DiskState) → state ≡ settled image → IsImage state other → other ≡ image
same_image image other state is at = one_image image other (subst (λ (s : DiskState). IsImage s other) is at)

same_images : (images : Images) (devices : Devices DiskHistory) → HoldImages images devices → (others : Images) → AreImages devices others → others ≡ images
same_images images devices hold others are =
    devices-same others.log others.log_b others.slot_a others.slot_b images.log images.log_b images.slot_a images.slot_b
    (same_image images.log others.log devices.log.now hold.log are.log) (same_image images.log_b others.log_b devices.log_b.now hold.log_b are.log_b) (same_image images.slot_a others.slot_a devices.slot_a.now hold.slot_a are.slot_a) (same_image images.slot_b others.slot_b devices.slot_b.now hold.slot_b are.slot_b)

seen_images : (images : Images) (devices : Devices DiskHistory) → HoldImages images devices → reads_of devices ≡ images
seen_images images devices hold =
    devices-same devices.log.now.seen devices.log_b.now.seen devices.slot_a.now.seen devices.slot_b.now.seen images.log images.log_b images.slot_a images.slot_b
    (ap (λ (s : DiskState). s.seen) hold.log) (ap (λ (s : DiskState). s.seen) hold.log_b) (ap (λ (s : DiskState). s.seen) hold.slot_a) (ap (λ (s : DiskState). s.seen) hold.slot_b)

-- ---- a new store

not_open : ◌≢◌ {A = ℕ} 0 1
not_open e = absurd (omega (arith, e))

-- its images stand for no transactions, whatever the second log device has
new_images : (text : List ℕ) (catalogue : CatalogueState) → IsAccepted text catalogue → (log log_b a b : List ℕ) → log ≡ header_bytes (header_with First text) ++ 0 ∷ [] → a ≡ 0 ∷ [] → b ≡ 0 ∷ []
    → StandsFor text catalogue [] 0 (record { log = log; log_b = log_b; slot_a = a; slot_b = b })
new_images text catalogue accepted log log_b a b is one other = record {
  executes = record { fit = λ k d below. absurd (omega (arith, below)); held = empty; ends = refl };
  form = First;
  batches = [];
  a = Closed;
  b = Closed;
  slot_a = record { gate = 0; rest = []; split = one; shut = not_open };
  slot_b = record { gate = 0; rest = []; split = other; shut = not_open };
  log = record {
    log = record { accepted = accepted; base = omega arith; each = λ k d below. absurd (omega (arith, below)) };
    shut = record { gate = 0; rest = []; split = is ∙ ap (λ (prefix : List ℕ). prefix ++ 0 ∷ []) (sym (append-nil (header_bytes (header_with First text)))); shut = not_open };
  };
  placed = refl;
  earlier = [];
  later = [];
  before = refl;
  split = refl;
  enough = omega arith;
}

new_devices : (text : List ℕ) (catalogue : CatalogueState) → IsAccepted text catalogue → (exit : Devices DiskHistory) → IsNewStore text exit → (images : Images) → AreImages exit images → StandsFor text catalogue [] 0 images
new_devices text catalogue accepted exit new images are =
    new_images text catalogue accepted images.log images.log_b images.slot_a images.slot_b
    (same_image (header_bytes (header_with First text) ++ 0 ∷ []) images.log exit.log.now new.0 are.log) (same_image (0 ∷ []) images.slot_a exit.slot_a.now new.1 are.slot_a) (same_image (0 ∷ []) images.slot_b exit.slot_b.now new.2 are.slot_b)

pub new-store : (text : List ℕ) (input errors : Observed) (devices : ObservedDevices) (entry exit : Devices DiskHistory) → InitEnds 0 input errors devices
    → input.before ≡ Some text → all_known devices.before ≡ Some entry → all_known devices.after ≡ Some exit → (catalogue : CatalogueState) × StandsForNone text catalogue exit
new-store text input errors devices entry exit ends read known following =
    let done = ends.done refl in
    let of : ((catalogue : CatalogueState) × IsAccepted done.0 catalogue) × (text ≡ done.0) = subst (λ (o : Option (List ℕ)). IsStoreText done.0 o) read done.1 in
    let made : MakesStore done.0 entry exit = subst (λ (o : Option (Devices DiskHistory)). OnceKnown (MakesStore done.0) (Some entry) o) following (subst (λ (o : Option (Devices DiskHistory)). OnceKnown (MakesStore done.0) o (all_known devices.after)) known done.2) in (
      of.0.0,
      record {
        accepted = subst (λ (t : List ℕ). IsAccepted t of.0.0) (sym of.1) of.0.1;
        stands = λ images are. subst (λ (t : List ℕ). StandsFor t of.0.0 [] 0 images) (sym of.1) (new_devices done.0 of.0.0 of.0.1 exit made.1 images are);
      },
    )

-- ---- how devices are found

pub found-cut : (left found : Devices DiskHistory) (images : Images) → AreImages left images → HoldImages images found → AreFound left found
found-cut left found images are hold = record {
  images = λ others leave. subst (AreImages left) (sym (same_images images found hold others leave)) are;
  read = subst (AreImages left) (sym (seen_images images found hold)) are;
}

kept_image : (old new : DiskHistory) (image : List ℕ) → new.now ≡ old.now → IsImage new.now image → IsImage old.now image
kept_image old new image same is = subst (λ (s : DiskState). IsImage s image) same is

kept_images : (left found : Devices DiskHistory) → AreAsLeft left found → (others : Images) → AreImages found others → AreImages left others
kept_images left found same others leave = record {
  log = kept_image left.log found.log others.log same.log leave.log;
  log_b = kept_image left.log_b found.log_b others.log_b same.log_b leave.log_b;
  slot_a = kept_image left.slot_a found.slot_a others.slot_a same.slot_a leave.slot_a;
  slot_b = kept_image left.slot_b found.slot_b others.slot_b same.slot_b leave.slot_b;
}

kept_read : (old new : DiskHistory) → new.now ≡ old.now → IsImage old.now old.now.seen → IsImage old.now new.now.seen
kept_read old new same is = subst (λ (s : DiskState). IsImage old.now s.seen) (sym same) is

kept_reads : (left found : Devices DiskHistory) → AreImages left (reads_of left) → AreAsLeft left found → AreImages left (reads_of found)
kept_reads left found own same = record {
  log = kept_read left.log found.log same.log own.log;
  log_b = kept_read left.log_b found.log_b same.log_b own.log_b;
  slot_a = kept_read left.slot_a found.slot_a same.slot_a own.slot_a;
  slot_b = kept_read left.slot_b found.slot_b same.slot_b own.slot_b;
}

pub found-kill : (left found : Devices DiskHistory) → AreImages left (reads_of left) → AreAsLeft left found → AreFound left found
found-kill left found own same = record { images = kept_images left found same; read = kept_reads left found own same }

-- ---- one run

module _ (text : List ℕ) (catalogue : CatalogueState) where
  -- what stands after one run
  pub record After (history : List Txn) (least : ℕ) (run : OneRun) : Type 0 where
    pub next : List Txn
    pub kept : ℕ
    pub is : IsNextRun history run next
    pub more : least ≤ kept
    pub same : take least next ≡ take least history
    pub acknowledged : (number : ℕ) → Acknowledges run.out number → number ≤ kept
    pub stands : AllStand text catalogue next kept run.exit

  -- nothing was written
  unwritten : (history : List Txn) (least : ℕ) (run : OneRun) → run.out ≡ [] → AllStand text catalogue history least run.exit → After history least run
  unwritten history least run none stands = record {
    next = history;
    kept = least;
    is = inl (none, refl);
    more = omega arith;
    same = refl;
    acknowledged = λ number known. absurd (subst (λ (out : List ℕ). Acknowledges out number) none known).1;
    stands = stands;
  }

  module _ (history : List Txn) (least : ℕ) (left : Devices DiskHistory) (run : OneRun) (stands : AllStand text catalogue history least left) (found : AreFound left run.entry) where
    standing : FoundStanding text catalogue history least run.entry
    standing = record { images = λ others leave. stands others (found.images others leave); read = stands (reads_of run.entry) found.read }

    -- the history with what the session commits
    committed_after : Commits text catalogue history least run.rules run.start run.requests run.out run.exit → After history least run
    committed_after c =
        let prefix = take_length run.start.number history c.within in
        record {
          next = history_after history run.rules run.start run.requests;
          kept = c.kept;
          is = inr refl;
          more = omega (arith, c.enough, c.more);
          same = prefix_on least run.start.number history (committed run.rules run.start run.requests) (omega (arith, c.enough, prefix));
          acknowledged = c.acknowledged;
          stands = c.stands;
        }

    at : LeavesHistory text catalogue history least run.rules run.start run.requests run.out run.entry run.exit → After history least run
    at (inl none) = unwritten history least run none.0 (λ images are. standing.images images (none.1 images are))
    at (inr c) = committed_after c

    pub following : After history least run
    following = at (run.leaves text catalogue history least standing)

  -- ---- any number of runs

  pub keeps-all : (history : List Txn) (least : ℕ) (first left : Devices DiskHistory) (runs : List OneRun) → AllStand text catalogue history least first → AreRuns first runs left → KeepsAll text catalogue history least runs left
  keeps-all history least first left [] stands same = record {
    nexts = [];
    last = history;
    are = (refl, refl);
    kept = least;
    more = omega arith;
    same = refl;
    acknowledged = tt;
    stands = subst (λ (d : Devices DiskHistory). AllStand text catalogue history least d) (sym same) stands;
  }
  keeps-all history least first left (run ∷ runs) stands (found, more) =
      let one = following history least first run stands found in
      let rest = keeps-all one.next one.kept run.exit left runs one.stands more in
      record {
        nexts = one.next ∷ rest.nexts;
        last = rest.last;
        are = (one.is, rest.are);
        kept = rest.kept;
        more = omega (arith, one.more, rest.more);
        same = shorter_prefix least one.kept rest.last one.next one.more rest.same ∙ one.same;
        acknowledged = (λ number known. let few = one.acknowledged number known in (omega (arith, few, rest.more), shorter_prefix number one.kept rest.last one.next few rest.same), rest.acknowledged);
        stands = rest.stands;
      }

-- ---- and what is recovered after them

pub recovers-all : (text : List ℕ) (catalogue : CatalogueState) (history : List Txn) (least : ℕ) (left : Devices DiskHistory) → AllStand text catalogue history least left
    → (limit status : ℕ) (devices : ObservedDevices) (output : Observed) (found : Devices DiskHistory) → all_known devices.before ≡ Some found → AreFound left found → Recovery limit status devices output
    → RecoversPrefix limit status catalogue history least devices output
recovers-all text catalogue history least left stands limit status devices output found known as_left recovery =
    images-of (λ images. StandsFor text catalogue history least images → RecoversPrefix limit status catalogue history least devices output) devices.before found known (recovery.stands text catalogue history least) (stands (reads_of found) as_left.read)

-- of these statuses it has none that says that the store is damaged, or that a transaction aborts
few_statuses : (status : ℕ) → IsOneOf status (0 ∷ 3 ∷ 4 ∷ 5 ∷ 7 ∷ 8 ∷ 9 ∷ []) → status ≢ 3 → status ≢ 4 → IsOneOf status (0 ∷ 5 ∷ 7 ∷ 8 ∷ 9 ∷ [])
few_statuses status one damaged aborted =
    let three : (3 == status) ≡ false = unlike (3 == status) (λ e. damaged (sym (same_number 3 status e))) in
    let four : (4 == status) ≡ false = unlike (4 == status) (λ e. aborted (sym (same_number 4 status e))) in
    let rest = list_any (λ s. s == status) (5 ∷ 7 ∷ 8 ∷ 9 ∷ []) in
    subst (λ (b : Bool). IsTrue ((0 == status) || b)) (or_of_false (3 == status) ((4 == status) || rest) three ∙ or_of_false (4 == status) rest four) one

pub exact : (life : Life) → RecoversExactly life
exact life =
    let keeps = keeps-all life.text life.catalogue [] 0 life.first life.left life.runs life.made.stands life.ran in
    let recovers = recovers-all life.text life.catalogue keeps.last keeps.kept life.left keeps.stands life.limit life.status life.devices life.output life.found life.known life.begun life.recovery in
    record {
      accepted = life.made.accepted;
      keeps = keeps;
      statuses = few_statuses life.status life.recovery.statuses recovers.undamaged recovers.executes;
      recovers = recovers;
      output_fault = life.recovery.output_fault;
      disk_fault = life.recovery.disk_fault;
    }
