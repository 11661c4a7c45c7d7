-- Batches that are loaded and run one after another.
use Rattle.std.proofs.Common.{◌≡◌, ℕ, zero, suc, ◌+◌, ◌-◌, ◌<◌, false, List, [], ◌∷◌, ◌++◌, length, Option, None, Some, refl, sym, ap, ◌∙◌, subst, arith}
use Rattle.std.proofs.lemmas.List.{length-append}
use Rattle.std.specs.List.{AllByRecursion}
use Rattle.std.proofs.lemmas.List.Elements.{recursion_from_All}
use Rattle.std.specs.Prelude.{All, IsSomeAnd, drop, map, slice_get}
use Rattle.std.specs.Option.{option_map}
use Rattle.std.proofs.lemmas.Option.{same_Some, slice_get-map}
use Rattle.pac_value.specs.Values.{type_of}
use Rattle.pac_ops.specs.declared.program.Program.{Program}
use Rattle.pac_ops.specs.declared.transaction.Txn.{Txn}
use Rattle.pac_ops.specs.declared.transaction.Txn.TheVariants.{Call as ACall, AdHoc}
use Rattle.pac_ops.specs.Shapes.{TxnFitsTypes}
use Rattle.pac_plan.specs.Codes.{TxnFitsPlan}
use Rattle.pac_value.specs.declared.values.Ty.{Ty}
use Rattle.pac_plan.specs.declared.parts.PlanParts.{PlanParts}
use Rattle.pac_value.specs.State.{Tables}
use Rattle.pac_ops.specs.declared.batch.Batch.{Batch}
use Rattle.pac_ops.specs.declared.note.Note.{Note}
use Rattle.pac_ops.specs.declared.piece.PieceId.{PieceId}
use Rattle.pac_ops.specs.declared.shapes.TableTypes.{TableTypes}
use Rattle.pac_ops.specs.Notes.{first_note}
use Rattle.pac_ops.specs.Transactions.{replayed}
use Rattle.pac_commute.specs.Loads.{Job, and_batch, next_in_job, pieces_of}
use Rattle.pac_commute.specs.PartialFits.{TxnIsOfPlan, TxnsFitPlan}
use Rattle.pac_commute.specs.PlanLaws.{NumbersRunOn, txns_of}
use Rattle.pac_in_order.specs.Courses.{Course, IsCourseOutcome, IsNextInOrder, IsRunInOrder, MayFollow, RanBatch, RanOn, course_pieces, course_with_batch}
use Rattle.pac_workers.specs.Fed.{HasFed}
use Rattle.pac_core.specs.FedExecution.{IsExecutedFeed}
use Rattle.pac_in_order.proofs.Placed.{begins_at, txns-both}
use Rattle.pac_commute.proofs.BatchLemmas.{txns-more}

-- ---- a run

-- where all is finished after it, that are all pieces, and so many more than before
pub ran_all : (old : Course) (n : ℕ) (new : Course) → RanOn old n new → IsNextInOrder new None → new ≡ record old { finished = course_pieces old }
ran_all old n new ran all = ran.finished ∙ (λ i. record old { finished = finished i })
  where
    finished : old.finished ++ ran.more ≡ course_pieces old
    finished = ap (λ (c : Course). c.finished) (sym ran.finished) ∙ all ∙ ap course_pieces ran.finished

pub ran_count : (old : Course) (n : ℕ) (new : Course) → RanOn old n new → length new.finished ≡ length old.finished + n
ran_count old n new ran = ap (λ (c : Course). length c.finished) ran.finished ∙ length-append old.finished ran.more ∙ ap (λ m. length old.finished + m) ran.count

pub ran_none : (c : Course) → RanOn c 0 c
ran_none c = record { more = []; count = refl; finished = λ i. record c { finished = nothing_more c.finished i } }
  where
    nothing_more : (l : List PieceId) → l ≡ l ++ []
    nothing_more [] = refl
    nothing_more (p ∷ l) = ap (λ r. p ∷ r) (nothing_more l)

pub ran_more : (a : Course) (m : ℕ) (b : Course) (n : ℕ) (c : Course) → RanOn a m b → RanOn b n c → RanOn a (m + n) c
ran_more a m b n c first second = record {
  more = first.more ++ second.more;
  count = length-append first.more second.more ∙ (λ i. first.count i + second.count i);
  finished = second.finished ∙ (λ i. record (first.finished i) { finished = (first.finished i).finished ++ second.more }) ∙ (λ i. record a { finished = grouped a.finished first.more second.more i });
}
  where
    grouped : (xs ys zs : List PieceId) → (xs ++ ys) ++ zs ≡ xs ++ (ys ++ zs)
    grouped [] ys zs = refl
    grouped (x ∷ xs) ys zs = ap (λ l. x ∷ l) (grouped xs ys zs)

pub ran_one : (old : Course) (p : PieceId) (new : Course) → new ≡ record old { finished = old.finished ++ p ∷ [] } → RanOn old 1 new
ran_one old p new is = record { more = p ∷ []; count = refl; finished = is }

-- ---- batches that ran

-- these were loaded, and all their pieces are finished
abbrev pub ran_course : Job → List Batch → Course
ran_course job batches = record { job = job; batches = batches; is_closed = false; finished = pieces_of job batches }

pub ran_course_more : (job : Job) (batches : List Batch) (batch : Batch) (old new : Course) → old ≡ ran_course job batches → RanBatch old batch new → new ≡ ran_course job (and_batch batches batch)
ran_course_more job batches batch old new was ran = ran ∙ ap (λ (c : Course). record (course_with_batch c batch) { finished = course_pieces (course_with_batch c batch) }) was

-- so far these of all batches ran, and so many pieces
pub record RanSoFar (job : Job) (all rest : List Batch) (course : Course) (pieces drained : ℕ) : Type 0 where
  pub batches : List Batch
  pub divided : batches ++ rest ≡ all
  pub course_is : course ≡ ran_course job batches
  pub counted : pieces + drained ≡ length (pieces_of job batches)

pub ran_on : (job : Job) (all : List Batch) (batch : Batch) (rest : List Batch) (old new : Course) (p d p' d' : ℕ) → RanSoFar job all (batch ∷ rest) old p d → RanBatch old batch new
    → p' + d' + length old.finished ≡ p + d + length new.finished → RanSoFar job all rest new p' d'
ran_on job all batch rest old new p d p' d' so_far ran counts =
    let is = ran_course_more job so_far.batches batch old new so_far.course_is ran in
    let before : length old.finished ≡ length (pieces_of job so_far.batches) = ap (λ (c : Course). length c.finished) so_far.course_is in
    let after : length new.finished ≡ length (pieces_of job (and_batch so_far.batches batch)) = ap (λ (c : Course). length c.finished) is in
    let was : p + d ≡ length (pieces_of job so_far.batches) = so_far.counted in
    record {
      batches = and_batch so_far.batches batch;
      divided = grouped so_far.batches batch rest ∙ so_far.divided;
      course_is = is;
      counted = omega (arith, before, after, was, counts);
    }
  where
    grouped : (xs : List Batch) (b : Batch) (ys : List Batch) → (xs ++ b ∷ []) ++ ys ≡ xs ++ b ∷ ys
    grouped [] b ys = refl
    grouped (x ∷ xs) b ys = ap (λ l. x ∷ l) (grouped xs b ys)

-- all of them ran: then what is left is what executing them leaves
pub outcome_of : (job : Job) (batches : List Batch) (course : Course) (tables : Tables) (note : Option Note) → course ≡ ran_course job batches → IsCourseOutcome course tables note
    → (tables ≡ (replayed job.parts.programs job.first (txns_of batches) job.tables).tables) × (note ≡ first_note (replayed job.parts.programs job.first (txns_of batches) job.tables).notes)
outcome_of job batches course tables note is outcome =
    let o = subst (λ (c : Course). IsCourseOutcome c tables note) is outcome in
    (o.tables_are, o.note_is)

pub all_finished : (job : Job) (batches : List Batch) (course : Course) → course ≡ ran_course job batches → IsNextInOrder course None
all_finished job batches course is = subst (λ (c : Course). IsNextInOrder c None) (sym is) refl

-- ---- one piece

-- after a piece fewer are left
pub ran_fewer : (old : Course) (p : PieceId) (new : Course) → IsRunInOrder old (Some p) new → length (course_pieces new) - length new.finished < length (course_pieces old) - length old.finished
ran_fewer old p new ran =
    let all : length (course_pieces old) ≡ length old.finished + (length ran.0.0 + 1) = ap length ran.0.1 ∙ length-append old.finished (p ∷ ran.0.0) ∙ ap (λ n. length old.finished + n) (one_more (length ran.0.0)) in
    let same : length (course_pieces new) ≡ length (course_pieces old) = ap (λ (c : Course). length (course_pieces c)) ran.1 in
    let more : length new.finished ≡ length old.finished + 1 = ap (λ (c : Course). length c.finished) ran.1 ∙ length-append old.finished (p ∷ []) in
    omega (arith, all, same, more)
  where
    one_more : (n : ℕ) → suc n ≡ n + 1
    one_more n = omega arith

-- ---- the next batch may be loaded

fits_there : (parts : PlanParts) (front : List Batch) (batch : Batch) (rest : List Batch) → AllByRecursion (λ (b : Batch). TxnsFitPlan parts b.txns) (front ++ batch ∷ rest) → TxnsFitPlan parts batch.txns
fits_there parts [] batch rest all = all.0
fits_there parts (b ∷ front) batch rest all = fits_there parts front batch rest all.1

module _ (job : Job) (all : List Batch) (batch : Batch) (rest : List Batch) (course : Course) (p d : ℕ) (so_far : RanSoFar job all (batch ∷ rest) course p d) where
  pub may_follow : NumbersRunOn job.first all → All (λ (b : Batch). TxnsFitPlan job.parts b.txns) all → MayFollow course batch
  may_follow runs fit = subst (λ (c : Course). MayFollow c batch) (sym so_far.course_is) (record {
    opening = refl;
    first = begins_at job.first so_far.batches batch rest (subst (NumbersRunOn job.first) (sym so_far.divided) runs);
    fits = fits_there job.parts so_far.batches batch rest (subst (AllByRecursion (λ (b : Batch). TxnsFitPlan job.parts b.txns)) (sym so_far.divided) (recursion_from_All (λ (b : Batch). TxnsFitPlan job.parts b.txns) all fit));
  })

  pub numbers_fit : NumbersRunOn job.first all → (limit : ℕ) → job.first + length (txns_of all) < limit → batch.first + length batch.txns < limit
  numbers_fit runs limit small =
      let begins : batch.first ≡ job.first + length (txns_of so_far.batches) = begins_at job.first so_far.batches batch rest (subst (NumbersRunOn job.first) (sym so_far.divided) runs) in
      let whole : length (txns_of all) ≡ length (txns_of so_far.batches) + length (txns_of (batch ∷ rest))
      = ap (λ l. length (txns_of l)) (sym so_far.divided) ∙ ap length (txns-both so_far.batches (batch ∷ rest)) ∙ length-append (txns_of so_far.batches) (txns_of (batch ∷ rest)) in
      let last : length (txns_of (batch ∷ rest)) ≡ length batch.txns + length (txns_of rest) = length-append batch.txns (txns_of rest) in
      omega (arith, begins, whole, last, small)

-- ---- what a feed gave

-- between these states a feed gave batches, which ran, and so many pieces
pub record FedSoFar {F : Type 0} (gives : F → List Batch → F → Type 0) (next : F → ℕ) (params : F → List (List Ty)) (tables : F → List TableTypes) (job : Job) (old now : F) (course : Course) (pieces drained : ℕ) : Type 0 where
  pub batches : List Batch
  pub given : gives old batches now
  pub course_is : course ≡ ran_course job batches
  pub counted : pieces + drained ≡ length (pieces_of job batches)
  pub next_is : next now ≡ next_in_job job batches
  pub params_are : params now ≡ params old
  pub tables_are : tables now ≡ tables old

module _ {F : Type 0} (so_far : F → List Batch) (known : F → List Batch → F → Type 0) (next : F → ℕ) (params : F → List (List Ty)) (tables : F → List TableTypes) (job : Job) (from old new : F) where
  -- one batch more was given
  pub given_more : (batches : List Batch) (batch : Batch) → HasFed so_far known from batches old → so_far new ≡ so_far old ++ batch ∷ [] → ((a : F) (bs : List Batch) → known a bs old → known a (bs ++ batch ∷ []) new)
      → HasFed so_far known from (batches ++ batch ∷ []) new
  given_more batches batch fed adds gives = record {
    added = adds ∙ ap (λ l. l ++ batch ∷ []) fed.added ∙ grouped (so_far from) batches batch;
    known = gives from batches fed.known;
  }
    where
      grouped : (xs ys : List Batch) (b : Batch) → (xs ++ ys) ++ b ∷ [] ≡ xs ++ (ys ++ b ∷ [])
      grouped [] ys b = refl
      grouped (x ∷ xs) ys b = ap (λ l. x ∷ l) (grouped xs ys b)

  -- and none
  pub given_none : (batches : List Batch) → HasFed so_far known from batches old → so_far new ≡ so_far old → ((a : F) (bs : List Batch) → known a bs old → known a bs new) → HasFed so_far known from batches new
  given_none batches fed adds gives = record { added = adds ∙ fed.added; known = gives from batches fed.known }

  module _ (batch : Batch) (course : Course) (p d : ℕ) (fed : FedSoFar (HasFed so_far known) next params tables job from old course p d) where
    pub fed_may : batch.first ≡ next old → TxnsFitPlan job.parts batch.txns → MayFollow course batch
    fed_may first fits = subst (λ (c : Course). MayFollow c batch) (sym fed.course_is) (record { opening = refl; first = first ∙ fed.next_is; fits = fits })

    pub fed_on : (course' : Course) (p' d' : ℕ) → HasFed so_far known from (fed.batches ++ batch ∷ []) new → RanBatch course batch course' → p' + d' + length course.finished ≡ p + d + length course'.finished
        → batch.first ≡ next old → next new ≡ batch.first + length batch.txns → params new ≡ params old → tables new ≡ tables old → FedSoFar (HasFed so_far known) next params tables job from new course' p' d'
    fed_on course' p' d' given ran counts first next_is params_are tables_are =
        let is = ran_course_more job fed.batches batch course course' fed.course_is ran in
        let before : length course.finished ≡ length (pieces_of job fed.batches) = ap (λ (c : Course). length c.finished) fed.course_is in
        let after : length course'.finished ≡ length (pieces_of job (and_batch fed.batches batch)) = ap (λ (c : Course). length c.finished) is in
        let was : p + d ≡ length (pieces_of job fed.batches) = fed.counted in
        let begins : batch.first ≡ job.first + length (txns_of fed.batches) = first ∙ fed.next_is in
        let long : length (txns_of (and_batch fed.batches batch)) ≡ length (txns_of fed.batches) + length batch.txns = ap length (txns-more fed.batches batch) ∙ length-append (txns_of fed.batches) batch.txns in
        record {
          batches = and_batch fed.batches batch;
          given = given;
          course_is = is;
          counted = omega (arith, before, after, was, counts);
          next_is = omega (arith, begins, next_is, long);
          params_are = params_are ∙ fed.params_are;
          tables_are = tables_are ∙ fed.tables_are;
        }

  -- what it leaves at the end
  pub fed_end : (course : Course) (p d : ℕ) (fed : FedSoFar (HasFed so_far known) next params tables job from old course p d) → HasFed so_far known from fed.batches new → (tables_now : Tables) (note : Option Note) (finished : ℕ)
      → IsCourseOutcome course tables_now note → finished ≡ p + d → IsExecutedFeed (HasFed so_far known) job from new tables_now note finished
  fed_end course p d fed given tables_now note finished outcome counted =
      let o = outcome_of job fed.batches course tables_now note fed.course_is outcome in
      record { batches = fed.batches; given = given; tables_are = o.0; note_is = o.1; counted = counted ∙ fed.counted }

-- ---- the beginning and the end

no_first : (xs : List Batch) → xs ≡ drop 1 xs → xs ≡ []
no_first [] same = refl
no_first (x ∷ xs) same = let long : suc (length xs) ≡ length xs = ap length same in absurd (omega (arith, long))

pub divided_all : (batches rest all : List Batch) → batches ++ rest ≡ all → rest ≡ drop 1 rest → batches ≡ all
divided_all batches rest all divided same = sym (nothing_more batches) ∙ ap (λ l. batches ++ l) (sym (no_first rest same)) ∙ divided
  where
    nothing_more : (l : List Batch) → l ++ [] ≡ l
    nothing_more [] = refl
    nothing_more (b ∷ l) = ap (λ r. b ∷ r) (nothing_more l)

pub fed_init : {F : Type 0} (so_far : F → List Batch) (known : F → List Batch → F → Type 0) (next : F → ℕ) (params : F → List (List Ty)) (tables : F → List TableTypes) (job : Job) (feed : F) (course : Course)
    → known feed [] feed → next feed ≡ job.first → course ≡ ran_course job [] → FedSoFar (HasFed so_far known) next params tables job feed feed course 0 0
fed_init so_far known next params tables job feed course none first is = record {
  batches = [];
  given = record { added = nothing_more (so_far feed); known = none };
  course_is = is;
  counted = refl;
  next_is = first ∙ zero_last job.first;
  params_are = refl;
  tables_are = refl;
}
  where
    nothing_more : (l : List Batch) → l ≡ l ++ []
    nothing_more [] = refl
    nothing_more (b ∷ l) = ap (λ r. b ∷ r) (nothing_more l)

    zero_last : (n : ℕ) → n ≡ n + 0
    zero_last n = omega arith

-- transactions that fit the types of a plan fit it
of_plan : (parts : PlanParts) (txn : Txn) → TxnFitsPlan parts txn → TxnIsOfPlan parts txn
of_plan parts (AdHoc records) fits = fits
of_plan parts (ACall call) fits = go (slice_get parts.programs call.proc)
    (subst (λ o. IsSomeAnd o (λ types. map type_of call.args ≡ types)) (slice_get-map (λ (program : Program). program.params) parts.programs call.proc) fits)
  where
    go : (o : Option Program) → IsSomeAnd (option_map (λ (program : Program). program.params) o) (λ types. map type_of call.args ≡ types) → IsSomeAnd o (λ program. map type_of call.args ≡ program.params)
    go (Some program) is = is
    go None is = is

all_of_plan : (parts : PlanParts) (txns : List Txn) → AllByRecursion (TxnFitsPlan parts) txns → TxnsFitPlan parts txns
all_of_plan parts [] all i txn e = absurd (cc e)
all_of_plan parts (t ∷ ts) all zero txn e = subst (TxnIsOfPlan parts) (same_Some t txn e) (of_plan parts t all.0)
all_of_plan parts (t ∷ ts) all (suc i) txn e = all_of_plan parts ts all.1 i txn e

pub types_fit : (parts : PlanParts) (params : List (List Ty)) (tables : List TableTypes) (txns : List Txn) → params ≡ map (λ (program : Program). program.params) parts.programs → tables ≡ parts.tables
    → AllByRecursion (TxnFitsTypes params tables) txns → TxnsFitPlan parts txns
types_fit parts params tables txns params_are tables_are fits = all_of_plan parts txns
    (subst (λ t. AllByRecursion (TxnFitsTypes (map (λ (program : Program). program.params) parts.programs) t) txns) tables_are (subst (λ p. AllByRecursion (TxnFitsTypes p tables) txns) params_are fits))
