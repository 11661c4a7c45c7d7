-- A text is read as one log, or has one first fault; and how its lists are read one after another.
use Rattle.std.proofs.Common.{◌≡◌, ◌∙◌, ◌≤◌, ◌<◌, ◌+◌, ◌-◌, ◌⊎◌, inl, inr, ℕ, true, false, List, [], ◌∷◌, ◌++◌, length, drop, Option, Some, None, Result, Ok, Err, IfOk, refl, sym, ap, ap₂, subst, append_assoc, append-nil, arith}
use Rattle.std.proofs.lemmas.Bool.{cases_order}
use Rattle.std.proofs.lemmas.List.{length-append, drop_at, flat_map_more, length-drop}
use Rattle.pac_base.specs.declared.refusal.Refusal.{Refusal}
use Rattle.pac_base.specs.declared.refusal.Refusal.TheVariants as refusal
use Rattle.pac_bytes.specs.Reading.{Rest, from}
use Rattle.pac_bytes.specs.Readers.{IsAtStart}
use Rattle.pac_bytes.proofs.Bytes.{IsBytes, IsBytes-drop}
use Rattle.pac_bytes.proofs.Results.{ok_same}
use Rattle.pac_entry.proofs.ChangeLemmas.{AreFewTables}
use Rattle.pac_flat.specs.declared.acceptance.AcceptFault.{AcceptFault}
use Rattle.pac_flat.proofs.OneAcceptance.{accepted_or_not, one_catalogue, one_unaccepted}
use Rattle.pac_ops.specs.declared.transaction.Change.{Change}
use Rattle.pac_request.specs.Answers.{AnswersBy}
use Rattle.pac_script.specs.Lines.{IsMark}
use Rattle.pac_script.specs.Script.{MarkOf, text_before}
use Rattle.pac_tuple.specs.declared.fault.ImageFault.{ImageFault}
use Rattle.pac_tuple.specs.Images.{AreTxnImagesOf, images_bytes}
use Rattle.pac_tuple.specs.ImageReading.{next_images}
use Rattle.pac_tuple.proofs.ImageLemmas.{images_codec}
use Rattle.pac_types.specs.Accepted.{IsAccepted}
use Rattle.pac_types.specs.Typing.{CatalogueState}
use Rattle.pac_types.specs.declared.table.Table.{Table}
use Rattle.pac_main.specs.Causes.{IsListFault}
use Rattle.pac_main.specs.Lay.{IsFirstListFault, IsLogReadAs, LogAnswer, LogPartsSay, bytes_behind}
use Rattle.pac_main.specs.Record.{AreListsOf, lists_bytes}
use Rattle.pac_main.specs.declared.image_log.ImageLog.{ImageLog}
use Rattle.pac_main.specs.declared.image_log.LogFault.{LogFault}
use Rattle.pac_main.specs.declared.image_log.LogFault.TheVariants.{Unaccepted, Image}

-- ---- the lists

abbrev Lists : Type 0
Lists = List (List Change)

-- what is read of bytes from an offset on
abbrev ListAnswer : Type 0
ListAnswer = Result (List Change × Rest) ImageFault

abbrev list_read : List Change × Rest → ListAnswer
list_read x = Ok x

no_length : (rest : List ℕ) → [] ≡ rest → 0 < length rest → ⊥
no_length rest e more = omega (arith, ap length e, more)

no_bytes : (rest : List ℕ) → [] ≡ 3 ∷ rest → ⊥
no_bytes rest e = cc

-- these lists are read of the bytes before the offset
pub record ReadSoFar (tables : List Table) (bytes : List ℕ) (at : ℕ) (lists : Lists) : Type 0 where
  pub within : at ≤ length bytes
  pub offset : at ≡ length (lists_bytes lists)
  pub parts : bytes ≡ lists_bytes lists ++ drop at bytes
  pub are : AreListsOf tables lists

module _ (tables : List Table) (few : AreFewTables tables) where
  -- what is written is read
  read_again : (images : List Change) (at : ℕ) (more : List ℕ) → AreTxnImagesOf tables images → next_images tables (record { at = at; bytes = images_bytes images ++ more }) ≡ Ok (images, record { at = at + length (images_bytes images); bytes = more })
  read_again images at more form = (images_codec tables few).again images at more form

  -- bytes that begin with a list have no fault there
  read_or_fault : (images : List Change) (at : ℕ) (more bytes : List ℕ) (fault : ImageFault) → AreTxnImagesOf tables images → bytes ≡ images_bytes images ++ more → next_images tables (record { at = at; bytes = bytes }) ≡ Err fault → ⊥
  read_or_fault images at more bytes fault form is refused =
      let both : list_read (images, record { at = at + length (images_bytes images); bytes = more }) ≡ Err fault =
      sym (read_again images at more form) ∙ ap (λ (b : List ℕ). next_images tables (record { at = at; bytes = b })) (sym is) ∙ refused in
      cc

  -- the first lists of the same bytes are the same, and so is what follows
  first_same : (x y : List Change) (more rest : List ℕ) → AreTxnImagesOf tables x → AreTxnImagesOf tables y → images_bytes x ++ more ≡ images_bytes y ++ rest → (x ≡ y) × (more ≡ rest)
  first_same x y more rest h k e =
      let both = ok_same {F = ImageFault} (x, record { at = 0 + length (images_bytes x); bytes = more }) (y, record { at = 0 + length (images_bytes y); bytes = rest })
      (sym (read_again x 0 more h) ∙ ap (λ (b : List ℕ). next_images tables (record { at = 0; bytes = b })) e ∙ read_again y 0 rest k) in
      (ap (λ (p : List Change × Rest). p.0) both, ap (λ (p : List Change × Rest). p.1.bytes) both)

  lists-once : (xs ys : Lists) → AreListsOf tables xs → AreListsOf tables ys → lists_bytes xs ≡ lists_bytes ys → xs ≡ ys
  lists-once [] [] h k e = refl
  lists-once [] (y ∷ ys) h k e = absurd (no_bytes _ e)
  lists-once (x ∷ xs) [] h k e = absurd (no_bytes _ (sym e))
  lists-once (x ∷ xs) (y ∷ ys) h k e =
      let both = first_same x y (lists_bytes xs) (lists_bytes ys) h.0 k.0 e in
      ap₂ (λ (l : List Change) (ls : Lists). l ∷ ls) both.0 (lists-once xs ys h.1 k.1 both.1)

  joined : (x : List Change) (xs : Lists) (more : List ℕ) → lists_bytes (x ∷ xs) ++ more ≡ images_bytes x ++ (lists_bytes xs ++ more)
  joined x xs more = append_assoc (images_bytes x) (lists_bytes xs) more

  -- lists and nothing else, or a fault behind some
  lists-or-fault : (xs ys : Lists) (at : ℕ) (rest : List ℕ) (fault : ImageFault) → AreListsOf tables xs → AreListsOf tables ys → lists_bytes xs ≡ lists_bytes ys ++ rest → 0 < length rest → next_images tables (record { at = at; bytes = rest }) ≡ Err fault → ⊥
  lists-or-fault [] [] at rest fault h k e more refused = absurd (no_length rest e more)
  lists-or-fault [] (y ∷ ys) at rest fault h k e more refused = absurd (no_bytes _ (e ∙ joined y ys rest))
  lists-or-fault (x ∷ xs) [] at rest fault h k e more refused = read_or_fault x at (lists_bytes xs) rest fault h.0 (sym e) refused
  lists-or-fault (x ∷ xs) (y ∷ ys) at rest fault h k e more refused =
      let both = first_same x y (lists_bytes xs) (lists_bytes ys ++ rest) h.0 k.0 (e ∙ joined y ys rest) in
      lists-or-fault xs ys at rest fault h.1 k.1 both.1 more refused

  -- the lists before a first fault
  same-before : (xs ys : Lists) (m n : ℕ) (r s : List ℕ) (f g : ImageFault) → AreListsOf tables xs → AreListsOf tables ys → lists_bytes xs ++ r ≡ lists_bytes ys ++ s
      → next_images tables (record { at = m; bytes = r }) ≡ Err f → next_images tables (record { at = n; bytes = s }) ≡ Err g → xs ≡ ys
  same-before [] [] m n r s f g h k e p q = refl
  same-before [] (y ∷ ys) m n r s f g h k e p q = absurd (read_or_fault y m (lists_bytes ys ++ s) r f k.0 (e ∙ joined y ys s) p)
  same-before (x ∷ xs) [] m n r s f g h k e p q = absurd (read_or_fault x n (lists_bytes xs ++ r) s g h.0 (sym e ∙ joined x xs r) q)
  same-before (x ∷ xs) (y ∷ ys) m n r s f g h k e p q =
      let both = first_same x y (lists_bytes xs ++ r) (lists_bytes ys ++ s) h.0 k.0 (sym (joined x xs r) ∙ e ∙ joined y ys s) in
      ap₂ (λ (l : List Change) (ls : Lists). l ∷ ls) both.0 (same-before xs ys m n r s f g h.1 k.1 both.1 p q)

  -- what is left where a first fault is
  left_there : (bytes : List ℕ) (fault : ImageFault) (h : IsFirstListFault tables bytes fault) → next_images tables (record { at = length (lists_bytes h.before); bytes = h.rest }) ≡ Err fault
  left_there bytes fault h =
      ap (λ (b : List ℕ). next_images tables (record { at = length (lists_bytes h.before); bytes = b })) (sym (ap (λ (b : List ℕ). drop (length (lists_bytes h.before)) b) h.parts ∙ drop_at (lists_bytes h.before) h.rest (length (lists_bytes h.before)) refl))
      ∙ h.fault_is

  err_same : (f g : ImageFault) → ◌≡◌ {A = ListAnswer} (Err f) (Err g) → f ≡ g
  err_same f g e = cc

  list-fault-once : (bytes : List ℕ) (f g : ImageFault) → IsFirstListFault tables bytes f → IsFirstListFault tables bytes g → f ≡ g
  list-fault-once bytes f g h k =
      let same = same-before h.before k.before (length (lists_bytes h.before)) (length (lists_bytes k.before)) h.rest k.rest f g h.are k.are (sym h.parts ∙ k.parts) (left_there bytes f h) (left_there bytes g k) in
      err_same f g (sym h.fault_is ∙ ap (λ (ls : Lists). next_images tables (from bytes (length (lists_bytes ls)))) same ∙ k.fault_is)

  lists-no-fault : (bytes : List ℕ) (lists : Lists) (fault : ImageFault) → AreListsOf tables lists → bytes ≡ lists_bytes lists → IsFirstListFault tables bytes fault → ⊥
  lists-no-fault bytes lists fault are is h = lists-or-fault lists h.before (length (lists_bytes h.before)) h.rest fault are h.are (sym is ∙ h.parts) h.more (left_there bytes fault h)

  -- ---- one list more

  are-more : (lists : Lists) (images : List Change) → AreListsOf tables lists → AreTxnImagesOf tables images → AreListsOf tables (lists ++ images ∷ [])
  are-more [] images are form = (form, tt)
  are-more (l ∷ lists) images are form = (are.0, are-more lists images are.1 form)

  pub list-more : (bytes : List ℕ) (at end : ℕ) (lists : Lists) (images : List Change) → IsBytes bytes → ReadSoFar tables bytes at lists → next_images tables (from bytes at) ≡ Ok (images, from bytes end) → ReadSoFar tables bytes end (lists ++ images ∷ []) × (at < end)
  list-more bytes at end lists images are so_far read =
      let is : IsAtStart (AreTxnImagesOf tables) images_bytes (from bytes at) images (from bytes end) = (images_codec tables few).found (from bytes at) images (from bytes end) (IsBytes-drop at bytes are) read in
      let more : lists_bytes lists ++ images_bytes images ≡ lists_bytes (lists ++ images ∷ []) = flat_map_more images_bytes [] lists images in
      let long : length bytes - at ≡ length (images_bytes images) + length (drop end bytes) = sym (length-drop at bytes) ∙ ap length is.bytes ∙ length-append (images_bytes images) (drop end bytes) in
      let wide : length (lists_bytes (lists ++ images ∷ [])) ≡ length (lists_bytes lists) + length (images_bytes images) = sym (ap length more) ∙ length-append (lists_bytes lists) (images_bytes images) in
      let three : 0 < length (images_bytes images) = omega arith in (
        record {
          within = omega (arith, so_far.within, long, is.offset);
          offset = omega (arith, wide, is.offset, so_far.offset);
          parts = so_far.parts ∙ ap (λ (b : List ℕ). lists_bytes lists ++ b) is.bytes ∙ sym (append_assoc (lists_bytes lists) (images_bytes images) (drop end bytes)) ∙ ap (λ (b : List ℕ). b ++ drop end bytes) more;
          are = are-more lists images so_far.are is.form;
        },
        omega (arith, is.offset, three),
      )

  -- all bytes are read
  pub all-read : (bytes : List ℕ) (at : ℕ) (lists : Lists) → ReadSoFar tables bytes at lists → length bytes ≤ at → bytes ≡ lists_bytes lists
  all-read bytes at lists so_far end = so_far.parts ∙ ap (λ (b : List ℕ). lists_bytes lists ++ b) (nothing (drop at bytes) (omega (arith, length-drop at bytes, end))) ∙ append-nil (lists_bytes lists)
    where
      nothing : (b : List ℕ) → length b ≡ 0 → b ≡ []
      nothing [] e = refl
      nothing (x ∷ xs) e = absurd (omega (arith, e))

  -- the next list has a fault
  pub first-fault : (bytes : List ℕ) (at : ℕ) (lists : Lists) (fault : ImageFault) → ReadSoFar tables bytes at lists → at < length bytes → next_images tables (from bytes at) ≡ Err fault → IsFirstListFault tables bytes fault
  first-fault bytes at lists fault so_far more refused = record {
    before = lists;
    rest = drop at bytes;
    parts = so_far.parts;
    are = so_far.are;
    more = omega (arith, length-drop at bytes, more);
    fault_is = ap (λ (n : ℕ). next_images tables (from bytes n)) (sym so_far.offset) ∙ refused;
  }

-- ---- the parts of a text

abbrev ok_log : ImageLog → LogAnswer
ok_log log = Ok log

abbrev err_log : LogFault → LogAnswer
err_log fault = Err fault

module _ (prefix bytes : List ℕ) where
  -- the tables of a catalogue are few, whichever the text is accepted with
  few_of : (c d : CatalogueState) → IsAccepted prefix c → IsAccepted prefix d → AreFewTables c.tables → AreFewTables d.tables
  few_of c d h k few = subst (λ (x : CatalogueState). AreFewTables x.tables) (one_catalogue prefix c d h.has k.has) few

  fault_over : (c d : CatalogueState) (fault : ImageFault) → IsAccepted prefix c → IsAccepted prefix d → IsFirstListFault c.tables bytes fault → IsFirstListFault d.tables bytes fault
  fault_over c d fault h k first = subst (λ (x : CatalogueState). IsFirstListFault x.tables bytes fault) (one_catalogue prefix c d h.has k.has) first

  -- lists, for a catalogue whose tables are few
  pub log-once : (log : ImageLog) → AreFewTables log.catalogue.tables → LogPartsSay prefix bytes (Ok log) → (other : LogAnswer) → LogPartsSay prefix bytes other → other ≡ Ok log
  log-once log few h (Ok found) k =
      let same : found.catalogue ≡ log.catalogue = one_catalogue prefix found.catalogue log.catalogue k.0.has h.0.has in
      let lists : found.images ≡ log.images = lists-once log.catalogue.tables few found.images log.images (subst (λ (c : CatalogueState). AreListsOf c.tables found.images) same k.1) h.1 (sym k.2 ∙ h.2) in
      ap ok_log (λ i. record { catalogue = same i; images = lists i })
  log-once log few h (Err (Unaccepted fault)) k = absurd (accepted_or_not prefix log.catalogue fault h.0 k)
  log-once log few h (Err (Image fault)) k = absurd (lists-no-fault log.catalogue.tables few bytes log.images fault h.1 h.2 (fault_over k.0 log.catalogue fault k.1 h.0 k.2))

  pub unaccepted-once : (fault : AcceptFault) → LogPartsSay prefix bytes (Err (Unaccepted fault)) → (other : LogAnswer) → LogPartsSay prefix bytes other → other ≡ Err (Unaccepted fault)
  unaccepted-once fault h (Ok found) k = absurd (accepted_or_not prefix found.catalogue fault k.0 h)
  unaccepted-once fault h (Err (Unaccepted other)) k = ap (λ (f : AcceptFault). err_log (Unaccepted f)) (one_unaccepted prefix other fault k h)
  unaccepted-once fault h (Err (Image other)) k = absurd (accepted_or_not prefix k.0 fault k.1 h)

  pub image-once : (catalogue : CatalogueState) (fault : ImageFault) → AreFewTables catalogue.tables → IsAccepted prefix catalogue → IsFirstListFault catalogue.tables bytes fault → (other : LogAnswer) → LogPartsSay prefix bytes other → other ≡ Err (Image fault)
  image-once catalogue fault few accepted first (Ok found) k =
      absurd (lists-no-fault found.catalogue.tables (few_of catalogue found.catalogue accepted k.0 few) bytes found.images fault k.1 k.2 (fault_over catalogue found.catalogue fault accepted k.0 first))
  image-once catalogue fault few accepted first (Err (Unaccepted other)) k = absurd (accepted_or_not prefix catalogue other accepted k)
  image-once catalogue fault few accepted first (Err (Image other)) k =
      ap (λ (f : ImageFault). err_log (Image f)) (list-fault-once catalogue.tables few bytes other fault (fault_over k.0 catalogue other k.1 accepted k.2) first)

  -- nothing else is said of the parts
  abbrev pub OnlyThis : LogAnswer → Type 0
  OnlyThis answer = (other : LogAnswer) → LogPartsSay prefix bytes other → other ≡ answer

  -- what reading the lists of an accepted catalogue gives
  module _ (catalogue : CatalogueState) (few : AreFewTables catalogue.tables) (accepted : IsAccepted prefix catalogue) where
    pub log-said : (read : Result ImageLog (Refusal LogFault)) → IfOk read (λ log. log.catalogue ≡ catalogue) → IfOk read (λ log. AreListsOf catalogue.tables log.images) → IfOk read (λ log. bytes ≡ lists_bytes log.images)
        → ((fault : LogFault) → read ≡ Err (refusal.Fault fault) → IsListFault catalogue.tables bytes fault) → AnswersBy (LogPartsSay prefix bytes) read × AnswersBy OnlyThis read
    log-said (Ok log) same are is fault =
        let says : LogPartsSay prefix bytes (Ok log) = (subst (λ (c : CatalogueState). IsAccepted prefix c) (sym same) accepted, subst (λ (c : CatalogueState). AreListsOf c.tables log.images) (sym same) are, is) in
        (says, log-once log (subst (λ (c : CatalogueState). AreFewTables c.tables) (sym same) few) says)
    log-said (Err (refusal.Fault (Unaccepted f))) same are is fault = absurd (fault (Unaccepted f) refl)
    log-said (Err (refusal.Fault (Image f))) same are is fault = let first = fault (Image f) refl in ((catalogue, accepted, first), image-once catalogue f few accepted first)
    log-said (Err refusal.NoMemory) same are is fault = (tt, tt)

-- ---- the mark

no_earlier : (text : List ℕ) (i j : ℕ) → IsMark text i → IsMark text j → i < j → ⊥
no_earlier text i j a b less = let conflict : true ≡ false = sym a.mark ∙ b.first i less in absurd cc

pub one_mark : (text : List ℕ) (a b : Option ℕ) → MarkOf text a → MarkOf text b → a ≡ b
one_mark text None None h k = refl
one_mark text None (Some j) h k = let conflict : true ≡ false = sym k.mark ∙ h j in absurd cc
one_mark text (Some i) None h k = let conflict : true ≡ false = sym h.mark ∙ k i in absurd cc
one_mark text (Some i) (Some j) h k = ap (λ (n : ℕ). Some n) (by_order (cases_order i j))
  where
    by_order : (i ≡ j) ⊎ ((i < j) ⊎ (j < i)) → i ≡ j
    by_order (inl same) = same
    by_order (inr (inl less)) = absurd (no_earlier text i j h k less)
    by_order (inr (inr more)) = absurd (no_earlier text j i k h more)

-- what is read of the parts is read of the text
module _ (text : List ℕ) (mark : Option ℕ) (is_mark : MarkOf text mark) (short : length text ≤ 67108864) where
  log-read : (answer : LogAnswer) → LogPartsSay (text_before text mark) (bytes_behind text mark) answer → OnlyThis (text_before text mark) (bytes_behind text mark) answer → IsLogReadAs text answer
  log-read answer says only = record {
    short = short;
    says = record { mark = mark; is_mark = is_mark; parts = says };
    only = λ other h. only other (subst (λ (m : Option ℕ). LogPartsSay (text_before text m) (bytes_behind text m) other) (one_mark text h.mark mark h.is_mark is_mark) h.parts);
  }

  pub log-is : (read : Result ImageLog (Refusal LogFault)) → AnswersBy (LogPartsSay (text_before text mark) (bytes_behind text mark)) read → AnswersBy (OnlyThis (text_before text mark) (bytes_behind text mark)) read
      → IfOk read (λ log. IsLogReadAs text (Ok log))
  log-is (Ok log) says only = log-read (Ok log) says only
  log-is (Err error) says only = tt

  pub log-is-not : (read : Result ImageLog (Refusal LogFault)) (fault : LogFault) → AnswersBy (LogPartsSay (text_before text mark) (bytes_behind text mark)) read → AnswersBy (OnlyThis (text_before text mark) (bytes_behind text mark)) read
      → read ≡ Err (refusal.Fault fault) → IsLogReadAs text (Err fault)
  log-is-not read fault says only is =
      log-read (Err fault) (subst (λ (r : Result ImageLog (Refusal LogFault)). AnswersBy (LogPartsSay (text_before text mark) (bytes_behind text mark)) r) is says)
      (subst (λ (r : Result ImageLog (Refusal LogFault)). AnswersBy (OnlyThis (text_before text mark) (bytes_behind text mark)) r) is only)
