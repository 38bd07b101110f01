-- The database that a file had before the first commit of its log.
use Rattle.std.proofs.Common.{◌≡◌, ◌≢◌, ◌⊎◌, inl, inr, ⊎_elim, ℕ, suc, ◌+◌, ◌-◌, ◌*◌, ◌<◌, ◌≤◌, cond, true, false, List, length, get_or, take, drop, refl, sym, ◌∙◌, ap, subst, arith, eq-eqb, ne_eqb, length-drop}
use Rattle.std.specs.Prelude.{◌==◌, ◌↔◌, IsTrue, Bool, Result, Ok, Err, IfOk}
use Rattle.std.proofs.lemmas.Bool.{cases_eq}
use Rattle.std.proofs.lemmas.List.{get_or-take, get_or-drop, length-take-le, ext_get_or}
use Rattle.byteorder.specs.Endian.{big_number}
use Rattle.sqval.specs.Bytes.{word, AreBytes}
use Rattle.sqval.specs.Database.{Database, file_page, file_pages}
use Rattle.sqval.specs.Limits.{Bounds}
use Rattle.sqval.specs.PageSize.{IsPageSize}
use Rattle.sqval.proofs.page.FilePages.{size_some, length-file_page, get_or-file_page}
use Rattle.sqwal.specs.Header.{named_size, IsHeader}
use Rattle.sqwal.specs.Frames.{IsFront, IsValidFrame}
use Rattle.sqjournal.specs.Journal.{IsHot}
use Rattle.history.specs.Past.{valid_count, IsOverFile, IsPast, IsUnknown}
use Rattle.history.specs.Checkpoints.{zero_page}
use Rattle.history.specs.Known.{IsKnown, IsLost, IsByLength, IsLengthGone}
use Rattle.history.specs.Table.{AreThere, IsFirstGone}
use Rattle.history.specs.declared.table.Table.{Table}
use Rattle.history.proofs.PaddedPages.{built, length_built, page_built}
use Rattle.history.proofs.PagesKept.{known_at}
use Rattle.history.proofs.PagesLost.{lost_unknown}
use Rattle.sqview.specs.At.{IsShownAtWithin}
use Rattle.sqview.specs.Laid.{part_or_zeros}
use Rattle.sqview.specs.LogView.{head_of, own_pages, IsOwn, pages_of}
use Rattle.sqview.specs.declared.view.View.{View}
use Rattle.sqpast.specs.Past.{IsTable}
use Rattle.sqpage.specs.declared.fault.Fault.TheVariants as faults
use Rattle.sqview.specs.declared.view_error.ViewError.TheVariants.{Header}
use Rattle.sqpast.specs.Files.{PastAnswerWithin, PastRefusedWithin, IsPastShownWithin}
use Rattle.sqpast.specs.internal.Chains.{IsLeastCommit}
use Rattle.sqpast.specs.internal.Before.{IsStart, own_count, IsJudgedBefore, IsChanged}
use Rattle.sqpast.specs.declared.before.Start.{Start}
use Rattle.sqpast.specs.declared.past_error.PastError.TheVariants.{CommitOverwritten, Refused}
use Rattle.sqpast.proofs.known.BytesInPieces.{part_long, part_byte, page_read}
use Rattle.sqpast.proofs.known.KnownViews.{count_invalid, count_valid, front_is}

-- ---- how many pages the file's own database has

pub count_is : (size : ℕ) (file : List ℕ) (s : Start) → IsStart size file s → cond (s.valid == 0) s.long s.valid ≡ own_count size file
count_is size file s is = ap (λ n. cond (s.valid == 0) n s.valid) is.long ∙ ap (λ v. cond (v == 0) (file_pages size file) v) is.valid

same_word : (a b : List ℕ) (at : ℕ) → at + 4 ≤ length a → at + 4 ≤ length b → ((i : ℕ) → i < at + 4 → get_or a i 0 ≡ get_or b i 0) → word a at ≡ word b at
same_word a b at la lb same = ap (big_number 4) (ext_get_or 0 (take 4 (drop at a)) (take 4 (drop at b))
    (length-take-le 4 (drop at a) (omega (arith, length-drop at a)) ∙ sym (length-take-le 4 (drop at b) (omega (arith, length-drop at b))))
    (λ i lt. let below : i < 4 = omega (arith, length-take-le 4 (drop at a) (omega (arith, length-drop at a))) in
    get_or-take 4 (drop at a) i 0 below ∙ get_or-drop at a i 0 ∙ same (at + i) (omega arith) ∙ sym (get_or-drop at b i 0) ∙ sym (get_or-take 4 (drop at b) i 0 below)))

module _ (size : ℕ) (is_size : IsPageSize size) (file : List ℕ) where
  first_word : (at : ℕ) → at + 4 ≤ 100 → word (file_page size file 1) at ≡ word (head_of file) at
  unfolding head_of
  first_word at le =
      let s = size_some size is_size in
      same_word (file_page size file 1) (file_page 100 file 1) at (omega (arith, length-file_page size file 1)) (omega (arith, length-file_page 100 file 1))
      (λ i lt. let a : (1 - 1) * size + i ≡ (1 - 1) * 100 + i = omega arith in
      get_or-file_page size file 1 i (omega arith) ∙ ap (λ n. get_or file n 0) a ∙ sym (get_or-file_page 100 file 1 i (omega arith)))

  pub own_is : own_pages size file ≡ own_count size file
  unfolding own_pages
  own_is =
      let h = head_of file in
      let f = file_page size file 1 in
      ⊎_elim
      (λ same.
      let v : valid_count f ≡ word h 28 = count_valid f (first_word 24 (omega arith) ∙ same ∙ sym (first_word 92 (omega arith))) ∙ first_word 28 (omega arith) in
      let b : (word h 24 == word h 92) ≡ true = eq-eqb (word h 24) (word h 92) same in
      ⊎_elim
      (λ none. let a : (word h 28 == 0) ≡ true = eq-eqb (word h 28) 0 none in let c : (valid_count f == 0) ≡ true = eq-eqb (valid_count f) 0 (v ∙ none) in rw (a, c) refl)
      (λ some. let a : (word h 28 == 0) ≡ false = ne_eqb (word h 28) 0 some in let c : (valid_count f == 0) ≡ false = ne_eqb (valid_count f) 0 (λ z. some (sym v ∙ z)) in rw (a, b, c) (sym v))
      (cases_eq (word h 28) 0))
      (λ other.
      let v : valid_count f ≡ 0 = count_invalid f (λ e. other (sym (first_word 24 (omega arith)) ∙ e ∙ first_word 92 (omega arith))) in
      let b : (word h 24 == word h 92) ≡ false = ne_eqb (word h 24) (word h 92) other in
      let c : (valid_count f == 0) ≡ true = eq-eqb (valid_count f) 0 v in
      ⊎_elim
      (λ none. let a : (word h 28 == 0) ≡ true = eq-eqb (word h 28) 0 none in rw (a, c) refl)
      (λ some. let a : (word h 28 == 0) ≡ false = ne_eqb (word h 28) 0 some in rw (a, b, c) refl)
      (cases_eq (word h 28) 0))
      (cases_eq (word h 24) (word h 92))

-- the words of page 1 stand in its first 100 bytes
count_by_words : (a b : List ℕ) → word a 24 ≡ word b 24 → word a 28 ≡ word b 28 → word a 92 ≡ word b 92 → valid_count a ≡ valid_count b
unfolding valid_count
count_by_words a b x y z = rw (x, y, z) refl

pub count_in_100 : (size at : ℕ) (l : List ℕ) → 100 ≤ size → valid_count (part_or_zeros 100 at l) ≡ valid_count (part_or_zeros size at l)
count_in_100 size at l le = count_by_words (part_or_zeros 100 at l) (part_or_zeros size at l) (each 24 (omega arith)) (each 28 (omega arith)) (each 92 (omega arith))
  where
    each : (k : ℕ) → k + 4 ≤ 100 → word (part_or_zeros 100 at l) k ≡ word (part_or_zeros size at l) k
    each k fits = same_word (part_or_zeros 100 at l) (part_or_zeros size at l) k (omega (arith, part_long 100 at l)) (omega (arith, part_long size at l))
        (λ i lt. part_byte 100 at l i (omega arith) ∙ sym (part_byte size at l i (omega arith)))

pub head_count : (size : ℕ) (file : List ℕ) → IsPageSize size → valid_count (part_or_zeros 100 0 file) ≡ valid_count (file_page size file 1)
head_count size file is = count_in_100 size 0 file (let s = size_some size is in omega arith)
    ∙ ap valid_count (page_read size file 1 size 0 (part_or_zeros size 0 file) refl (let z : 0 ≡ (1 - 1) * size = omega arith in z) refl)

-- ---- whether it is known

module _ (size : ℕ) (w : List ℕ) (front : ℕ) (file : List ℕ) (before : 0 < front) where
  abbrev n : ℕ
  n = own_count size file

  module _ (pages : ℕ) (t : Table) (is : IsTable size w front file pages t) (fits : n ≤ length t.greatest.items) where
    pub page_lost : (p : ℕ) → IsFirstGone is.until 0 n p → IsLost size w front file 0 n
    page_lost p gone = inl (p, gone.first, gone.within, (is.are.each 0 p before gone.first (omega (arith, gone.within, is.greatest.long))).1 gone.gone)

    pub all_known : AreThere is.until 0 n → (IsByLength size file 0 → ¬ IsLengthGone size w front file) → IsKnown size w front file 0 n
    all_known all kept = record {
      pages = λ p one le gone. omega (arith, (is.are.each 0 p before one (omega (arith, is.greatest.long))).0 gone, all p one le);
      length_kept = kept;
    }

    pub judged_length : AreThere is.until 0 n → (b : Bool) (now : List ℕ) → now ≡ file → (IsTrue b ↔ (IsByLength size now 0 × IsLengthGone size w front now)) → IsJudgedBefore size w front file b
    judged_length all b now same gone =
        let here = subst (λ (f : List ℕ). IsTrue b ↔ (IsByLength size f 0 × IsLengthGone size w front f)) same gone in
        record {
          yes = λ t. (is.bytes, inr (here.0 t));
          no = λ not. all_known all (λ short long. not (here.1 (short, long)));
        }

  -- the length of the file by its last page and its smallest commit
  module _ (s : Start) (start : IsStart size file s) (none : s.valid ≡ 0) (least : ℕ) (is : IsLeastCommit size w front least) where
    by_length : IsByLength size file 0
    by_length = (refl, sym start.valid ∙ none)

    pub short_length : least ≤ s.long → IsByLength size file 0 × IsLengthGone size w front file
    short_length le = (by_length, inr (is.one.0, is.one.1, is.one.2, is.one.3, omega (arith, is.one.4, start.long)))

    pub zeros_length : s.long < least → (b : Bool) → (IsTrue b ↔ ((1 ≤ s.long) × (file_page size file s.long ≡ zero_page size)))
        → IsTrue b ↔ (IsByLength size file 0 × IsLengthGone size w front file)
    zeros_length above b zeros = (
      λ t. (by_length, inl (subst (λ (k : ℕ). (1 ≤ k) × (file_page size file k ≡ zero_page size)) start.long (zeros.0 t))),
      λ x. ⊎_elim
          (λ last. zeros.1 (subst (λ (k : ℕ). (1 ≤ k) × (file_page size file k ≡ zero_page size)) (sym start.long) last))
          (λ small. absurd (omega (arith, is.below small.0 small.1 small.2 small.3, small.4, start.long)))
          x.1,
    )

  module _ (is_size : IsPageSize size) where
    -- the file's own database is the one that was there
    module _ (d : Database) (own : IsOwn size file d) where
      over_own : IsOverFile size w 0 file d
      over_own = record {
        start = λ _. own.count ∙ own_is size is_size file;
        some = λ one. absurd (omega arith);
        over = record {
          logged = λ p i from to last. absurd (omega (arith, last.first, last.within));
          other = λ p from to _. own.each p from to;
        };
      }

      pub own_past : IsKnown size w front file 0 n → IsPast size w front file 0 d
      own_past known files was = known_at size w front file (let s = size_some size is_size in omega arith) files was 0 d over_own
          (subst (λ (k : ℕ). IsKnown size w front file 0 k) (sym (own.count ∙ own_is size is_size file)) known)

    pub own_unknown : AreBytes file → IsLost size w front file 0 n → IsUnknown size w front file 0
    own_unknown bytes lost =
        let f = file_page size file in
        lost_unknown size w front file 0 (built f n) is_size bytes (inl refl)
        (record {
          start = λ _. length_built f n;
          some = λ one. absurd (omega arith);
          over = record {
            logged = λ p i from to last. absurd (omega (arith, last.first, last.within));
            other = λ p from to _. page_built f n p from (omega (arith, length_built f n));
          };
        })
        (subst (λ (k : ℕ). IsLost size w front file 0 k) (sym (length_built f n)) lost)

-- ---- a log that has a commit

pub unjudged : (most : ℕ) (w : List ℕ) (front : ℕ) (file : List ℕ) → (1 ≤ front → IsKnown (named_size w) w front file 0 (own_count (named_size w) file) ⊎ (most < own_count (named_size w) file * named_size w))
    → IsChanged most w front file false
unjudged most w front file why = record { yes = λ t. let bad : false ≡ true = t in cc; no = λ _. why }

pub changed_is : (most : ℕ) (w : List ℕ) (front : ℕ) (file : List ℕ) → 1 ≤ front → (b : Bool) → IsJudgedBefore (named_size w) w front file b → IsChanged most w front file b
changed_is most w front file one b judged = record { yes = λ t. let lost = judged.yes t in (one, lost.0, lost.1); no = λ not _. inl (judged.no not) }

-- ---- what is answered

front_sized : (w : List ℕ) (front : ℕ) → 1 ≤ front → IsFront (named_size w) w front → IsPageSize (named_size w)
front_sized w front some is = ((front_is (named_size w) w front some is).0.each front some (omega arith)).header.is_size

module _ {F : Type 0} (limits : Bounds) (bytes : F → List ℕ) (db w journal : List ℕ) (cold : ¬ IsHot journal) (front : ℕ) (is_front : IsFront (named_size w) w front)
    (changed : Bool) (judged : IsChanged limits.bytes w front db changed) where
  pub changed_answer : IsTrue changed → PastAnswerWithin {F = F} limits bytes 0 db w journal (Err CommitOverwritten)
  changed_answer t =
      let lost = judged.yes t in (
        front,
        record { cold = cold; some = lost.0; is = is_front },
        inl refl,
        omega (arith, lost.0),
        own_unknown (named_size w) w front db (omega (arith, lost.0)) (front_sized w front lost.0 is_front) lost.1 lost.2,
      )

  module _ (not : ¬ IsTrue changed) (v : View F) (shown : IsShownAtWithin limits bytes 0 db w journal v) (short : ¬ IsValidFrame (named_size w) w (suc limits.frames))
      (sized : 1 ≤ front → v.page_size ≡ named_size w) where
    own : IsOwn v.page_size db (pages_of bytes v)
    own = ⊎_elim (λ x. x.1) (λ at. absurd (omega (arith, at.0.valid.first))) shown.shows

    module _ (some : 1 ≤ front) where
      own_here : IsOwn (named_size w) db (pages_of bytes v)
      own_here = subst (λ (k : ℕ). IsOwn k db (pages_of bytes v)) (sized some) own

      known : IsKnown (named_size w) w front db 0 (own_count (named_size w) db)
      known = ⊎_elim
          (λ known. known)
          (λ above. absurd (shown.within (named_size w, own_count (named_size w) db, inl (refl, own_here.size_is, own_here.named, sym (own_is (named_size w) own_here.size_is db)), above)))
          (judged.no not some)

      past_here : IsPast v.page_size w front db 0 (pages_of bytes v)
      past_here = subst (λ (k : ℕ). IsPast k w front db 0 (pages_of bytes v)) (sym (sized some))
          (own_past (named_size w) w front db (omega arith) own_here.size_is (pages_of bytes v) own_here known)

    pub before_shown : IsPastShownWithin limits bytes 0 db w journal v
    before_shown = record {
      shows = ⊎_elim
          (λ none. inl (refl, own, inl (record { cold = cold; none = subst (λ (k : ℕ). IsFront (named_size w) w k) none is_front })))
          (λ ne. let some : 1 ≤ front = omega (arith, ne) in
          inr (front, record { cold = cold; some = some; is = is_front }, inl refl, sized some, inr (omega arith, past_here some)))
          (cases_eq front 0);
      stands = shown.stands;
      one = shown.one;
      short = λ long. short long.1;
      within = shown.within;
      headed = shown.headed;
      unplaced = shown.unplaced;
      placed = shown.placed;
      framed = shown.framed;
    }

-- the file names another page size than its log
pub other_size : {F : Type 0} (limits : Bounds) (bytes : F → List ℕ) (db w journal : List ℕ) → (¬ IsHot journal) → (front : ℕ) → IsFront (named_size w) w front → (v : View F) → IsShownAtWithin limits bytes 0 db w journal v
    → 1 ≤ front → v.page_size ≢ named_size w → PastRefusedWithin limits 0 db w journal (Refused (Header faults.PageSize))
other_size limits bytes db w journal cold front is v shown one differs = ⊎_elim
    (λ own. inr (refl, (front, record { cold = cold; some = one; is = is }, λ same. differs (own.1.named ∙ same))))
    (λ at. absurd (omega (arith, at.0.valid.first)))
    shown.shows

-- ---- the header of a log that has a front

pub front_header : (w : List ℕ) (front : ℕ) → 1 ≤ front → IsFront (named_size w) w front → IsHeader (named_size w) w
front_header w front some is = ((front_is (named_size w) w front some is).0.each front some (omega arith)).header

-- ---- an answer that was given on

pub map_ok : {A E : Type 0} (r : Result A E) (P Q : A → Type 0) → ((x : A) → P x → Q x) → IfOk r P → IfOk r Q
map_ok (Ok x) P Q f is = f x is
map_ok (Err e) P Q f is = tt
