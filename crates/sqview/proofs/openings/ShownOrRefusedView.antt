-- What a view shows, and what refuses it.
use Rattle.std.proofs.Common.{◌≡◌, ◌≢◌, inl, inr, ⊎_elim, ℕ, suc, ◌-◌, ◌*◌, ◌^◌, ◌<◌, ◌≤◌, List, length, get_or, take, refl, sym, ◌∙◌, ap, subst, arith, []}
use Rattle.std.specs.Prelude.{Option, Some, None, Result, Ok, Err, IfOk}
use Rattle.std.proofs.lemmas.Result.{err_from_is_err_and}
use Rattle.std.specs.Result.{IsErrAnd}
use Rattle.sqval.specs.Bytes.{word}
use Rattle.sqval.specs.Database.{file_page}
use Rattle.sqval.specs.Limits.{Bounds}
use Rattle.sqval.specs.PageSize.{IsPageSize}
use Rattle.sqwal.specs.Header.{IsHeader, named_size}
use Rattle.sqwal.specs.Frames.{size_of, IsValidFrame, IsFront}
use Rattle.sqwal.specs.View.{IsView}
use Rattle.sqwal.specs.Answers.{IsCommittedWithin}
use Rattle.sqwal.specs.Took.{TookWithin}
use Rattle.sqwal.specs.declared.scan.Scan.{Scan}
use Rattle.sqwal.specs.declared.scan.Front.{Front}
use Rattle.sqwal.proofs.log.UniquenessOfView.{front_unique}
use Rattle.sqjournal.specs.Header.{IsFirstHeader, IsRefused, Names}
use Rattle.sqjournal.specs.declared.error.JournalError.{JournalError}
use Rattle.sqjournal.specs.declared.error.JournalError.TheVariants.{NotAJournal, SectorSize, PageSize as JournalPageSize, NoMemory as JournalNoMemory, TooLong}
use Rattle.sqjournal.specs.Journal.{IsHot}
use Rattle.sqjournal.specs.Restored.{IsRolledBack}
use Rattle.sqjournal.specs.declared.header.JournalHeader.{JournalHeader}
use Rattle.sqjournal.proofs.read.NextStateOfReading.{front_first, front_names, front_refused}
use Rattle.sqpage.specs.Header.{HasMagic, HasPageSize, size_named}
use Rattle.sqpage.specs.declared.fault.Fault.TheVariants as faults
use Rattle.sqview.specs.LogView.{head_of, own_pages, IsLogged, IsAlone, IsTooLongWithin, IsAboveWithin, ViewRefusedWithin, pages_of, IsShownWithin, ViewAnswerWithin, ReadsFrom}
use Rattle.sqview.specs.Places.{most_kept}
use Rattle.sqview.specs.internal.Places.{PlaceTable}
use Rattle.sqview.specs.Logs.{AreTwoLogs, IsRead}
use Rattle.sqview.specs.Origins.{AreFramePlaces, AreJournalPlaces}
use Rattle.sqview.specs.internal.ViewParts.{ReplayedAnswer, ScannedAnswer, LimitAnswer, IsUnsized, PlacedAnswer}
use Rattle.sqview.specs.declared.view.View.{View}
use Rattle.sqview.specs.declared.view_error.ViewError.{ViewError}
use Rattle.sqview.specs.declared.view_error.ViewError.TheVariants.{TwoLogs, TooLarge, Header, Unread, NoMemory, NoSuchCommit}
use Rattle.sqview.proofs.openings.PagesOfView.{length_laid, page_laid, laid_own}

-- what a `?` gives on
pub passed : {T : Type 0} (r : Result T ViewError) (e : ViewError) → IsErrAnd r (λ x. x ≡ e) → r ≡ Err e
passed r e is = let p = err_from_is_err_and r is in p.1 ∙ ap Err p.2

-- an answer that a file could not be read is none that is read
pub unread_not : {A : Type 0} (q : Result A ViewError) → IsErrAnd q (λ x. x ≡ Unread) → IsRead q → ⊥
unread_not {A = A} q is ok = subst (λ (x : Result A ViewError). IsRead x) (passed q Unread is) ok

read_of : (A B : Type 0) (e : ViewError) → IsRead {A = A} (Err e) → IsRead {A = B} (Err e)
read_of A B Unread ok = ok
read_of A B TwoLogs ok = tt
read_of A B TooLarge ok = tt
read_of A B (Header fault) ok = tt
read_of A B NoMemory ok = tt
read_of A B NoSuchCommit ok = tt

-- what was given on was read
pub read_before : {A : Type 0} (B : Type 0) (q : Result A ViewError) (e : ViewError) → IsErrAnd q (λ x. x ≡ e) → IsRead q → IsRead {A = B} (Err e)
read_before {A = A} B q e is ok = read_of A B e (subst (λ (x : Result A ViewError). IsRead x) (passed q e is) ok)

-- what a hot journal shows beside a log of no bytes
pub journal_answers : {F : Type 0} (limits : Bounds) (bytes : F → List ℕ) (db wal journal now : List ℕ) (r : Result (View F) ViewError) → wal ≡ [] → now ≡ journal
    → ViewAnswerWithin limits bytes db [] now r → ViewAnswerWithin limits bytes db wal journal r
journal_answers limits bytes db wal journal now r bare same is =
    subst (λ (l : List ℕ). ViewAnswerWithin limits bytes db l journal r) (sym bare) (subst (λ (l : List ℕ). ViewAnswerWithin limits bytes db [] l r) same is)

pub journal_reads : {F : Type 0} (bytes : F → List ℕ) (db wal journal now : List ℕ) (r : Result (View F) ViewError) → IsHot journal → now ≡ journal
    → IfOk r (λ v. (bytes v.db ≡ db) × (bytes v.log ≡ now)) → IfOk r (λ v. ReadsFrom db wal journal (bytes v.db) (bytes v.log))
journal_reads bytes db wal journal now (Ok v) hot same is = record { file_is = is.0; hot = λ _. is.1 ∙ same; cold = λ cold. absurd (cold hot) }
journal_reads bytes db wal journal now (Err e) hot same is = tt

pub answers : {F : Type 0} (limits : Bounds) (bytes : F → List ℕ) (db wal journal : List ℕ) (q : Result (View F) ViewError) (e : ViewError) → IsErrAnd q (λ x. x ≡ e) → ViewRefusedWithin limits db wal journal e
    → ViewAnswerWithin limits bytes db wal journal q
answers {F = F} limits bytes db wal journal q e is bad = subst (λ (x : Result (View F) ViewError). ViewAnswerWithin limits bytes db wal journal x) (sym (passed q e is)) bad

pub placed_refused : {F : Type 0} (limits : Bounds) (bytes : F → List ℕ) (size m count : ℕ) (db w : List ℕ) (q : Result (View F) ViewError) (e : ViewError) → IsErrAnd q (λ x. x ≡ e) → LimitAnswer limits.bytes size count (Err e)
    → PlacedAnswer limits.bytes bytes size m count db w q
placed_refused {F = F} limits bytes size m count db w q e is bad = subst (λ (x : Result (View F) ViewError). PlacedAnswer limits.bytes bytes size m count db w x) (sym (passed q e is)) (limited e bad)
  where
    limited : (e : ViewError) → LimitAnswer limits.bytes size count (Err e) → PlacedAnswer limits.bytes bytes size m count db w (Err e)
    limited NoMemory bad = tt
    limited e bad = bad

-- ---- The first header of a journal.

pub hot_is : (j front : List ℕ) (h : JournalHeader) → front ≡ take 28 j → IsFirstHeader front → Names front h → h.sector ≤ length j → IsHot j × Names j h
hot_is j front h e first names le =
    let named : Names j h = front_names j h (subst (λ (l : List ℕ). Names l h) e names) in
    (record { first = front_first j (subst IsFirstHeader e first); whole = omega (arith, named.sector) }, named)

pub cold_refused : (j front : List ℕ) (e : JournalError) → front ≡ take 28 j → IsRefused front e → ¬ IsHot j
cold_refused j front e is bad hot = refuted e (front_refused j e (subst (λ (l : List ℕ). IsRefused l e) is bad))
  where
    refuted : (e : JournalError) → IsRefused j e → ⊥
    refuted NotAJournal x = x hot.first.magic
    refuted SectorSize x = x.1 hot.first.sector
    refuted JournalPageSize x = x.2 hot.first.size
    refuted JournalNoMemory x = x
    refuted TooLong x = x

pub cold_cut : (j front : List ℕ) (h : JournalHeader) → front ≡ take 28 j → Names front h → length j < h.sector → ¬ IsHot j
cold_cut j front h e names lt hot = let named : Names j h = front_names j h (subst (λ (l : List ℕ). Names l h) e names) in omega (arith, named.sector, hot.whole)

-- ---- The file alone.

module _ (limits : Bounds) (db wal journal : List ℕ) (alone : IsAlone wal journal) where
  above_own : IsAboveWithin limits db wal journal → (size : ℕ) × IsPageSize size × (size ≡ size_named (head_of db)) × (limits.bytes < own_pages size db * size)
  above_own above = ⊎_elim (λ hot. absurd (alone.cold hot.0)) (⊎_elim
      (λ logged. absurd (let zero : logged.0 ≡ 0 = front_unique (named_size wal) wal logged.0 0 logged.1.is alone.none in omega (arith, logged.1.some)))
      (λ own. (above.0, own.1, own.2, subst (λ (n : ℕ). limits.bytes < n * above.0) own.3 above.3)))
      above.2

  not_two : ¬ AreTwoLogs wal journal
  not_two two = alone.cold two.0

  module _ (short : ¬ IsTooLongWithin limits wal journal) where
    pub own_unsized : (e : ViewError) → IsUnsized (head_of db) e → ¬ HasPageSize (head_of db) → ViewRefusedWithin limits db wal journal e
    own_unsized (Header faults.Magic) bad none = (short, λ above. let o = above_own above in none (subst IsPageSize o.2 o.1), alone, bad)
    own_unsized (Header faults.PageSize) bad none = (short, λ above. let o = above_own above in none (subst IsPageSize o.2 o.1), alone, bad, none)
    own_unsized (Header _) bad none = absurd bad
    own_unsized _ bad none = absurd bad

    module _ (size : ℕ) (is : IsPageSize size) (named : size ≡ size_named (head_of db)) where
      pub own_limited : (e : ViewError) → LimitAnswer limits.bytes size (own_pages size db) (Err e) → ViewRefusedWithin limits db wal journal e
      own_limited TooLarge more = (not_two, inr (short, (size, own_pages size db, inr (inr (alone, is, named, refl)), more)))
      own_limited _ more = absurd more

      own_within : own_pages size db * size ≤ limits.bytes → ¬ IsAboveWithin limits db wal journal
      own_within le above = let o = above_own above in let same : o.0 ≡ size = o.2 ∙ sym named in
          let more : limits.bytes < own_pages size db * size = subst (λ (n : ℕ). limits.bytes < own_pages n db * n) same o.3 in omega arith

      pub own_magic : (n : ℕ) → LimitAnswer limits.bytes size (own_pages size db) (Ok n) → ¬ HasMagic (head_of db) → ViewRefusedWithin limits db wal journal (Header faults.Magic)
      own_magic n le bad = (short, own_within le.1, alone, bad)

      pub own_shown : {F : Type 0} (bytes : F → List ℕ) (v : View F) → LimitAnswer limits.bytes size (own_pages size db) (Ok v.count) → HasMagic (head_of db) → v.page_size ≡ size → bytes v.db ≡ db
          → v.places ≡ record { items = []; kept = 0 } → v.front ≡ 0 → IsShownWithin limits bytes db wal journal v
      own_shown bytes v le magic s d none zero = record {
        shows = inr (inr (
          alone,
          record {
            size_is = subst IsPageSize (sym s) is;
            named = s ∙ named;
            count = length_laid v.page_size v.count (bytes v.db) (bytes v.log) v.places.items ∙ le.0 ∙ ap (λ n. own_pages n db) (sym s);
            each = λ p one most. page_laid v.page_size v.count (bytes v.db) (bytes v.log) v.places.items p one (omega (arith, length_laid v.page_size v.count (bytes v.db) (bytes v.log) v.places.items))
                ∙ laid_own v.page_size (bytes v.db) (bytes v.log) v.places.items p (ap (λ (t : PlaceTable). get_or t.items (p - 1) 0) none) ∙ ap (λ l. file_page v.page_size l p) d;
          },
        ));
        one = not_two;
        short = short;
        within = own_within le.1;
        headed = λ _. magic;
        stands = inr (zero, λ m logged. omega (arith, logged.some, front_unique (named_size wal) wal m 0 logged.is alone.none));
        unplaced = λ _. ap (λ (t : PlaceTable). t.items) none;
        placed = λ counts. absurd (counts alone);
        framed = λ some. absurd (omega (arith, zero, some));
        recorded = λ hot. absurd (alone.cold hot);
        few = let nothing : v.places.kept ≡ 0 = ap (λ (t : PlaceTable). t.kept) none in omega (arith, nothing);
      }

-- ---- A hot journal.

module _ (limits : Bounds) (db journal : List ℕ) (hot : IsHot journal) where
  just_one : ¬ AreTwoLogs [] journal
  just_one two = two.1 refl

  pub replay_refused : (e : ViewError) → ReplayedAnswer journal (Err e) → ViewRefusedWithin limits db [] journal e
  replay_refused TooLarge long = (just_one, inl (inl (hot, long)))
  replay_refused NoMemory long = tt
  replay_refused _ long = absurd long

  module _ (size count : ℕ) (s : size ≡ word journal 24) (c : count ≡ word journal 16) (within : length journal ≤ 2 ^ 40) where
    not_long : ¬ IsTooLongWithin limits [] journal
    not_long long = ⊎_elim (λ x. omega (arith, x.1)) (λ x. x.0 hot) long

    pub restored_limited : (e : ViewError) → LimitAnswer limits.bytes size count (Err e) → ViewRefusedWithin limits db [] journal e
    restored_limited TooLarge more = (just_one, inr (not_long, (size, count, inl (hot, s, c), more)))
    restored_limited _ more = absurd more

    not_above : count * size ≤ limits.bytes → ¬ IsAboveWithin limits db [] journal
    not_above le above = ⊎_elim
        (λ x. let e : above.0 ≡ size = x.1 ∙ sym s in let f : above.1 ≡ count = x.2 ∙ sym c in
        let more : limits.bytes < count * size = subst (λ (n : ℕ). limits.bytes < n * size) f (subst (λ (n : ℕ). limits.bytes < above.1 * n) e above.3) in omega arith)
        (⊎_elim (λ x. x.1.cold hot) (λ x. x.0.cold hot)) above.2

    pub restored_shown : {F : Type 0} (bytes : F → List ℕ) (v : View F) → LimitAnswer limits.bytes size count (Ok v.count) → v.page_size ≡ word journal 24 → IsRolledBack db journal (pages_of bytes v) → v.front ≡ 0
        → AreJournalPlaces journal v.count v.places.items → v.places.kept ≤ most_kept v.page_size (bytes v.log) → IsShownWithin limits bytes db [] journal v
    restored_shown bytes v le e is zero places few = record {
      shows = inl (hot, e, is, just_one);
      one = just_one;
      short = not_long;
      within = not_above le.1;
      headed = λ alone. absurd (alone.cold hot);
      stands = inr (zero, λ m logged. logged.cold hot);
      unplaced = λ alone. absurd (alone.cold hot);
      placed = λ _. places.long;
      framed = λ some. absurd (omega (arith, zero, some));
      recorded = λ _. places;
      few = few;
    }

-- ---- A log.

pub front_valid : (size : ℕ) (w : List ℕ) (m : ℕ) → IsFront size w m → m ≢ 0 → IsValidFrame size w m
front_valid size w m is some = ⊎_elim (λ e. absurd (some e)) (λ v. v.0) is.is

module _ (limits : Bounds) (w : List ℕ) (o : Option Scan) where
  pub scanned_some : (scan : Scan) → o ≡ Some scan → ScannedAnswer limits.frames w (Ok o) → TookWithin limits.frames w scan
  scanned_some scan is answer = subst (λ (x : Option Scan). ScannedAnswer limits.frames w (Ok x)) is answer

  pub scanned_none : o ≡ None → ScannedAnswer limits.frames w (Ok o) → ¬ IsHeader (named_size w) w
  scanned_none is answer = subst (λ (x : Option Scan). ScannedAnswer limits.frames w (Ok x)) is answer

module _ (limits : Bounds) (db wal journal : List ℕ) (cold : ¬ IsHot journal) where
  cold_one : ¬ AreTwoLogs wal journal
  cold_one two = cold two.0

  pub scan_refused : (e : ViewError) → ScannedAnswer limits.frames wal (Err e) → ViewRefusedWithin limits db wal journal e
  scan_refused TooLarge long = (cold_one, inl (inr (cold, long)))
  scan_refused NoMemory long = tt
  scan_refused _ long = absurd long

  pub alone_bare : (IsHeader (named_size wal) wal → ⊥) → (¬ IsTooLongWithin limits wal journal) × IsAlone wal journal
  alone_bare bad = (
    λ long. ⊎_elim (λ x. cold x.0) (λ x. bad (x.1.each 1 (omega arith) x.1.first).header) long,
    record { cold = cold; none = record { is = inl refl; greatest = λ i v k. absurd (bad (v.each 1 (omega arith) v.first).header) } },
  )

  module _ (few : IsValidFrame (named_size wal) wal (suc limits.frames) → ⊥) where
    not_so_long : ¬ IsTooLongWithin limits wal journal
    not_so_long long = ⊎_elim (λ x. cold x.0) (λ x. few x.1) long

    pub alone_zero : (f : Front) → IsCommittedWithin limits.frames wal f → f.frames ≡ 0 → (¬ IsTooLongWithin limits wal journal) × IsAlone wal journal
    alone_zero f is zero = (not_so_long, record { cold = cold; none = subst (λ (n : ℕ). IsFront (named_size wal) wal n) zero is.front })

    module _ (size : ℕ) (named : named_size wal ≡ size) (f : Front) (is : IsCommittedWithin limits.frames wal f) (some : f.frames ≢ 0) where
      here : IsLogged wal journal f.frames
      here = record { cold = cold; some = omega arith; is = is.front }

      count_is : f.size ≡ size_of size wal f.frames
      count_is = is.some (omega arith) ∙ ap (λ n. size_of n wal f.frames) named

      pub logged_limited : (e : ViewError) → LimitAnswer limits.bytes size f.size (Err e) → ViewRefusedWithin limits db wal journal e
      logged_limited TooLarge more = (cold_one, inr (not_so_long, (size, f.size, inr (inl (f.frames, here, sym named, count_is)), more)))
      logged_limited _ more = absurd more

      logged_within : f.size * size ≤ limits.bytes → ¬ IsAboveWithin limits db wal journal
      logged_within le above = ⊎_elim (λ x. cold x.0) (⊎_elim
          (λ x. let same : x.0 ≡ f.frames = front_unique (named_size wal) wal x.0 f.frames x.1.is is.front in
          let e : above.0 ≡ size = x.2 ∙ named in
          let g : above.1 ≡ f.size = x.3 ∙ ap (λ n. size_of n wal x.0) e ∙ ap (λ n. size_of size wal n) same ∙ sym count_is in
          let more : limits.bytes < f.size * size = subst (λ (n : ℕ). limits.bytes < n * size) g (subst (λ (n : ℕ). limits.bytes < above.1 * n) e above.3) in omega arith)
          (λ x. let zero : f.frames ≡ 0 = front_unique (named_size wal) wal f.frames 0 is.front x.0.none in some zero))
          above.2

      pub logged_shown : {F : Type 0} (bytes : F → List ℕ) (v : View F) → LimitAnswer limits.bytes size f.size (Ok v.count) → v.page_size ≡ size → v.front ≡ f.frames → IsView size db wal f.frames (pages_of bytes v)
          → AreFramePlaces size wal f.frames v.count v.places.items → v.places.kept ≤ most_kept size (bytes v.log) → IsShownWithin limits bytes db wal journal v
      logged_shown bytes v le e stands view are few = record {
        shows = inr (inl (f.frames, here, e ∙ sym named, subst (λ (n : ℕ). IsView n db wal f.frames (pages_of bytes v)) (sym e) view));
        one = cold_one;
        short = not_so_long;
        within = logged_within le.1;
        headed = λ alone. absurd (some (front_unique (named_size wal) wal f.frames 0 is.front alone.none));
        stands = inl (subst (λ (n : ℕ). IsLogged wal journal n) (sym stands) here);
        unplaced = λ alone. absurd (some (front_unique (named_size wal) wal f.frames 0 is.front alone.none));
        placed = λ _. are.long;
        framed = λ _. subst (λ (n : ℕ). AreFramePlaces n wal v.front v.count v.places.items) (sym e) (subst (λ (m : ℕ). AreFramePlaces size wal m v.count v.places.items) (sym stands) are);
        recorded = λ hot. absurd (cold hot);
        few = subst (λ (n : ℕ). v.places.kept ≤ most_kept n (bytes v.log)) (sym e) few;
      }

      pub placed_logged : {F : Type 0} (bytes : F → List ℕ) (q : Result (View F) ViewError) → PlacedAnswer limits.bytes bytes size f.frames f.size db wal q → ViewAnswerWithin limits bytes db wal journal q
      placed_logged bytes (Ok v) placed = logged_shown bytes v placed.2 placed.0 placed.1 placed.3 placed.4 placed.5
      placed_logged bytes (Err NoMemory) placed = tt
      placed_logged bytes (Err e) placed = logged_limited e placed
