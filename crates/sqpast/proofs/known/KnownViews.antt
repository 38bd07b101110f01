-- Views of the pages that are known.
use Rattle.std.proofs.Common.{◌≡◌, ◌≢◌, inl, inr, ⊎_elim, ℕ, ◌-◌, ◌<◌, ◌≤◌, cond, min, true, false, List, length, get_or, take, refl, sym, ◌∙◌, ap, subst, arith, eq-eqb, ne_eqb}
use Rattle.std.specs.Prelude.{◌==◌, Ok, Err, Option, Some, None, is_some, MatchOption}
use Rattle.std.specs.Int.{div_ceil}
use Rattle.std.proofs.lemmas.Bool.{cases_eq}
use Rattle.std.proofs.lemmas.List.{get_or-take, length-take-le}
use Rattle.sqval.specs.Bytes.{word}
use Rattle.sqval.specs.Database.{Database, page, file_page, file_pages}
use Rattle.sqval.specs.Limits.{Bounds}
use Rattle.sqval.specs.PageSize.{IsPageSize}
use Rattle.sqval.proofs.page.FilePages.{size_some}
use Rattle.sqwal.specs.Header.{named_size}
use Rattle.sqwal.specs.Frames.{size_of, IsCommit, IsValidFrame, IsFront}
use Rattle.sqwal.specs.View.{IsView}
use Rattle.sqjournal.specs.Journal.{IsHot}
use Rattle.history.specs.Past.{valid_count, used, IsOverFile, IsPast, IsUnknown}
use Rattle.history.specs.Known.{IsGone, IsPoint}
use Rattle.history.specs.Table.{AreThere, IsFirstGone}
use Rattle.history.specs.declared.table.Table.{Table}
use Rattle.history.proofs.PagesKept.{known_at}
use Rattle.history.proofs.PagesLost.{lost_unknown}
use Rattle.sqview.specs.Laid.{laid_page, laid, part_or_zeros}
use Rattle.sqview.proofs.file.FileHeads.{rounded_up}
use Rattle.sqview.proofs.openings.PagesOfView.{length_laid, page_laid}
use Rattle.sqview.specs.At.{IsCommitAt, IsShownAtWithin}
use Rattle.sqview.specs.LogView.{IsLogged, pages_of}
use Rattle.sqview.specs.Origins.{IsFramePlace, AreFramePlaces}
use Rattle.sqview.specs.Shapes.{Shape, shape_of}
use Rattle.sqview.specs.declared.view.View.{View}
use Rattle.sqpast.specs.Past.{IsTable}
use Rattle.sqpast.specs.Files.{IsLogTooLongWithin, PastAnswerWithin}
use Rattle.sqpast.specs.declared.past_error.PastError.TheVariants.{CommitOverwritten}

pub used_low : (most : ℕ) (first : List ℕ) → 1 ≤ most → 1 ≤ used most first
used_low most first some = ⊎_elim
    (λ none. let t : (valid_count first == 0) ≡ true = eq-eqb (valid_count first) 0 none in rw t some)
    (λ counted. let t : (valid_count first == 0) ≡ false = ne_eqb (valid_count first) 0 counted in rw t (omega arith))
    (cases_eq (valid_count first) 0)

-- ---- the header's count

pub count_invalid : (first : List ℕ) → word first 24 ≢ word first 92 → valid_count first ≡ 0
unfolding valid_count
count_invalid first ne = let t : (word first 24 == word first 92) ≡ false = ne_eqb (word first 24) (word first 92) ne in rw t refl

pub count_valid : (first : List ℕ) → word first 24 ≡ word first 92 → valid_count first ≡ word first 28
unfolding valid_count
count_valid first e = let t : (word first 24 == word first 92) ≡ true = eq-eqb (word first 24) (word first 92) e in rw t refl

pub used_all : (most : ℕ) (first : List ℕ) → valid_count first ≡ 0 → used most first ≡ most
used_all most first none = let t : (valid_count first == 0) ≡ true = eq-eqb (valid_count first) 0 none in rw t refl

pub used_counted : (most : ℕ) (first : List ℕ) → valid_count first ≢ 0 → used most first ≡ min (valid_count first) most
used_counted most first some = let t : (valid_count first == 0) ≡ false = ne_eqb (valid_count first) 0 some in rw t refl

pub used_high : (most : ℕ) (first : List ℕ) → used most first ≤ most
used_high most first = ⊎_elim (λ none. omega (arith, used_all most first none)) (λ some. omega (arith, used_counted most first some)) (cases_eq (valid_count first) 0)

-- ---- how many pages a file has

pub file_count : (size long n : ℕ) (file : List ℕ) → 0 < size → n ≡ length file → long ≡ div_ceil n size → long ≡ file_pages size file
unfolding file_pages
file_count size long n file some same is = is ∙ ap (λ k. div_ceil k size) same ∙ rounded_up (length file) size some

-- ---- the view

module _ (size : ℕ) (file w : List ℕ) (count most : ℕ) (places : List ℕ) (le : count ≤ most) where
  abbrev whole : Database
  whole = laid size most file w places

  abbrev short : Database
  short = laid size count file w (take count places)

  same_place : (p : ℕ) → 1 ≤ p → p ≤ count → laid_page size file w (take count places) p ≡ laid_page size file w places p
  unfolding laid_page
  same_place p one within = ap (λ n. cond (n == 0) (file_page size file p) (part_or_zeros size n w)) (get_or-take count places (p - 1) 0 (omega arith))

  pub short_page : (p : ℕ) → 1 ≤ p → p ≤ count → page short p ≡ page whole p
  short_page p one within = page_laid size count file w (take count places) p one within ∙ same_place p one within ∙ sym (page_laid size most file w places p one (omega arith))

  module _ (m : ℕ) (one : 1 ≤ m) (commit : IsCommit size w m) (view : IsView size file w m whole) (count_is : count ≡ used most (page whole 1)) where
    most_is : most ≡ size_of size w m
    most_is = sym (length_laid size most file w places) ∙ view.some one

    some : 1 ≤ count
    some = let pos : 1 ≤ most = let nz : most ≢ 0 = λ z. commit (sym most_is ∙ z) in omega arith in let u = used_low most (page whole 1) pos in omega arith

    over_file : IsOverFile size w m file short
    over_file = record {
      start = λ zero. absurd (omega arith);
      some = λ _. length_laid size count file w (take count places) ∙ count_is ∙ ap (λ n. used n (page whole 1)) most_is ∙ ap (used (size_of size w m)) (sym (short_page 1 (omega arith) some));
      over = record {
        logged = λ p i from to last. let within : p ≤ count = omega (arith, length_laid size count file w (take count places)) in
            short_page p from within ∙ view.over.logged p i from (omega (arith, length_laid size most file w places)) last;
        other = λ p from to free. let within : p ≤ count = omega (arith, length_laid size count file w (take count places)) in
            short_page p from within ∙ view.over.other p from (omega (arith, length_laid size most file w places)) free;
      };
    }

    module _ (front : ℕ) (before : m < front) (is_size : IsPageSize size) (t : Table) (pages : ℕ) (is : IsTable size w front file pages t) (fits : count ≤ length t.greatest.items) where
      judged : (p : ℕ) → 1 ≤ p → p ≤ count → IsGone size w front file m p → m < get_or is.until (p - 1) 0
      judged p from to = (is.are.each m p before from (omega (arith, is.greatest.long))).0

      pub known_view : AreThere is.until m count → IsPast size w front file m short
      known_view all files was = known_at size w front file (let s = size_some size is_size in omega arith) files was m short over_file (record {
        pages = λ p from to gone. let within : p ≤ count = omega (arith, length_laid size count file w (take count places)) in
            omega (arith, judged p from within gone, all p from within);
        length_kept = λ short_file. absurd (omega (arith, short_file.0));
      })

      pub lost_view : (p : ℕ) → IsFirstGone is.until m count p → IsUnknown size w front file m
      lost_view p gone = lost_unknown size w front file m short is_size is.bytes (inr commit) over_file
          (inl (
            p,
            gone.first,
            omega (arith, gone.within, length_laid size count file w (take count places)),
            (is.are.each m p before gone.first (omega (arith, gone.within, is.greatest.long))).1 gone.gone,
          ))

-- ---- the front

pub front_is : (size : ℕ) (w : List ℕ) (front : ℕ) → 1 ≤ front → IsFront size w front → IsValidFrame size w front × IsCommit size w front
front_is size w front one is = ⊎_elim (λ none. absurd (omega arith)) (λ some. some) is.is

-- ---- what a view answers

-- of fewer pages the places are the same
short_places : (size : ℕ) (w : List ℕ) (m most count : ℕ) (places : List ℕ) → count ≤ most → AreFramePlaces size w m most places → AreFramePlaces size w m count (take count places)
short_places size w m most count places le are = record {
  long = length-take-le count places (omega (arith, are.long));
  each = λ p one within. subst (λ (at : ℕ). IsFramePlace size w m p at) (sym (get_or-take count places (p - 1) 0 (omega arith))) (are.each p one (omega arith));
}

module _ {F : Type 0} (limits : Bounds) (bytes : F → List ℕ) (front m : ℕ) (db w journal : List ℕ) (cold : ¬ IsHot journal) (one : 1 ≤ m) (is_front : IsFront (named_size w) w front)
    (v : View F) (shown : IsShownAtWithin limits bytes m db w journal v) where
  at_commit : IsCommitAt w journal m × (v.page_size ≡ named_size w) × IsView v.page_size db w m (pages_of bytes v)
  at_commit = ⊎_elim (λ own. absurd (omega (arith, own.0))) (λ at. at) shown.shows

  logged : 1 ≤ front → IsLogged w journal front
  logged some = record { cold = cold; some = some; is = is_front }

  point_at : (size : ℕ) → size ≡ named_size w → IsPoint size w m
  point_at size same = inr (subst (λ (n : ℕ). IsCommit n w m) (sym same) at_commit.0.commit)

  short_log : ¬ IsLogTooLongWithin limits w journal
  short_log long = shown.short (one, long.0, long.1)

  -- at the front, or after it, where no commit is
  pub shown_at_front : front ≤ m → PastAnswerWithin limits bytes m db w journal (Ok v)
  shown_at_front above =
      let at = at_commit in
      let last : m ≤ front = is_front.greatest m at.0.valid at.0.commit in
      record {
        shows = inr (front, logged (omega arith), point_at v.page_size at.1, at.1, inl (omega arith, at.2));
        stands = shown.stands;
        one = shown.one;
        short = short_log;
        within = shown.within;
        headed = shown.headed;
        unplaced = shown.unplaced;
        placed = shown.placed;
        framed = shown.framed;
      }

  module _ (count : ℕ) (le : count ≤ v.count) (reads : (bytes v.db ≡ db) × (bytes v.log ≡ w)) (count_is : 1 ≤ v.count → count ≡ used v.count (page (pages_of bytes v) 1)) where
    abbrev places : List ℕ
    places = v.places.items

    whole_is : pages_of bytes v ≡ laid (named_size w) v.count db w places
    whole_is = ap (λ n. laid n v.count (bytes v.db) (bytes v.log) places) at_commit.1 ∙ ap (λ f. laid (named_size w) v.count f (bytes v.log) places) reads.0 ∙ ap (λ l. laid (named_size w) v.count db l places) reads.1

    view_is : IsView (named_size w) db w m (laid (named_size w) v.count db w places)
    view_is = subst (λ (d : Database). IsView (named_size w) db w m d) whole_is (subst (λ (n : ℕ). IsView n db w m (pages_of bytes v)) at_commit.1 at_commit.2)

    most_some : 1 ≤ v.count
    most_some =
        let e : v.count ≡ size_of (named_size w) w m = sym (length_laid (named_size w) v.count db w places) ∙ view_is.some one in
        let nz : v.count ≢ 0 = λ z. at_commit.0.commit (sym e ∙ z) in
        omega arith

    used_is : count ≡ used v.count (page (laid (named_size w) v.count db w places) 1)
    used_is = count_is most_some ∙ ap (λ (d : Database). used v.count (page d 1)) whole_is

    page_sized : IsPageSize (named_size w)
    page_sized = (at_commit.0.valid.each m one (omega arith)).header.is_size

    module _ (before : m < front) (t : Table) (pages : ℕ) (is : IsTable (named_size w) w front db pages t) (fits : count ≤ length t.greatest.items) where
      pub lost_answer : (p : ℕ) → IsFirstGone is.until m count p → PastAnswerWithin {F = F} limits bytes m db w journal (Err CommitOverwritten)
      lost_answer p gone = (
        front,
        logged (omega arith),
        point_at (named_size w) refl,
        before,
        lost_view (named_size w) db w count v.count places le m one at_commit.0.commit view_is used_is front before page_sized t pages is fits p gone,
      )

      module _ (v1 s : View F) (same : shape_of bytes v1 ≡ shape_of bytes v) (counts : s.count ≡ count) (sizes : (s.page_size ≡ v1.page_size) × (s.front ≡ v1.front))
          (placed : s.places.items ≡ take count v1.places.items) (files : (s.db ≡ v1.db) × (s.log ≡ v1.log)) where
        size_same : s.page_size ≡ named_size w
        size_same = sizes.0 ∙ ap (λ (x : Shape). x.page_size) same ∙ at_commit.1

        front_same : s.front ≡ m
        front_same = sizes.1 ∙ ap (λ (x : Shape). x.front) same ∙ shown.stands

        places_same : s.places.items ≡ take count places
        places_same = placed ∙ ap (λ (x : Shape). take count x.places) same

        db_same : bytes s.db ≡ db
        db_same = ap bytes files.0 ∙ ap (λ (x : Shape). x.db) same ∙ reads.0

        log_same : bytes s.log ≡ w
        log_same = ap bytes files.1 ∙ ap (λ (x : Shape). x.log) same ∙ reads.1

        short_is : laid (named_size w) count db w (take count places) ≡ pages_of bytes s
        short_is = sym (
            ap (λ n. laid n s.count (bytes s.db) (bytes s.log) s.places.items) size_same ∙ ap (λ n. laid (named_size w) n (bytes s.db) (bytes s.log) s.places.items) counts
            ∙ ap (λ f. laid (named_size w) count f (bytes s.log) s.places.items) db_same ∙ ap (λ l. laid (named_size w) count db l s.places.items) log_same ∙ ap (laid (named_size w) count db w) places_same)

        past_is : AreThere is.until m count → IsPast s.page_size w front db m (pages_of bytes s)
        past_is all = subst (λ (n : ℕ). IsPast n w front db m (pages_of bytes s)) (sym size_same)
            (subst (λ (d : Database). IsPast (named_size w) w front db m d) short_is
            (known_view (named_size w) db w count v.count places le m one at_commit.0.commit view_is used_is front before page_sized t pages is fits all))

        framed_short : AreFramePlaces s.page_size w m s.count s.places.items
        framed_short =
            let kept = short_places v.page_size w m v.count count places le (shown.framed one) in
            subst (λ (l : List ℕ). AreFramePlaces s.page_size w m s.count l) (sym places_same)
            (subst (λ (n : ℕ). AreFramePlaces s.page_size w m n (take count places)) (sym counts)
            (subst (λ (n : ℕ). AreFramePlaces n w m count (take count places)) (at_commit.1 ∙ sym size_same) kept))

        pub known_answer : AreThere is.until m count → PastAnswerWithin limits bytes m db w journal (Ok s)
        known_answer all = record {
          shows = inr (front, logged (omega arith), point_at s.page_size size_same, size_same, inr (before, past_is all));
          stands = front_same;
          one = shown.one;
          short = short_log;
          within = shown.within;
          headed = λ zero. absurd (omega arith);
          unplaced = λ zero. absurd (omega arith);
          placed = λ _. framed_short.long;
          framed = λ _. framed_short;
        }

    pub count_fits : (top pages : ℕ) (t : Table) → IsTable (named_size w) w top db pages t → size_of (named_size w) w m ≤ pages → count ≤ length t.greatest.items
    count_fits top pages t is enough = let e : v.count ≡ size_of (named_size w) w m = sym (length_laid (named_size w) v.count db w places) ∙ view_is.some one in omega (arith, is.long)

pub gone_none : (o : Option ℕ) (P : Type 0) (Q : ℕ → Type 0) → is_some o ≡ false → MatchOption o P Q → P
gone_none None P Q none found = found
gone_none (Some p) P Q none found = let bad : true ≡ false = none in cc

pub gone_some : (o : Option ℕ) (P : Type 0) (Q : ℕ → Type 0) → is_some o ≡ true → MatchOption o P Q → (p : ℕ) × Q p
gone_some None P Q some found = let bad : false ≡ true = some in cc
gone_some (Some p) P Q some found = (p, found)
