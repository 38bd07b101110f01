-- The front of a view that is asked for, and of a log.
use Rattle.std.proofs.Common.{◌≡◌, ◌≤◌, ◌⊎◌, ⊎_elim, ℕ, List, [], length, sym, ◌∙◌, ap, subst, arith}
use Rattle.std.specs.Prelude.{Option, None, Some, Err}
use Rattle.sqval.specs.Limits.{Bounds}
use Rattle.sqwal.specs.Frames.{IsFront, IsCommit}
use Rattle.sqwal.specs.Header.{named_size, IsHeader, HeaderRefused}
use Rattle.sqwal.specs.declared.error.WalFormatError.{WalFormatError}
use Rattle.sqwal.specs.declared.error.WalFormatError.TheVariants.{NotAWal, PageSize, HeaderSum, UnknownVersion, TooLong}
use Rattle.sqwal.specs.declared.error.WalFormatError.TheVariants as formats
use Rattle.sqjournal.specs.Journal.{IsHot}
use Rattle.sqjournal.specs.declared.replay.Replay.{Replay}
use Rattle.sqwal.proofs.log.CommitsAmongFrames.{valid_to}
use Rattle.sqview.specs.At.{IsCommitAt}
use Rattle.sqview.specs.LogView.{IsLogged, pages_of}
use Rattle.sqpast.specs.Past.{ShowsAt, IsSource}
use Rattle.sqpast.specs.Used.{AreCounts}
use Rattle.sqpast.specs.declared.used.Counts.{Counts}
use Rattle.sqpast.specs.declared.past_error.PastError.TheVariants.{Refused as Why}
use Rattle.sqview.specs.declared.view.View.{View}
use Rattle.cli_facts.specs.Fronts.{IsFrontOf, IsLogFront}
use Rattle.cli_facts.specs.declared.fronts.Front.{Front as LogFront}
use Rattle.cli_words.specs.declared.requests.Commit.{Commit}
use Rattle.cli_words.specs.declared.requests.Commit.TheVariants.{Last, Front, At}
use Rattle.cli_show.specs.Fronts.{IsShownFront, IsAskedFront, IsFrontAt}
use Rattle.cli_show.specs.internal.LogsShown.{IsShownLog}
use Rattle.sqview.specs.Logs.{IsRead}
use Rattle.sqview.specs.declared.view_error.ViewError.{ViewError}
use Rattle.sqview.specs.declared.view_error.ViewError.TheVariants.{Unread, NoMemory}
use Rattle.cli_show.specs.Views.{AreAskedCounts, AskedRefused, AskedShows, IsAskedView, IsWholeView, ReadsLog, WholeShows}
use Rattle.cli_show.specs.declared.logs.Shown.{Shown}
use Rattle.cli_show.specs.declared.logs.Shown.TheVariants.{Neither, Refused, Journal}

-- no frame counts beside a front of 0
unlogged : (wal journal : List ℕ) → IsFront (named_size wal) wal 0 → (m : ℕ) → ¬ IsLogged wal journal m
unlogged wal journal none m logged = ⊎_elim
    (λ zero. omega (arith, logged.some, zero))
    (λ front. omega (arith, logged.some, none.greatest m front.0 front.1)) logged.is.is

-- the front of a log that counts
pub log_shown : (wal journal : List ℕ) (o : Option LogFront) → (¬ IsHot journal) → IsLogFront wal o → IsShownFront wal journal o
log_shown wal journal None cold none = (unlogged wal journal none, λ two. cold two.0)
log_shown wal journal (Some front) cold found = (record { cold = cold; some = omega (arith, found.0); is = found.1 }, found.2)

-- beside a hot journal
pub hot_shown : (wal journal : List ℕ) → IsHot journal → wal ≡ [] → IsShownFront wal journal None
hot_shown wal journal hot bare = (λ m logged. logged.cold hot, λ two. two.1 bare)

-- a log with a front has a header
logged_header : (wal journal : List ℕ) (m : ℕ) → IsLogged wal journal m → IsHeader (named_size wal) wal
logged_header wal journal m logged = ⊎_elim
    (λ zero. absurd (omega (arith, logged.some, zero)))
    (λ front. (front.0.each m front.0.first (omega arith)).header) logged.is.is

-- where there is none
pub headless_shown : (wal journal : List ℕ) → (¬ IsHot journal) → (¬ IsHeader (named_size wal) wal) → IsShownFront wal journal None
headless_shown wal journal cold none = (λ m logged. none (logged_header wal journal m logged), λ two. cold two.0)

pub empty_headless : (wal : List ℕ) → wal ≡ [] → ¬ IsHeader (named_size wal) wal
empty_headless wal empty header = omega (arith, header.whole, ap length empty)

pub refused_headless : (wal : List ℕ) (error : WalFormatError) → HeaderRefused wal error → ¬ IsHeader (named_size wal) wal
refused_headless wal NotAWal refused header = refused header.magic
refused_headless wal PageSize refused header = refused.1 header.is_size
refused_headless wal HeaderSum refused header = refused.2 header.sums
refused_headless wal UnknownVersion refused header = refused.3 header.version
refused_headless wal TooLong refused header = refused
refused_headless wal formats.NoMemory refused header = refused

-- where no scan was shown
pub none_shown : (limits : Bounds) (wal journal : List ℕ) (shown : Shown) → (shown ≡ Neither) ⊎ ((shown ≡ Refused) ⊎ ((replay : Replay) × (shown ≡ Journal replay))) → IsShownLog limits wal journal shown → IsShownFront wal journal None
none_shown limits wal journal shown which is = ⊎_elim
    (λ neither. let s = subst (λ (x : Shown). IsShownLog limits wal journal x) neither is in headless_shown wal journal s.0 (empty_headless wal s.1))
    (λ rest. ⊎_elim
    (λ refused. let s = subst (λ (x : Shown). IsShownLog limits wal journal x) refused is in headless_shown wal journal s.0 (refused_headless wal s.1.0 s.1.1.1))
    (λ hot. let s = subst (λ (x : Shown). IsShownLog limits wal journal x) hot.1 is in hot_shown wal journal s.0 s.2) rest) which

-- files that are given are read
pub asked_read : (limits : Bounds) (at : Commit) (db wal journal : List ℕ) → AskedRefused limits at db wal journal (Why Unread) → ⊥
asked_read limits Last db wal journal unread = unread
asked_read limits (Front m) db wal journal unread = unread
asked_read limits (At m) db wal journal unread = unread

-- a commit of a log up to its front
commit_at : (wal journal : List ℕ) (front m : ℕ) → IsLogged wal journal front → 1 ≤ m → m ≤ front → (m ≡ 0) ⊎ IsCommit (named_size wal) wal m → IsCommitAt wal journal m
commit_at wal journal front m logged some low point = record {
  cold = logged.cold;
  valid = valid_to (named_size wal) wal front m logged.is some low;
  commit = ⊎_elim (λ zero. absurd (omega (arith, some, zero))) (λ commit. commit) point;
}

module _ {F : Type 0} (limits : Bounds) (bytes : F → List ℕ) (db wal journal : List ℕ) (v : View F) where
  shown_front : (o : Option LogFront) → IsWholeView limits bytes Last db wal journal v → IsFrontOf v.front v.page_size o → IsShownFront wal journal o
  shown_front None answer zero = (
    λ m logged. ⊎_elim
        (λ (here : IsLogged wal journal v.front). omega (arith, here.some, zero))
        (λ none. none.1 m logged) answer.stands,
    answer.one,
  )
  shown_front (Some front) answer at = ⊎_elim
      (λ (here : IsLogged wal journal v.front). (
        subst (λ (n : ℕ). IsLogged wal journal n) (sym at.1) here,
        at.2 ∙ ⊎_elim
            (λ hot. absurd (here.cold hot.0))
            (λ rest. ⊎_elim
            (λ logged. logged.2)
            (λ alone. absurd (omega (arith, here.some, unlogged wal journal alone.0.none v.front here))) rest) answer.shows,
      ))
      (λ none. absurd (at.0 none.0)) answer.stands

  front_at : (m : ℕ) (o : Option LogFront) → IsWholeView limits bytes (Front m) db wal journal v → IsFrontOf v.front v.page_size o → IsFrontAt m wal journal o
  front_at m None answer zero = sym answer.stands ∙ zero
  front_at m (Some front) answer at = ⊎_elim
      (λ own. absurd (at.0 (answer.stands ∙ own.0)))
      (λ commit. (at.1 ∙ answer.stands, commit.0, at.2 ∙ commit.1)) answer.shows

  past_low : (front m : ℕ) → ShowsAt front m v.page_size db wal (pages_of bytes v) → m ≤ front
  past_low front m shows = ⊎_elim (λ is. omega (arith, is.0)) (λ is. omega (arith, is.0)) shows

  past_front : (m : ℕ) (o : Option LogFront) → IsWholeView limits bytes (At m) db wal journal v → IsFrontOf v.front v.page_size o → IsFrontAt m wal journal o
  past_front m None answer zero = sym answer.stands ∙ zero
  past_front m (Some front) answer at = ⊎_elim
      (λ own. absurd (at.0 (answer.stands ∙ own.0)))
      (λ past. (
        at.1 ∙ answer.stands,
        commit_at wal journal past.0 m past.1 (omega (arith, answer.stands, at.0)) (past_low past.0 m past.4)
            (subst (λ (n : ℕ). (m ≡ 0) ⊎ IsCommit n wal m) past.3 past.2),
        at.2 ∙ past.3,
      )) answer.shows

  pub front_whole : (at : Commit) (o : Option LogFront) → IsWholeView limits bytes at db wal journal v → IsFrontOf v.front v.page_size o → IsAskedFront at wal journal o
  front_whole Last o answer is = shown_front o answer is
  front_whole (Front m) o answer is = front_at m o answer is
  front_whole (At m) o answer is = past_front m o answer is

  -- its pages are those of the database that is asked for
  pub shows_whole : (at : Commit) → IsWholeView limits bytes at db wal journal v → WholeShows at v.page_size db wal journal (pages_of bytes v)
  shows_whole Last answer = answer.shows
  shows_whole (Front m) answer = answer.shows
  shows_whole (At m) answer = answer.shows

module _ {F : Type 0} (limits : Bounds) (bytes : F → List ℕ) (db wal journal : List ℕ) where
  -- the same of the pages that SQLite would use
  module _ (v : View F) (at : Commit) where
    pub front_asked : (o : Option LogFront) → IsAskedView limits bytes at db wal journal v → IsFrontOf v.front v.page_size o → IsAskedFront at wal journal o
    front_asked o asked is = front_whole limits bytes db wal journal asked.0 at o asked.1
        (subst (λ (n : ℕ). IsFrontOf n asked.0.page_size o) asked.2.sizes.1 (subst (λ (n : ℕ). IsFrontOf v.front n o) asked.2.sizes.0 is))

    pub shows_asked : IsAskedView limits bytes at db wal journal v → AskedShows at v.page_size db wal journal (pages_of bytes v)
    shows_asked asked = (
      pages_of bytes asked.0,
      subst (λ (n : ℕ). WholeShows at n db wal journal (pages_of bytes asked.0)) (sym asked.2.sizes.0) (shows_whole limits bytes db wal journal asked.0 at asked.1),
      asked.2.pages,
    )

  pub counts_asked : (whole : View F) (at : Commit) (counts : Counts) → IsWholeView limits bytes at db wal journal whole → AreCounts (pages_of bytes whole) counts → AreAskedCounts at db wal journal counts
  counts_asked whole at counts shown are = (whole.page_size, pages_of bytes whole, shows_whole limits bytes db wal journal whole at shown, are)

-- memory may run out
pub memory_refused : (limits : Bounds) (at : Commit) (db wal journal : List ℕ) → AskedRefused limits at db wal journal (Why NoMemory)
memory_refused limits Last db wal journal = tt
memory_refused limits (Front m) db wal journal = tt
memory_refused limits (At m) db wal journal = tt

-- the log that a view reads
pub reads_same : (at : Commit) (wal journal log same : List ℕ) → same ≡ log → ReadsLog at wal journal log → ReadsLog at wal journal same
reads_same at wal journal log same is reads = subst (λ (l : List ℕ). ReadsLog at wal journal l) (sym is) reads

-- files that are given are read: only memory may run out
pub only_memory : (A : Type 0) (error : ViewError) → IsSource error → IsRead {A = A} (Err error) → error ≡ NoMemory
only_memory A error source read = ⊎_elim (λ unread. absurd (subst (λ (e : ViewError). IsRead {A = A} (Err e)) unread read)) (λ memory. memory) source
