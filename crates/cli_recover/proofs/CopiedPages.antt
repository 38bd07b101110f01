-- The pages that a copy of recovered files has.
use Rattle.std.proofs.Common.{◌≡◌, ◌≢◌, inl, inr, ⊎_elim, ℕ, ◌≤◌, List, ◌++◌, length, Option, None, Some, IsSome, IfSome, refl, sym, ◌∙◌, ap, subst, append-nil, arith}
use Rattle.std.specs.Prelude.{Result, Ok, Err, MatchResult, unwrap_or}
use Rattle.std.specs.List.{concat}
use Rattle.sqval.specs.Bytes.{word}
use Rattle.sqval.specs.Limits.{Bounds}
use Rattle.sqwal.specs.Answers.{IsCommittedWithin}
use Rattle.sqwal.specs.Frames.{IsFront}
use Rattle.sqwal.specs.Header.{IsHeader, named_size}
use Rattle.sqwal.specs.declared.scan.Front.{Front}
use Rattle.sqwal.specs.declared.scan.Scan.{Scan}
use Rattle.sqjournal.specs.Journal.{IsHot, entries, sizes_of}
use Rattle.sqjournal.specs.Took.{HasCount, IsSettled, Took}
use Rattle.sqjournal.specs.declared.replay.Replay.{Replay}
use Rattle.sqview.specs.At.{AtRefusedWithin, ViewsAt, IsShownAtWithin}
use Rattle.sqview.specs.Logs.{HasRead}
use Rattle.sqview.specs.LogView.{IsLogged, IsShownWithin, ViewRefusedWithin, Views, pages_of}
use Rattle.sqview.specs.declared.view.View.{View}
use Rattle.sqview.specs.declared.view_error.ViewError.{ViewError}
use Rattle.sqview.proofs.openings.ViewAtCommit.{front_to}
use Rattle.sqpast.specs.Files.{IsPastShownWithin, PastRefusedWithin}
use Rattle.sqpast.specs.declared.past_error.PastError.{PastError}
use Rattle.sqpast.specs.declared.past_error.PastError.TheVariants.{Refused, CommitOverwritten}
use Rattle.sqview.specs.Ahead.{IsUnread}
use Rattle.sqview.specs.internal.Laid.{HoldsPart}
use Rattle.sqview.specs.declared.read_ahead.ReadAhead.{ReadAhead}
use Rattle.sqview.proofs.file.HeldPartOfFile.{holds_nothing}
use Rattle.cli_words.specs.declared.requests.Commit.TheVariants.{Last}
use Rattle.cli_words.specs.declared.requests.Options.{Options}
use Rattle.cli_facts.specs.Refusals.{refusal_of, refusal_of_past}
use Rattle.cli_facts.specs.declared.outcome.Outcome.{Outcome}
use Rattle.cli_facts.specs.declared.outcome.Outcome.TheVariants as outcomes
use Rattle.cli_facts.specs.declared.outcome.Refusal.{Refusal}
use Rattle.cli_show.specs.Limits.{limits_named}
use Rattle.cli_show.specs.Views.{AskedRefused}
use Rattle.cli_job.specs.declared.metered.Metered.{Metered}
use Rattle.cli_recover.specs.Copies.{HasCopy, HasFold, HasPast, HasReplay, IsCopyAt, IsCopyOf, IsFoldedTo, IsPlannedCopy, IsUncopied, IsUncopiedAt, IsUnpast, IsUnplannedCopy}
use Rattle.cli_recover.specs.Engines.{folded_as}
use Rattle.cli_recover.specs.Plans.{CountsWal, IsCommitOf, IsPlanOf}
use Rattle.cli_recover.specs.declared.plans.Recovery.{Recovery}
use Rattle.cli_recover.specs.declared.plans.Recovery.TheVariants.{Fold, RollBack}
use Rattle.cli_recover.specs.internal.Contents.{FoldsAt, IsUnfolded, IsUnfoldedAt, IsUnreplayed}
use Rattle.cli_recover.proofs.FoldedLogs.{front_none, unscanned}

-- ---- a log that is folded

-- the pages of the view of files at a commit frame
pub fold_viewed : {F : Type 0} (limits : Bounds) (bytes : F → List ℕ) (frame : ℕ) (db wal journal : List ℕ) (v : View F) → 1 ≤ frame
    → IsShownAtWithin limits bytes frame db wal journal v
    → HasFold (Some frame) (named_size wal) db wal journal (outcomes.Folded v.front (length (pages_of bytes v))) (concat (pages_of bytes v))
fold_viewed limits bytes frame db wal journal v some is = (is.stands, pages_of bytes v, shown, (refl, refl))
  where
    shown : ViewsAt frame (named_size wal) db wal journal (pages_of bytes v)
    shown = ⊎_elim
        (λ own. absurd (omega (arith, own.0, some)))
        (λ at. subst (λ (n : ℕ). ViewsAt frame n db wal journal (pages_of bytes v)) at.1 is.shows)
        is.shows

-- the same of files that have these bytes
pub fold_copied : {F : Type 0} (limits : Bounds) (bytes : F → List ℕ) (frame : ℕ) (db wal own log journal : List ℕ) (v : View F) (frames pages : ℕ) → own ≡ db → log ≡ wal
    → frames ≡ v.front → pages ≡ length (pages_of bytes v) → 1 ≤ frame → IsShownAtWithin limits bytes frame own log journal v
    → HasFold (Some frame) (named_size wal) db wal journal (outcomes.Folded frames pages) (concat (pages_of bytes v))
fold_copied limits bytes frame db wal own log journal v frames pages same_db same_wal by_frames by_pages some is =
    let of_db = subst (λ (l : List ℕ). IsShownAtWithin limits bytes frame l log journal v) same_db is in
    let of_wal = subst (λ (l : List ℕ). IsShownAtWithin limits bytes frame db l journal v) same_wal of_db in
    let by_front = subst (λ (n : ℕ). HasFold (Some frame) (named_size wal) db wal journal (outcomes.Folded n (length (pages_of bytes v))) (concat (pages_of bytes v))) (sym by_frames)
    (fold_viewed limits bytes frame db wal journal v some of_wal) in
    subst (λ (n : ℕ). HasFold (Some frame) (named_size wal) db wal journal (outcomes.Folded frames n) (concat (pages_of bytes v))) (sym by_pages) by_front

-- their view is refused
pub unfolded_at : (limits : Bounds) (frame : ℕ) (db wal own log journal : List ℕ) (error : ViewError) (refusal : Refusal) → own ≡ db → log ≡ wal → refusal ≡ refusal_of error
    → AtRefusedWithin limits frame own log journal error → IsUnfoldedAt limits frame db wal journal refusal
unfolded_at limits frame db wal own log journal error refusal same_db same_wal is refused = inr (
  error,
  is,
  subst (λ (l : List ℕ). AtRefusedWithin limits frame db l journal error) same_wal (subst (λ (l : List ℕ). AtRefusedWithin limits frame l log journal error) same_db refused),
)

-- no commit is asked for of a log of which no frame counts
none_asked : (at : Option ℕ) (scan : Option Scan) (wal : List ℕ) → IfSome at (λ m. IsSome scan × IsCommitOf wal m) → IsFront (named_size wal) wal 0 → at ≡ None
none_asked None scan wal asked front = refl
none_asked (Some m) scan wal asked front = absurd (omega (arith, asked.1.0.first, front.greatest m asked.1.0 asked.1.1))

module _ (options : Options) (size : ℕ) (scan : Option Scan) (db wal journal : List ℕ) (folds : FoldsAt options db wal journal size scan) where
  header : IsHeader size wal
  header = folds.0.0

  no_front : IsFront (named_size wal) wal 0 → HasFold options.front size db wal journal outcomes.NoFront db
  no_front front = (none_asked options.front scan wal folds.0.2 front, subst (λ (n : ℕ). IsFront n wal 0) header.named front, refl)

  pub none_counts : (most : ℕ) (w : List ℕ) (f : Front) → w ≡ wal → IsCommittedWithin most w f → f.frames ≡ 0 → HasFold options.front size db wal journal outcomes.NoFront db
  none_counts most w f same committed none = no_front (front_none most wal f (subst (λ (l : List ℕ). IsCommittedWithin most l f) same committed) none)

  pub none_headed : (w : List ℕ) → w ≡ wal → (¬ IsHeader (named_size w) w) → HasFold options.front size db wal journal outcomes.NoFront db
  none_headed w same none = absurd (subst (λ (l : List ℕ). ¬ IsHeader (named_size l) l) same none (subst (λ (n : ℕ). IsHeader n wal) (sym header.named) header))

  -- the commit frame up to which it is folded
  module _ (front : ℕ) (is_front : IsFront (named_size wal) wal front) (some : front ≢ 0) where
    one : 1 ≤ front
    one = omega (arith, some)

    first : (at : Option ℕ) → IfSome at (λ m. IsSome scan × IsCommitOf wal m) → 1 ≤ unwrap_or at front
    first None asked = one
    first (Some m) asked = asked.1.0.first

    reached : (at : Option ℕ) → IsFoldedTo at size wal (unwrap_or at front)
    reached None = (one, subst (λ (n : ℕ). IsFront n wal front) header.named is_front)
    reached (Some m) = refl

    logged : IsLogged wal journal front
    logged = record { cold = folds.1; some = one; is = is_front }

    as_asked : (at : Option ℕ) (outcome : Outcome) (text : List ℕ) → HasFold (Some (unwrap_or at front)) size db wal journal outcome text
        → HasFold at size db wal journal outcome text
    as_asked (Some m) outcome text has = has
    as_asked None outcomes.NoFront text has = absurd (cc has.0)
    as_asked None (outcomes.Folded frames pages) text has = (
      subst (λ (n : ℕ). IsFoldedTo None size wal n) (sym has.0) (reached None),
      has.1,
      front_to front size db wal journal has.1 logged has.2,
      has.3,
    )
    as_asked None outcomes.Nothing text has = absurd has
    as_asked None (outcomes.RolledBack records pages) text has = absurd has

    module _ {A : Type 0} (outcome_of : A → Outcome) (text_of : A → List ℕ) where
      by_result : (result : Result A Refusal)
          → MatchResult result (λ a. HasFold (Some (unwrap_or options.front front)) (named_size wal) db wal journal (outcome_of a) (text_of a))
          (IsUnfoldedAt (limits_named options.large) (unwrap_or options.front front) db wal journal)
          → MatchResult result (λ a. HasFold options.front size db wal journal (outcome_of a) (text_of a)) (IsUnfolded options size db wal journal)
      by_result (Ok a) has = as_asked options.front (outcome_of a) (text_of a)
          (subst (λ (n : ℕ). HasFold (Some (unwrap_or options.front front)) n db wal journal (outcome_of a) (text_of a)) header.named has)
      by_result (Err refusal) unfolded = inr (unwrap_or options.front front, reached options.front, unfolded)

      pub folds_as_asked : (limits : Bounds) (frame : ℕ) (result : Result A Refusal) → limits ≡ limits_named options.large → frame ≡ unwrap_or options.front front
          → (1 ≤ frame → MatchResult result (λ a. HasFold (Some frame) (named_size wal) db wal journal (outcome_of a) (text_of a)) (IsUnfoldedAt limits frame db wal journal))
          → MatchResult result (λ a. HasFold options.front size db wal journal (outcome_of a) (text_of a)) (IsUnfolded options size db wal journal)
      folds_as_asked limits frame result are is has =
          let one_frame : 1 ≤ frame = subst (λ (n : ℕ). 1 ≤ n) (sym is) (first options.front folds.0.2) in
          let by_limits = subst (λ (l : Bounds).
          MatchResult result (λ a. HasFold (Some frame) (named_size wal) db wal journal (outcome_of a) (text_of a)) (IsUnfoldedAt l frame db wal journal)) are (has one_frame) in
          by_result result (subst (λ (n : ℕ).
          MatchResult result (λ a. HasFold (Some n) (named_size wal) db wal journal (outcome_of a) (text_of a)) (IsUnfoldedAt (limits_named options.large) n db wal journal)) is by_limits)

-- ---- a journal that is replayed

-- how many records were read of it
pub count_read : (journal : List ℕ) (replay : Replay) (n : ℕ) → HasRead journal replay → ((b : List ℕ) → Took b replay → HasCount b n) → HasCount journal n
count_read journal replay n read counts = subst (λ (l : List ℕ). HasCount l n) (sym read.split)
    (⊎_elim (λ none. subst (λ (l : List ℕ). HasCount l n) (sym (ap (λ (l : List ℕ). read.front ++ l) none ∙ append-nil read.front)) here) whole read.rest)
  where
    here : HasCount read.front n
    here = counts read.front read.took

    whole : IsSettled read.front → HasCount (read.front ++ read.more) n
    whole settled =
        let all = settled read.more (entries (sizes_of read.front) 0 here.segments) here.stop (record { segments = here.segments; is = here.is; records = refl }) in
        record { segments = all.segments; stop = here.stop; is = all.is; value = here.value ∙ ap length (sym all.records) }

-- the pages of the view of files beside which it is hot
pub replay_viewed : {F : Type 0} (limits : Bounds) (bytes : F → List ℕ) (db wal journal : List ℕ) (records : ℕ) (v : View F) → IsHot journal → HasCount journal records
    → IsShownWithin limits bytes db wal journal v
    → HasReplay db wal journal (outcomes.RolledBack records (length (pages_of bytes v))) (concat (pages_of bytes v))
replay_viewed limits bytes db wal journal records v hot count is = (count, pages_of bytes v, shown, (refl, refl))
  where
    shown : Views (word journal 24) db wal journal (pages_of bytes v)
    shown = ⊎_elim
        (λ rolled. subst (λ (n : ℕ). Views n db wal journal (pages_of bytes v)) rolled.1 is.shows)
        (⊎_elim (λ logged. absurd (logged.1.cold hot)) (λ alone. absurd (alone.0.cold hot)))
        is.shows

-- a file of which nothing was read ahead gives its bytes
pub gives_unread : {F M : Type 0} (bytes : F → List ℕ) (gives : F → Type 0) (file : F) (most : ℕ) (first counted : Metered (ReadAhead F) M) → first ≡ counted → IsUnread file most first.file
    → gives file → gives counted.file.file × HoldsPart (bytes counted.file.file) counted.file.from counted.file.held counted.file.piece.items
gives_unread {F} {M} bytes gives file most first counted same unread given = subst
    (λ (x : Metered (ReadAhead F) M). gives x.file.file × HoldsPart (bytes x.file.file) x.file.from x.file.held x.file.piece.items) same
    (subst gives (sym unread.same) given, holds_nothing (bytes first.file.file) first.file.from first.file.held first.file.piece.items unread.nothing)

pub same_unread : {F M : Type 0} (bytes : F → List ℕ) (file : F) (most : ℕ) (first counted : Metered (ReadAhead F) M) → first ≡ counted → IsUnread file most first.file
    → bytes counted.file.file ≡ bytes file
same_unread {F} {M} bytes file most first counted same unread = subst (λ (x : Metered (ReadAhead F) M). bytes x.file.file ≡ bytes file) same (ap bytes unread.same)

-- the same of files that have these bytes
pub replay_copied : {F : Type 0} (limits : Bounds) (bytes : F → List ℕ) (db wal journal own log hot_log : List ℕ) (records : ℕ) (v : View F) (pages : ℕ) → own ≡ db → log ≡ wal
    → hot_log ≡ journal → pages ≡ length (pages_of bytes v) → IsHot journal → HasCount journal records → IsShownWithin limits bytes own log hot_log v
    → HasReplay db wal journal (outcomes.RolledBack records pages) (concat (pages_of bytes v))
replay_copied limits bytes db wal journal own log hot_log records v pages same_db same_wal same_journal by_pages hot count is =
    let of_db = subst (λ (l : List ℕ). IsShownWithin limits bytes l log hot_log v) same_db is in
    let of_wal = subst (λ (l : List ℕ). IsShownWithin limits bytes db l hot_log v) same_wal of_db in
    let of_journal = subst (λ (l : List ℕ). IsShownWithin limits bytes db wal l v) same_journal of_wal in
    subst (λ (n : ℕ). HasReplay db wal journal (outcomes.RolledBack records n) (concat (pages_of bytes v))) (sym by_pages)
    (replay_viewed limits bytes db wal journal records v hot count of_journal)

pub unreplayed : (limits : Bounds) (db wal journal own log hot_log : List ℕ) (error : PastError) (refusal : Refusal) → own ≡ db → log ≡ wal → hot_log ≡ journal
    → refusal ≡ refusal_of_past error → AskedRefused limits Last own log hot_log error → IsUnreplayed limits db wal journal refusal
unreplayed limits db wal journal own log hot_log CommitOverwritten refusal same_db same_wal same_journal is refused = absurd refused
unreplayed limits db wal journal own log hot_log (Refused error) refusal same_db same_wal same_journal is refused =
    let of_db = subst (λ (l : List ℕ). ViewRefusedWithin limits l log hot_log error) same_db refused in
    let of_wal = subst (λ (l : List ℕ). ViewRefusedWithin limits db l hot_log error) same_wal of_db in
    inr (inr (error, is, subst (λ (l : List ℕ). ViewRefusedWithin limits db wal l error) same_journal of_wal))

-- ---- a commit that is asked for

-- the pages of the view of files there, which have these bytes
pub past_copied : {F : Type 0} (limits : Bounds) (bytes : F → List ℕ) (m : ℕ) (db wal journal own log other : List ℕ) (v : View F) (outcome : Outcome) (pages : ℕ) → own ≡ db
    → log ≡ wal → other ≡ journal → outcome ≡ folded_as m pages → pages ≡ length (pages_of bytes v) → IsPastShownWithin limits bytes m own log other v
    → HasPast m db wal journal outcome (concat (pages_of bytes v))
past_copied limits bytes m db wal journal own log other v outcome pages same_db same_wal same_journal is by_pages shown =
    let of_db = subst (λ (l : List ℕ). IsPastShownWithin limits bytes m l log other v) same_db shown in
    let of_wal = subst (λ (l : List ℕ). IsPastShownWithin limits bytes m db l other v) same_wal of_db in
    let of_journal : IsPastShownWithin limits bytes m db wal journal v = subst (λ (l : List ℕ). IsPastShownWithin limits bytes m db wal l v) same_journal of_wal in
    (v.page_size, pages_of bytes v, of_journal.shows, is ∙ ap (λ (n : ℕ). folded_as m n) by_pages, refl)

-- their view is refused
pub unpast : (limits : Bounds) (m : ℕ) (db wal journal own log other : List ℕ) (error : PastError) (refusal : Refusal) → own ≡ db → log ≡ wal → other ≡ journal
    → refusal ≡ refusal_of_past error → PastRefusedWithin limits m own log other error → IsUnpast limits m db wal journal refusal
unpast limits m db wal journal own log other error refusal same_db same_wal same_journal is refused =
    let of_db = subst (λ (l : List ℕ). PastRefusedWithin limits m l log other error) same_db refused in
    let of_wal = subst (λ (l : List ℕ). PastRefusedWithin limits m db l other error) same_wal of_db in
    inr (error, is, subst (λ (l : List ℕ). PastRefusedWithin limits m db wal l error) same_journal of_wal)

module _ {A : Type 0} (outcome_of : A → Outcome) (text_of : A → List ℕ) (options : Options) (db wal journal : List ℕ) where
  -- a copy at the commit that is asked for, or by a plan where none is
  pub copied_at : (m : ℕ) (limits : Bounds) (result : Result A Refusal) → options.at ≡ Some m → limits ≡ limits_named options.large
      → MatchResult result (λ a. HasPast m db wal journal (outcome_of a) (text_of a)) (IsUnpast limits m db wal journal)
      → MatchResult result (λ a. IsCopyOf options db wal journal (outcome_of a) (text_of a)) (IsUncopied options db wal journal)
  copied_at m limits (Ok a) at are has = subst (λ (o : Option ℕ). IsCopyAt o options db wal journal (outcome_of a) (text_of a)) (sym at) has
  copied_at m limits (Err refusal) at are refused = subst (λ (o : Option ℕ). IsUncopiedAt o options db wal journal refusal) (sym at)
      (subst (λ (l : Bounds). IsUnpast l m db wal journal refusal) are refused)

  pub copied_as_planned : (result : Result A Refusal) → options.at ≡ None
      → MatchResult result (λ a. IsPlannedCopy options db wal journal (outcome_of a) (text_of a)) (IsUnplannedCopy options db wal journal)
      → MatchResult result (λ a. IsCopyOf options db wal journal (outcome_of a) (text_of a)) (IsUncopied options db wal journal)
  copied_as_planned (Ok a) at has = subst (λ (o : Option ℕ). IsCopyAt o options db wal journal (outcome_of a) (text_of a)) (sym at) has
  copied_as_planned (Err refusal) at refused = subst (λ (o : Option ℕ). IsUncopiedAt o options db wal journal refusal) (sym at) refused

-- ---- what is planned

module _ {A : Type 0} (outcome_of : A → Outcome) (text_of : A → List ℕ) (options : Options) (db wal journal : List ℕ) where
  -- what a copy of files has by a plan, or why there is none
  abbrev pub CopiesBy : Recovery → Result A Refusal → Type 0
  CopiesBy plan result = MatchResult result (λ a. HasCopy options.front db wal journal plan (outcome_of a) (text_of a)) (IsUnplannedCopy options db wal journal)

  pub folds_by : (size : ℕ) (scan : Option Scan) (plan : Recovery) (result : Result A Refusal) → plan ≡ Fold size scan → CountsWal options.front wal journal
      → MatchResult result (λ a. HasFold options.front size db wal journal (outcome_of a) (text_of a)) (IsUnfolded options size db wal journal) → CopiesBy plan result
  folds_by size scan plan result is counts has = subst (λ (p : Recovery). CopiesBy p result) (sym is) (by result has)
    where
      refused : (refusal : Refusal) → (frame : ℕ) × IsFoldedTo options.front size wal frame × IsUnfoldedAt (limits_named options.large) frame db wal journal refusal
          → IsUnplannedCopy options db wal journal refusal
      refused refusal at = ⊎_elim inl (λ view. inr (inr (inr (view.0, view.1, inl (size, at.0, at.1, view.2))))) at.2

      by : (result : Result A Refusal) → MatchResult result (λ a. HasFold options.front size db wal journal (outcome_of a) (text_of a)) (IsUnfolded options size db wal journal)
          → CopiesBy (Fold size scan) result
      by (Ok a) has = has
      by (Err refusal) unfolded = ⊎_elim
          (λ scanned. inr (inl (inr (inr (inr (counts, unscanned (limits_named options.large) options.front db wal refusal scanned))))))
          (refused refusal)
          unfolded

  pub replays_by : (limits : Bounds) (plan : Recovery) (result : Result A Refusal) → plan ≡ RollBack → limits ≡ limits_named options.large
      → MatchResult result (λ a. HasReplay db wal journal (outcome_of a) (text_of a)) (IsUnreplayed limits db wal journal) → CopiesBy plan result
  replays_by limits plan result is are has = subst (λ (p : Recovery). CopiesBy p result) (sym is) (by result
      (subst (λ (l : Bounds). MatchResult result (λ a. HasReplay db wal journal (outcome_of a) (text_of a)) (IsUnreplayed l db wal journal)) are has))
    where
      by : (result : Result A Refusal)
          → MatchResult result (λ a. HasReplay db wal journal (outcome_of a) (text_of a)) (IsUnreplayed (limits_named options.large) db wal journal) → CopiesBy RollBack result
      by (Ok a) has = has
      by (Err refusal) refused = ⊎_elim inl (⊎_elim (λ replay. inr (inr (inl replay))) (λ view. inr (inr (inr (view.0, view.1, inr view.2))))) refused

  -- a copy of files, or why there is none
  abbrev pub IsCopiedBy : Result A Refusal → Type 0
  IsCopiedBy result = MatchResult result (λ a. IsPlannedCopy options db wal journal (outcome_of a) (text_of a)) (IsUnplannedCopy options db wal journal)

  pub copied_by : (plan : Recovery) (result : Result A Refusal) → IsPlanOf options db wal journal plan → CopiesBy plan result → IsCopiedBy result
  copied_by plan (Ok a) planned has = (plan, planned, has)
  copied_by plan (Err refusal) planned refused = refused

  -- once this is planned
  abbrev CopiesOnce : Recovery → Result A Refusal → Type 0
  CopiesOnce plan result = IsPlanOf options db wal journal plan → IsCopiedBy result

-- the same, where files that were read since have these bytes
pub copied_after : {A : Type 0} (outcome_of : A → Outcome) (text_of : A → List ℕ) (options : Options) (db wal journal own log hot_log : List ℕ) (plan : Recovery) (result : Result A Refusal)
    → own ≡ db → log ≡ wal → hot_log ≡ journal → IsPlanOf options db wal journal plan
    → (IsPlanOf options own log hot_log plan → CopiesBy outcome_of text_of options own log hot_log plan result) → IsCopiedBy outcome_of text_of options db wal journal result
copied_after {A} outcome_of text_of options db wal journal own log hot_log plan result same_db same_wal same_journal planned copies =
    let of_db = subst (λ (l : List ℕ). CopiesOnce outcome_of text_of options l log hot_log plan result) same_db (λ is. copied_by outcome_of text_of options own log hot_log plan result is (copies is)) in
    let of_wal = subst (λ (l : List ℕ). CopiesOnce outcome_of text_of options db l hot_log plan result) same_wal of_db in
    subst (λ (l : List ℕ). CopiesOnce outcome_of text_of options db wal l plan result) same_journal of_wal planned
