-- What is found of a view, or without one, is found of the files.
use Rattle.std.proofs.Common.{◌≡◌, ◌≢◌, ℕ, List, Bool, false, refl, sym, subst, inl, inr}
use Rattle.std.specs.Prelude.{IfOk, IfErr, Result, Ok, Err}
use Rattle.sqval.specs.Database.{Database}
use Rattle.sqval.specs.Limits.{Bounds}
use Rattle.sqview.specs.Ahead.{IsUnread}
use Rattle.sqview.specs.At.{IsShownAtWithin, AtRefusedWithin}
use Rattle.sqview.specs.internal.Laid.{HoldsPart}
use Rattle.sqview.specs.Logs.{IsRead}
use Rattle.sqview.specs.LogView.{IsShownWithin, ViewRefusedWithin, pages_of}
use Rattle.sqview.specs.Verdicts.{IsVerdictWithin, IsVerdictAtWithin, IsFilesVerdict, IsFilesVerdictAt, IsVerdictWith, IsUnjudged, IsUnjudgedWith, AreUnjudgedWithin, AreUnjudgedAtWithin, verdict_without}
use Rattle.sqview.specs.declared.judge_error.JudgeError.TheVariants as refusals
use Rattle.sqview.specs.declared.judge_error.JudgeError.{JudgeError}
use Rattle.sqview.specs.declared.read_ahead.ReadAhead.{ReadAhead}
use Rattle.sqview.specs.declared.verdict.Verdict.{Verdict}
use Rattle.sqview.specs.declared.view.View.{View}
use Rattle.sqview.specs.declared.view_error.ViewError.{ViewError}
use Rattle.sqview.specs.declared.view_error.ViewError.TheVariants.{TwoLogs, TooLarge, Header, Unread, NoMemory, NoSuchCommit}
use Rattle.sqview.proofs.file.HeldPartOfFile.{holds_nothing}

-- what isn't judged where pointer maps aren't asked for
pub plainly : (d : Database) (r : Result Verdict JudgeError) → IfErr r (IsUnjudgedWith false d) → IfErr r (IsUnjudged d)
plainly d (Ok verdict) refused = refused
plainly d (Err refusals.AutoVacuum) refused = refused.1
plainly d (Err refusals.NoMemory) refused = tt
plainly d (Err refusals.TwoLogs) refused = absurd refused
plainly d (Err refusals.TooLarge) refused = absurd refused
plainly d (Err refusals.Unread) refused = absurd refused
plainly d (Err refusals.NoSuchCommit) refused = absurd refused

module _ {F : Type 0} (limits : Bounds) (bytes : F → List ℕ) (db wal journal : List ℕ) (v : View F) where
  pub of_files : (maps : Bool) (r : Result Verdict JudgeError) → IsShownWithin limits bytes db wal journal v → IfOk r (IsVerdictWith maps bytes v) → IfOk r (IsFilesVerdict maps limits db wal journal)
  of_files maps (Ok verdict) shown finds = inl (v.page_size, pages_of bytes v, shown.shows, finds)
  of_files maps (Err e) shown finds = finds

  pub unjudged_files : (r : Result Verdict JudgeError) → IsShownWithin limits bytes db wal journal v → IfErr r (IsUnjudged (pages_of bytes v)) → IfErr r (AreUnjudgedWithin limits db wal journal)
  unjudged_files (Ok verdict) shown refused = refused
  unjudged_files (Err refusals.NoMemory) shown refused = tt
  unjudged_files (Err refusals.TwoLogs) shown refused = absurd refused
  unjudged_files (Err refusals.TooLarge) shown refused = absurd refused
  unjudged_files (Err refusal) shown refused = (v.page_size, pages_of bytes v, shown.shows, refused)

  pub of_files_at : (maps : Bool) (m : ℕ) (r : Result Verdict JudgeError) → IsShownAtWithin limits bytes m db wal journal v → IfOk r (IsVerdictWith maps bytes v) → IfOk r (IsFilesVerdictAt maps limits m db wal journal)
  of_files_at maps m (Ok verdict) shown finds = inl (v.page_size, pages_of bytes v, shown.shows, finds)
  of_files_at maps m (Err e) shown finds = finds

  pub unjudged_files_at : (m : ℕ) (r : Result Verdict JudgeError) → IsShownAtWithin limits bytes m db wal journal v → IfErr r (IsUnjudged (pages_of bytes v)) → IfErr r (AreUnjudgedAtWithin limits m db wal journal)
  unjudged_files_at m (Ok verdict) shown refused = refused
  unjudged_files_at m (Err refusals.NoMemory) shown refused = tt
  unjudged_files_at m (Err refusals.TwoLogs) shown refused = absurd refused
  unjudged_files_at m (Err refusals.TooLarge) shown refused = absurd refused
  unjudged_files_at m (Err refusals.NoSuchCommit) shown refused = absurd refused
  unjudged_files_at m (Err refusal) shown refused = (v.page_size, pages_of bytes v, shown.shows, refused)

-- An error that isn't a failed read says that all was read.
pub is_read : (A : Type 0) (e : ViewError) → e ≢ Unread → IsRead {A = A} (Err e)
is_read A TwoLogs other = tt
is_read A TooLarge other = tt
is_read A (Header fault) other = tt
is_read A Unread other = absurd (other refl)
is_read A NoMemory other = tt
is_read A NoSuchCommit other = tt

-- without a view
module _ (limits : Bounds) (db wal journal : List ℕ) where
  pub found_without : (e : ViewError) → (e ≢ Unread → ViewRefusedWithin limits db wal journal e) → IfOk (verdict_without e) (IsVerdictWithin limits db wal journal)
  found_without (Header fault) refused = inr (refl, refused (λ is. cc))
  found_without TwoLogs refused = tt
  found_without TooLarge refused = tt
  found_without Unread refused = tt
  found_without NoMemory refused = tt
  found_without NoSuchCommit refused = tt

  pub unjudged_without : (e : ViewError) → ViewRefusedWithin limits db wal journal e → IfErr (verdict_without e) (AreUnjudgedWithin limits db wal journal)
  unjudged_without (Header fault) refused = tt
  unjudged_without TwoLogs refused = refused
  unjudged_without TooLarge refused = refused
  unjudged_without Unread refused = absurd refused
  unjudged_without NoMemory refused = tt
  unjudged_without NoSuchCommit refused = absurd refused

  pub found_without_at : (m : ℕ) (e : ViewError) → (e ≢ Unread → AtRefusedWithin limits m db wal journal e) → IfOk (verdict_without e) (IsVerdictAtWithin limits m db wal journal)
  found_without_at m (Header fault) refused = inr (refl, refused (λ is. cc))
  found_without_at m TwoLogs refused = tt
  found_without_at m TooLarge refused = tt
  found_without_at m Unread refused = tt
  found_without_at m NoMemory refused = tt
  found_without_at m NoSuchCommit refused = tt

  pub unjudged_without_at : (m : ℕ) (e : ViewError) → AtRefusedWithin limits m db wal journal e → IfErr (verdict_without e) (AreUnjudgedAtWithin limits m db wal journal)
  unjudged_without_at m (Header fault) refused = tt
  unjudged_without_at m TwoLogs refused = refused
  unjudged_without_at m TooLarge refused = refused
  unjudged_without_at m Unread refused = absurd refused
  unjudged_without_at m NoMemory refused = tt
  unjudged_without_at m NoSuchCommit refused = refused

-- the same files
pub along : (P : (db wal journal : List ℕ) → Type 0) (a b c x y z : List ℕ) → a ≡ x → b ≡ y → c ≡ z → P a b c → P x y z
along P a b c x y z e f h p = subst (λ (l : List ℕ). P x y l) h (subst (λ (l : List ℕ). P x l c) f (subst (λ (l : List ℕ). P l b c) e p))

pub gives_unread : {F : Type 0} (bytes : F → List ℕ) (gives : F → Type 0) (file : F) (most : ℕ) (a : ReadAhead F) → IsUnread file most a → gives file → gives a.file × HoldsPart (bytes a.file) a.from a.held a.piece.items
gives_unread {F = F} bytes gives file most a is given = (subst gives (sym is.same) given, holds_nothing (bytes a.file) a.from a.held a.piece.items is.nothing)
