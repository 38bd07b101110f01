-- What a deep check finds, as a caller has it.
use Rattle.std.proofs.Common.{◌≡◌, ◌≢◌, ◌≤◌, ℕ, Bool, true, false, cond, List, length, refl, inl, inr, subst, arith}
use Rattle.std.specs.Prelude.{◌&&◌, Result, Ok, Err, IfOk, IfErr}
use Rattle.std.proofs.lemmas.Bool.{true≢false}
use Rattle.sqval.specs.Database.{Database}
use Rattle.sqview.specs.Verdicts.{IsUnjudgedWith}
use Rattle.sqview.specs.declared.judge_error.JudgeError.{JudgeError}
use Rattle.sqview.specs.declared.judge_error.JudgeError.TheVariants as refusals
use Rattle.sqview.specs.declared.view_error.ViewError.{ViewError}
use Rattle.sqview.specs.declared.view_error.ViewError.TheVariants.{TwoLogs, TooLarge, Header, Unread, NoMemory, NoSuchCommit}
use Rattle.sqdeepjudge.specs.Verdicts.{FindsDeep, deep_without, is_damaged, is_in_part}
use Rattle.sqdeepjudge.specs.declared.verdict.DeepVerdict.{DeepVerdict}
use Rattle.sqpast.specs.declared.past_error.PastError.TheVariants.{Refused}
use Rattle.sqrescue_c.specs.Statuses.{judge_status}
use Rattle.sqview.specs.LogView.{pages_of}
use Rattle.sqview.specs.declared.view.View.{View}
use Rattle.sqview.proofs.openings.PagesOfView.{length_laid}
use Rattle.sqpast.specs.declared.used.Counts.{Counts}
use Rattle.sqdeepjudge.specs.Counted.{FindsExcess}
use Rattle.sqdeepjudge.specs.Missing.{FindsCut, IsMissing, IsMissingOf, cut_of}
use Rattle.sqdeepjudge.proofs.MissingPages.{least_same}
use Rattle.sqrescue_c.specs.Asked.{AreAskedCounts, HasPage, ShowsAsked, AskedRefused, is_complete}
use Rattle.sqrescue_c.specs.Deeps.{IsAskedDeep, IsCounted, IsWholeOrCut, AreDeepUnjudged, deep_status}
use Rattle.sqrescue_c.specs.internal.Missing.{AreMissing}
use Rattle.sqrescue_c.proofs.ReportedFindings.{view_refused}

-- a verdict's status is 0, 1 or 31
one_of_three : (a b : Bool) (n : ℕ) → n ≡ cond a 1 (cond b 31 0) → 2 ≤ n → n ≢ 31 → ⊥
one_of_three true b n is two other = omega (arith, is, two)
one_of_three false true n is two other = other is
one_of_three false false n is two other = omega (arith, is, two)

pub no_other_status : (flags : ℕ) (verdict : DeepVerdict) (n : ℕ) → n ≡ deep_status flags verdict → 2 ≤ n → n ≢ 31 → ⊥
no_other_status flags verdict n is two other = one_of_three (is_damaged verdict) (is_complete flags && is_in_part verdict) n is two other

-- what is found of the database that is asked for
module _ (flags m : ℕ) (db wal journal : List ℕ) where
  module _ (size : ℕ) (d : Database) (shown : ShowsAsked flags m size db wal journal d) where
    pub asked : (r : Result DeepVerdict JudgeError) → IfOk r (FindsDeep true d size) → IfOk r (IsWholeOrCut flags m size db wal journal d) → IfOk r (IsCounted flags m db wal journal)
        → IfOk r (IsAskedDeep flags m db wal journal)
    asked (Ok verdict) finds cut counted = inl (size, d, shown, finds, cut, counted)
    asked (Err e) finds cut counted = tt

    pub unjudged : (r : Result DeepVerdict JudgeError) → IfErr r (IsUnjudgedWith true d)
        → IfErr r (λ e. AreDeepUnjudged flags m db wal journal (judge_status e))
    unjudged (Ok verdict) refused = tt
    unjudged (Err refusals.NoMemory) refused =
        view_refused flags m db wal journal NoMemory (λ n. omega (arith, n)) (record { at = λ _. tt; shown = λ _. tt })
    unjudged (Err refusals.AutoVacuum) refused = absurd (true≢false refused.0)
    unjudged (Err refusals.TwoLogs) refused = absurd refused
    unjudged (Err refusals.TooLarge) refused = absurd refused
    unjudged (Err refusals.NoSuchCommit) refused = absurd refused
    unjudged (Err refusals.Unread) refused = absurd refused

  -- the page of a view that is missing
  pub cut_asked : {F : Type 0} (bytes : F → List ℕ) (v : View F) (long : ℕ) (r : Result DeepVerdict JudgeError) → AreMissing flags m wal journal v → long ≡ length db
      → IfOk r (FindsCut (IsMissingOf v long) (length (pages_of bytes v))) → IfOk r (IsWholeOrCut flags m v.page_size db wal journal (pages_of bytes v))
  cut_asked bytes v long (Ok verdict) are is finds =
      subst (λ (n : ℕ). FindsCut (IsMissing (HasPage flags m v.page_size wal journal) v.page_size n) (length (pages_of bytes v)) verdict) is
      (least_same (IsMissingOf v long) (IsMissing (HasPage flags m v.page_size wal journal) v.page_size long) (length (pages_of bytes v)) (cut_of verdict)
      (λ p one le. are long p one (let n = length_laid v.page_size v.count (bytes v.db) (bytes v.log) v.places.items in omega (arith, n, le))) finds)
  cut_asked bytes v long (Err e) are is finds = tt

  -- what its header counts
  pub counted_asked : (counts : Counts) (r : Result DeepVerdict JudgeError) → AreAskedCounts flags m db wal journal counts → IfOk r (FindsExcess counts) → IfOk r (IsCounted flags m db wal journal)
  counted_asked counts (Ok verdict) are finds = (counts, are, finds)
  counted_asked counts (Err e) are finds = tt

  pub without : (e : ViewError) → AskedRefused flags m db wal journal (Refused e) → IfOk (deep_without e) (IsAskedDeep flags m db wal journal)
  without (Header fault) refused = inr (fault, refl, refused)
  without TwoLogs refused = tt
  without TooLarge refused = tt
  without NoSuchCommit refused = tt
  without Unread refused = tt
  without NoMemory refused = tt

  pub unjudged_without : (e : ViewError) → AskedRefused flags m db wal journal (Refused e)
      → IfErr (deep_without e) (λ j. AreDeepUnjudged flags m db wal journal (judge_status j))
  unjudged_without (Header fault) refused = tt
  unjudged_without TwoLogs refused = view_refused flags m db wal journal TwoLogs (λ n. omega (arith, n)) refused
  unjudged_without TooLarge refused = view_refused flags m db wal journal TooLarge (λ n. omega (arith, n)) refused
  unjudged_without NoSuchCommit refused = view_refused flags m db wal journal NoSuchCommit (λ n. omega (arith, n)) refused
  unjudged_without Unread refused = view_refused flags m db wal journal Unread (λ n. omega (arith, n)) refused
  unjudged_without NoMemory refused = view_refused flags m db wal journal NoMemory (λ n. omega (arith, n)) refused
