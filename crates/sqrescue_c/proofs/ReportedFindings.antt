-- What a check finds, as a caller has it.
use Rattle.std.proofs.Common.{◌≡◌, ◌≢◌, ℕ, List, refl, sym, subst, inl, inr, arith}
use Rattle.std.specs.Prelude.{Result, Ok, Err, IfOk, IfErr}
use Rattle.sqval.specs.Database.{Database}
use Rattle.sqpage.specs.Faults.{number_of}
use Rattle.sqpage.specs.declared.fault.CheckError.{CheckError}
use Rattle.sqcheck.specs.declared.report.Report.{Report}
use Rattle.sqview.specs.Verdicts.{FindsWith, IsUnjudgedWith, verdict_without}
use Rattle.sqview.specs.declared.judge_error.JudgeError.{JudgeError}
use Rattle.sqview.specs.declared.verdict.Verdict.{Verdict}
use Rattle.sqview.specs.declared.verdict.Verdict.TheVariants.{Clean, Damaged}
use Rattle.sqview.specs.declared.view_error.ViewError.{ViewError}
use Rattle.sqview.specs.declared.view_error.ViewError.TheVariants.{TwoLogs, TooLarge, Header, Unread, NoMemory, NoSuchCommit}
use Rattle.sqpast.specs.declared.past_error.PastError.TheVariants.{Refused}
use Rattle.sqrescue_c.specs.Asked.{maps_of, ShowsAsked, AskedRefused}
use Rattle.sqrescue_c.specs.Checks.{SaysClean, SaysDamaged, IsAskedVerdict, IsViewRefused, AreAskedUnjudged}
use Rattle.sqrescue_c.specs.Statuses.{view_status, judge_status}
use Rattle.sqrescue_c.specs.internal.Statuses.{number_of as status_number}
use Rattle.sqrescue_c.specs.declared.status.Status.{Status}
use Rattle.sqrescue_c.specs.declared.check.CheckReport.{CheckReport}

abbrev pub report_of : Report → CheckReport
report_of r = record { fault = 0; page = 0; pages = r.pages; trees = r.trees; btree = r.btree; overflow = r.overflow; free = r.free }

module _ (IsFound : Verdict → Type 0) (out : CheckReport) where
  pub clean : (found : Report) → out ≡ report_of found → IsFound (Clean found) → SaysClean IsFound out
  clean found e v = subst (λ (o : CheckReport). SaysClean IsFound o) (sym e) (record { verdict = v; no_fault = refl; no_page = refl })

  pub damaged : (error : CheckError) → out.fault ≡ number_of error.fault → out.page ≡ error.page → IsFound (Damaged error) → SaysDamaged IsFound out
  damaged error f p v = record {
    fault = error.fault;
    numbered = f;
    verdict = subst (λ (n : ℕ). IsFound (Damaged (record { page = n; fault = error.fault }))) (sym p) v;
  }

-- what a check answers, its status has too
module _ {A : Type 0} (r : Result A JudgeError) where
  pub carried : (P : A → Type 0) (s : Result A Status) → IfOk s (λ x. r ≡ Ok x) → IfOk r P → IfOk s P
  carried P (Ok x) same is = subst (λ (y : Result A JudgeError). IfOk y P) same is
  carried P (Err s) same is = tt

  pub refusal : (P : ℕ → Type 0) (s : Result A Status) → IfErr s (λ s. (e : JudgeError) × (r ≡ Err e) × (status_number s ≡ judge_status e))
      → IfErr r (λ e. P (judge_status e)) → IfErr s (λ s. P (status_number s))
  refusal P (Ok x) same is = tt
  refusal P (Err s) same is =
      subst P (sym same.2) (subst (λ (y : Result A JudgeError). IfErr y (λ e. P (judge_status e))) same.1 is)

-- what is found of the database that is asked for
module _ (flags m : ℕ) (db wal journal : List ℕ) where
  module _ (size : ℕ) (d : Database) (shown : ShowsAsked flags m size db wal journal d) where
    pub asked : (r : Result Verdict JudgeError) → IfOk r (FindsWith (maps_of flags) d size) → IfOk r (IsAskedVerdict flags m db wal journal)
    asked (Ok verdict) finds = inl (size, d, shown, finds)
    asked (Err e) finds = tt

    pub unjudged : (r : Result Verdict JudgeError) → IfErr r (IsUnjudgedWith (maps_of flags) d)
        → IfErr r (λ e. AreAskedUnjudged flags m db wal journal (judge_status e))
    unjudged (Ok verdict) refused = tt
    unjudged (Err e) refused = inr (size, d, shown, e, refl, refused)

  pub without : (e : ViewError) → AskedRefused flags m db wal journal (Refused e) → IfOk (verdict_without e) (IsAskedVerdict flags m db wal journal)
  without (Header fault) refused = inr (fault, refl, refused)
  without _ refused = tt

  pub view_refused : (e : ViewError) → (view_status e ≢ 5) → AskedRefused flags m db wal journal (Refused e) → IsViewRefused flags m db wal journal (view_status e)
  view_refused e other refused = (Refused e, refl, other, refused)

  pub unjudged_without : (e : ViewError) → AskedRefused flags m db wal journal (Refused e)
      → IfErr (verdict_without e) (λ j. AreAskedUnjudged flags m db wal journal (judge_status j))
  unjudged_without (Header fault) refused = tt
  unjudged_without TwoLogs refused = inl (view_refused TwoLogs (λ n. omega (arith, n)) refused)
  unjudged_without TooLarge refused = inl (view_refused TooLarge (λ n. omega (arith, n)) refused)
  unjudged_without NoSuchCommit refused = inl (view_refused NoSuchCommit (λ n. omega (arith, n)) refused)
  unjudged_without Unread refused = inl (view_refused Unread (λ n. omega (arith, n)) refused)
  unjudged_without NoMemory refused = inl (view_refused NoMemory (λ n. omega (arith, n)) refused)
