-- What a recovery does of files, by the log that counts of them.
use Rattle.std.proofs.Common.{◌≡◌, ◌≢◌, inl, inr, ℕ, zero, suc, List, Option, None, Some, refl, sym, subst, arith}
use Rattle.std.specs.Prelude.{IsSomeAnd, Result, Ok, Err, MatchResult}
use Rattle.sqjournal.specs.declared.header.JournalHeader.{JournalHeader}
use Rattle.sqview.specs.Logs.{AreTwoLogs, CountsAnswer}
use Rattle.sqview.specs.declared.logs.LogInUse.{LogInUse}
use Rattle.sqview.specs.declared.logs.LogInUse.TheVariants.{Neither, Wal, Journal}
use Rattle.cli_words.specs.declared.requests.Options.{Options}
use Rattle.cli_facts.specs.declared.outcome.Refusal.{Refusal}
use Rattle.cli_facts.specs.declared.outcome.Refusal.TheVariants as refusals
use Rattle.cli_show.specs.Limits.{limits_named}
use Rattle.cli_recover.specs.Plans.{IsPlanOf, IsUnplannedOf, PlansFold, RollsBack}
use Rattle.cli_recover.specs.declared.plans.Recovery.{Recovery}
use Rattle.cli_recover.specs.declared.plans.Recovery.TheVariants.{Nothing, Empty, Fold, RollBack}

-- a plan of files of these bytes, or why there is none
abbrev pub PlansOf : Options → (db wal journal : List ℕ) → Result Recovery Refusal → Type 0
PlansOf options db wal journal result = MatchResult result (IsPlanOf options db wal journal) (IsUnplannedOf options db wal journal)

module _ (options : Options) (db wal journal : List ℕ) where
  of_nothing : (result : Result Recovery Refusal) → IsPlanOf options db wal journal Nothing → result ≡ Ok Nothing → PlansOf options db wal journal result
  of_nothing result is e = subst (λ (r : Result Recovery Refusal). PlansOf options db wal journal r) (sym e) is

  of_journal : (header : JournalHeader) (result : Result Recovery Refusal) → options.front ≡ None → CountsAnswer wal journal (Ok (Journal header))
      → RollsBack options.super_journal journal result → PlansOf options db wal journal result
  of_journal header (Ok plan) at counts rolls =
      subst (λ (p : Recovery). PlansOf options db wal journal (Ok p)) (sym rolls.0) ((at, (header, counts)), (refl, rolls.1))
  of_journal header (Err refusal) at counts rolls = inr (inr (inl ((at, (header, counts)), rolls)))

  of_wal : (result : Result Recovery Refusal) → options.front ≢ Some 0 → CountsAnswer wal journal (Ok Wal)
      → PlansFold (limits_named options.large) options.front db wal result → PlansOf options db wal journal result
  of_wal (Ok Nothing) at counts folds = absurd folds
  of_wal (Ok Empty) at counts folds = ((counts, at), folds)
  of_wal (Ok (Fold size scan)) at counts folds = ((counts, at), folds)
  of_wal (Ok RollBack) at counts folds = absurd folds
  of_wal (Err refusal) at counts folds = inr (inr (inr ((counts, at), folds)))

  of_none : (m : ℕ) (in_use : LogInUse) (result : Result Recovery Refusal) → options.front ≡ Some (suc m) → CountsAnswer wal journal (Ok in_use) → in_use ≢ Wal
      → result ≡ Err refusals.NoSuchCommit → PlansOf options db wal journal result
  of_none m in_use result at counts other e = subst (λ (r : Result Recovery Refusal). PlansOf options db wal journal r) (sym e)
      (inr (inl (refl, (subst (λ (o : Option ℕ). IsSomeAnd o (λ n. n ≢ 0)) (sym at) (λ z. absurd (omega (arith, z))), others in_use counts other))))
    where
      others : (in_use : LogInUse) → CountsAnswer wal journal (Ok in_use) → in_use ≢ Wal → ¬ CountsAnswer wal journal (Ok Wal)
      others Neither counts other is = is.1 counts.1
      others Wal counts other is = other refl
      others (Journal header) counts other is = is.0 counts.0

  pub plans_of : (in_use : LogInUse) (result : Result Recovery Refusal) → CountsAnswer wal journal (Ok in_use)
      → (options.front ≡ Some 0 → result ≡ Ok Nothing) → (in_use ≡ Neither → options.front ≡ None → result ≡ Ok Nothing)
      → ((header : JournalHeader) → in_use ≡ Journal header → options.front ≡ None → RollsBack options.super_journal journal result)
      → ((m : ℕ) → options.front ≡ Some (suc m) → in_use ≢ Wal → result ≡ Err refusals.NoSuchCommit)
      → (in_use ≡ Wal → options.front ≢ Some 0 → PlansFold (limits_named options.large) options.front db wal result)
      → PlansOf options db wal journal result
  plans_of in_use result counts file nothing rolls none folds = by options.front in_use refl counts nothing rolls none folds
    where
      by : (at : Option ℕ) (in_use : LogInUse) → options.front ≡ at → CountsAnswer wal journal (Ok in_use)
          → (in_use ≡ Neither → options.front ≡ None → result ≡ Ok Nothing)
          → ((header : JournalHeader) → in_use ≡ Journal header → options.front ≡ None → RollsBack options.super_journal journal result)
          → ((m : ℕ) → options.front ≡ Some (suc m) → in_use ≢ Wal → result ≡ Err refusals.NoSuchCommit)
          → (in_use ≡ Wal → options.front ≢ Some 0 → PlansFold (limits_named options.large) options.front db wal result)
          → PlansOf options db wal journal result
      by (Some zero) in_use e counts nothing rolls none folds = of_nothing result (inl e) (file e)
      by (Some (suc m)) Neither e counts nothing rolls none folds = of_none m Neither result e counts (λ is. absurd (cc is)) (none m e (λ is. absurd (cc is)))
      by (Some (suc m)) (Journal header) e counts nothing rolls none folds =
          of_none m (Journal header) result e counts (λ is. absurd (cc is)) (none m e (λ is. absurd (cc is)))
      by (Some (suc m)) Wal e counts nothing rolls none folds =
          let other : options.front ≢ Some 0 = λ z. absurd (cc (e, z)) in
          of_wal result other counts (folds refl other)
      by None Neither e counts nothing rolls none folds = of_nothing result (inr (e, counts)) (nothing refl e)
      by None (Journal header) e counts nothing rolls none folds = of_journal header result e counts (rolls header refl e)
      by None Wal e counts nothing rolls none folds =
          let other : options.front ≢ Some 0 = λ z. absurd (cc (e, z)) in
          of_wal result other counts (folds refl other)

  -- two logs count
  pub two_logs : (refusal : Refusal) → (refusal ≡ refusals.TwoLogs) × AreTwoLogs wal journal → IsUnplannedOf options db wal journal refusal
  two_logs refusal is = inl is
