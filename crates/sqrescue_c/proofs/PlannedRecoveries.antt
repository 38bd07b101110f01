-- Which recovery is planned for files that have a view, or whose header names no database.
use Rattle.std.proofs.Common.{◌≡◌, ◌≢◌, ⊎_elim, inl, inr, ℕ, true, false, cond, ◌==◌, List, [], refl, ◌∙◌, arith}
use Rattle.std.specs.Prelude.{Err}
use Rattle.std.proofs.lemmas.Bool.{cases_eq}
use Rattle.sqjournal.specs.Journal.{IsHot}
use Rattle.sqpage.specs.declared.fault.Fault.{Fault}
use Rattle.sqpage.specs.declared.fault.Fault.TheVariants as faults
use Rattle.sqview.specs.LogView.{IsAlone, IsLogged, ViewRefused}
use Rattle.sqview.specs.Logs.{CountsAnswer}
use Rattle.sqview.specs.declared.logs.LogInUse.{LogInUse}
use Rattle.sqview.specs.declared.logs.LogInUse.TheVariants.{Neither, Wal, Journal}
use Rattle.sqview.specs.declared.view.View.{View}
use Rattle.sqview.specs.declared.view_error.ViewError.{ViewError}
use Rattle.sqview.specs.declared.view_error.ViewError.TheVariants.{TwoLogs, Header}
use Rattle.sqview.specs.internal.LogView.{IsShown}
use Rattle.sqrescue_c.specs.Plans.{IsRecoveryOf, HasView}
use Rattle.sqrescue_c.specs.internal.Plans.{number_in, CountsSome}
use Rattle.sqrescue_c.specs.declared.plan.Plan.{Plan}

pub headless : (db wal journal : List ℕ) (fault : Fault) → ViewRefused db wal journal (Header fault) → IsAlone wal journal
headless db wal journal faults.Magic refused = refused.2
headless db wal journal faults.PageSize refused = refused.2
headless db wal journal _ refused = absurd refused

module _ {F : Type 0} (bytes : F → List ℕ) (db wal journal : List ℕ) (v : View F) (is : IsShown bytes db wal journal v) where
  alone : (¬ IsHot journal) → v.front ≡ 0 → IsAlone wal journal
  alone cold zero = ⊎_elim
      (λ hot. absurd (cold hot.0))
      (λ others. ⊎_elim
      (λ logged. ⊎_elim (λ (here : IsLogged wal journal v.front). absurd (omega (arith, here.some, zero))) (λ none. absurd (none.1 logged.0 logged.1)) is.stands)
      (λ own. own.0)
      others)
      is.shows

  logged : v.front ≢ 0 → IsLogged wal journal v.front
  logged some = ⊎_elim (λ here. here) (λ none. absurd (some none.0)) is.stands

  by_front : (plan : Plan) → plan.recovery ≡ cond (v.front == 0) 2 1 → (¬ IsHot journal) → wal ≢ [] → HasView db wal journal plan
      → (v.places.items ≡ [] → plan.view.places.now ≡ []) → IsRecoveryOf db wal journal plan
  by_front plan number cold some view places = ⊎_elim
      (λ zero.
      let e : (v.front == 0) ≡ true = grind (arith, zero) in
      let n : plan.recovery ≡ 2 = number ∙ (rw e refl) in
      let found = alone cold zero in
      inr (inr (inl (n, cold, some, found.none, places (is.unplaced found)))))
      (λ front.
      let e : (v.front == 0) ≡ false = grind (arith, front) in
      let n : plan.recovery ≡ 1 = number ∙ (rw e refl) in
      inr (inl (n, v.front, logged front, view)))
      (cases_eq v.front 0)

  pub planned : (log : LogInUse) (plan : Plan) → CountsSome wal journal log → plan.recovery ≡ number_in log v.front → HasView db wal journal plan
      → (v.places.items ≡ [] → plan.view.places.now ≡ []) → IsRecoveryOf db wal journal plan
  planned Neither plan counts number view places = absurd (counts.some refl)
  planned Wal plan counts number view places = by_front plan number counts.counts.0 counts.counts.1 view places
  planned (Journal header) plan counts number view places = inr (inr (inr (number, counts.counts.0, view)))

-- a log without a front beside a file that is no database
pub emptied : (db wal journal : List ℕ) (fault : Fault) (log : LogInUse) (plan : Plan) → CountsSome wal journal log → ViewRefused db wal journal (Header fault)
    → plan.recovery ≡ 2 → plan.view.places.now ≡ [] → IsRecoveryOf db wal journal plan
emptied db wal journal fault Neither plan counts refused number places = absurd (counts.some refl)
emptied db wal journal fault Wal plan counts refused number places =
    let found = headless db wal journal fault refused in
    inr (inr (inl (number, counts.counts.0, counts.counts.1, found.none, places)))
emptied db wal journal fault (Journal header) plan counts refused number places =
    let found = headless db wal journal fault refused in absurd (found.cold counts.counts.0)

-- what refuses to say which log counts refuses a view
pub counted_refused : (db wal journal : List ℕ) (e : ViewError) → CountsAnswer wal journal (Err e) → ViewRefused db wal journal e
counted_refused db wal journal TwoLogs is = is
counted_refused db wal journal _ is = absurd is
