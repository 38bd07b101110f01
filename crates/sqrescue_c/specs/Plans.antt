-- The steps of a recovery, as a caller has them.
use Rattle.std.specs.Prelude.{◌≡◌, ◌≢◌, ◌⊎◌, ℕ, ◌-◌, ◌*◌, ◌==◌, cond, List, [], ◌∷◌}
use Rattle.sqwal.specs.Header.{named_size}
use Rattle.sqwal.specs.Frames.{IsFront}
use Rattle.sqjournal.specs.Journal.{IsHot}
use Rattle.sqplan.specs.Plans.{steps_left}
use Rattle.sqplan.specs.declared.plan.Recovery.{Recovery}
use Rattle.sqplan.specs.declared.plan.Recovery.TheVariants.{Nothing, Fold, Empty, RollBack}
use Rattle.sqplan.specs.declared.plan.Step.{Step as Does}
use Rattle.sqplan.specs.declared.plan.Step.TheVariants.{WritePage, SetLength, SyncDatabase, ZeroHeader, CutLog, SyncLog}
use Rattle.sqview.specs.LogView.{IsLogged}
use Rattle.sqrescue_c.specs.Views.{IsOpened}
use Rattle.sqrescue_c.specs.declared.plan.Plan.{Plan}
use Rattle.sqrescue_c.specs.declared.plan.Step.{Step}

-- a recovery by its number; any other number is none
abbrev pub recovery_of : ℕ → Recovery
recovery_of n = cond (n == 1) Fold (cond (n == 2) Empty (cond (n == 3) RollBack Nothing))

-- the steps that are left of a caller's plan
abbrev pub left_in : Plan → List Does
left_in plan = steps_left (record {
  recovery = recovery_of plan.recovery;
  page_size = plan.view.page_size;
  pages = plan.view.pages;
  places = plan.view.places;
}) plan.done

-- a step in numbers: what is done (1, a page; 2, zeros; 3, a length; 4, a sync), in the file or in the log, where, how long,
-- and which page
abbrev pub step_of : (size : ℕ) → Does → Step
step_of size (WritePage p) = record { at = (p - 1) * size; length = size; kind = 1; is_of_log = 0; page = p }
step_of size (ZeroHeader n) = record { at = 0; length = n; kind = 2; is_of_log = 1; page = 0 }
step_of size (SetLength n) = record { at = 0; length = n; kind = 3; is_of_log = 0; page = 0 }
step_of size CutLog = record { at = 0; length = 0; kind = 3; is_of_log = 1; page = 0 }
step_of size SyncDatabase = record { at = 0; length = 0; kind = 4; is_of_log = 0; page = 0 }
step_of size SyncLog = record { at = 0; length = 0; kind = 4; is_of_log = 1; page = 0 }

-- the next step of a plan, and what is left behind it
pub record NextOf (old new : Plan) (step : Step) : Type 0 where
  pub does : Does
  pub left : left_in old ≡ does ∷ left_in new
  pub written : step ≡ step_of old.view.page_size does

-- the view of the files, as sqr_open hands it over
abbrev pub HasView : (db wal journal : List ℕ) → Plan → Type 0
HasView db wal journal plan = IsOpened db wal journal plan.view.page_size plan.view.pages plan.view.db.now plan.view.log.now plan.view.places.now

-- Of the files: no log counts, 0; a log with a front is folded, 1, or without one is emptied, 2; a hot journal is replayed, 3.
abbrev pub IsRecoveryOf : (db wal journal : List ℕ) → Plan → Type 0
IsRecoveryOf db wal journal plan =
    ((plan.recovery ≡ 0) × (¬ IsHot journal) × (wal ≡ []))
    ⊎ (((plan.recovery ≡ 1) × (front : ℕ) × IsLogged wal journal front × HasView db wal journal plan)
    ⊎ (((plan.recovery ≡ 2) × (¬ IsHot journal) × (wal ≢ []) × IsFront (named_size wal) wal 0 × (plan.view.places.now ≡ []))
    ⊎ ((plan.recovery ≡ 3) × IsHot journal × HasView db wal journal plan)))

-- nothing of it is done
pub record IsPlanned (db wal journal : List ℕ) (plan : Plan) : Type 0 where
  pub recovery : IsRecoveryOf db wal journal plan
  pub none : plan.done ≡ 0
