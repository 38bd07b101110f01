-- The steps of a recovery, in their order (fileformat2, 3 and 4.3; zeros and syncs are own).
use Rattle.std.specs.Prelude.{ℕ, zero, suc, ◌+◌, ◌-◌, ◌*◌, ◌==◌, cond, List, [], ◌∷◌, ◌++◌, drop, replicate}
use Rattle.std.specs.List.{flat_map, range_with_len}
use Rattle.sqval.specs.Database.{page}
use Rattle.crashdisk.specs.Call.{Change, write, set_len, sync}
use Rattle.crashdisk.specs.declared.file.File.TheVariants.{Db, Log}
use Rattle.sqview.specs.Laid.{laid, place_of}
use Rattle.sqplan.specs.declared.plan.Plan.{Plan}
use Rattle.sqplan.specs.declared.plan.Recovery.{Recovery}
use Rattle.sqplan.specs.declared.plan.Recovery.TheVariants.{Nothing, Fold, Empty, RollBack}
use Rattle.sqplan.specs.declared.plan.Step.{Step}
use Rattle.sqplan.specs.declared.plan.Step.TheVariants.{WritePage, SetLength, SyncDatabase, ZeroHeader, CutLog, SyncLog}

-- a step as a call of a disk, of a file and a log over which pages lie
abbrev pub call_of : (size count : ℕ) (file log places : List ℕ) → Step → Change
call_of size count file log places (WritePage p) = write Db ((p - 1) * size) (page (laid size count file log places) p)
call_of size count file log places (SetLength n) = set_len Db n
call_of size count file log places SyncDatabase = sync Db
call_of size count file log places (ZeroHeader n) = write Log 0 (replicate n 0)
call_of size count file log places CutLog = set_len Log 0
call_of size count file log places SyncLog = sync Log

-- each page from p on that lies in the log
abbrev pub pages_from : Plan → (p : ℕ) → List Step
pages_from plan p = flat_map (λ q. cond (place_of plan.places.now q == 0) [] (WritePage q ∷ [])) (range_with_len p (plan.pages + 1 - p))

-- The end: the file has its length and is durable, then the log's header is zeros for good, and last a write-ahead log is
-- empty for good.
abbrev pub ending : Recovery → (length : ℕ) → List Step
ending Nothing n = []
ending Fold n = SetLength n ∷ SyncDatabase ∷ ZeroHeader 32 ∷ SyncLog ∷ CutLog ∷ SyncLog ∷ []
ending Empty n = SyncDatabase ∷ ZeroHeader 32 ∷ SyncLog ∷ CutLog ∷ SyncLog ∷ []
ending RollBack n = SetLength n ∷ SyncDatabase ∷ ZeroHeader 28 ∷ SyncLog ∷ []

-- The steps that are left where nothing was done, where the pages before page suc n were written, or where so much of the
-- end was done as n is behind the last page.
abbrev pub left_of : Recovery → Plan → (done : ℕ) → List Step
left_of Nothing plan done = []
left_of recovery plan zero = SyncLog ∷ (pages_from plan 1 ++ ending recovery (plan.pages * plan.page_size))
left_of recovery plan (suc n) = pages_from plan (suc n) ++ drop (n - plan.pages) (ending recovery (plan.pages * plan.page_size))

abbrev pub steps_left : Plan → (done : ℕ) → List Step
steps_left plan done = left_of plan.recovery plan done
