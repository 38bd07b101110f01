-- What a check keeps between its walks (own). No public contract cites these words.
use Rattle.std.specs.Prelude.{◌≡◌, ℕ, ◌-◌, ◌⊎◌, List, [], ◌++◌, length, Bool, true, false, Result, MatchResult}
use Rattle.sqval.specs.Bytes.{word}
use Rattle.sqval.specs.Database.{Database, page}
use Rattle.sqpage.specs.declared.fault.CheckError.{CheckError}
use Rattle.sqpage.specs.declared.header.DbHeader.{DbHeader}
use Rattle.sqpage.specs.internal.Taking.{is_marked}
use Rattle.sqpage.specs.Freelist.{IsWithin, usable_size, first_trunk, free_pages}
use Rattle.sqpage.specs.PointerMaps.{IsPointerMap}
use Rattle.sqcheck.specs.declared.node.Walk.{Walk}
use Rattle.sqcheck.specs.declared.uses.Uses.{Uses}
use Rattle.sqcheck.specs.declared.report.Report.{Report}
use Rattle.sqcheck.specs.declared.role.Role.{Role}
use Rattle.sqcheck.specs.declared.snapshot.Snapshot as snapshots
use Rattle.sqcheck.specs.Places.{Spot}
use Rattle.sqcheck.specs.Roles.{Visit, Told, AreRoles}
use Rattle.sqcheck.specs.internal.Roles.{TellsOf}
use Rattle.sqcheck.specs.WellFormed.{IsAutoVacuum, WellFormedWith, IsReport}
use Rattle.sqcheck.specs.internal.Agenda.{Stood, StandsNow, MarksAside}

-- the places that it visited and those that are still to be followed
abbrev pub Visited : Database → (late : Bool) → (visited rest : List Spot) → Uses → Walk → Type 0
Visited d late visited rest uses walk = Stood d late visited rest uses.marks.items walk.rows.items uses.counts

-- More places were visited than these, and the visitor was told of them.
abbrev pub VisitsMore : {A : Type 0} (saw : A → ℕ → Role → A → Type 0) → Database → (late : Bool) → (visited rest : List Spot) → Uses → Walk → (old new : A) → Type 0
VisitsMore saw d late visited rest uses walk old new = (more : List Spot) × Visited d late (visited ++ more) rest uses walk × TellsOf saw d old more new

-- The fault stands at its page, unless a page couldn't be read.
abbrev pub StandsAt : {V : Type 0} → snapshots.Ghosts V → CheckError → Type 0
StandsAt v e = StandsNow v.given v.pages e.fault e.page

-- A walk visited more places than these and told the visitor of them, or ended at a fault that stands.
abbrev pub Walks : {V A B : Type 0} → snapshots.Ghosts V → (saw : A → ℕ → Role → A → Type 0) → Result B CheckError → (late : Bool) → (visited rest : List Spot) → Uses → Walk → (old new : A) → Type 0
Walks v saw result late visited rest uses walk old new = MatchResult result (λ _. VisitsMore saw v.pages late visited rest uses walk old new) (StandsAt v)

-- The database is well formed, the report is its, and the visitor was told of each page once, and its role.
abbrev pub IsReportOf : {A : Type 0} (saw : A → ℕ → Role → A → Type 0) → (maps : Bool) → Database → (size : ℕ) → (old new : A) → Report → Type 0
IsReportOf saw maps d size old new report = (w : WellFormedWith maps d size) × IsReport d w.places report × (visits : List Visit) × Told saw old visits new × AreRoles d size visits

-- Marked is page `lock`, where there is one, and no other.
abbrev pub MarksOne : (marks : List Bool) → (lock : ℕ) → Type 0
MarksOne marks lock = (p : ℕ) → IsWithin (length marks) p → (is_marked marks p ≡ true → p ≡ lock) × (p ≡ lock → is_marked marks p ≡ true)

-- Marked besides are the pointer maps.
abbrev pub MarksMaps : (size usable : ℕ) → (old new : List Bool) → Type 0
MarksMaps size usable old new = (p : ℕ) → IsWithin (length old) p
    → (is_marked new p ≡ true → (is_marked old p ≡ true) ⊎ IsPointerMap size usable p) × ((is_marked old p ≡ true) ⊎ IsPointerMap size usable p → is_marked new p ≡ true)

-- nothing was visited
pub record IsNew (d : Database) (uses : Uses) (walk : Walk) : Type 0 where
  pub marks : MarksAside d uses.marks.items
  pub rows : walk.rows.items ≡ []
  pub trees : uses.counts.trees ≡ 0
  pub btree : uses.counts.btree ≡ 0
  pub overflow : uses.counts.overflow ≡ 0
  pub free : uses.counts.free ≡ 0
  pub largest : uses.counts.largest_root ≡ 0

-- the freelist and the largest root that the header names
pub record HasLists (h : DbHeader) (d : Database) : Type 0 where
  pub first : h.first_trunk ≡ first_trunk d
  pub said : h.free_pages ≡ free_pages d
  pub largest : h.largest_root ≡ word (page d 1) 52

-- Of a database is known how long its pages are, how many bytes at their end aren't used, and where pointer maps are used
-- that it has them. Where its header was judged, it has none otherwise.
pub record KnowsMaps (d : Database) (judged : Type 0) (used : Bool) (size reserved : ℕ) : Type 0 where
  pub long : length (page d 1) ≡ size
  pub usable : usable_size d ≡ size - reserved
  pub auto : used ≡ true → IsAutoVacuum d
  pub plain : judged → used ≡ false → word (page d 1) 52 ≡ 0
