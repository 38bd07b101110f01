-- The pages that a log has, as they are copied into the database file, step by step (own).
use Rattle.std.specs.Prelude.{◌≡◌, ◌⊎◌, ℕ, ◌+◌, ◌-◌, ◌*◌, ◌<◌, ◌≤◌, List, length, Result}
use Rattle.sqval.specs.Bytes.{part}
use Rattle.sqval.specs.Database.{Database, page, file_page}
use Rattle.crashdisk.specs.State.{longest}
use Rattle.crashdisk.specs.Call.{DiskState, ArePresent, Change, write, set_len, sync}
use Rattle.crashdisk.specs.Keeps.{Later, TellsRefusal}
use Rattle.crashdisk.specs.declared.file.File.TheVariants.{Db, Log}
use Rattle.recovery.specs.declared.copying.Run.{Run}
use Rattle.recovery.specs.Phases.{Filling}
use Rattle.recovery.specs.Steps.{CopyAnswer}

-- An engine's kind of plan. So many bytes stand in its logs between two pages of a run. A plan takes so many steps; it is one of
-- a log, for pages of a size in a database of so many; the log lacks a page; and after the first steps a page has a content,
-- where the file was db.
pub record PlanKind (P : Type 0) : Type 1 where
  pub between : ℕ
  pub Takes : P → (count steps : ℕ) → Type 0
  pub IsOf : P → (size count : ℕ) → List ℕ → Type 0
  pub Lacks : P → (size : ℕ) → List ℕ → (p : ℕ) → Type 0
  pub Leaves : P → (size : ℕ) (db w : List ℕ) → (steps p : ℕ) → List ℕ → Type 0

-- one page or more, at most so many, of a database of so many pages
pub record IsWithin (count most : ℕ) (run : Run) : Type 0 where
  pub some : 1 ≤ run.count
  pub few : run.count ≤ most
  pub first : 1 ≤ run.page
  pub last : run.page - 1 + run.count ≤ count

-- the step behind those that are done copies nothing
abbrev pub Skips : {P : Type 0} → PlanKind P → P → (size count : ℕ) → List ℕ → (done : ℕ) → Type 0
Skips kind plan size count w done = (db : List ℕ) (p : ℕ) (content : List ℕ) → 1 ≤ p → p ≤ count → kind.Leaves plan size db w (done + 1) p content → kind.Leaves plan size db w done p content

-- The steps behind those that are done copy a run: it stands in the log, which has these pages, and no other page changes.
pub record Copies {P : Type 0} (kind : PlanKind P) (plan : P) (size count : ℕ) (w : List ℕ) (done : ℕ) (run : Run) : Type 0 where
  pub inside : run.at + (run.count - 1) * (size + kind.between) + size ≤ length w
  pub has : (j : ℕ) → j < run.count → kind.Lacks plan size w (run.page + j) → ⊥
  pub put : (db : List ℕ) (j : ℕ) (content : List ℕ) → j < run.count → kind.Leaves plan size db w (done + run.count) (run.page + j) content → content ≡ part w (run.at + j * (size + kind.between)) size
  pub apart : (db : List ℕ) (p : ℕ) (content : List ℕ) → 1 ≤ p → p ≤ count → (p < run.page) ⊎ (run.page + run.count ≤ p) → kind.Leaves plan size db w (done + run.count) p content → kind.Leaves plan size db w done p content

-- Of the database file: whole pages, one or more one behind the other, at the place of the first, and a length of whole
-- pages, both within so many bytes.
abbrev pub MayFill : (most size : ℕ) → Change → Type 0
MayFill most size (write Db at bytes) = (p : ℕ) × (k : ℕ) × (at ≡ p * size) × (1 ≤ k) × (length bytes ≡ k * size) × (at + length bytes ≤ most)
MayFill most size (set_len Db n) = (count : ℕ) × (n ≡ count * size) × (n ≤ most)
MayFill most size (sync Db) = ⊥
MayFill most size (write Log at bytes) = ⊥
MayFill most size (set_len Log n) = ⊥
MayFill most size (sync Log) = ⊥

-- before the first step each page is the file's
abbrev pub Begins : {P : Type 0} → PlanKind P → P → (size : ℕ) (db w : List ℕ) → Type 0
Begins kind plan size db w = (p : ℕ) (content : List ℕ) → 1 ≤ p → kind.Leaves plan size db w 0 p content → content ≡ file_page size db p

-- d has so many pages, each as all steps leave it
pub record IsMade {P : Type 0} (kind : PlanKind P) (plan : P) (size count : ℕ) (db w : List ℕ) (d : Database) : Type 0 where
  pub begins : Begins kind plan size db w
  pub long : length d ≡ count
  pub each : (steps p : ℕ) → kind.Takes plan count steps → 1 ≤ p → p ≤ count → kind.Leaves plan size db w steps p (page d p)

-- the pages are copied as planned, and the length is set to so many
pub record CopiesPages {P T E : Type 0} (device : E) (kind : PlanKind P) (plan : P) (size count : ℕ) (result : Result T E) (old new : DiskState) : Type 0 where
  pub later : (most : ℕ) → count * size ≤ most → Later (MayFill most size) old new
  pub log : (new.log ≡ old.log) × (new.kept ≡ old.kept) × (new.handed ≡ old.handed)
  pub told : TellsRefusal device result old new
  pub pages : (db w : List ℕ) (d : Database) → ArePresent old.db db → ArePresent old.log w → kind.IsOf plan size count w → count * size ≤ longest → IsMade kind plan size count db w d → CopyAnswer device size d result old new
  pub filling : (w : List ℕ) (d : Database) → ArePresent old.log w → kind.IsOf plan size count w → length d ≡ count → Filling size d (kind.Lacks plan size w) old → Filling size d (kind.Lacks plan size w) new
