-- What the parts of the copying of pages answer (own).
use Rattle.std.specs.Prelude.{◌≡◌, ℕ, ◌+◌, ◌-◌, ◌*◌, ◌<◌, ◌≤◌, List, get_or, Result, Ok, Err}
use Rattle.sqval.specs.Database.{Database}
use Rattle.crashdisk.specs.State.{byte, longest}
use Rattle.crashdisk.specs.Call.{DiskState, ArePresent, HasCalls}
use Rattle.crashdisk.specs.Keeps.{TellsRefusal, HadRefusal}
use Rattle.crashdisk.specs.internal.Keeps.{KeepsLog}
use Rattle.recovery.specs.Copying.{PlanKind, MayFill}
use Rattle.recovery.specs.Phases.{Filling}

-- each page of the file is what so many steps leave
abbrev pub Upto : {P : Type 0} → PlanKind P → P → (size count : ℕ) (db w : List ℕ) → (steps : ℕ) → DiskState → Type 0
Upto kind plan size count db w steps s = (p : ℕ) (content : List ℕ) → 1 ≤ p → p ≤ count → kind.Leaves plan size db w steps p content → (j : ℕ) → j < size → byte s.db ((p - 1) * size + j) ≡ get_or content j 0

-- so many steps more are done
unfoldable pub RunAnswer : {P E : Type 0} → (device : E) → PlanKind P → P → (size count : ℕ) (db w : List ℕ) → (done : ℕ) → Result ℕ E → (old new : DiskState) → Type 0
RunAnswer device kind plan size count db w done (Ok k) old new = Upto kind plan size count db w (done + k) new
RunAnswer device kind plan size count db w done (Err e) old new = (e ≡ device) × HadRefusal old new

-- the next steps are done
pub record CopiesRun {P E : Type 0} (device : E) (kind : PlanKind P) (plan : P) (size count done : ℕ) (result : Result ℕ E) (old new : DiskState) : Type 0 where
  pub log : KeepsLog old new
  pub calls : (most : ℕ) → count * size ≤ most → HasCalls (MayFill most size) old new
  pub told : TellsRefusal device result old new
  pub pages : (db w : List ℕ) → ArePresent old.log w → kind.IsOf plan size count w → count * size ≤ longest → Upto kind plan size count db w done old → RunAnswer device kind plan size count db w done result old new
  pub filling : (w : List ℕ) (d : Database) → ArePresent old.log w → kind.IsOf plan size count w → Filling size d (kind.Lacks plan size w) old → Filling size d (kind.Lacks plan size w) new
