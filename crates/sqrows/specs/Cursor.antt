-- What a cursor still gives (own).
use Rattle.std.specs.Prelude.{◌≡◌, ℕ, ◌+◌, ◌-◌, ◌≤◌, Bool, true, false, List, [], ◌∷◌, ◌++◌, length, take, reverse}
use Rattle.sqval.specs.Database.{Database}
use Rattle.sqpage.specs.Freelist.{usable_size}
use Rattle.sqpage.specs.Lists.{each_from}
use Rattle.sqpage.specs.Page.{Page, cell_count}
use Rattle.sqcheck.specs.Places.{IsCellAt}
use Rattle.sqrows.specs.declared.level.Level.{Level}
use Rattle.sqrows.specs.declared.level.Step.{Step}
use Rattle.sqrows.specs.declared.cells.Cells.{Cells}
use Rattle.sqpage.specs.declared.cell.Cell.{Cell}
use Rattle.sqrows.specs.Trees.{Entry, entry_of, step_count, step_of, Along, Lists}

-- the page of a level, and the steps in it that come next
abbrev pub page_of : Level → Page
page_of l = record { used = take l.usable l.bytes.items; number = l.number; kind = l.kind }

abbrev pub steps_of : Level → ℕ
steps_of l = step_count l.kind (cell_count (page_of l))

abbrev pub steps_left : Level → List Step
steps_left l = each_from l.index (steps_of l - l.index) (step_of l.kind)

-- What comes along the steps that are left, of the lowest level first.
abbrev pub Left : Database → (table : Bool) → List Level → (k : ℕ) → List Entry → Type 0
Left d table [] k xs = (k ≡ 0) × (xs ≡ [])
Left d table (l ∷ ls) k xs =
    (n m : ℕ) × (first : List Entry) × (more : List Entry) × Along (Lists d table (19 - length ls)) (page_of l) (steps_left l) n first
    × Left d table ls m more × (k ≡ n + m) × (xs ≡ first ++ more)

-- The cursor takes as much of each page as this database says.
abbrev pub IsOver : Database → Cells → Type 0
IsOver d cells = cells.usable ≡ usable_size d

-- The cursor stands before these cells: they are what is left of its tree, in no more pages than it may still read.
pub record IsLeft (d : Database) (cells : Cells) (xs : List Entry) : Type 0 where
  pub pages : ℕ
  pub within : pages ≤ cells.allowed
  pub usable : cells.usable ≡ usable_size d
  pub along : Left d cells.table (cells.top ∷ reverse cells.above.items) pages xs

-- The cursor came to this cell last.
pub record IsAt (cells : Cells) (e : Entry) : Type 0 where
  pub cell : Cell
  pub is : IsCellAt (page_of cells.top) cells.at cell
  pub entry : e ≡ entry_of cells.at cell

-- Where these were left the cursor came to the first one, and the others are left now; or there was none.
abbrev pub Moves : Database → (found : Bool) → List Entry → Cells → Type 0
Moves d false xs cells = xs ≡ []
Moves d true xs cells = (e : Entry) × (rest : List Entry) × (xs ≡ e ∷ rest) × IsAt cells e × IsLeft d cells rest
