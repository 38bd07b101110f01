-- A cursor over rows behind the first ones (own).
use Rattle.std.specs.Prelude.{◌≡◌, ℕ, List, ◌∷◌, ◌++◌}
use Rattle.sqval.specs.Database.{Database}
use Rattle.sqrows.specs.declared.rows.Rows.{Rows}
use Rattle.sqrows.specs.Trees.{Entry, IsTree}
use Rattle.sqrows.specs.Cursor.{IsLeft}
use Rattle.sqrows.specs.Rows.{Row, IsRowIn, AreRows}

-- Where the tree is sound, these are the rows in its first cells, and the cursor stands behind them.
abbrev pub ArePassed : Database → (root : ℕ) → Rows → List Row → Type 0
ArePassed d root cursor rows = (xs : List Entry) → IsTree d root xs
    → (firsts : List Entry) × (more : List Entry) × AreRows d firsts rows × IsLeft d cursor.cells more × (xs ≡ firsts ++ more)

-- Where these cells were left the cursor passed the first one, in which this row is.
abbrev pub Passes : Database → (old new : Rows) → Row → Type 0
Passes d old new row = (xs : List Entry) → IsLeft d old.cells xs → (e : Entry) × (rest : List Entry) × (xs ≡ e ∷ rest) × IsRowIn d e row × IsLeft d new.cells rest
