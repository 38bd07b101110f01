-- The databases that an engine's commits made one after another (own).
use Rattle.std.specs.Prelude.{ℕ, ◌-◌, List, [], length, get_or}
use Rattle.sqval.specs.Database.{Database}

-- the place of the newest
abbrev pub last : List Database → ℕ
last history = length history - 1

-- the database at a place, from 0
abbrev pub at : List Database → ℕ → Database
at history i = get_or history i []

-- the one that was made last
abbrev pub newest : List Database → Database
newest history = at history (last history)
