-- What the theorem on runs rests on: a disk that tears puts no header of a journal together. A disk that doesn't tear
-- needs nothing (own).
use Rattle.std.specs.Prelude.{List, [], ◌∷◌, Some}
use Rattle.sqval.specs.Runs.{Moment}
use Rattle.rollcore.specs.Alone.{AreWhole}
use Rattle.rollcore.specs.Machine.{Act, Crashes}

-- the premise at one moment
abbrev pub Permits : Act → Type 0
Permits (Crashes (Some c)) = AreWhole c.kept c.handed c.log
Permits _ = Unit {0}

-- and at each moment
abbrev pub Holds : List (Moment Act) → Type 0
Holds [] = Unit {0}
Holds (m ∷ ms) = Permits m.act × Holds ms
