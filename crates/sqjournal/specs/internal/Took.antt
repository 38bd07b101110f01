-- What a replay of a journal is after the bytes that came so far, and what its calls answer (own).
use Rattle.std.specs.Prelude.{ℕ, List, ◌++◌}
use Rattle.sqjournal.specs.Reading.{Stands, Keeps}
use Rattle.sqjournal.specs.declared.reading.Reading.{Reading}
use Rattle.sqjournal.specs.declared.replay.Replay.{Replay}

-- of the helpers alone: a first header, judged before or now, and the piece after the bytes can be read
pub record GoesOn (b piece : List ℕ) (s : Replay) (r : Reading) : Type 0 where
  pub stands : Stands (b ++ piece) r s.records.items
  pub keeps : Keeps b r s.begun.items
