-- A record is played, by whether its call is kept (own).
use Rattle.std.specs.Prelude.{◌≡◌, ℕ, ◌+◌, List}
use Rattle.rig_play.specs.Plays.{Step}
use Rattle.rig_play.specs.declared.trace.Record.{Record}
use Rattle.sqcrash.specs.Runs.{RunState, KeepsChange}

-- its call is kept
pub record GoesKept (sector : ℕ) (b : List ℕ) (r : Record) (old new : RunState) : Type 0 where
  pub step : Step b r old.files new.files
  pub keeps : KeepsChange sector (old.played + 1) b r old.files new.files old.kept new.kept
  pub rest : new ≡ record old { files = new.files; played = old.played + 1; kept = new.kept }

-- it isn't
pub record GoesPlain (b : List ℕ) (r : Record) (old new : RunState) : Type 0 where
  pub step : Step b r old.files new.files
  pub rest : new ≡ record old { files = new.files; played = old.played + 1 }
