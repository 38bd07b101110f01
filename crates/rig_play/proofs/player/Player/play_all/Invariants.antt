use Rattle.std.proofs.Common.{take}
use Rattle.rig_play.specs.Plays.{files_of, Plays}
use Rattle.rig_play.proofs.player.Player.play_all.Given as goal

abbrev pub invariant-loop-record : goal.invariant-loop-record
invariant-loop-record l = Plays l.trace (take l.record-index l.records) (files_of l.fn.self) (files_of l.self)
