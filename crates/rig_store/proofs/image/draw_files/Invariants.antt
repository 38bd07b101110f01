use Rattle.std.proofs.Common.{take, map}
use Rattle.rig_play.specs.Plays.{files_of}
use Rattle.rig_store.specs.Left.{AreLeft}
use Rattle.rig_store.proofs.image.draw_files.Given as goal

abbrev pub invariant-loop-file : goal.invariant-loop-file
invariant-loop-file g l = AreLeft (map (λ p. files_of p) (take l.file-index l.files)) (map (λ v. v.items) l.contents.items)
