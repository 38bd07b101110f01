use Rattle.std.proofs.Common.{take, map}
use Rattle.rig_play.specs.Plays.{files_of}
use Rattle.rig_store.specs.Left.{AreNow}
use Rattle.rig_store.proofs.image.present_files.Given as goal

abbrev pub invariant-loop-file : goal.invariant-loop-file
invariant-loop-file l = AreNow (map (λ p. files_of p) (take l.file-index l.files)) (map (λ v. v.items) l.contents.items)
