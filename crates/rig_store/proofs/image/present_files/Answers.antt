use Rattle.rig_play.specs.Names.{file_now, ArePresentOf}
use Rattle.rig_play.specs.Plays.{Files, files_of}
use Rattle.rig_play.specs.declared.player.Player.{Player}
use Rattle.rig_store.proofs.ListsThatGrow.{has_next}
use Rattle.rig_store.proofs.image.present_files.Goals as goal

pub loop-file-preserved : goal.loop-file-preserved
loop-file-preserved c =
    let f : Player → Files = λ p. files_of p in
    has_next (λ s bytes. ArePresentOf (file_now s.db) bytes) f (λ v. v.items) c.args.files.now c.loop-file.file-index c.file-item.result c.loop-file.contents.items c.push.new.self.items c.in_ok-present_file.field-0
    c.loop-file-test.true c.file-item.is c.loop-file.invariant c.in_ok-present_file.ensures c.in_ok-push.ensures.items
