use Rattle.std.proofs.Common.{Bool, subst}
use Rattle.std.specs.Prelude.{MatchBool}
use Rattle.rig_play.specs.Plays.{files_of}
use Rattle.rig_images.specs.Torn.{MayLeaveTorn, NoneTears}
use Rattle.rig_images.specs.declared.torn.Which.TheVariants.{Db}
use Rattle.rig_store.proofs.NamesWithTornFiles.{left_torn}
use Rattle.rig_store.proofs.torn.draw_torn_file.Goals as goal

pub returns-then-not-torn : goal.returns-then-not-torn
returns-then-not-torn g c =
    let f = files_of c.args.file.now in
    subst (λ (b : Bool). MatchBool b (MayLeaveTorn f Db c.draw_torn.new.image) (NoneTears f Db)) c.if-not-torn.true c.in-Ok.ensures

pub returns : goal.returns
returns g c =
    let f = files_of c.args.file.now in
    left_torn f c.draw_torn.new.image (subst (λ (b : Bool). MatchBool b (MayLeaveTorn f Db c.draw_torn.new.image) (NoneTears f Db)) c.if-not-torn.false c.in-Ok.ensures)
