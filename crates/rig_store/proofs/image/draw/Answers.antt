use Rattle.std.proofs.Common.{ℕ, List, map, sym, subst}
use Rattle.std.proofs.lemmas.Result.{IfOk-weaker}
use Rattle.rig_play.specs.Plays.{Files, files_of}
use Rattle.rig_play.specs.declared.player.Player.{Player}
use Rattle.rig_store.specs.Left.{AreLeft, image_of}
use Rattle.rig_store.specs.Names.{is_ordered}
use Rattle.rig_store.specs.Stores.{store_of}
use Rattle.rig_store.specs.internal.Showing.{StandBy}
use Rattle.rig_store.proofs.NamesShown.{left_image}
use Rattle.rig_store.proofs.image.draw.Goals as goal

pub returns : goal.returns
returns g c =
    let f : Player → Files = λ p. files_of p in
    let s = store_of c.args.store.now in
    let contents = map (λ v. v.items) c.deref-2.result.now in
    let left : AreLeft s.files (map (λ v. v.items) c.in_ok-contents.contents.items) =
    subst (λ (files : List Player). AreLeft (map f files) (map (λ v. v.items) c.in_ok-contents.contents.items)) c.deref.ensures.value c.in_ok-contents.ensures in
    let stands = c.deref-3.result.now in
    let by : StandBy (is_ordered s.meta) s stands = subst (λ (l : List ℕ). StandBy (is_ordered s.meta) s l) (sym c.deref-3.ensures.value) c.in_ok-stands.ensures in
    IfOk-weaker c.show.result _ _ (λ image shown. left_image s contents stands (image_of image)
    (subst (λ l. AreLeft s.files (map (λ v. v.items) l)) (sym c.deref-2.ensures.value) left) by shown) c.show.ensures
