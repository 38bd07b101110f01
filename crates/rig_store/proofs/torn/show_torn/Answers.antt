use Rattle.std.proofs.Common.{◌≡◌, ℕ, List, get_or, map, set, sym, ◌∙◌, ap, subst, arith}
use Rattle.std.proofs.lemmas.List.{length-map, map-set}
use Rattle.std.proofs.lemmas.Option.{slice_get_within}
use Rattle.std.proofs.lemmas.Result.{IfOk-weaker}
use Rattle.rig_play.specs.Plays.{Files, files_of}
use Rattle.rig_play.specs.declared.player.Player.{Player}
use Rattle.rig_store.specs.Left.{AreLeft, IsLeft, image_of}
use Rattle.rig_store.specs.Names.{is_ordered}
use Rattle.rig_store.specs.Stores.{store_of}
use Rattle.rig_store.specs.internal.Showing.{AreShown, StandBy}
use Rattle.rig_store.proofs.NamesWithTornFiles.{has_length, torn_image}
use Rattle.rig_store.proofs.torn.show_torn.Goals as goal

pub index_mut-requires : goal.index_mut-requires
index_mut-requires g c =
    let files = c.args.store.now.files.items in
    let f : Player → Files = λ p. files_of p in
    let contents = c.in_ok-contents.contents.items in
    let left : AreLeft (map f files) (map (λ v. v.items) contents) = subst (λ (l : List Player). AreLeft (map f l) (map (λ v. v.items) contents)) c.deref.ensures.value c.in_ok-contents.ensures in
    let long = has_length IsLeft (map f files) (map (λ v. v.items) contents) left in
    let there = slice_get_within (map f files) c.args.torn.file c.requires.state c.requires.there in
    omega (arith, long, there, length-map contents (λ v. v.items))

pub returns : goal.returns
returns g c =
    let files = c.args.store.now.files.items in
    let f : Player → Files = λ p. files_of p in
    let s = store_of c.args.store.now in
    let torn = c.args.torn in
    let before = c.in_ok-contents.contents.items in
    let texts = map (λ v. v.items) before in
    let left : AreLeft s.files texts = subst (λ (l : List Player). AreLeft (map f l) texts) c.deref.ensures.value c.in_ok-contents.ensures in
    let stands = c.deref-3.result.now in
    let by : StandBy (is_ordered s.meta) s stands = subst (λ (l : List ℕ). StandBy (is_ordered s.meta) s l) (sym c.deref-3.ensures.value) c.in_ok-stands.ensures.by in
    let own : get_or stands torn.name 0 ≡ torn.stand = ap (λ (l : List ℕ). get_or l torn.name 0) c.deref-3.ensures.value ∙ c.in_ok-stands.ensures.own in
    let shown_are : map (λ v. v.items) c.deref-2.result.now ≡ set texts torn.file torn.bytes.items = ap (λ l. map (λ v. v.items) l) c.deref-2.ensures.value ∙ map-set (λ v. v.items) before torn.file torn.bytes in
    IfOk-weaker c.show.result _ _ (λ image shown. torn_image s torn texts stands (image_of image) c.requires left by own
    (subst (λ (l : List (List ℕ)). AreShown s l stands s.names (image_of image)) shown_are shown)) c.show.ensures
