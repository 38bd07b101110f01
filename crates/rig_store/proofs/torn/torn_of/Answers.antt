use Rattle.std.proofs.Common.{◌≡◌, ◌<◌, length, map, Option, Some, refl, sym, ◌∙◌, ap, subst, arith}
use Rattle.std.specs.Prelude.{slice_get, option_map}
use Rattle.std.proofs.lemmas.List.{length-map}
use Rattle.std.proofs.lemmas.Option.{same_Some, slice_get-map, slice_get_read, slice_get_within}
use Rattle.std.proofs.lemmas.Result.{IfOk-weaker}
use Rattle.rig_play.specs.Plays.{Files, files_of}
use Rattle.rig_play.specs.declared.player.Player.{Player}
use Rattle.rig_images.specs.Torn.{NoneTears}
use Rattle.rig_images.specs.declared.torn.Which.TheVariants.{Db}
use Rattle.rig_store.specs.Torn.{IsLeftTorn}
use Rattle.rig_store.proofs.NamesWithTornFiles.{found_weaker}
use Rattle.rig_store.proofs.torn.torn_of.Goals as goal

pub returns-then-i-len : goal.returns-then-i-len
returns-then-i-len g c = λ f there.
    let files = c.args.store.now.files.items in
    let less : c.args.number < length (map (λ p. files_of p) files) = slice_get_within (map (λ p. files_of p) files) c.args.number f there in
    absurd (omega (arith, less, length-map files (λ p. files_of p), c.if-i-len.true, c.len.ensures))

pub returns : goal.returns
returns g c =
    let files = c.args.store.now.files.items in
    let f : Player → Files = λ p. files_of p in
    let i = c.args.number in
    let x = c.index.result.now in
    let at : slice_get files i ≡ Some x = slice_get_read files (length files) i x refl (omega (arith, c.if-i-len.false, c.len.ensures)) c.index.ensures in
    let there : slice_get (map f files) i ≡ Some (f x) = slice_get-map f files i ∙ ap (λ (o : Option Player). option_map f o) at in
    let other : (y : Files) → slice_get (map f files) i ≡ Some y → f x ≡ y = λ y is. same_Some _ _ (sym there ∙ is) in
    IfOk-weaker c.draw_torn_file.result _ _ (λ found is. found_weaker found (NoneTears (f x) Db) ((y : Files) → slice_get (map f files) i ≡ Some y → NoneTears y Db) (λ v. IsLeftTorn (f x) v.items)
    (λ v. (y : Files) × (slice_get (map f files) i ≡ Some y) × IsLeftTorn y v.items)
    (λ none y be. subst (λ (z : Files). NoneTears z Db) (other y be) none) (λ v torn. (f x, there, torn)) is) c.draw_torn_file.ensures
