use Rattle.std.proofs.Common.{◌<◌, length, set, map, refl, ◌∙◌, ap, arith}
use Rattle.std.proofs.lemmas.List.{length-map, map-set}
use Rattle.std.proofs.lemmas.Option.{slice_get-map, slice_get_read}
use Rattle.std.specs.Option.{option_map}
use Rattle.rig_play.specs.Plays.{Files, files_of}
use Rattle.rig_play.specs.declared.player.Player.{Player}
use Rattle.rig_store.proofs.store.Store.go.Goals as goal

pub returns-clause-does : goal.returns-clause-does
returns-clause-does c =
    let f : Player → Files = λ p. files_of p in
    let xs = c.args.self.now.files.items in
    let i = c.args.file in
    let was = c.index_mut.result.now in
    let now = c.play.new.self in
    let less : i < length xs = omega (arith, c.if-i-len.false, c.len.ensures, c.args.self.now.files.ok) in (
      map f (set xs i now),
      omega (arith, less, length-map xs f),
      (
        f was,
        f now,
        slice_get-map f xs i ∙ ap (λ o. option_map f o) (slice_get_read xs (length xs) i was refl less c.index_mut.ensures.value),
        c.in_ok-play.ensures.step,
        map-set f xs i now,
      ),
      refl,
    )
