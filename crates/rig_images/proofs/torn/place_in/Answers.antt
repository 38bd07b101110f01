use Rattle.std.proofs.Common.{◌≡◌, List, map, refl, ◌∙◌, ap}
use Rattle.crashdisk.specs.Call.{DiskState}
use Rattle.crashdisk.specs.Model.{state_of}
use Rattle.rig_play.specs.Names.{NameState}
use Rattle.rig_play.specs.Plays.{files_of}
use Rattle.rig_play.specs.declared.meta.Holds.{Holds}
use Rattle.rig_images.specs.Torn.{name_in, holds_in}
use Rattle.rig_images.specs.Ways.{held_files}
use Rattle.rig_images.proofs.TearingPlaces.{none_held, place_held}
use Rattle.rig_images.proofs.torn.place_in.Goals as goal

pub returns-in-Some : goal.returns-in-Some
returns-in-Some g c =
    let s = files_of c.args.player.now in
    let w = c.args.which in
    let files = c.held_files-files.result.now in
    let held = held_files (name_in w s) (holds_in w c.args.epoch) in
    let same : map (λ d. state_of d) files ≡ held =
    c.held_files-files.ensures ∙ ap (λ (n : NameState). held_files n c.holds.result) c.name.ensures ∙ ap (λ (h : Holds). held_files (name_in w s) h) c.holds.ensures in
    (refl, place_held files held c.in-Some.disk.now same c.in-Some.ensures.0, c.in-Some.ensures.1)

pub returns-in-None : goal.returns-in-None
returns-in-None g c =
    let s = files_of c.args.player.now in
    let w = c.args.which in
    let files = c.held_files-files.result.now in
    let held = held_files (name_in w s) (holds_in w c.args.epoch) in
    let same : map (λ d. state_of d) files ≡ held =
    c.held_files-files.ensures ∙ ap (λ (n : NameState). held_files n c.holds.result) c.name.ensures ∙ ap (λ (h : Holds). held_files (name_in w s) h) c.holds.ensures in
    none_held files held same c.in-None.ensures
