use Rattle.std.proofs.Common.{◌-◌, length, take, drop, refl, sym, ◌∙◌, ap, arith}
use Rattle.std.proofs.lemmas.List.{take_all, length-drop}
use Rattle.crashdisk.specs.Model.{state_of}
use Rattle.rig_play.specs.Names.{name_of}
use Rattle.rig_play.specs.declared.meta.Holds.{Holds}
use Rattle.rig_images.specs.Ways.{held_files}
use Rattle.rig_images.proofs.FilesHeldByName.{one_of}
use Rattle.rig_images.proofs.counts.held_files.Goals as goal

pub returns-in-File : goal.returns-in-File
returns-in-File c =
    let s = name_of c.args.name.now in
    let xs = c.files-files.result.now in
    let n = c.min.result in
    let from = take (length xs - n) (drop n xs) in
    one_of (λ d. state_of d) xs from (take c.min-in-File.result from) s.files c.in-File.i n c.min-in-File.result c.files-files.ensures c.min.ensures (take_all (length xs - n) (drop n xs) (omega (arith, length-drop n xs))) c.min-in-File.ensures refl
    ∙ sym (ap (λ (holds : Holds). held_files s holds) c.in-File.is)
