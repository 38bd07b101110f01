use Rattle.std.proofs.Common.{inl}
use Rattle.crashdisk.specs.Model.{state_of}
use Rattle.rig_play.specs.Names.{name_of}
use Rattle.rig_families.proofs.HeldFiles.{file_held}
use Rattle.rig_families.proofs.puts.put_file.Goals as goal

pub returns : goal.returns
returns c =
    let f = state_of c.in-Some.disk.now in
    let made = c.in_ok-put_image.ensures in
    ((f, c.in-Some.ensures, made.0), inl (f, file_held (name_of c.args.name.now) c.args.holds c.args.version.now.file f c.in-Some.ensures, made.1))
