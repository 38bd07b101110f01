use Rattle.sqview.specs.Shapes.{shape_of}
use Rattle.cli_show_frames.proofs.all.print_all_deleted.Given as goal

abbrev pub ghosts-print_seen : goal.ghosts-print_seen
ghosts-print_seen g a = record { shape = shape_of g.F.FileBytes.bytes a.view }
