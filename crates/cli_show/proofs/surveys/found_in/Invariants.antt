use Rattle.sqview.specs.Shapes.{shape_of}
use Rattle.cli_show.proofs.surveys.found_in.Given as goal

abbrev pub ghosts-found_held : goal.ghosts-found_held
ghosts-found_held g a = record { shape = shape_of g.F.FileBytes.bytes a.view }
