use Rattle.std.proofs.Common.{◌≡◌, take}
use Rattle.sqwal.specs.Took.{TookWithin}
use Rattle.sqjournal.specs.Journal.{IsHot}
use Rattle.cli_show_diff.specs.Changes.{texts_of}
use Rattle.cli_history.specs.History.{AreCommitsPrinted, AreGiven, bytes_of, last_of}
use Rattle.cli_history.proofs.commits.print_commits.Given as goal

abbrev pub invariant-loop-frame : goal.invariant-loop-frame
invariant-loop-frame g l = record {
  last : l.before ≡ last_of l.from (take l.frame-index l.frames);
  taken : AreGiven g.F.FileBytes.reads_right l.files → TookWithin l.told.limits.frames (g.F.FileBytes.bytes l.files.wal) l.told.scan.now
      → ¬ IsHot (g.F.FileBytes.bytes l.files.journal)
      → AreCommitsPrinted (bytes_of g.F.FileBytes.bytes l.files) l.told.front (texts_of l.told.selected.names.now) l.told.form l.from (take l.frame-index l.frames)
      (g.W.Write.contents l.fn.out) (g.W.Write.contents l.out);
}
