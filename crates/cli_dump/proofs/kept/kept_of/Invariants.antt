use Rattle.std.proofs.Common.{◌≡◌, ◌≤◌, length, take}
use Rattle.sqwal.specs.Took.{TookWithin}
use Rattle.sqjournal.specs.Journal.{IsHot}
use Rattle.cli_show_diff.specs.Changes.{texts_of}
use Rattle.cli_history.specs.History.{AreGiven, bytes_of, last_of}
use Rattle.cli_dump.specs.Kept.{IsTextOfCommits}
use Rattle.cli_dump.proofs.kept.kept_of.Given as goal

abbrev pub invariant-loop-frame : goal.invariant-loop-frame
invariant-loop-frame g l = record {
  last : l.before ≡ last_of l.from (take l.frame-index l.frames);
  within : length l.text.items ≤ l.most;
  told : AreGiven g.F.FileBytes.reads_right l.files → TookWithin l.told.limits.frames (g.F.FileBytes.bytes l.files.wal) l.told.scan.now
      → ¬ IsHot (g.F.FileBytes.bytes l.files.journal)
      → IsTextOfCommits (bytes_of g.F.FileBytes.bytes l.files) l.told.front (texts_of l.told.selected.names.now) l.told.form l.from (take l.frame-index l.frames) l.text.items;
}
