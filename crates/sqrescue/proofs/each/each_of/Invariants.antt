use Rattle.std.proofs.Common.{◌≤◌}
use Rattle.cli_files.specs.Files.{opened_bytes}
use Rattle.cli_job.specs.Opened.{GivesBytes}
use Rattle.sqrescue.specs.Each.{EndsOne}
use Rattle.sqrescue.specs.internal.First.{IsGreatestOfFirst}
use Rattle.sqrescue.proofs.each.each_of.Given as goal

abbrev pub invariant-loop-place : goal.invariant-loop-place
invariant-loop-place g l = record {
  least : l.ended.greatest ≤ 3;
  first : IsGreatestOfFirst (EndsOne (opened_bytes g.R.File.SystemFile.bytes)
      (GivesBytes g.R.File.SystemFile.bytes g.R.File.SystemFile.keeps_word g.R.File.SystemFile.never_fails) l.apart) l.places l.place-index l.ended;
}
