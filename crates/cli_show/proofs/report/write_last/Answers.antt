use Rattle.std.proofs.Common.{refl}
use Rattle.cli_show.proofs.RunsOfPages.{last_written}
use Rattle.cli_show.proofs.report.write_last.Goals as goal

pub returns-in_ok-write-in-Some : goal.returns-in_ok-write-in-Some
returns-in_ok-write-in-Some g c begin pages were = (
  last_written begin (g.W.Write.contents c.args.out.now) (g.W.Write.contents c.write.new.out) c.args.runs c.in-Some.run' pages were
      c.in-Some.is c.in_ok-write-in-Some.ensures,
  refl,
)
