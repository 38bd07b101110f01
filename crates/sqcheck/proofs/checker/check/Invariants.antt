use Rattle.sqcheck.proofs.Words.{false}
use Rattle.sqcheck.proofs.checker.check.Given as goal

abbrev pub ghosts-check_snapshot : goal.ghosts-check_snapshot
ghosts-check_snapshot g a = record {
  pages = g.S.PageSource.pages a.source.now;
  size = g.S.PageSource.size a.source.now;
  right = g.S.PageSource.reads_right a.source.now;
  given = g.S.PageSource.gives_pages a.source.now;
  judged = g.S.PageSource.reads_right a.source.now;
  maps = false;
}
