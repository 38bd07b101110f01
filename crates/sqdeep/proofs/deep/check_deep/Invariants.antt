use Rattle.sqdeep.proofs.deep.check_deep.Given as goal

abbrev pub ghosts-judge_snapshot : goal.ghosts-judge_snapshot
ghosts-judge_snapshot g a = record {
  pages = g.S.PageSource.pages a.source.now;
  size = g.S.PageSource.size a.source.now;
  right = g.S.PageSource.reads_right a.source.now;
  given = g.S.PageSource.gives_pages a.source.now;
}
