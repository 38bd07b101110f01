use Rattle.sqcheck.proofs.survey.survey_behind.Given as goal

abbrev pub ghosts-survey_snapshot : goal.ghosts-survey_snapshot
ghosts-survey_snapshot g a = record { pages = g.S.PageSource.pages a.source.now; size = g.S.PageSource.size a.source.now; right = g.S.PageSource.reads_right a.source.now; given = g.S.PageSource.gives_pages a.source.now; judged = ⊥; maps = a.options.pointer_maps }
