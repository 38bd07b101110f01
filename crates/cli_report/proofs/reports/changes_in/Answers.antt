use Rattle.cli_report.proofs.reports.changes_in.Goals as goal

pub returns-clause-kept : goal.returns-clause-kept
returns-clause-kept g c given = c.keep_history.ensures.kept given

pub returns-clause-refused : goal.returns-clause-refused
returns-clause-refused g c given = c.keep_history.ensures.refused given
