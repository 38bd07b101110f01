use Rattle.std.proofs.Common.{◌≡◌}
use Rattle.sqval.specs.Datum.{row_of}
use Rattle.sqpage.specs.Lists.{each_from}
use Rattle.sqtables.specs.Columns.{shown_at}
use Rattle.sqtables.proofs.columns.Columns.shown.Given as goal

abbrev pub invariant-loop-j : goal.invariant-loop-j
invariant-loop-j l = row_of l.values.items ≡ each_from 0 l.j (shown_at l.self (record { rowid = l.row.rowid; values = l.row.values }))
