use Rattle.std.proofs.Common.{◌≡◌, ◌↔◌, IfOk, subst, sym}
use Rattle.sqrows.specs.Rows.{Row}
use Rattle.sqrows.specs.RowCursor.{IsAtRow}
use Rattle.cli_show_diff.specs.declared.table_diff.TableDiff.{TableDiff}
use Rattle.cli_show_diff.specs.internal.TableDiffs.{old_rows}
use Rattle.cli_show_diff.proofs.table_diff.TableDiff.old_row.Goals as goal

pub returns-in-Rowids-clause-ok : goal.returns-in-Rowids-clause-ok
returns-in-Rowids-clause-ok c =
    subst (λ (t : TableDiff). IfOk c.old_row.result (λ row. (r : Row) → IsAtRow (old_rows t) r ↔ (r ≡ record { rowid = row.rowid; values = row.values }))) (sym c.in-Rowids.is) c.old_row.ensures.ok

pub returns-in-Keys-clause-ok : goal.returns-in-Keys-clause-ok
returns-in-Keys-clause-ok c =
    subst (λ (t : TableDiff). IfOk c.old_row-in-Keys.result (λ row. (r : Row) → IsAtRow (old_rows t) r ↔ (r ≡ record { rowid = row.rowid; values = row.values }))) (sym c.in-Keys.is) c.old_row-in-Keys.ensures.ok
