use Rattle.std.proofs.Common.{List, ℕ, subst, sym, refl}
use Rattle.sqval.specs.Record.{IsRecord}
use Rattle.sqrows.specs.Rows.{Row}
use Rattle.sqrows.specs.RowCursor.{IsAtRow}
use Rattle.sqrows.proofs.moves.RowsOfCells.{row_is}
use Rattle.sqrows.proofs.rows.Rows.row.Goals as goal

pub returns-clause-ok : goal.returns-clause-ok
returns-clause-ok c = λ r.
    let values = c.in_ok-new.field-0 in
    let read = c.in_ok-new.ensures.read in
    let own = (read values).0 refl in
    let items = c.deref.ensures.value in (
      λ at. row_is r c.args.self.now.rowid values (at.rowid) ((read r.values).1 (own.0, subst (λ (b : List ℕ). IsRecord r.values b) (sym items) at.read)),
      λ is. subst (λ (r : Row). IsAtRow c.args.self.now r) (sym is) (record { read = subst (λ (b : List ℕ). IsRecord values b) items own.1; rowid = refl }),
    )
