use Rattle.std.proofs.Common.{subst}
use Rattle.std.proofs.lemmas.Result.{on_ok_weaker}
use Rattle.cli_show_salvage.specs.declared.found.Found.{Found}
use Rattle.cli_show_salvage.specs.Cells.{cut, strange, holds}
use Rattle.cli_show_salvage.specs.internal.Found.{IsFound}
use Rattle.cli_show_salvage.proofs.cell.print_cell.Goals as goal

pub returns-in-Cut-clause-ok : goal.returns-in-Cut-clause-ok
returns-in-Cut-clause-ok g c = λ right.
    let cell = c.in-Some.cell in
    let found = subst (λ (f : Found). IsFound (g.S.PageSource.pages c.args.source.now) cell f) c.in-Cut.is (c.in-Ok-read_cell.ensures.ok right) in
    on_ok_weaker c.print_mark.result (λ told. cut cell c.in-Some.ensures.cell found told) c.print_mark.ensures.ok

pub returns-in-Strange-clause-ok : goal.returns-in-Strange-clause-ok
returns-in-Strange-clause-ok g c = λ right.
    let cell = c.in-Some.cell in
    let found = subst (λ (f : Found). IsFound (g.S.PageSource.pages c.args.source.now) cell f) c.in-Strange.is (c.in-Ok-read_cell.ensures.ok right) in
    on_ok_weaker c.print_mark-in-Strange.result (λ told. strange cell c.in-Strange.bytes.now c.in-Some.ensures.cell found told) c.print_mark-in-Strange.ensures.ok

pub returns-clause-ok : goal.returns-clause-ok
returns-clause-ok g c = λ right.
    let cell = c.in-Some.cell in
    let row = c.in-Row.row in
    let found = subst (λ (f : Found). IsFound (g.S.PageSource.pages c.args.source.now) cell f) c.in-Row.is (c.in-Ok-read_cell.ensures.ok right) in
    on_ok_weaker c.print_row.result (λ told. holds cell c.in-Row.bytes.now (record { rowid = row.rowid; values = row.values }) c.in-Some.ensures.cell found.0 (found.1 c.args.i) told) c.print_row.ensures.ok
