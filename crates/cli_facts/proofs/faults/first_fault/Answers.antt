use Rattle.std.proofs.Common.{refl}
use Rattle.std.proofs.lemmas.Option.{slice_get_read}
use Rattle.cli_facts.proofs.FaultsInOrder.{none_behind}
use Rattle.cli_facts.proofs.faults.first_fault.Goals as goal

pub returns-else-error-page : goal.returns-else-error-page
returns-else-error-page c = λ sorted.
    let error = c.in_ok-error.field-0.now in
    let here = slice_get_read c.args.faults.now _ c.place_of.result error refl c.in_ok-error.ensures.lookup.3.0 c.in_ok-error.ensures.lookup.1 in
    none_behind c.args.faults.now c.args.page c.place_of.result (c.place_of.ensures.place sorted) sorted error here c.if-error-page.false
