use Rattle.std.proofs.Common.{inr}
use Rattle.std.proofs.lemmas.Result.{on_ok_weaker}
use Rattle.cli_show_places.proofs.places.print_each.Goals as goal

pub returns-clause-ok : goal.returns-clause-ok
returns-clause-ok g c = λ right tells. on_ok_weaker c.print_tables.result (λ placed. inr placed) (c.print_tables.ensures.ok right tells)
