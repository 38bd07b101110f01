use Rattle.std.proofs.Common.{arith}
use Rattle.std.proofs.lemmas.Grind.{common_steps}
use Rattle.sqval.proofs.page.FilePages.{size_some}
use Rattle.cli_show_rows.proofs.schema.number_of.Goals as goal

pub number_in-requires : goal.number_in-requires
number_in-requires g c = grind (arith, common_steps, size_some c.get-size.result c.get-size.ensures.valid)
