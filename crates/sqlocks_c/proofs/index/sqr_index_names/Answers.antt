use Rattle.std.proofs.Common.{refl}
use Rattle.sqlocks_c.proofs.index.sqr_index_names.Goals as goal

pub returns-in-Some : goal.returns-in-Some
returns-in-Some c = λ _. (c.in-Some.head, c.in-Some.ensures.0, c.in-Some.ensures.1, c.if-counts.ensures refl)
