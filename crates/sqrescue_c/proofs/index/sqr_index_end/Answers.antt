use Rattle.std.proofs.Common.{refl, inl}
use Rattle.sqrescue_c.proofs.index.sqr_index_end.Goals as goal

pub returns-in-None : goal.returns-in-None
returns-in-None c = inl (refl, c.in-None.ensures)
