use Rattle.sqindex.specs.Numbers.{is_number}
use Rattle.sqindex.proofs.number.is_number.Goals as goal

pub returns : goal.returns
unfolding is_number
returns c = cc
