use Rattle.std.proofs.Common.{arith}
use Rattle.std.proofs.lemmas.Grind.{common_steps}
use Rattle.cli_text.proofs.JoinedTexts.{joined_more}
use Rattle.cli_text.proofs.fact.write_each_fact.Goals as goal

pub loop-i-preserved : goal.loop-i-preserved
loop-i-preserved g c = grind (arith, common_steps, joined_more)
