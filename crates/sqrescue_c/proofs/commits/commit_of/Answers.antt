use Rattle.std.proofs.Common.{refl, ◌∙◌, arith}
use Rattle.sqrescue_c.proofs.commits.commit_of.Goals as goal
use Rattle.sqrescue_c.proofs.commits.commit_of.Goals.{in-Some, in-None}

pub returns : goal.returns
returns c = λ w took valid. elim c.match-entry.branch [
  | in-Some w' ↦ record { frame = refl; frames = omega (arith, c.requires); pages = w'.pages-is ∙ (w'.in-Some.ensures _ w took).2 }
  | in-None w' ↦ absurd (w'.in-None.ensures _ w took valid)
]
