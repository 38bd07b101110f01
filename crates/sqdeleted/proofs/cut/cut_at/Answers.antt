use Rattle.std.proofs.Common.{inl, inr}
use Rattle.sqdeleted.proofs.cut.cut_at.Goals as goal

pub returns-in_err-rest : goal.returns-in_err-rest
returns-in_err-rest c = rw c.from_residual.ensures (λ rest cut. elim c.in_err-rest.ensures [
  | inl held ↦ cut.apart held
  | inr none ↦ none rest cut.left
])
