use Rattle.std.proofs.Common.{◌≡◌, inl, inr}
use Rattle.std.specs.Prelude.{true}
use Rattle.rig_judge.proofs.snapshot.Snapshot.agrees.Goals as goal

pub returns-then-has : goal.returns-then-has
returns-then-has c = (λ yes. inl (c.has.ensures.0 yes), λ _. c.if-has.true)

pub returns-else-has : goal.returns-else-has
returns-else-has c = (
  λ yes. inr (c.is_leaf.ensures.0 yes),
  λ agrees. elim agrees [
    | inl same ↦ let yes : c.has.result ≡ true = c.has.ensures.1 same in let no = c.if-has.false in absurd (cc)
    | inr leaf ↦ c.is_leaf.ensures.1 leaf
  ],
)
