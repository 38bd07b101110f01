use Rattle.std.proofs.Common.{ℕ, below_more, arith}
use Rattle.sqtables.specs.Texts.{IsAliasBy}
use Rattle.sqtables.proofs.text.alias_of.Goals as goal

pub loop-k-preserved : goal.loop-k-preserved
loop-k-preserved c = below_more (λ k. (i : ℕ) → IsAliasBy c.args.body.now k i → ⊥) _ c.loop-k.invariant c.in-None.ensures

pub returns : goal.returns
returns c = λ i a. let ruled = a.1.ruled in c.loop-k.invariant a.0 (omega (arith, ruled, c.loop-k-test.false, c.len-k-end.ensures)) i a.1
