use Rattle.std.proofs.Common.{◌≡◌, ◌+◌, ◌-◌, false, get_or, ◌∙◌, ap, arith}
use Rattle.sqpast.proofs.commits.first_known.Goals as goal

pub returns-then-known-before : goal.returns-then-known-before
returns-then-known-before c =
    let k = c.loop-before.before in
    let place : k + 1 - 1 ≡ k = omega arith in
    record {
      later = omega (arith, c.loop-before.auto.before);
      within = omega (arith, c.loop-before-test.true);
      found = ap (λ i. get_or c.args.known.now i false) place ∙ c.if-known-before.true;
      before = λ m after le. c.loop-before.invariant m after (omega arith);
    }
