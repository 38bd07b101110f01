use Rattle.std.proofs.Common.{◌+◌, inl, inr, ℕ, sym, subst, arith}
use Rattle.sqwal.specs.Header.{named_size}
use Rattle.sqpast.proofs.known.FramesByPage.{IsLeastTo, least_none, least_now, least_still, least_all}
use Rattle.sqpast.proofs.chains.least_commit.Goals as goal
use Rattle.sqpast.proofs.chains.least_commit.Goals.{then-entry-ne0+then-entry-least, else-entry-ne0, else-entry-ne0-via-then-entry-ne0+else-entry-least, else-entry-ne0-via-else-entry-ne0}

pub loop-before-init : goal.loop-before-init
loop-before-init c = λ most w took valid commit is. least_none (named_size w) w c.args.front.frames c.args.front.size valid.first commit is

pub loop-before-preserved : goal.loop-before-preserved
loop-before-preserved c = λ most w took valid commit is.
    let k = c.loop-before.before in
    let front = c.args.front.frames in
    let inv = c.loop-before.invariant most w took valid commit is in
    let here = (c.in-Some.ensures most w took).2 in
    elim c.if-entry-ne0.branch [
      | then-entry-ne0+then-entry-least x ↦ subst (λ (n : ℕ). IsLeastTo (named_size w) w front (k + 1) n) (sym x.least-is)
          (least_now (named_size w) w front k c.loop-before.least c.in-Some.entry.size here inv x.if-entry-ne0.true x.if-entry-least.true c.loop-before-test.true)
      | else-entry-ne0 x ↦ subst (λ (n : ℕ). IsLeastTo (named_size w) w front (k + 1) n) (sym x.least-is)
          (least_still (named_size w) w front k c.loop-before.least c.in-Some.entry.size here inv
          (elim x.else-entry-ne0.branch [
            | else-entry-ne0-via-then-entry-ne0+else-entry-least y ↦ inr y.if-entry-least.false
            | else-entry-ne0-via-else-entry-ne0 y ↦ inl y.if-entry-ne0.false
          ]))
    ]

pub returns-after-loop-before : goal.returns-after-loop-before
returns-after-loop-before c = λ most w took valid commit is.
    least_all (named_size w) w c.args.front.frames c.loop-before.before c.loop-before.least c.loop-before-test.false (c.loop-before.invariant most w took valid commit is)

pub returns-in_default : goal.returns-in_default
returns-in_default c = λ most w took valid commit is. absurd (c.in_default.ensures most w took (record { first = omega arith; each = λ j one le. valid.each j one (omega (arith, c.loop-before-test.true)) }))
