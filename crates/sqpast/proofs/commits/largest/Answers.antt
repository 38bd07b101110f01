use Rattle.std.proofs.Common.{◌≡◌, ◌+◌, ◌≤◌, ⊎_elim, ap, arith}
use Rattle.std.proofs.lemmas.Bool.{cases_eq}
use Rattle.std.proofs.lemmas.Grind.{common_steps}
use Rattle.sqwal.specs.Header.{named_size}
use Rattle.sqwal.specs.Frames.{size_of}
use Rattle.sqpast.proofs.commits.largest.Goals as goal

pub loop-before-preserved : goal.loop-before-preserved
loop-before-preserved c = λ frames w took j one le.
    let k = c.loop-before.before in
    let here : c.in-Some.entry.size ≡ size_of (named_size w) w (k + 1) = (c.in-Some.ensures frames w took).2 in
    let more : c.in-Some.entry.size ≤ c.max-most.result = grind (arith, common_steps) in
    let was : c.loop-before.most ≤ c.max-most.result = grind (arith, common_steps) in
    ⊎_elim
    (λ e. omega (arith, here, more, ap (size_of (named_size w) w) e))
    (λ ne. omega (arith, was, c.loop-before.invariant frames w took j one (omega arith)))
    (cases_eq j (k + 1))

pub returns-after-loop-before : goal.returns-after-loop-before
returns-after-loop-before c = λ frames w took j one le valid. c.loop-before.invariant frames w took j one (omega (arith, c.loop-before-test.false))

pub returns-in_default : goal.returns-in_default
returns-in_default c = λ frames w took j one le valid.
    absurd (c.in_default.ensures frames w took (record { first = omega arith; each = λ i a b. valid.each i a (omega (arith, c.loop-before-test.true)) }))
