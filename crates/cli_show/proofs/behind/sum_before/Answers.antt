use Rattle.std.proofs.Common.{◌≡◌, ℕ, ◌-◌, ◌≤◌, ap, ◌∙◌, arith}
use Rattle.sqwal.specs.Slots.{stored}
use Rattle.cli_show.proofs.LinesBehind.{sum_is, sums_place, sums_read}
use Rattle.sqview.specs.Laid.{part_or_zeros}
use Rattle.cli_show.proofs.behind.sum_before.Goals as goal

pub returns-then-i-le1-clause-sum : goal.returns-then-i-le1-clause-sum
returns-then-i-le1-clause-sum g c = λ gives bytes small header within.
    let b = g.F.FileBytes.bytes c.args.wal.now in
    let first : 0 ≡ c.args.i - 1 = omega arith in
    c.sum.ensures b bytes header ∙ ap (λ (n : ℕ). stored c.args.header.now.page_size b n) first

pub returns-clause-sum : goal.returns-clause-sum
returns-clause-sum g c = λ gives bytes small header within.
    let b = g.F.FileBytes.bytes c.args.wal.now in
    let size = c.args.header.now.page_size in
    let some : 2 ≤ c.args.i = omega arith in
    let place = sums_place size c.args.i c.frame_place-place.result c.saturating_add.result b some within small c.frame_place-place.ensures c.saturating_add.ensures in
    let read = c.in_ok-read_at.ensures.read (g.met.F.FileBytes.right c.args.wal.now gives) in
    let sums = sums_read size c.args.i b c.read_at.new.out some within (read ∙ ap (λ (n : ℕ). part_or_zeros 8 n b) place) in
    sum_is size (c.args.i - 1) b c.word-s0.result c.word-s1.result (c.word-s0.ensures ∙ sums.0) (c.word-s1.ensures ∙ sums.1)
