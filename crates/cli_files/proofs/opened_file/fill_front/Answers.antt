use Rattle.std.proofs.Common.{refl, ◌∙◌, ap, length, ℕ, replicate, arith}
use Rattle.sqview.specs.Laid.{part_or_zeros}
use Rattle.cli_facts.proofs.ZerosBehind.{filled_part, rest_long}
use Rattle.cli_files.proofs.opened_file.fill_front.Goals as goal

pub returns-clause-read : goal.returns-clause-read
returns-clause-read g c word end =
    let file = g.F.SystemFile.bytes c.args.file.now in
    let out = c.read_up_to.new.out in
    let read = c.in_ok-there.ensures in
    let long = c.read_up_to.auto.out in
    filled_part file out c.fill.new.self c.args.at c.args.count (length out) refl (omega (arith, c.requires, long))
    (λ k lt. read.read word k (omega (arith, lt, c.if-there-count.false)))
    (λ lt. end (omega (arith, lt, long))) (c.fill.ensures.after (λ y e. e) ∙ ap (λ (n : ℕ). replicate n 0) (rest_long out c.args.count))
    ∙ ap (λ (n : ℕ). part_or_zeros n c.args.at file) long
