use Rattle.std.proofs.Common.{◌≡◌, ◌-◌, ◌∙◌, length, take, drop, replicate, refl, ap, arith}
use Rattle.std.proofs.lemmas.List.{take_rest}
use Rattle.sqview.proofs.file.FileHeads.{part_copied}
use Rattle.sqview.proofs.file_bytes.RefSliceU8FileBytes.read_at.Goals as goal

pub returns-clause-read : goal.returns-clause-read
returns-clause-read c = λ _.
    let size = length c.args.out.now in
    let file = c.args.self.now.now in
    let back_long : length c.split_at_mut-front.result.1.now ≡ size - c.min-count.result = omega (arith, c.split_at_mut-front.ensures.back_len) in
    part_copied size c.args.at c.min-count.result file (take (length file - c.min.result) (drop c.min.result file)) _ _ _
    (take_rest file c.min.result ∙ ap (λ n. drop n file) c.min.ensures) c.min-count.ensures
    c.copy_from_slice.ensures.after
    (c.fill.ensures.after (λ y e. e) ∙ ap (λ n. replicate n 0) back_long) refl
