use Rattle.std.proofs.Common.{◌≡◌, length, replicate, ◌∙◌}
use Rattle.std.proofs.lemmas.List.{length-take-le}
use Rattle.cli_files.proofs.ZerosBehindBytes.{zeros_behind}
use Rattle.cli_files.proofs.watch.front_of.Goals as goal

pub returns : goal.returns
returns g c = λ k above below.
    let long : length c.read_or_zeros.new.out ≡ c.args.count = c.read_or_zeros.auto.out ∙ length-take-le c.args.count (replicate 32 0) c.requires in
    zeros_behind c.read_or_zeros.new.out c.args.count k long above below
