use Rattle.std.proofs.Common.{rules, length}
use Rattle.cli_files.proofs.ZerosBehindBytes.{zeros_of_nothing}
use Rattle.cli_files.proofs.opened_file.OpenedFile.fill.Goals as goal

pub returns-in-None-clause-read : goal.returns-in-None-clause-read
returns-in-None-clause-read g c =
    let zeros = c.fill.ensures.after (λ y e. e) in
    let nothing = zeros_of_nothing (length c.args.out.now) c.args.at in
    search rules
