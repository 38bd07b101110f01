use Rattle.std.proofs.Common.{◌∙◌}
use Rattle.sqview.proofs.file.FileHeads.{page_is_part, head_is}
use Rattle.sqview.proofs.file_head.read_head.Goals as goal

pub returns-clause-read : goal.returns-clause-read
returns-clause-read g c = λ right.
    let file = g.F.FileBytes.bytes c.args.file.now in
    c.in_ok-read_at.ensures.read right ∙ page_is_part 100 1 file ∙ head_is file
