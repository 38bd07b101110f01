use Rattle.std.proofs.Common.{◌≡◌, ◌∙◌, ◌-◌, length, sym, ap}
use Rattle.sqview.specs.Laid.{part_or_zeros}
use Rattle.cli_files.proofs.journals.names_super_journal.Goals as goal

pub returns-clause-answer : goal.returns-clause-answer
returns-clause-answer g c = λ gives.
    let b = g.F.FileBytes.bytes c.args.journal.now in
    let right = g.met.F.FileBytes.right c.args.journal.now gives in
    let end : c.read_at.new.out ≡ part_or_zeros 8 (length b - 8) b = c.in_ok-read_at.ensures.read right
    ∙ ap (λ n. part_or_zeros 8 n b) (c.saturating_sub.ensures ∙ ap (λ n. n - 8) (c.len-length.ensures.count right)) in
    (λ names. sym end ∙ c.is_magic.ensures.0 names, λ is. c.is_magic.ensures.1 (end ∙ is))
