use Rattle.std.proofs.Common.{◌∙◌, ◌≤◌, length, sym, arith}
use Rattle.cli_show_deleted.proofs.PagesBetween.{used_past}
use Rattle.cli_show_deleted.proofs.seen.seen_of.Goals as goal

pub returns-then-before-count-clause-used : goal.returns-then-before-count-clause-used
returns-then-before-count-clause-used g c = λ right usable.
    let d = g.S.PageSource.pages c.args.source.now in
    let past : length d ≤ c.args.before = omega arith in
    c.new-used.ensures.items ∙ sym (used_past d c.args.before past)
