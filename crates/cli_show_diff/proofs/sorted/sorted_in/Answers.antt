use Rattle.std.proofs.Common.{ℕ, subst}
use Rattle.sqdeep.specs.declared.text.Encoding.{Encoding}
use Rattle.cli_show_diff.specs.Sorted.{IsSortedBy, format_of}
use Rattle.cli_show_diff.proofs.sorted.sorted_in.Goals as goal

pub returns-in-Ok-sorted_by-clause-ok : goal.returns-in-Ok-sorted_by-clause-ok
returns-in-Ok-sorted_by-clause-ok g c = λ right.
    let d = g.S.PageSource.pages c.args.source.now in
    let text = c.args.text.now in
    let key = c.in-Ok-sorted_by.key in
    let numbers = c.in-Ok.numbers in
    let n = c.in-Ok.ensures.ok right in
    let by = subst (λ (f : ℕ). IsSortedBy text f numbers.encoding key) n.0 c.in-Ok-sorted_by.ensures.ok in
    (subst (λ (e : Encoding). IsSortedBy text (format_of d) e key) n.1 by, n.1)
