use Rattle.std.proofs.Common.{◌∙◌, Some, ap, inl, refl}
use Rattle.cli_show_diff.specs.Pairs.{IsBothPrinted, IsBothStopped, IsPairPrinted, IsPairStopped}
use Rattle.cli_show_diff.proofs.Answered.{on_ok, on_err}
use Rattle.cli_show_diff.proofs.pair.print_pair.Goals as goal

pub returns-in-Some-Some-clause-ok : goal.returns-in-Some-Some-clause-ok
returns-in-Some-Some-clause-ok g c = λ right too.
    let d = g.S.PageSource.pages c.args.old.now in
    let e = g.T.PageSource.pages c.args.new.now in
    let old = g.W.Write.contents c.args.out.now in
    let new = g.W.Write.contents c.print_both_ways.new.out in
    let m = c.in-Some-Some in
    on_ok c.print_both_ways.result (IsBothPrinted d e m.was.now m.is'.now c.args.form old new) (IsPairPrinted d e c.args.pair c.args.form old new)
    (λ w. inl (m.was.now, m.is'.now, (m.was, m.is', m.is-0 ∙ ap Some m.was-is, m.is-1 ∙ ap Some m.is-is, refl, refl, c.if-are_kept.ensures.yes refl), w)) (c.print_both_ways.ensures.ok right too)

pub returns-in-Some-Some-clause-err : goal.returns-in-Some-Some-clause-err
returns-in-Some-Some-clause-err g c = λ right too.
    let d = g.S.PageSource.pages c.args.old.now in
    let e = g.T.PageSource.pages c.args.new.now in
    let old = g.W.Write.contents c.args.out.now in
    let new = g.W.Write.contents c.print_both_ways.new.out in
    let m = c.in-Some-Some in
    on_err c.print_both_ways.result (λ stop. IsBothStopped d e m.was.now m.is'.now c.args.form stop old new) (λ stop. IsPairStopped d e c.args.pair c.args.form stop old new)
    (λ stop w. inl (m.was.now, m.is'.now, (m.was, m.is', m.is-0 ∙ ap Some m.was-is, m.is-1 ∙ ap Some m.is-is, refl, refl, c.if-are_kept.ensures.yes refl), w)) (c.print_both_ways.ensures.err right too)
