use Rattle.std.proofs.Common.{◌∙◌, ap, sym, refl}
use Rattle.std.specs.List.{filter}
use Rattle.std.proofs.lemmas.List.{take_all}
use Rattle.cli_history.specs.Ranges.{is_between}
use Rattle.cli_history.proofs.CommitsBetween.{passed_more, taken_more}
use Rattle.cli_history.proofs.range.commits_between.Goals as goal
use Rattle.cli_history.proofs.range.commits_between.Goals.{then-is_between+in-Ok, else-is_between}

pub loop-frame-preserved : goal.loop-frame-preserved
loop-frame-preserved c =
    let p = is_between c.args.from c.args.to in
    let all = c.deref-frame-items.result.now in
    let i = c.loop-frame.frame-index in
    elim c.if-is_between.branch [
      | then-is_between+in-Ok w ↦ taken_more p all c.loop-frame.list.items c.if-is_between.list.items i _ c.loop-frame-test.true refl
          (sym c.is_between.ensures ∙ w.if-is_between.true) c.loop-frame.invariant (ap (λ l. l.items) w.list-is ∙ w.in-Ok.ensures.items)
      | else-is_between w ↦ ap (λ l. l.items) w.list-is ∙ passed_more p all c.loop-frame.list.items i _ c.loop-frame-test.true refl
          (sym c.is_between.ensures ∙ w.if-is_between.false) c.loop-frame.invariant
    ]

pub returns-clause-between : goal.returns-clause-between
returns-clause-between c = λ most b took. (
  c.in_ok-all.all.items,
  c.in_ok-all.ensures.commits most b took,
  c.loop-frame.invariant ∙ ap (filter (is_between c.args.from c.args.to))
      (take_all c.loop-frame.frame-index c.deref-frame-items.result.now c.loop-frame-test.false ∙ c.deref-frame-items.ensures.value),
)
