use Rattle.rollcore.proofs.Facts.{Change, List, None, [], ap, append_assoc, arith, cases_lt, cut_off, cut_off_more, sym, ℕ, ⊎_elim, ◌++◌, ◌+◌, ◌-◌, ◌∙◌, ◌∷◌, ◌≡◌}
use Rattle.rollcore.proofs.changes.list_cut_off.Goals as goal

pub loop-page-preserved : goal.loop-page-preserved
loop-page-preserved c = record {
  items = c.in_ok-push.ensures.items ∙ ap (λ (l : List Change). l ++ record { page = c.loop-page.page + 1; content = None } ∷ []) c.loop-page.invariant.items
      ∙ append_assoc c.args.changes.now.items (cut_off c.args.size (c.loop-page.page - c.args.size)) (record { page = c.loop-page.page + 1; content = None } ∷ [])
      ∙ ap (λ (l : List Change). c.args.changes.now.items ++ l) (sym (cut_off_more c.args.size c.loop-page.page c.loop-page.auto.page));
  none = λ few. absurd (omega (arith, c.loop-page.auto.page, c.loop-page-test.true));
}

pub returns : goal.returns
returns c =
    let same : c.loop-page.page - c.args.size ≡ c.args.old_size - c.args.size = ⊎_elim
    (λ some. omega (arith, c.loop-page.auto.page-end (omega arith)))
    (λ few. omega (arith, c.loop-page.invariant.none few))
    (cases_lt c.args.size c.args.old_size) in
    c.loop-page.invariant.items ∙ ap (λ (n : ℕ). c.args.changes.now.items ++ cut_off c.args.size n) same
