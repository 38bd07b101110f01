use Rattle.std.proofs.Common.{◌∙◌, length, sym, ap, subst, arith}
use Rattle.sqval.specs.Database.{Database}
use Rattle.sqval.specs.PageSize.{IsPageSize}
use Rattle.sqpage.proofs.file.PagesInMemory.{least_page_size}
use Rattle.sqcheck.proofs.checks.EndsOfCheck.{none_used}
use Rattle.sqcheck.proofs.checks.ResultsOfCalls.{on_ok}
use Rattle.sqdeep.proofs.deep.judge_snapshot.Goals as goal

pub returns-then-count-eq0-clause-err : goal.returns-then-count-eq0-clause-err
returns-then-count-eq0-clause-err g c = λ right trees uses.
    let none = none_used g.V.Snapshot.pages (sym (ap (λ (q : Database). length q) c.requires.0) ∙ sym c.count-count.ensures ∙ c.if-count-eq0.true) in
    let room = trees.room in
    absurd (omega (arith, none, room))

pub new-requires-clause-page : goal.new-requires-clause-page
new-requires-clause-page g c =
    let count = c.count-count.ensures ∙ ap (λ (q : Database). length q) c.requires.0 in
    let some = c.if-count-eq0.false in
    (omega arith, omega (arith, count, some))

pub new-requires-clause-size : goal.new-requires-clause-size
new-requires-clause-size g c = (c.get-size.ensures.value ∙ c.page_size.ensures ∙ c.requires.1, least_page_size c.get-size.result c.get-size.ensures.valid)

pub new-requires-clause-same : goal.new-requires-clause-same
new-requires-clause-same g c = record {
  sized = subst IsPageSize (c.get-size.ensures.value ∙ c.page_size.ensures ∙ c.requires.1) c.get-size.ensures.valid;
  same_pages = c.requires.0;
  same_size = c.requires.1;
  still_right = c.requires.2;
  still_given = c.requires.3;
}

pub returns-clause-ok : goal.returns-clause-ok
returns-clause-ok g c = λ right trees uses.
    on_ok _ _ c.judge_pages.result (λ all. record {
      header = c.in_ok-judge.ensures.ok right;
      roots = c.in_ok-judge_roots.ensures.ok right trees uses;
      pages = λ kind root p of_tree. (all p (trees.sound kind root p of_tree).named kind root of_tree).tidy;
      cells = λ kind root p i cell of_tree at. (all p (trees.sound kind root p of_tree).named kind root of_tree).cells i cell at;
    })
    (c.judge_pages.ensures.ok right trees uses)
