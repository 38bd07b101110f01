use Rattle.std.proofs.Common.{◌≡◌, ◌∙◌, ℕ, ◌+◌, length, inl, inr, sym, ap, subst, arith}
use Rattle.std.proofs.lemmas.Bool.{cases_eq}
use Rattle.sqval.specs.Database.{Database}
use Rattle.sqpage.specs.Freelist.{IsPage}
use Rattle.sqcheck.proofs.checks.ResultsOfCalls.{exits}
use Rattle.sqdeep.specs.internal.Judging.{Tells, IsSoundAt}
use Rattle.sqdeep.specs.internal.Uses.{IsUsed}
use Rattle.sqdeep.specs.internal.IllFormed.{HasIllFormed}
use Rattle.sqdeep.proofs.IllFormedCells.{all_counted, none_first}
use Rattle.sqdeep.proofs.judge.Judge.judge_pages.Goals as goal

pub pages-init : goal.pages-init
pages-init g c = record {
  sound = λ right trees uses p above within. absurd (omega (arith, above, within));
  counted = λ right trees uses. none_first g.V.Snapshot.pages trees;
  most = omega arith;
  same = c.requires;
}

pub judge_used-requires-clause-page : goal.judge_used-requires-clause-page
judge_used-requires-clause-page g c =
    let count = c.count-count.ensures ∙ ap (λ (q : Database). length q) c.requires.same_pages in
    (omega arith, omega (arith, count, c.pages-test.true))

pub pages-preserved : goal.pages-preserved
pages-preserved g c =
    let d = g.V.Snapshot.pages in
    let number : ℕ = c.pages.i + 1 in
    let count = c.count-count.ensures ∙ ap (λ (q : Database). length q) c.requires.same_pages in
    let is : IsPage d number = (omega arith, omega (arith, count, c.pages-test.true)) in
    record {
      sound = λ right trees uses p above within. elim (cases_eq p number) [
        | inl e ↦ subst (IsSoundAt d) (sym e) (c.in_ok-more.ensures.ok right trees (subst (IsUsed d number) (sym c.use_of_page-used.ensures) (uses.each number is)))
        | inr ne ↦ c.pages.invariant.sound right trees uses p above (omega (arith, ne, within))
      ];
      counted = λ right trees uses. c.in_ok-more.ensures.counted right trees (subst (IsUsed d number) (sym c.use_of_page-used.ensures) (uses.each number is)) c.pages.ill_formed (c.pages.invariant.counted right trees uses);
      most = (let m = c.pages.invariant.most in let few = c.in_ok-more.ensures.most in omega (arith, m, few));
      same = c.judge_used.ensures.same;
    }

pub returns-clause-ok : goal.returns-clause-ok
returns-clause-ok g c = λ right trees uses p is.
    let count = c.count-count.ensures ∙ ap (λ (q : Database). length q) c.requires.same_pages in
    c.pages.invariant.sound right trees uses p is.0 (omega (arith, count, is.1, c.pages-test.false))

pub returns-clause-counted : goal.returns-clause-counted
returns-clause-counted g c = λ right trees uses.
    let d = g.V.Snapshot.pages in
    let all : c.pages.i + 1 ≡ length d + 1 =
    (let count = c.count-count.ensures ∙ ap (λ (q : Database). length q) c.requires.same_pages in omega (arith, count, c.pages-test.false, c.pages.auto.i-end)) in
    all_counted d trees c.pages.ill_formed (subst (λ (p : ℕ). HasIllFormed d p 0 c.pages.ill_formed) all (c.pages.invariant.counted right trees uses))

pub returns-in_err-more-clause-err : goal.returns-in_err-more-clause-err
returns-in_err-more-clause-err g c = λ right trees uses.
    let d = g.V.Snapshot.pages in
    let number : ℕ = c.pages.i + 1 in
    let count = c.count-count.ensures ∙ ap (λ (q : Database). length q) c.requires.same_pages in
    let is : IsPage d number = (omega arith, omega (arith, count, c.pages-test.true)) in
    exits (Tells g.V.Snapshot.given d) c.in_err-more.field-0.0 c.from_residual.result c.from_residual.ensures.1
    (c.in_err-more.ensures.err right trees (subst (IsUsed d number) (sym c.use_of_page-used.ensures) (uses.each number is)))
