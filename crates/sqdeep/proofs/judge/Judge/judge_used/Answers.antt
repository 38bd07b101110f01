use Rattle.std.proofs.Common.{◌+◌, ℕ, sym, subst, arith}
use Rattle.sqpage.specs.declared.kind.Kind.{Kind}
use Rattle.sqcheck.specs.Places.{page_as}
use Rattle.sqcheck.proofs.checks.ResultsOfCalls.{on_ok}
use Rattle.sqdeep.specs.internal.Judging.{IsSoundPage}
use Rattle.sqdeep.specs.internal.IllFormed.{HasIllFormed}
use Rattle.sqdeep.specs.internal.Uses.{IsUsed}
use Rattle.sqdeep.proofs.IllFormedCells.{page_skipped}
use Rattle.sqdeep.proofs.UsesOfPages.{by_use, no_tree}
use Rattle.sqdeep.proofs.judge.Judge.judge_used.Goals as goal

pub returns-in-None-clause-ok : goal.returns-in-None-clause-ok
returns-in-None-clause-ok g c = λ right trees is kind root of_tree. absurd (no_tree g.V.Snapshot.pages c.args.number c.args.used c.in-None.ensures is kind root of_tree)

pub returns-in-Some-clause-ok : goal.returns-in-Some-clause-ok
returns-in-Some-clause-ok g c = λ right trees is.
    let d = g.V.Snapshot.pages in
    let u = by_use d c.args.number c.in-Some.is_root (subst (IsUsed d c.args.number) c.in-Some.ensures is) in
    on_ok _ _ c.judge_page.result (λ sound kind root of_tree.
    let same = trees.once u.0 kind u.1 root c.args.number u.2 of_tree in
    subst (λ r. IsSoundPage d (page_as d kind c.args.number) r) (sym same.1) (subst (λ (k : Kind). IsSoundPage d (page_as d k c.args.number) u.1) (sym same.0) sound))
    (c.judge_page.ensures.ok right u.0 u.1 (trees.sound u.0 u.1 c.args.number u.2) u.3)

pub returns-in-Some-clause-err : goal.returns-in-Some-clause-err
returns-in-Some-clause-err g c = λ right trees is.
    let d = g.V.Snapshot.pages in
    let u = by_use d c.args.number c.in-Some.is_root (subst (IsUsed d c.args.number) c.in-Some.ensures is) in
    c.judge_page.ensures.err right u.0 u.1 (trees.sound u.0 u.1 c.args.number u.2) u.3

pub returns-in-None-clause-counted : goal.returns-in-None-clause-counted
returns-in-None-clause-counted g c = λ right trees is before h.
    let d = g.V.Snapshot.pages in
    subst (λ (n : ℕ). HasIllFormed d (c.args.number + 1) 0 n) (omega arith)
    (page_skipped d trees c.args.number before (no_tree d c.args.number c.args.used c.in-None.ensures is) h)

pub returns-in-Some-clause-counted : goal.returns-in-Some-clause-counted
returns-in-Some-clause-counted g c = λ right trees is.
    let d = g.V.Snapshot.pages in
    let u = by_use d c.args.number c.in-Some.is_root (subst (IsUsed d c.args.number) c.in-Some.ensures is) in
    c.judge_page.ensures.counted right trees u.0 u.1 (trees.sound u.0 u.1 c.args.number u.2) u.3
