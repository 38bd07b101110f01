use Rattle.std.proofs.Common.{◌≡◌, ℕ, List, take, length, sym, ◌∙◌, ap, subst, arith}
use Rattle.sqval.specs.Database.{page}
use Rattle.sqpage.specs.Header.{IsHeader}
use Rattle.sqjournal.proofs.read.JournalOfTakenBytes.{size_bounds}
use Rattle.cli_show.proofs.ShownFiles.{no_header, header_refused}
use Rattle.cli_show.proofs.cells.header_of.Goals as goal

pub returns-then-count-eq0 : goal.returns-then-count-eq0
returns-then-count-eq0 g c = λ gives. no_header (g.S.PageSource.pages c.args.source.now) (sym c.count.ensures ∙ c.if-count-eq0.true)

pub returns-in-Ok : goal.returns-in-Ok
returns-in-Ok g c = λ gives.
    let d = g.S.PageSource.pages c.args.source.now in
    let content = (c.in_ok-page.ensures.answer gives).1 in
    let head : c.in-Some.head.now ≡ take 100 (page d 1) = c.in-Some.ensures.cases.same ∙ ap (λ (l : List ℕ). take 100 l) (c.deref.ensures.value ∙ content) in
    subst (λ (b : List ℕ). IsHeader c.in-Ok.header b) head c.in-Ok.ensures.ok

pub returns-in-Some : goal.returns-in-Some
returns-in-Some g c = λ gives has.
    let d = g.S.PageSource.pages c.args.source.now in
    let content = (c.in_ok-page.ensures.answer gives).1 in
    let head : c.in-Some.head.now ≡ take 100 (page d 1) = c.in-Some.ensures.cases.same ∙ ap (λ (l : List ℕ). take 100 l) (c.deref.ensures.value ∙ content) in
    header_refused c.in-Err.field-0 has.0 c.in-Some.head.now c.in-Err.ensures.err (subst (λ (b : List ℕ). IsHeader has.0 b) (sym head) has.1)

pub returns : goal.returns
returns g c = λ gives has. absurd (omega (arith, size_bounds (length c.in_ok-page.page.items) c.in_ok-page.ensures.sized.1, ap (λ (l : List ℕ). length l) c.deref.ensures.value, c.in-None.ensures.cases))
