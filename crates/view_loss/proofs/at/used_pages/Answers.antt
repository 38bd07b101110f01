use Rattle.std.proofs.Common.{◌≡◌, ◌≤◌, ℕ, List, length, refl, sym, ◌∙◌, ap, arith}
use Rattle.history.specs.Past.{used}
use Rattle.sqval.specs.Database.{page}
use Rattle.sqval.proofs.page.FilePages.{size_some}
use Rattle.sqview.specs.LogView.{pages_of}
use Rattle.sqview.proofs.openings.PagesOfView.{length_laid}
use Rattle.sqpast.proofs.known.KnownViews.{used_high}
use Rattle.view_loss.proofs.at.used_pages.Goals as goal

pub used_count-requires : goal.used_count-requires
used_count-requires g c = omega (arith, ap length c.as_mut_slice-page.ensures.value, c.in_ok-first.ensures.len, c.get.ensures.value, size_some c.get.result c.get.ensures.valid)

pub returns-then-most-eq0-clause-right : goal.returns-then-most-eq0-clause-right
returns-then-most-eq0-clause-right g c = λ r.
    let v = c.args.view.now in
    let most : c.count-most.result ≡ v.count = c.count-most.ensures ∙ length_laid v.page_size v.count (g.F.FileBytes.bytes v.db) (g.F.FileBytes.bytes v.log) v.places.items in
    let first = page (pages_of g.F.FileBytes.bytes v) 1 in
    omega (arith, most, c.if-most-eq0.true, c.used_count.ensures, used_high c.count-most.result c.as_mut_slice-page.result.now, used_high v.count first)

pub used_count-requires-2 : goal.used_count-requires-2
used_count-requires-2 g c = omega (arith, ap length c.as_mut_slice-page.ensures.value, c.in_ok-first.ensures.len, c.get.ensures.value, size_some c.get.result c.get.ensures.valid, c.read.auto.out)

pub returns-clause-right : goal.returns-clause-right
returns-clause-right g c = λ r.
    let v = c.args.view.now in
    let most : c.count-most.result ≡ v.count = c.count-most.ensures ∙ length_laid v.page_size v.count (g.F.FileBytes.bytes v.db) (g.F.FileBytes.bytes v.log) v.places.items in
    c.used_count-2.ensures ∙ ap (used c.count-most.result) (c.in_ok-read.ensures.read r) ∙ ap (λ (n : ℕ). used n (page (pages_of g.F.FileBytes.bytes v) 1)) most
