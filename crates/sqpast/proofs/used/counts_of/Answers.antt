use Rattle.std.proofs.Common.{◌∙◌, sym, ap, arith, length}
use Rattle.history.specs.Past.{valid_count}
use Rattle.sqval.proofs.page.FilePages.{size_some}
use Rattle.sqview.specs.LogView.{pages_of}
use Rattle.sqview.proofs.openings.PagesOfView.{length_laid}
use Rattle.sqpast.proofs.known.UsedPages.{bare_count}
use Rattle.sqpast.proofs.used.counts_of.Goals as goal

pub returns-then-all-eq0-clause-right : goal.returns-then-all-eq0-clause-right
returns-then-all-eq0-clause-right g c = λ r.
    record { all = c.count-all.ensures; named = sym (bare_count (pages_of g.F.FileBytes.bytes c.args.view.now) (sym c.count-all.ensures ∙ c.if-all-eq0.true)) }

pub returns-then-all-eq0-clause-all : goal.returns-then-all-eq0-clause-all
returns-then-all-eq0-clause-all g c =
    let v = c.args.view.now in
    c.count-all.ensures ∙ length_laid v.page_size v.count (g.F.FileBytes.bytes v.db) (g.F.FileBytes.bytes v.log) v.places.items

pub header_count-requires : goal.header_count-requires
header_count-requires g c = omega (arith, ap length c.as_mut_slice-page.ensures.value, c.in_ok-first.ensures.len, c.get.ensures.value, size_some c.get.result c.get.ensures.valid, c.read.auto.out)

pub returns-clause-right : goal.returns-clause-right
returns-clause-right g c = λ r. record { all = c.count-all.ensures; named = c.header_count.ensures ∙ ap valid_count (c.in_ok-read.ensures.read r) }

pub returns-clause-all : goal.returns-clause-all
returns-clause-all g c =
    let v = c.args.view.now in
    c.count-all.ensures ∙ length_laid v.page_size v.count (g.F.FileBytes.bytes v.db) (g.F.FileBytes.bytes v.log) v.places.items
