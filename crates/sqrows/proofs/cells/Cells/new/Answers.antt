use Rattle.std.proofs.Common.{◌≡◌, ◌∙◌, ◌-◌, length, suc, subst, arith}
use Rattle.sqval.specs.Database.{Database, page}
use Rattle.sqpage.proofs.file.PagesInMemory.{least_page_size, most_page_size}
use Rattle.sqrows.specs.internal.Opening.{IsOpened}
use Rattle.sqpage.specs.Freelist.{IsPage}
use Rattle.sqrows.proofs.moves.FirstLevel.{begins}
use Rattle.sqrows.proofs.moves.WayBack.{tree_of}
use Rattle.sqrows.proofs.moves.OneList.{tree_once}
use Rattle.sqrows.proofs.cells.Cells.new.Goals as goal

pub usable_of-requires-clause-room : goal.usable_of-requires-clause-room
usable_of-requires-clause-room g c =
    let len : length c.in-Ok.bytes.items ≡ c.get-size.result = c.in-Ok.ensures in
    (len ∙ c.get-size.ensures.value ∙ c.page_size.ensures, omega (arith, len, least_page_size c.get-size.result c.get-size.ensures.valid), omega (arith, len, most_page_size c.get-size.result c.get-size.ensures.valid))

pub open-requires-clause-usable : goal.open-requires-clause-usable
open-requires-clause-usable g c =
    let ok = c.in_ok-usable.ensures.ok in
    let len = c.in_ok-usable.ensures.length ∙ c.in-Ok.ensures ∙ c.get-size.ensures.value ∙ c.page_size.ensures in
    (ok.0, ok.1, let le = ok.2 in omega (arith, le, len))

pub returns-clause-ok : goal.returns-clause-ok
returns-clause-ok g c = λ gives.
    let d = g.S.PageSource.pages c.args.source.now in
    let k = c.in_ok-usable.ensures.keeps in
    let opened = subst (λ (e : Database). IsOpened (page e c.args.root) c.in_ok-usable.usable c.args.root c.in_ok-top.top) k.same_pages (c.in_ok-top.ensures.ok (k.still_gives gives)) in
    let usable = c.in_ok-usable.ensures.ok in
    let is : IsPage d c.args.root = (omega (arith, c.if-root-eq0.false), omega (arith, c.count-count.ensures, c.if-root-count.false)) in
    let allowed : suc (c.count-count.result - 1) ≡ length d = omega (arith, c.count-count.ensures, c.if-root-eq0.false, c.if-root-count.false) in (
      usable.3 gives,
      λ xs. (
        begins d c.args.root _ opened (usable.3 gives) c.new.ensures.items c.is_table.ensures allowed xs,
        tree_of d c.args.root _ is opened usable.0 c.new.ensures.items c.is_table.ensures allowed xs,
      ),
    )

pub returns-then-root-eq0-clause-once : goal.returns-then-root-eq0-clause-once
returns-then-root-eq0-clause-once g c = λ d xs ys. tree_once d c.args.root xs ys

pub returns-in_default-clause-once : goal.returns-in_default-clause-once
returns-in_default-clause-once g c = λ d xs ys. tree_once d c.args.root xs ys

pub returns-in_err-usable-clause-once : goal.returns-in_err-usable-clause-once
returns-in_err-usable-clause-once g c = λ d xs ys. tree_once d c.args.root xs ys

pub returns-in_err-top-clause-once : goal.returns-in_err-top-clause-once
returns-in_err-top-clause-once g c = λ d xs ys. tree_once d c.args.root xs ys

pub returns-clause-once : goal.returns-clause-once
returns-clause-once g c = λ d xs ys. tree_once d c.args.root xs ys
