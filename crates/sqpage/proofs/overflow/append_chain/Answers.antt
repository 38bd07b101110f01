use Rattle.std.proofs.Common.{◌≡◌, ◌≢◌, ◌⊎◌, ℕ, List, ◌<◌, length, [], ◌∷◌, ◌++◌, sym, subst, inl, inr, ap, ◌∙◌, arith, append_assoc}
use Rattle.std.proofs.lemmas.Result.{err_from_is_err_and}
use Rattle.sqpage.specs.Lists.{In}
use Rattle.sqpage.specs.Freelist.{IsPage}
use Rattle.sqpage.specs.Chain.{links}
use Rattle.sqpage.proofs.chain.ListsByRecursion.{in_left, in_right}
use Rattle.sqpage.proofs.file.PagesInMemory.{keeps_on}
use Rattle.sqpage.proofs.chain.OverflowChains.{linked_on, content_on, length_snoc, link_refused, ends}
use Rattle.sqpage.proofs.overflow.append_chain.Goals.{then-is_power_of_two, else-is_power_of_two}
use Rattle.sqpage.proofs.overflow.append_chain.Goals as goal

-- The page that is kept is one of those that were read.
kept_on : (pages : List ℕ) (old new next : ℕ) → (new ≡ next) ⊎ (new ≡ old) → (old ≢ 0 → In old pages) → new ≢ 0 → In new (pages ++ next ∷ [])
kept_on pages old new next (inl e) is nonzero = in_right new pages (next ∷ []) (inl e)
kept_on pages old new next (inr e) is nonzero = in_left new pages (next ∷ []) (subst (λ k. In k pages) (sym e) (is (λ z. nonzero (e ∙ z))))

pub links-preserved : goal.links-preserved
links-preserved g c =
    let d = g.S.PageSource.pages c.args.source.now in
    let i = c.links.invariant in
    let e = c.in_ok-following.ensures in
    let count = i.count in
    let pages = i.pages ++ c.links.next ∷ [] in
    record {
      pages = pages;
      count = let n = length_snoc i.pages c.links.next in omega (arith, n, count, c.links-test.true);
      kept_is = elim c.if-is_power_of_two.branch [
        | then-is_power_of_two w ↦ kept_on i.pages c.links.kept c.if-is_power_of_two.kept c.links.next (inl w.kept-is) i.kept_is
        | else-is_power_of_two w ↦ kept_on i.pages c.links.kept c.if-is_power_of_two.kept c.links.next (inr w.kept-is) i.kept_is
      ];
      kept = keeps_on i.kept e.keeps;
      linked = λ right. let ok = e.ok (i.kept.still_right right) in linked_on d (g.S.PageSource.pages c.links.source) c.args.cell.now i.pages c.links.at c.links.next c.in_ok-following.following i.kept.same_pages (subst (λ d. IsPage d c.links.next) i.kept.same_pages ok.0) ok.1 (i.linked right);
      content = λ right. content_on d (g.S.PageSource.pages c.links.source) c.args.cell.now.usable i.pages c.links.next c.args.out.now.items _ _ i.kept.same_pages (i.content right) (e.ok (i.kept.still_right right)).2;
      appended = (i.appended.0 ++ e.appended.0, e.appended.1 ∙ ap (λ l. l ++ e.appended.0) i.appended.1 ∙ append_assoc c.args.out.now.items i.appended.0 e.appended.0);
    }

pub returns-then-next-eq0-clause-err : goal.returns-then-next-eq0-clause-err
returns-then-next-eq0-clause-err g c = λ right.
    let i = c.links.invariant in
    let few : length i.pages < links c.args.cell.now = omega (arith, i.count, c.requires.needed, c.links-test.true) in
    (λ is. absurd cc, λ other. (i.pages, ends (g.S.PageSource.pages c.args.source.now) c.args.cell.now i.pages c.links.at c.links.next c.if-next-eq0.true (i.linked right), few))

pub returns-in_err-following-clause-err : goal.returns-in_err-following-clause-err
returns-in_err-following-clause-err g c = λ right.
    let i = c.links.invariant in
    let few : length i.pages < links c.args.cell.now = omega (arith, i.count, c.requires.needed, c.links-test.true) in
    let p = err_from_is_err_and c.from_residual.result c.from_residual.ensures.1 in
    let refused = c.in_err-following.ensures.err (i.kept.still_right right) in
    rw (p.1, p.2) (
      λ is gives. refused.0 is (i.kept.still_gives gives),
      λ other. link_refused (g.S.PageSource.pages c.args.source.now) (g.S.PageSource.pages c.links.source) c.args.cell.now i.pages c.links.at c.links.next _ _ i.kept.same_pages (i.linked right) few c.if-next-eq0.false (refused.1 other),
    )

pub returns-clause-ok : goal.returns-clause-ok
returns-clause-ok g c = λ right.
    let i = c.links.invariant in (
      λ whole. record {
        pages = i.pages;
        last = c.links.at;
        enough = omega (arith, i.count, c.requires.needed, c.links-test.false);
        follows = ends (g.S.PageSource.pages c.args.source.now) c.args.cell.now i.pages c.links.at c.links.next c.if-next-ne0.false (i.linked right);
        appended = i.content right;
      },
      λ goes_on. absurd (cc),
    )
