use Rattle.std.proofs.Common.{◌≡◌, ℕ, ◌-◌, List, [], length, sym, subst, ap, ◌∙◌}
use Rattle.std.proofs.lemmas.Result.{err_from_is_err_and}
use Rattle.sqval.specs.Bytes.{word}
use Rattle.sqpage.specs.Header.{byte}
use Rattle.sqpage.specs.Freelist.{Reaches, usable_size, first_trunk}
use Rattle.sqpage.proofs.file.PagesInMemory.{keeps_on}
use Rattle.sqpage.proofs.chain.WalkOverFreelist.{reach_start, walked_on, refused_at}
use Rattle.sqpage.proofs.free_pages.collect.Goals as goal

pub trunks-init : goal.trunks-init
trunks-init g c =
    let d = g.S.PageSource.pages c.args.source.now in
    record {
      taken = c.in_ok-found.ensures.taken;
      kept = c.read_page.ensures.keeps;
      marks = c.in_ok-found.ensures.marks ∙ c.count.ensures;
      reaches = λ right.
          let first : c.word_at-trunk.result ≡ first_trunk d = c.word_at-trunk.ensures ∙ ap (λ b. word b 32) (c.in_ok-read_page.ensures.read right) in
          subst (λ ps. Reaches d ps 1 c.word_at-trunk.result) (sym c.in_ok-found.ensures.none) (subst (Reaches d [] 1) (sym first) (reach_start d));
    }

pub returns-in_err-next-clause-err : goal.returns-in_err-next-clause-err
returns-in_err-next-clause-err g c = λ right.
    let d = g.S.PageSource.pages c.args.source.now in
    let i = c.trunks.invariant in
    let used = ap (λ r. length c.read_page.new.out - r) c.from.ensures ∙ ap (λ (b : List ℕ). length b - byte b 20) (c.in_ok-read_page.ensures.read right) in
    let used' = used ∙ sym (ap usable_size i.kept.same_pages) in
    let p = err_from_is_err_and c.from_residual-in_err-next.result c.from_residual-in_err-next.ensures.1 in
    let refused = c.in_err-next.ensures.err (i.kept.still_right right) used' in
    rw (p.1, p.2)
    (λ is gives. refused.0 is (i.kept.still_gives gives), λ other. refused_at d (g.S.PageSource.pages c.trunks.source) _ c.trunks.holder c.trunks.trunk _ _ i.kept.same_pages (i.reaches right) c.trunks-test.true (refused.1 other))

pub trunks-preserved : goal.trunks-preserved
trunks-preserved g c =
    let d = g.S.PageSource.pages c.args.source.now in
    let i = c.trunks.invariant in
    let e = c.in_ok-next.ensures in
    record {
      taken = e.taken.0;
      kept = keeps_on i.kept e.keeps;
      marks = e.taken.1 ∙ i.marks;
      reaches = λ right.
          let used = ap (λ r. length c.read_page.new.out - r) c.from.ensures ∙ ap (λ (b : List ℕ). length b - byte b 20) (c.in_ok-read_page.ensures.read right) in
          let used' = used ∙ sym (ap usable_size i.kept.same_pages) in
          walked_on d (g.S.PageSource.pages c.trunks.source) _ _ _ c.trunks.holder c.trunks.trunk c.in_ok-next.next i.kept.same_pages (i.reaches right)
          (e.ok (i.kept.still_right right) used') e.taken.0 (e.taken.1 ∙ i.marks);
    }
