use Rattle.sqcheck.proofs.Between.{Database, List, [], ap, arith, chain_taken, keeps_on, length, length_snoc, linked_on, next_in, of_ok, refl, taking_more, taking_none, ℕ, ◌++◌, ◌+◌, ◌<◌, ◌∙◌, ◌∷◌, ◌≡◌, ◌≤◌}
use Rattle.sqcheck.proofs.chains.Chains.takes.Goals as goal

pub links-init : goal.links-init
links-init g c = let needed = c.links_of-left.ensures in record {
  pages = [];
  taking = taking_none c.args.roles.now c.args.cell.now.page c.args.self.now.taken.items;
  count = omega (arith, needed);
  room = refl;
  kept = record { still_right = λ right. right; still_gives = λ gives. gives; same_pages = refl; same_size = refl };
  at = c.args.cell.now.page;
  linked = λ right. (refl, refl);
}

pub links-preserved : goal.links-preserved
links-preserved g c =
    let d = g.S.PageSource.pages c.args.source.now in
    let i = c.links.invariant in
    let p : ℕ = c.links.next in
    let took = c.take.ensures.taken c.if-not-take.false in
    let read = c.page.ensures in
    let n = length_snoc i.pages p in
    let m = i.count in
    record {
      pages = i.pages ++ p ∷ [];
      taking = taking_more c.args.roles.now c.args.cell.now.page c.args.self.now.taken.items c.links.self.taken.items c.take.new.self.taken.items i.pages p i.taking took;
      count = omega (arith, n, m, c.links-test.true);
      room = c.page.auto.out ∙ i.room;
      kept = keeps_on i.kept read.keeps;
      at = p;
      linked = λ right. linked_on d (g.S.PageSource.pages c.links.source) c.args.cell.now i.pages i.at p c.word_at-next.result i.kept.same_pages
          (took.above, (let few : p ≤ c.count.result = c.if-next-count.false in let count = c.count.ensures ∙ ap (λ (q : Database). length q) i.kept.same_pages in omega (arith, few, count)))
          (c.word_at-next.ensures ∙ ap next_in (of_ok _ c.page.result c.is_err.result c.is_err.ensures.value c.if-is_err.false (read.read (i.kept.still_right right))).0) (i.linked right);
    }

pub returns-clause-own : goal.returns-clause-own
returns-clause-own g c = λ right yes.
    let i = c.links.invariant in
    chain_taken (g.S.PageSource.pages c.args.source.now) c.args.roles.now c.args.cell.now c.args.self.now.taken.items c.links.self.taken.items i.pages c.links.left i.at c.links.next i.taking i.count (omega (arith, c.links-test.false)) (i.linked right)
