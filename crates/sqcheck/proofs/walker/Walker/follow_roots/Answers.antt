use Rattle.sqcheck.proofs.Facts.{Root, RootsMatch, StandsAt, Visited, [], append-nil, arith, drop, drop-cons, drop_all, exits_as, first_root_at, get_or, last_root, refl, subst, suc, sym, true, visits_more, ◌++◌, ◌+◌, ◌≡◌}
use Rattle.sqcheck.proofs.walker.Walker.follow_roots.Goals as goal

pub roots-init : goal.roots-init
roots-init g c = record {
  walks = λ right visited spots rest w m. ([], spots, subst (λ l. Visited g.V.Snapshot.pages true l (spots ++ rest) c.args.self.now.uses c.args.self.now.walk) (sym (append-nil visited)) w, m, refl);
  same = c.requires.same;
}

pub returns-in_err-follow_root-clause-walks : goal.returns-in_err-follow_root-clause-walks
returns-in_err-follow_root-clause-walks g c = λ right visited spots rest w m.
    let d = g.V.Snapshot.pages in
    let roots = c.args.roots.now in
    let s = c.roots.self in
    let zero' : Root = record { holder = 0; page = 0 } in
    let found : Root = get_or roots c.roots.root-index zero' in
    let k = c.roots.invariant.walks right visited spots rest w m in
    let f = first_root_at d (drop c.roots.root-index roots) found (drop (suc c.roots.root-index) roots) k.1 (drop-cons roots c.roots.root-index zero' c.roots-test.true) k.3 in
    let e = c.in_err-follow_root.field-0.0 in
    exits_as _ (StandsAt g.V.Snapshot) e c.from_residual.result c.from_residual.ensures.1
    (c.in_err-follow_root.ensures.walks right (visited ++ k.0) (f.1 ++ rest) f.0 (subst (λ l. Visited d true (visited ++ k.0) (l ++ rest) s.uses s.walk) f.2 k.2) f.3)

pub roots-preserved : goal.roots-preserved
roots-preserved g c =
    let d = g.V.Snapshot.pages in
    let roots = c.args.roots.now in
    let s = c.roots.self in
    let n = c.follow_root.new.self in
    let zero' : Root = record { holder = 0; page = 0 } in
    let found : Root = get_or roots c.roots.root-index zero' in
    record {
      walks = λ right visited spots rest w m.
          let k = c.roots.invariant.walks right visited spots rest w m in
          let f = first_root_at d (drop c.roots.root-index roots) found (drop (suc c.roots.root-index) roots) k.1 (drop-cons roots c.roots.root-index zero' c.roots-test.true) k.3 in
          let h = c.in_ok-follow_root.ensures.walks right (visited ++ k.0) (f.1 ++ rest) f.0 (subst (λ l. Visited d true (visited ++ k.0) (l ++ rest) s.uses s.walk) f.2 k.2) f.3 in
          let v = visits_more g.T.Visitor.saw d true visited (f.1 ++ rest) k.0 n.uses n.walk c.args.visitor.now c.roots.visitor c.follow_root.new.visitor k.4 h in
          (v.0, f.1, v.1, subst (λ i. RootsMatch d (drop i roots) f.1) (let e : suc c.roots.root-index ≡ c.roots.root-index + 1 = omega arith in e) f.4, v.2);
      same = c.follow_root.ensures.same;
    }

pub returns-clause-walks : goal.returns-clause-walks
returns-clause-walks g c = λ right visited spots rest w m.
    let d = g.V.Snapshot.pages in
    let roots = c.args.roots.now in
    let k = c.roots.invariant.walks right visited spots rest w m in
    let none : drop c.roots.root-index roots ≡ [] = drop_all c.roots.root-index roots c.roots-test.false in
    (k.0, subst (λ l. Visited d true (visited ++ k.0) (l ++ rest) c.roots.self.uses c.roots.self.walk) (last_root d (drop c.roots.root-index roots) k.1 none k.3) k.2, k.4)
