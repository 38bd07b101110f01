use Rattle.sqcheck.proofs.Facts.{HasFound, Root, RootsMatch, [], arith, drop, drop-cons, drop_all, first_root_at, get_or, last_root, refl, subst, suc, true, ◌+◌, ◌∙◌, ◌≡◌}
use Rattle.sqcheck.proofs.walker.Walker.survey_roots.Goals as goal

pub roots-init : goal.roots-init
roots-init g c = record { long = refl; found = λ right first bars spots m was. (spots, m, was); same = c.requires.same }

pub roots-preserved : goal.roots-preserved
roots-preserved g c =
    let d = g.V.Snapshot.pages in
    let roots = c.args.roots.now in
    let s = c.roots.self in
    let zero' : Root = record { holder = 0; page = 0 } in
    let found : Root = get_or roots c.roots.root-index zero' in
    record {
      long = c.survey_root.ensures.long ∙ c.roots.invariant.long;
      found = λ right first bars spots m was.
          let k = c.roots.invariant.found right first bars spots m was in
          let f = first_root_at d (drop c.roots.root-index roots) found (drop (suc c.roots.root-index) roots) k.0 (drop-cons roots c.roots.root-index zero' c.roots-test.true) k.1 in (
            f.1,
            subst (λ i. RootsMatch d (drop i roots) f.1) (let e : suc c.roots.root-index ≡ c.roots.root-index + 1 = omega arith in e) f.4,
            c.in_ok-survey_root.ensures.found right first bars f.1 f.0 f.3 (subst (λ l. HasFound g.V.Snapshot.maps d g.V.Snapshot.size first bars true true l s.uses s.walk c.roots.chart) f.2 k.2),
          );
      same = c.survey_root.ensures.same;
    }

pub returns-clause-found : goal.returns-clause-found
returns-clause-found g c = λ right first bars spots m was.
    let d = g.V.Snapshot.pages in
    let roots = c.args.roots.now in
    let k = c.roots.invariant.found right first bars spots m was in
    let none : drop c.roots.root-index roots ≡ [] = drop_all c.roots.root-index roots c.roots-test.false in
    subst (λ l. HasFound g.V.Snapshot.maps d g.V.Snapshot.size first bars true true l c.roots.self.uses c.roots.self.walk c.roots.chart) (last_root d (drop c.roots.root-index roots) k.0 none k.1) k.2
