use Rattle.sqcheck.proofs.Facts.{Aside, HasKind, InCell, IsBelow, Judged, Page, Pushes, ap, as_page, entered_aside, entered_knows, entered_page, entered_pushes, entered_sound, first_child, node_in, page_as, refl, subst, suc, sym, ℕ, ◌≡◌}
use Rattle.sqcheck.proofs.node.enter.Goals as goal

pub returns-clause-ok : goal.returns-clause-ok
returns-clause-ok c = λ d e k.
    let tree = c.args.tree.now in
    let p : ℕ = c.args.raw.number in
    let x = node_in tree c.args.bounds.level c.args.bounds.low c.args.bounds.high in
    let b : Page = c.in-Ok.page in
    let same : b ≡ page_as d b.kind p = as_page d p _ b e c.in-Ok.ensures.ok.1 c.in-Ok.ensures.ok.0 in
    let j : Judged (page_as d b.kind p) x c.args.walk.now.leaf_level c.judge.new.first = subst (λ q. Judged q x c.args.walk.now.leaf_level c.judge.new.first) same c.in-Ok.ensures.ok.2 in
    let aside : Aside tree b.kind p c.args.walk.now.rows.items c.put_aside.new.rows.items = subst (λ m. Aside tree m p c.args.walk.now.rows.items c.put_aside.new.rows.items) c.kind-kind.ensures c.in_ok-put_aside.ensures.ok in
    let below = subst (λ q. Pushes tree (IsBelow q x) c.args.walk.now.stack.items c.push_below.new.stack.items) same (c.in_ok-push_below.ensures.ok tree) in
    let second : first_child b ≡ first_child (page_as d b.kind p) = ap first_child same in
    let chains = c.in_ok-push_chains.ensures in
    let has : HasKind d b.kind p = j.page_is.kind in (
      subst (λ m. HasKind d m p) (sym c.kind-kind.ensures) has,
      record {
        sound = entered_sound d tree p b.kind x c.args.walk.now.leaf_level c.judge.new.first j refl k c.requires.shallow;
        pushes = entered_pushes d tree p b.kind x c.args.walk.now.leaf_level c.judge.new.first j c.args.walk.now.stack.items c.push_below.new.stack.items c.push_chains.new.stack.items below
            (subst (λ q. Pushes tree (InCell q) c.push_below.new.stack.items c.push_chains.new.stack.items) same (chains.ok tree));
        aside = entered_aside d tree p b.kind x c.args.walk.now.leaf_level c.judge.new.first j c.args.walk.now.rows.items c.put_aside.new.rows.items refl aside;
        knows = entered_knows d tree p b.kind x c.args.walk.now.leaf_level c.judge.new.first j refl k c.push_below.new.stack.items c.push_chains.new.stack.items
            (λ int leads. c.in_ok-push_below.ensures.leads d tree.root int (λ on f. leads on (subst (λ q. Rattle.sqcheck.specs.WellFormed.FirstLeaf d q (suc c.args.bounds.level) on) second f))) (chains.leads d tree.root);
      },
    )

pub returns-clause-behind : goal.returns-clause-behind
returns-clause-behind c = λ d e.
    let tree = c.args.tree.now in
    let p : ℕ = c.args.raw.number in
    let x = node_in tree c.args.bounds.level c.args.bounds.low c.args.bounds.high in
    let b : Page = c.in-Ok.page in
    let same : b ≡ page_as d b.kind p = as_page d p _ b e c.in-Ok.ensures.ok.1 c.in-Ok.ensures.ok.0 in
    let j : Judged (page_as d b.kind p) x c.args.walk.now.leaf_level c.judge.new.first = subst (λ q. Judged q x c.args.walk.now.leaf_level c.judge.new.first) same c.in-Ok.ensures.ok.2 in
    let aside : Aside tree b.kind p c.args.walk.now.rows.items c.put_aside.new.rows.items = subst (λ m. Aside tree m p c.args.walk.now.rows.items c.put_aside.new.rows.items) c.kind-kind.ensures c.in_ok-put_aside.ensures.ok in
    let below = subst (λ q. Pushes tree (IsBelow q x) c.args.walk.now.stack.items c.push_below.new.stack.items) same (c.in_ok-push_below.ensures.ok tree) in
    let has : HasKind d b.kind p = j.page_is.kind in (
      subst (λ m. HasKind d m p) (sym c.kind-kind.ensures) has,
      record {
        sound = entered_page d tree p b.kind x c.args.walk.now.leaf_level c.judge.new.first j c.requires.shallow;
        pushes = entered_pushes d tree p b.kind x c.args.walk.now.leaf_level c.judge.new.first j c.args.walk.now.stack.items c.push_below.new.stack.items c.push_chains.new.stack.items below
            (subst (λ q. Pushes tree (InCell q) c.push_below.new.stack.items c.push_chains.new.stack.items) same (c.in_ok-push_chains.ensures.ok tree));
        aside = entered_aside d tree p b.kind x c.args.walk.now.leaf_level c.judge.new.first j c.args.walk.now.rows.items c.put_aside.new.rows.items refl aside;
      },
    )
