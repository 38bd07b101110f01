use Rattle.sqcheck.proofs.Words.{List, RootsMatch, Keeps, Spot, TellsOf, Visited, drop, true, ◌++◌, ◌≡◌}
use Rattle.sqcheck.proofs.walker.Walker.follow_roots.Given as goal

abbrev pub invariant-roots : goal.invariant-roots
invariant-roots g l =
    let d = g.V.Snapshot.pages in
    record {
      walks : g.V.Snapshot.right × g.V.Snapshot.judged → (visited spots rest : List Spot) → Visited d true visited (spots ++ rest) l.fn.self.uses l.fn.self.walk → RootsMatch d l.roots spots
          → (more left : List Spot) × Visited d true (visited ++ more) (left ++ rest) l.self.uses l.self.walk × RootsMatch d (drop l.root-index l.roots) left × TellsOf g.T.Visitor.saw d l.fn.visitor more l.visitor;
      same : Keeps g.V.Snapshot g.S.PageSource l.source;
    }
