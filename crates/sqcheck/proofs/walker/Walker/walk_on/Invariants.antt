use Rattle.sqcheck.proofs.Words.{Bool, List, Keeps, Spot, Walking, WalksOn, count_by, not}
use Rattle.sqcheck.proofs.walker.Walker.walk_on.Given as goal

abbrev pub invariant-places : goal.invariant-places
invariant-places g l = record {
  walks : g.V.Snapshot.right × g.V.Snapshot.judged → (late : Bool) (visited rest : List Spot) → Walking g.V.Snapshot.pages late l.tree visited rest l.fn.self.uses l.fn.self.walk → WalksOn g.T.Visitor.saw g.V.Snapshot.pages late l.tree visited rest l.self.uses l.self.walk l.fn.visitor l.visitor;
  same : Keeps g.V.Snapshot g.S.PageSource l.source;
}

abbrev pub decreases-places : goal.decreases-places
decreases-places g l = count_by not l.self.uses.marks.items
