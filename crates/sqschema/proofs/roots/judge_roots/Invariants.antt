use Rattle.std.specs.Prelude.{map}
use Rattle.sqpage.specs.Source.{KeepsPages}
use Rattle.sqschema.specs.Items.{seen}
use Rattle.sqschema.specs.Roots.{HasTree}
use Rattle.sqschema.specs.internal.Judging.{AllBelow, AreAsidesBelow}
use Rattle.sqschema.proofs.roots.judge_roots.Given as goal

abbrev pub invariant-items : goal.invariant-items
invariant-items g l = record {
  kept : KeepsPages g.S.PageSource.pages g.S.PageSource.size g.S.PageSource.reads_right g.S.PageSource.gives_pages l.fn.source l.source;
  trees : g.S.PageSource.reads_right l.fn.source → AllBelow (λ i x. HasTree (g.S.PageSource.pages l.fn.source) x) (map seen l.items) l.i;
  asides : g.S.PageSource.reads_right l.fn.source → AreAsidesBelow (map seen l.items) l.i l.asides.items;
}
