use Rattle.std.proofs.Common.{[], ◌∷◌, ◌++◌, ◌==◌, List, ℕ, arith, refl}
use Rattle.cli_text.specs.Reports.{hex_name, tree_text}
use Rattle.cli_show.specs.Names.{names_of}
use Rattle.cli_show.specs.Reports.{IsTreeText}
use Rattle.cli_show.proofs.LinesOfPages.{appends_line, each_more, length_more}
use Rattle.cli_show.proofs.report.write_trees.Goals as goal

pub loop-i-preserved : goal.loop-i-preserved
loop-i-preserved g c =
    let so_far = c.loop-i.invariant in
    let i = c.loop-i.i in
    let tree = c.tree_in-tree.result in
    let name = c.of-name.result in
    let text = tree_text (i == 0) tree (hex_name name) in (
      so_far.0 ++ text ∷ [],
      length_more so_far.0 text i so_far.1,
      each_more (IsTreeText (names_of c.args.names.now) c.args.trees.now) so_far.0 i text so_far.1 so_far.2
          (tree, name, c.tree_in-tree.ensures, c.of-name.ensures, refl),
      appends_line (g.W.Write.contents c.args.out.now) (g.W.Write.contents c.loop-i.out) (g.W.Write.contents c.write_tree.new.out)
          (λ (l : List ℕ). l) so_far.0 text so_far.3 c.in_ok-write_tree.ensures,
    )

pub returns : goal.returns
returns g c =
    let texts = c.loop-i.invariant in (
      texts.0,
      record {
        all = omega (arith, texts.1, c.loop-i-test.false, c.loop-i.auto.i-end);
        each = texts.2;
      },
      texts.3,
    )
