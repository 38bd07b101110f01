use Rattle.std.proofs.Common.{List, subst}
use Rattle.std.specs.Prelude.{map, string_bytes}
use Rattle.cli_show.specs.Names.{IsTreeName}
use Rattle.cli_show.specs.declared.names.Name.{Name}
use Rattle.cli_show.proofs.NamesOfTrees.{tree_name}
use Rattle.cli_show.proofs.names.Names.of.Goals as goal

pub returns : goal.returns
returns c =
    let is = tree_name c.deref.result.now c.args.root c.named_in.result c.if-root-eq1.false c.named_in.ensures.there c.named_in.ensures.missing in
    subst (λ (names : List Name). IsTreeName (map (λ x. (x.root, string_bytes x.name)) names) c.args.root c.named_in.result) c.deref.ensures.value is
