use Rattle.std.proofs.Common.{List, ℕ, ◌++◌, codes, subst}
use Rattle.std.specs.Io.KnownBytes.{Appends}
use Rattle.std.proofs.KnownBytes.{Appends-trans}
use Rattle.cli_text.specs.declared.report.Tree.{Tree}
use Rattle.cli_facts.specs.declared.runs.Run.{Run}
use Rattle.cli_show.specs.Reports.{IsLoggedText, IsTreesText, list_text, runs_text}
use Rattle.cli_show.proofs.WrittenLogs.{on_ok}
use Rattle.cli_show.proofs.report.write_lists.Goals as goal

pub returns : goal.returns
returns g c =
    let facts = c.args.facts.now in
    let old = g.W.Write.contents c.args.out.now in
    let first = g.W.Write.contents c.write_tree_list.new.out in
    let second = g.W.Write.contents c.write_run_list.new.out in
    let new = g.W.Write.contents c.write_logged_list.new.out in
    let trees = c.in_ok-write_tree_list.ensures in
    let tree_list = list_text (codes "trees") trees.0 in
    let run_list = list_text (codes "runs") (runs_text 1 facts.runs.items) in
    let is : IsTreesText facts.found facts.trees.items trees.0 =
    subst (λ (l : List Tree). IsTreesText facts.found l trees.0) c.deref.ensures.value trees.1 in
    let runs : Appends first second run_list =
    subst (λ (l : List Run). Appends first second (list_text (codes "runs") (runs_text 1 l))) c.deref-2.ensures.value c.in_ok-write_run_list.ensures in
    on_ok c.write_logged_list.result
    ((logged : List ℕ) × IsLoggedText facts.found logged × Appends second new (list_text (codes "logged") logged))
    ((trees : List ℕ) × (logged : List ℕ) × IsTreesText facts.found facts.trees.items trees × IsLoggedText facts.found logged
    × Appends old new (list_text (codes "trees") trees ++ (run_list ++ list_text (codes "logged") logged)))
    (λ logged.
    let logged_list = list_text (codes "logged") logged.0 in (
      trees.0,
      logged.0,
      is,
      logged.1,
      Appends-trans old first new tree_list (run_list ++ logged_list) trees.2
          (Appends-trans first second new run_list logged_list runs logged.2),
    )) c.write_logged_list.ensures
