use Rattle.std.proofs.Common.{◌≡◌, ℕ, List, length}
use Rattle.std.specs.Prelude.{slice_get, Some}
use Rattle.std.specs.List.{flat_map}
use Rattle.std.specs.Io.KnownBytes.{Appends}
use Rattle.cli_show.specs.Names.{names_of}
use Rattle.cli_show.specs.Reports.{IsTreeText}
use Rattle.cli_show.proofs.report.write_trees.Given as goal

abbrev pub invariant-loop-i : goal.invariant-loop-i
invariant-loop-i g l =
    (texts : List (List ℕ)) × (length texts ≡ l.i)
    × ((i : ℕ) (text : List ℕ) → slice_get texts i ≡ Some text → IsTreeText (names_of l.names) l.trees i text)
    × Appends (g.W.Write.contents l.fn.out) (g.W.Write.contents l.out) (flat_map (λ (text : List ℕ). text) texts)
