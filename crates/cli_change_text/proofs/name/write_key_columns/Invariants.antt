use Rattle.std.proofs.Common.{List, ℕ, ◌++◌, ◌-◌}
use Rattle.std.specs.Io.KnownBytes.{Appends}
use Rattle.cli_change_text.specs.Names.{AreKeyColumns}
use Rattle.cli_change_text.proofs.name.write_key_columns.Given as goal

abbrev pub invariant-loop-place : goal.invariant-loop-place
invariant-loop-place g l =
    (t : List ℕ) × Appends (g.W.Write.contents l.fn.out) (g.W.Write.contents l.out) t
    × ((more : List ℕ) → AreKeyColumns l.style.encoding l.naming l.style.columns.now l.order l.values l.place (l.fn.key.width - l.place) more
    → AreKeyColumns l.style.encoding l.naming l.style.columns.now l.fn.key.order l.values 0 l.fn.key.width (t ++ more))
