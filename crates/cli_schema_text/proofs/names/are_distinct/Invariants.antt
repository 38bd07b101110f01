use Rattle.std.proofs.Common.{◌≡◌, ◌≤◌, drop, length, true}
use Rattle.cli_schema_text.specs.Names.{are_distinct}
use Rattle.cli_schema_text.proofs.NamesSeen.{HasAll}
use Rattle.cli_schema_text.proofs.names.are_distinct.Given as goal

abbrev pub invariant-names : goal.invariant-names
invariant-names l = record {
  within : l.left ≤ length l.names;
  has : HasAll l.seen (drop l.left l.names);
  distinct : are_distinct (drop l.left l.names) ≡ true;
}

abbrev pub decreases-names : goal.decreases-names
decreases-names l = l.left
