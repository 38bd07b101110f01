use Rattle.std.proofs.Common.{◌≡◌, map}
use Rattle.cli_schema_text.specs.Names.{numbered}
use Rattle.cli_schema_text.proofs.names.numbered.Given as goal

abbrev pub invariant-loop-i : goal.invariant-loop-i
invariant-loop-i l = map (λ n. n.items) l.out.items ≡ numbered l.i
