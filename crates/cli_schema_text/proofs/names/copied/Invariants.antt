use Rattle.std.proofs.Common.{◌≡◌, map, take}
use Rattle.cli_schema_text.proofs.names.copied.Given as goal

abbrev pub invariant-loop-name : goal.invariant-loop-name
invariant-loop-name l = map (λ n. n.items) l.out.items ≡ map (λ n. n.items) (take l.name-index l.names)
