use Rattle.std.proofs.Common.{◌≡◌, ◌+◌, ◌≤◌, drop}
use Rattle.schema_print.specs.Printable.{commas}
use Rattle.schema_print.proofs.refusals.commas.Given as goal

abbrev pub invariant-loop-token : goal.invariant-loop-token
invariant-loop-token l = record { shallow : l.depth ≤ l.token-index; few : l.count ≤ l.token-index; so_far : commas 0 l.tokens ≡ l.count + commas l.depth (drop l.token-index l.tokens) }
