use Rattle.std.proofs.Common.{◌-◌, ◌≤◌, length}
use Rattle.schema_tokens.specs.Pieces.{ArePieces}
use Rattle.schema_tokens.proofs.pieces.read.Given as goal

abbrev pub invariant-loop-found : goal.invariant-loop-found
invariant-loop-found l = record { within : l.at ≤ length l.text; so_far : ArePieces l.text 0 l.pieces.items l.at }

abbrev pub decreases-loop-found : goal.decreases-loop-found
decreases-loop-found l = length l.text - l.at
