use Rattle.std.proofs.Common.{◌-◌, ◌≤◌, length}
use Rattle.schema_text.specs.Clauses.{AreClauses, depth_of}
use Rattle.schema_text.specs.declared.clauses.Place.TheVariants.{First}
use Rattle.schema_text.proofs.clauses.clauses_from.Given as goal

abbrev pub invariant-loop-found : goal.invariant-loop-found
invariant-loop-found l = record { within : l.at ≤ length l.tokens; shallow : depth_of l.place ≤ l.at; so_far : AreClauses l.text l.tokens First l.from l.clauses.items l.at l.place }

abbrev pub decreases-loop-found : goal.decreases-loop-found
decreases-loop-found l = length l.tokens - l.at
