use Rattle.std.proofs.Common.{take}
use Rattle.std.specs.Io.KnownBytes.{Appends}
use Rattle.std.specs.List.{flat_map}
use Rattle.cli_show.specs.Generations.{generation_text}
use Rattle.cli_show.proofs.generations.Generations.write.Given as goal

-- so many generations were printed
abbrev pub invariant-loop-generation : goal.invariant-loop-generation
invariant-loop-generation g l = Appends (g.W.Write.contents l.fn.out) (g.W.Write.contents l.out) (flat_map (generation_text l.style) (take l.generation-index l.self.closed.items))
