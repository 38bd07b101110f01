use Rattle.std.proofs.Common.{take, map}
use Rattle.std.specs.Io.KnownBytes.{Appends}
use Rattle.std.specs.String.{string_bytes}
use Rattle.sqcrash_store.specs.Lines.{differences_text}
use Rattle.sqcrash_store.proofs.lines.write_differences.Given as goal

abbrev pub invariant-loop-difference : goal.invariant-loop-difference
invariant-loop-difference g l =
    Appends (g.O.Write.contents l.initial.out) (g.O.Write.contents l.out) (differences_text (map (λ n. string_bytes n) l.names) (take l.difference-index l.differences))
