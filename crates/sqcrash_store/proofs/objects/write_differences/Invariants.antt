use Rattle.std.proofs.Common.{take, map}
use Rattle.std.specs.Io.KnownBytes.{Appends}
use Rattle.std.specs.String.{string_bytes}
use Rattle.sqcrash_store.specs.Objects.{members, difference_object}
use Rattle.sqcrash_store.proofs.objects.write_differences.Given as goal

abbrev pub invariant-loop-i : goal.invariant-loop-i
invariant-loop-i g l =
    Appends (g.O.Write.contents l.initial.out) (g.O.Write.contents l.out) (members (difference_object (map (λ n. string_bytes n) l.names)) (take l.i l.differences))
