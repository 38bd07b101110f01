use Rattle.std.proofs.Common.{take}
use Rattle.std.specs.Io.KnownBytes.{Appends}
use Rattle.std.specs.List.{flat_map}
use Rattle.sqcrash_store.specs.Objects.{escaped}
use Rattle.sqcrash_store.proofs.objects.write_bytes.Given as goal

abbrev pub invariant-loop-byte : goal.invariant-loop-byte
invariant-loop-byte g l = Appends (g.O.Write.contents l.initial.out) (g.O.Write.contents l.out) (flat_map escaped (take l.byte-index l.bytes))
