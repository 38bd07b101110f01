use Rattle.sqworld.proofs.Facts.{numbered, take, ◌≡◌}
use Rattle.sqworld.proofs.engine.copy_writes.Given as goal

abbrev pub invariant-loop-write : goal.invariant-loop-write
invariant-loop-write l = numbered l.copy.items ≡ numbered (take l.write-index l.writes)
