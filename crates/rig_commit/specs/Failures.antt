-- Why a run ended early (own).
use Rattle.rig_commit.specs.declared.failure.Failure.{Failure}
use Rattle.rig_commit.specs.declared.failure.Failure.TheVariants.{File, Wal, Roll, NoMemory}

-- over a write-ahead log: by its engine, by the file of the marks, or for want of memory
abbrev pub IsOfWal : Failure → Type 0
IsOfWal (Wal error) = Unit {0}
IsOfWal File = Unit {0}
IsOfWal NoMemory = Unit {0}
IsOfWal _ = ⊥

-- over a rollback journal: the same by its engine
abbrev pub IsOfRoll : Failure → Type 0
IsOfRoll (Roll error) = Unit {0}
IsOfRoll File = Unit {0}
IsOfRoll NoMemory = Unit {0}
IsOfRoll _ = ⊥
