-- The bytes of each lock, as SQLite's os.h and wal.c have them.
use Rattle.std.specs.Prelude.{ℕ, Bool, true, false}
use Rattle.sqlocks.specs.declared.plan.Lock.{Lock}
use Rattle.sqlocks.specs.declared.plan.Lock.TheVariants.{Pending, Shared, Exclusive, Restarts, Checkpoints, Writers, Connections, WholeIndex, Alone}
use Rattle.sqlocks.specs.declared.bytes.Bytes.{Bytes}

abbrev pub of_file : Bool → ℕ → ℕ → Bytes
of_file is_exclusive start count = record { is_of_index = false; is_exclusive = is_exclusive; start = start; count = count }

abbrev pub of_index : Bool → ℕ → ℕ → Bytes
of_index is_exclusive start count = record { is_of_index = true; is_exclusive = is_exclusive; start = start; count = count }

-- PENDING_BYTE and SHARED_FIRST with SHARED_SIZE, of FILE; WAL_WRITE_LOCK, WAL_READ_LOCK(0) and (4), and
-- UNIX_SHM_DMS, of FILE-shm; Alone is own, behind the bytes of SQLite
abbrev pub bytes_of : Lock → Bytes
bytes_of Pending = of_file false 1073741824 1
bytes_of Shared = of_file false 1073741826 510
bytes_of Exclusive = of_file true 1073741824 512
bytes_of Writers = of_index false 120 1
bytes_of Checkpoints = of_index false 123 1
bytes_of Restarts = of_index false 127 1
bytes_of Connections = of_index true 128 1
bytes_of WholeIndex = of_index true 120 9
bytes_of Alone = of_file false 1073742337 1
