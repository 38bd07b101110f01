use Rattle.std.proofs.Common.{◌≡◌, ◌+◌, ◌-◌, ◌≤◌, length}
use Rattle.sqwal.specs.Frames.{frame_at}
use Rattle.sqwal.specs.Header.{IsHeaderOf}
use Rattle.sqwal.specs.Slots.{stored}
use Rattle.cli_show.specs.Contents.{KeepsBytes}
use Rattle.cli_show.specs.internal.Generations.{AreRead}
use Rattle.cli_show.proofs.behind.generations_of.Given as goal

-- so many slots were read, and the sums are those of the last one
abbrev pub invariant-loop-i : goal.invariant-loop-i
invariant-loop-i g l =
    let wal = g.F.FileBytes.bytes l.fn.wal in
    KeepsBytes g.F.FileBytes.bytes g.F.FileBytes.gives_bytes l.fn.wal l.wal
    × (g.F.FileBytes.gives_bytes l.fn.wal → IsHeaderOf wal l.header → 1 ≤ l.first → frame_at l.header.page_size l.first ≤ length wal
    → (l.before ≡ stored l.header.page_size wal (l.first + l.i - 1))
    × AreRead l.header.page_size wal l.first (l.first + l.i) l.generations)
