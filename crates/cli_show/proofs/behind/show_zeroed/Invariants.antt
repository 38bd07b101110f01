use Rattle.std.proofs.Common.{ℕ, ◌+◌, List}
use Rattle.std.specs.Io.KnownBytes.{Appends}
use Rattle.cli_show.specs.Behind.{AreLines, IsZeroedLine, slots_from}
use Rattle.cli_show.specs.Contents.{KeepsBytes}
use Rattle.cli_show.specs.internal.Behind.{IsNonceBefore}
use Rattle.cli_show.proofs.behind.show_zeroed.Given as goal

-- so many records were printed, and before is the nonce of the last one
abbrev pub invariant-loop-i : goal.invariant-loop-i
invariant-loop-i g l =
    let b = g.F.FileBytes.bytes l.fn.journal in
    let size = l.page_size in
    KeepsBytes g.F.FileBytes.bytes g.F.FileBytes.gives_bytes l.fn.journal l.journal
    × (g.F.FileBytes.gives_bytes l.fn.journal
    → IsNonceBefore size b l.i l.before
    × ((text : List ℕ) × AreLines (IsZeroedLine l.style size (slots_from 512 (size + 8) b) b) l.i text
    × Appends (g.W.Write.contents l.fn.out) (g.W.Write.contents l.out) text))
