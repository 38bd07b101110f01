use Rattle.std.proofs.Common.{ℕ, List}
use Rattle.std.specs.Io.KnownBytes.{Appends}
use Rattle.cli_show.specs.Behind.{AreLines, IsRestLine}
use Rattle.cli_show.specs.Contents.{KeepsBytes}
use Rattle.cli_show.proofs.behind.show_rest.Given as goal

-- so many records were printed
abbrev pub invariant-loop-i : goal.invariant-loop-i
invariant-loop-i g l =
    let journal = g.F.FileBytes.bytes l.fn.journal in
    KeepsBytes g.F.FileBytes.bytes g.F.FileBytes.gives_bytes l.fn.journal l.journal
    × (g.F.FileBytes.gives_bytes l.fn.journal
    → (text : List ℕ) × AreLines (IsRestLine l.style l.page_size journal l.rest.from l.rest.first l.rest.nonce) l.i text
    × Appends (g.W.Write.contents l.fn.out) (g.W.Write.contents l.out) text)
