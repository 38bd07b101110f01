use Rattle.std.proofs.Common.{◌≡◌, ◌≤◌, ◌++◌, length, drop, map}
use Rattle.cli_text.specs.Facts.{behind, between, closing, fact_text}
use Rattle.cli_text.proofs.line.put_others.Given as goal

abbrev pub invariant-loop-i : goal.invariant-loop-i
invariant-loop-i l =
    (l.i ≤ length l.facts) × (l.start ≤ 256)
    × (drop l.start l.line ≡ behind (between l.style) (map (fact_text l.style) (drop l.i l.facts)) ++ closing l.style)

abbrev pub decreases-loop-i : goal.decreases-loop-i
decreases-loop-i l = l.i
