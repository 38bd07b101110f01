use Rattle.std.proofs.Common.{length, ◌-◌, ◌≡◌, ◌≤◌, ◌<◌, ◌+◌, ℕ, slice_index}
use Rattle.std.specs.Prelude.{◌^◌}
use Rattle.cli_facts.proofs.system_file.read_up_to.Given as goal

abbrev pub invariant-loop-from : goal.invariant-loop-from
invariant-loop-from g l = (l.from ≤ l.most)
    × (g.F.SystemFile.keeps_word l.file → (k : ℕ) → k < l.from → slice_index l.out k ≡ slice_index (g.F.SystemFile.bytes l.file) (l.at + k))
    × (g.F.SystemFile.keeps_word l.file → 0 < l.from → (l.at + l.from ≤ length (g.F.SystemFile.bytes l.file)) × (length (g.F.SystemFile.bytes l.file) < 2 ^ 64))

abbrev pub decreases-loop-from : goal.decreases-loop-from
decreases-loop-from g l = l.most - l.from
