use Rattle.std.proofs.Common.{◌≡◌, ℕ, ◌<◌, ◌≤◌, take, get_or}
use Rattle.sqval.specs.Varint.{number_of_sevens}
use Rattle.sqval.proofs.varint.read.Given as goal

abbrev pub invariant-loop-index : goal.invariant-loop-index
invariant-loop-index l =
    (l.index ≤ 8) × (l.high ≡ number_of_sevens (take l.index l.bytes)) × ((i : ℕ) → i < l.index → 128 ≤ get_or l.bytes i 0)
