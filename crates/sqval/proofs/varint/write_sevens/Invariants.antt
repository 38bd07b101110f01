use Rattle.std.proofs.Common.{◌≡◌, ℕ, ◌+◌, ◌-◌, ◌*◌, ◌^◌, ◌<◌, ◌≤◌, length, drop, get_or}
use Rattle.sqval.specs.Varint.{number_of_sevens}
use Rattle.sqval.proofs.varint.write_sevens.Given as goal

abbrev pub invariant-loop-index : goal.invariant-loop-index
invariant-loop-index l =
    (number_of_sevens (drop l.index l.out) + l.rest * 128 ^ (length l.out - l.index) ≡ l.number)
    × ((i : ℕ) → l.index ≤ i → i < length l.out → 128 ≤ get_or l.out i 0)
