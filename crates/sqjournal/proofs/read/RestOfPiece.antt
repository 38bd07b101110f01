-- How much of a piece is left to a reading.
use Rattle.std.proofs.Common.{ℕ, ◌+◌, ◌-◌}
use Rattle.sqjournal.specs.declared.reading.Reading.{Reading}
use Rattle.sqjournal.specs.declared.reading.Next.{Next}
use Rattle.sqjournal.specs.declared.reading.Next.TheVariants.{Over}

abbrev pub unless_over : Next → ℕ → ℕ
unless_over (Over w) n = 0
unless_over _ n = n

-- the bytes up to the end, and one, unless the reading is over
abbrev pub left_to : (end : ℕ) → Reading → ℕ
left_to end r = unless_over r.next (end + 1 - r.at)
