-- How large a database and its log may be.
use Rattle.std.specs.Prelude.{Bool, true, false}
use Rattle.sqval.specs.Limits.{Bounds, greatest, usual}

-- the greatest limits where large files are asked for, otherwise the usual ones
abbrev pub limits_named : (large : Bool) → Bounds
limits_named true = greatest
limits_named false = usual
