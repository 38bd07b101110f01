-- What a scan has taken (own).
use Rattle.std.specs.Prelude.{ℕ, List}
use Rattle.sqwal.specs.Refusal.{most_frames}
use Rattle.sqwal.specs.declared.scan.Scan.{Scan}
use Rattle.sqwal.specs.Took.{IsSettledWithin}

abbrev pub IsSettled : List ℕ → Scan → Type 0
IsSettled b s = IsSettledWithin most_frames b s
