-- What a call does to a disk, as far as that keeps its word.
use Rattle.std.proofs.Common.{◌↔◌}
use Rattle.crashdisk.specs.Call.{DiskState}
use Rattle.crashdisk.specs.During.{During}

pub during : {T : Type 0} {keeps_word : T → Type 0} {state : T → DiskState} {old new : T} {P : (old new : DiskState) → Type 0} → keeps_word old ↔ keeps_word new → (keeps_word old → P (state old) (state new)) → During keeps_word state old new P
during word holds = record { word = word; holds = holds }
