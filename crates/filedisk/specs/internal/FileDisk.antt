-- Nothing is said of what real files hold.
use Rattle.std.specs.Prelude.{[], false}
use Rattle.crashdisk.specs.State.{FileState}
use Rattle.crashdisk.specs.Call.{DiskState}
use Rattle.crashdisk.specs.Stop.{Settings, no_stops}

abbrev pub unknown : FileState
unknown = record { earlier = λ _. []; present = λ _. 0; len = 0; least = 0; greatest = 0 }

abbrev pub unset : Settings
unset = record { scripted = false; stops = no_stops; pick = []; new_len = false }

abbrev pub nothing : DiskState
nothing = record { sector = 4096; tears = false; db = unknown; log = unknown; refused = 0; kept = []; handed = []; settings = unset }
