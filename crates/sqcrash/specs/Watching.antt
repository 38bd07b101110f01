-- What a record leaves of the present files (own).
use Rattle.std.specs.Prelude.{◌≡◌, ◌≢◌, ℕ, List, [], Some, None}
use Rattle.crashdisk.specs.Call.{DiskState, ArePresent}
use Rattle.rig_play.specs.Names.{NameState, file_now}
use Rattle.rig_play.specs.declared.trace.Kind.{Kind}
use Rattle.rig_play.specs.declared.trace.Kind.TheVariants as kinds

-- the bytes of the file that has a name now; none where there is no file
pub record IsLookedAt (s : NameState) (bytes : List ℕ) : Type 0 where
  pub there : (f : DiskState) → file_now s ≡ Some f → ArePresent f.db bytes
  pub gone : file_now s ≡ None → bytes ≡ []

-- a record of this kind and place leaves the file that it speaks of as it is
abbrev pub Stays : Kind → (place : ℕ) → Type 0
Stays kinds.Close place = Unit {0}
Stays kinds.Rename place = Unit {0}
Stays kinds.End place = Unit {0}
Stays kinds.Open place = place ≢ 1
Stays _ place = ⊥
