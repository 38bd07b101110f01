-- What a change of a modelled file means, and how it is answered (own).
use Rattle.std.specs.Prelude.{ℕ, ◌+◌, max, List, length, true, false, Result}
use Rattle.crashdisk.specs.State.{Value, FileState, written, cut_to, Changed, IsDone}
use Rattle.crashdisk.specs.Call.{ChangedBy, EndsWithin}
use Rattle.crashdisk.specs.Held.{file_of, IsPicked}
use Rattle.crashdisk.specs.internal.Held.{Touches, put_byte}
use Rattle.crashdisk.specs.Model.{PickedBy}
use Rattle.crashdisk.specs.Stop.{Judged}
use Rattle.crashdisk.specs.declared.calls.Manner.{Manner}
use Rattle.crashdisk.specs.declared.held.Change.{Change}
use Rattle.crashdisk.specs.declared.held.Held.{Held}
use Rattle.crashdisk.specs.declared.held.Part.{Part}
use Rattle.crashdisk.specs.declared.error.DiskError.{DiskError}

-- What a change means: the range of places that it touches, the length that it leaves, the place that it ends at, and the bytes
-- that the touched sectors have then.
pub record Intent : Type 0 where
  pub from : ℕ
  pub to : ℕ
  pub end : ℕ
  pub reach : ℕ
  pub target : Value

-- a change of a file as the code has it, a write of these bytes at a place, and a change of the length
abbrev pub changing : FileState → Change → Intent
changing s change = record { from = change.from; to = change.to; end = change.end; reach = change.from + length change.bytes.now; target = λ i. put_byte change.from change.keep change.bytes.now i (s.present i) }

abbrev pub writing : FileState → (at : ℕ) → (bytes : List ℕ) → Intent
writing s at bytes = record { from = at; to = at + length bytes; end = max s.len (at + length bytes); reach = at + length bytes; target = written s at bytes }

abbrev pub cutting : FileState → (n : ℕ) → Intent
cutting s n = record { from = n; to = s.len; end = n; reach = n; target = cut_to s n }

-- the sectors that it touches
abbrev pub Aims : (sector : ℕ) → Intent → FileState → (k : ℕ) → Type 0
Aims sector intent s k = Touches sector s intent.from intent.to intent.end k

-- a change of a file was carried out
pub record IsMade (sector : ℕ) (intent : Intent) (old new : Held) : Type 0 where
  pub changed : Changed sector (Aims sector intent (file_of sector old)) intent.target intent.end (file_of sector old) (file_of sector new)
  pub done : IsDone sector (Aims sector intent (file_of sector old)) intent.target intent.end (file_of sector new)

-- it failed in the middle, and left what the part says
pub record IsMadeInPart (sector : ℕ) (intent : Intent) (part : Part) (old new : Held) : Type 0 where
  pub changed : Changed sector (Aims sector intent (file_of sector old)) intent.target intent.end (file_of sector old) (file_of sector new)
  pub picked : IsPicked sector (Aims sector intent (file_of sector old)) intent.target intent.end part.pick.items part.new_len (file_of sector old) (file_of sector new)

-- what a change of a file answers, and what it leaves then
pub record IsAnswered {T : Type 0} (manner : Manner) (intent : Intent) (result : Result T DiskError) (old new : Held) : Type 0 where
  pub changed : ChangedBy manner.sector (Aims manner.sector intent (file_of manner.sector old)) intent.target intent.end result (file_of manner.sector old) (file_of manner.sector new)
  pub picked : PickedBy manner.sector (Aims manner.sector intent (file_of manner.sector old)) intent.target intent.end manner.part.now result (file_of manner.sector old) (file_of manner.sector new)
  pub judged : Judged false manner.fails true result
  pub within : EndsWithin result intent.reach
