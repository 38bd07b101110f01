-- The calls of a trace that change what a file holds, and what each left there (own, docs/TRACE.md).
use Rattle.std.specs.Prelude.{◌≡◌, ℕ, ◌+◌, ◌-◌, ◌*◌, ◌/◌, ◌<◌, ◌≤◌, ◌^◌, Bool, true, false, ◌&&◌, not, nat_eq, nat_le, List, take, drop, Option, Some, None}
use Rattle.crashdisk.specs.Count.{sector_count}
use Rattle.rig_play.specs.Trace.{has_failed}
use Rattle.rig_play.specs.declared.trace.Kind.{Kind}
use Rattle.rig_play.specs.declared.trace.Kind.TheVariants as kinds
use Rattle.rig_play.specs.declared.trace.Record.{Record}
use Rattle.rig_missing.specs.declared.change.Change.{Change}
use Rattle.rig_missing.specs.declared.playing.Playing.{Playing}

-- a making, a write, a truncation or an unlinking
abbrev pub may_change : Kind → (place : ℕ) → Bool
may_change kinds.Write place = true
may_change kinds.Cut place = true
may_change kinds.Unlink place = true
may_change kinds.Open place = nat_eq place 1
may_change _ place = false

-- a record of one that didn't fail, and that stays below the most bytes of a file; it carries so many
abbrev pub is_change : Record → (count : ℕ) → Bool
is_change r count = may_change r.kind r.place && (not (has_failed r) && nat_le (r.place + count) (2 ^ 40))

-- The first place in the file that a call writes, or from which on it takes away what is there: a truncation from its length on, a
-- making and an unlinking all.
abbrev pub from_by : Kind → (place : ℕ) → ℕ
from_by kinds.Write place = place
from_by kinds.Cut place = place
from_by _ place = 0

-- the place behind the last one, in a file that was so long
abbrev pub to_by : Kind → (place count was : ℕ) → ℕ
to_by kinds.Write place count was = place + count
to_by _ place count was = was

-- a call touches the sectors of these places
abbrev pub Touches : (sector : ℕ) → Change → (k : ℕ) → Type 0
Touches sector c k = (c.from / sector ≤ k) × (k < sector_count sector c.to)

-- The call of a record that is played; before it the file was so long, and behind it it has these bytes. What the call left is
-- what the file has from the first sector on that it touched, to the last one, or further.
pub record IsChange (sector : ℕ) (r : Record) (p : Playing) (present : List ℕ) (c : Change) : Type 0 where
  pub number : c.number ≡ p.number
  pub kind : c.kind ≡ r.kind
  pub subject : c.subject ≡ r.subject
  pub place : c.place ≡ r.place
  pub count : c.count ≡ p.count
  pub from : c.from ≡ from_by r.kind r.place
  pub to : c.to ≡ to_by r.kind r.place p.count p.was
  pub left : c.left.items ≡ take (c.to - c.from + 2 * sector) (drop (c.from / sector * sector) present)

-- it, or none where the record is of none
abbrev pub ChangeAnswer : (sector : ℕ) → Record → Playing → (present : List ℕ) → Option Change → Type 0
ChangeAnswer sector r p present None = is_change r p.count ≡ false
ChangeAnswer sector r p present (Some c) = (is_change r p.count ≡ true) × IsChange sector r p present c
