-- What the records of a trace do to a set of files (own).
use Rattle.std.specs.Prelude.{◌≡◌, ◌≢◌, ℕ, ◌+◌, ◌-◌, ◌<◌, Bool, false, cond, not, ◌&&◌, ◌||◌, nat_eq, nat_lt, List, [], ◌∷◌, ◌++◌, length, map, set, Option, Some, None, slice_get}
use Rattle.rig_play.specs.Names.{has_lengths}
use Rattle.rig_play.specs.Plays.{Files, files_of, no_files, Step, StepRefused}
use Rattle.rig_play.specs.declared.meta.Meta.{Meta}
use Rattle.rig_play.specs.declared.trace.Kind.TheVariants as kinds
use Rattle.rig_play.specs.declared.trace.Record.{Record}
use Rattle.rig_store.specs.Calls.{has_failed, record_of, empty_file}
use Rattle.rig_store.specs.Names.{holder, is_ordered, file_meta}
use Rattle.rig_store.specs.declared.call.Action.{Action}
use Rattle.rig_store.specs.declared.call.Action.TheVariants as actions
use Rattle.rig_store.specs.declared.call.Call.{Call}
use Rattle.rig_store.specs.declared.error.StoreError.{StoreError}
use Rattle.rig_store.specs.declared.error.StoreError.TheVariants as errors
use Rattle.rig_store.specs.declared.store.Store.{Store}
use Rattle.rig_store.specs.declared.table.Naming.{Naming}

-- How files become durable; what a crash may leave of each, as of a database file; how many names were told; each change of
-- the names, the oldest first; and how many of these are durable.
pub record StoreState : Type 0 where
  pub sector : ℕ
  pub tears : Bool
  pub meta : Meta
  pub files : List Files
  pub names : ℕ
  pub log : List Naming
  pub durable : ℕ

abbrev pub store_of : Store → StoreState
store_of s = record { sector = s.sector; tears = s.tears; meta = s.meta; files = map (λ p. files_of p) s.files.items; names = s.names; log = s.log.items; durable = s.durable }

-- no files and no names
abbrev pub no_store : (sector : ℕ) (tears : Bool) → Meta → StoreState
no_store sector tears meta = record { sector = sector; tears = tears; meta = meta; files = []; names = 0; log = []; durable = 0 }

-- one file more, of which a record tells
abbrev pub AddsFile : List ℕ → Record → StoreState → (files : List Files) → Type 0
AddsFile b r old files = (f : Files) × Step b r (no_files old.sector old.tears (file_meta old.meta)) f × (files ≡ old.files ++ f ∷ [])

-- file i goes over as a record says
abbrev pub FileGoes : List ℕ → Record → (i : ℕ) → (old new : List Files) → Type 0
FileGoes b r i old new = (was : Files) × (now : Files) × (slice_get old i ≡ Some was) × Step b r was now × (new ≡ set old i now)

-- a name gets a file
abbrev pub given : Call → Naming
given c = record { name = c.name; file = Some c.file; from = None }

-- the length of a file changed since it was last synced
abbrev pub is_resized : Option Files → Bool
is_resized None = false
is_resized (Some f) = nat_lt 1 (length f.db.files) || has_lengths (slice_get f.db.files (length f.db.files - 1))

-- Where the names' changes become durable in the order of the calls, a sync of a file that succeeded makes all before it
-- durable, unless it is an fdatasync (place 1) and the file's length is as it was when it was last synced.
abbrev pub brings_down : Call → StoreState → Bool
brings_down c s = is_ordered s.meta && not (has_failed c) && (not (nat_eq c.place 1) || is_resized (slice_get s.files c.file))

-- all changes of names are durable
abbrev pub all_durable : StoreState → StoreState
all_durable s = record s { durable = length s.log }

-- one change of the names more, unless the call failed
abbrev pub with_naming : Naming → (fails : Bool) → StoreState → StoreState
with_naming n fails s = cond fails s (record s { log = s.log ++ n ∷ [] })

-- the file that has a name goes over as a record says; where none has it, none was to have it
abbrev pub HolderGoes : List ℕ → Call → Option ℕ → (old new : List Files) → Type 0
HolderGoes b c None old new = (c.place ≡ 0) × (new ≡ old)
HolderGoes b c (Some i) old new = FileGoes b (record_of c kinds.End) i old new

-- what a record speaks of is there
abbrev pub IsKnownBy : Action → Call → StoreState → Type 0
IsKnownBy actions.Base c s = (c.file ≡ length s.files) × (c.name < s.names)
IsKnownBy actions.Make c s = (c.file ≡ length s.files) × (c.name < s.names)
IsKnownBy actions.Write c s = c.file < length s.files
IsKnownBy actions.Cut c s = c.file < length s.files
IsKnownBy actions.Sync c s = c.file < length s.files
IsKnownBy actions.Unlink c s = c.name < s.names
IsKnownBy actions.Rename c s = (c.name < s.names) × (c.place < s.names)
IsKnownBy actions.End c s = (c.name < s.names) × ((i : ℕ) → holder s.log c.name ≡ Some i → i < length s.files)
IsKnownBy _ c s = Unit {0}

-- what a record does to what is there
abbrev pub GoesBy : Action → List ℕ → Call → (old new : StoreState) → Type 0
GoesBy actions.Base b c old new =
    (files : List Files) × AddsFile b (record_of c kinds.Base) old files × (new ≡ all_durable (record old { files = files; log = old.log ++ given c ∷ [] }))
GoesBy actions.Make b c old new =
    (files : List Files) × AddsFile b (empty_file c) old files × (new ≡ record old { files = files; log = old.log ++ given c ∷ [] })
GoesBy actions.Write b c old new = (files : List Files) × FileGoes b (record_of c kinds.Write) c.file old.files files × (new ≡ record old { files = files })
GoesBy actions.Cut b c old new = (files : List Files) × FileGoes b (record_of c kinds.Cut) c.file old.files files × (new ≡ record old { files = files })
GoesBy actions.Sync b c old new =
    (files : List Files) × FileGoes b (record_of c kinds.Sync) c.file old.files files × (new ≡ record old { files = files; durable = cond (brings_down c old) (length old.log) old.durable })
GoesBy actions.Unlink b c old new = new ≡ with_naming (record { name = c.name; file = None; from = None }) (has_failed c) old
GoesBy actions.Rename b c old new = new ≡ with_naming (record { name = c.place; file = holder old.log c.name; from = Some c.name }) (has_failed c) old
GoesBy actions.FolderSync b c old new = new ≡ cond (has_failed c) old (all_durable old)
GoesBy actions.Mark b c old new = new ≡ old
GoesBy actions.NotHeld b c old new = ⊥
GoesBy actions.End b c old new = (files : List Files) × HolderGoes b c (holder old.log c.name) old.files files × (new ≡ record old { files = files })
GoesBy actions.Name b c old new = new ≡ record old { names = old.names + 1 }

-- one record is played, as one of this action
abbrev pub GoesAs : Action → List ℕ → Call → (old new : StoreState) → Type 0
GoesAs a b c old new = IsKnownBy a c old × GoesBy a b c old new

abbrev pub Goes : List ℕ → Call → (old new : StoreState) → Type 0
Goes b c old new = GoesAs c.action b c old new

-- what refuses a record: it can't be held, what it speaks of isn't there, or a file can't go over so or isn't as it was at the end
abbrev pub RefusedAs : Action → List ℕ → Call → (old : StoreState) → StoreError → Type 0
RefusedAs a b c old errors.NotHeld = a ≡ actions.NotHeld
RefusedAs a b c old errors.Unknown = ¬ IsKnownBy a c old
RefusedAs a b c old (errors.Play e) = (was : Files) × (r : Record) × StepRefused was b r e
RefusedAs a b c old errors.Differs = (a ≡ actions.End) × (holder old.log c.name ≡ None) × (c.place ≢ 0)
RefusedAs a b c old errors.NoMemory = Unit {0}

abbrev pub GoesRefused : List ℕ → Call → (old : StoreState) → StoreError → Type 0
GoesRefused b c old e = RefusedAs c.action b c old e
