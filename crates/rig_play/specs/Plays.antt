-- What the records of a trace do to a database file and its two logs (own).
use Rattle.std.specs.Prelude.{◌≡◌, ◌≢◌, ◌⊎◌, ℕ, ◌+◌, ◌-◌, Bool, true, false, cond, not, ◌||◌, nat_eq, List, [], ◌∷◌, ◌++◌, length}
use Rattle.rig_play.specs.Trace.{has_failed, bytes_of}
use Rattle.rig_play.specs.Files.{FileRefused}
use Rattle.rig_play.specs.Ends.{IsAsNoted, IsUnlikeNoted}
use Rattle.rig_play.specs.declared.error.PlayError.{PlayError}
use Rattle.rig_play.specs.declared.error.PlayError.TheVariants.{NotHeld, Renamed, Differs, NoMemory}
use Rattle.rig_play.specs.Names.{NameState, name_of, no_file, Writes, IsBase, Makes, Cuts, Syncs, only_now, is_resized}
use Rattle.rig_play.specs.declared.meta.Epoch.{Epoch}
use Rattle.rig_play.specs.declared.meta.Holds.{Holds}
use Rattle.rig_play.specs.declared.meta.Holds.TheVariants.{Any, Nothing, File}
use Rattle.rig_play.specs.declared.meta.Meta.{Meta}
use Rattle.rig_play.specs.declared.meta.Meta.TheVariants.{Ordered}
use Rattle.rig_play.specs.declared.trace.Kind.{Kind}
use Rattle.rig_play.specs.declared.trace.Kind.TheVariants as kinds
use Rattle.rig_play.specs.declared.trace.Subject.{Subject}
use Rattle.rig_play.specs.declared.trace.Subject.TheVariants as subjects
use Rattle.rig_play.specs.declared.trace.Record.{Record}
use Rattle.rig_play.specs.declared.player.Player.{Player}

-- How the files were made and become durable, what is under the three names, and where metadata becomes durable in
-- order what these held before each change that may not be durable, the oldest first.
pub record Files : Type 0 where
  pub sector : ℕ
  pub tears : Bool
  pub meta : Meta
  pub db : NameState
  pub wal : NameState
  pub journal : NameState
  pub earlier : List Epoch

abbrev pub files_of : Player → Files
files_of p = record { sector = p.manner.sector; tears = p.manner.tears; meta = p.manner.meta; db = name_of p.db; wal = name_of p.wal; journal = name_of p.journal; earlier = p.earlier.items }

-- none is there
abbrev pub no_files : (sector : ℕ) (tears : Bool) → Meta → Files
no_files sector tears meta = record { sector = sector; tears = tears; meta = meta; db = no_file; wal = no_file; journal = no_file; earlier = [] }

-- what a name holds after a crash that comes now, where all changes are durable: where metadata becomes durable in
-- order, what it has
abbrev pub holds_now : Meta → NameState → Holds
holds_now Ordered s = cond s.gone Nothing (File (length s.files - 1))
holds_now _ s = Any

abbrev pub epoch_now : Files → Epoch
epoch_now s = record { db = holds_now s.meta s.db; wal = holds_now s.meta s.wal; journal = holds_now s.meta s.journal }

-- each state of the three names that a crash may leave
abbrev pub epochs_of : Files → List Epoch
epochs_of s = s.earlier ++ epoch_now s ∷ []

-- what the call of a record does to the name that it speaks of
abbrev pub CallDoes : Kind → (sector : ℕ) (tears : Bool) → Meta → List ℕ → Record → (old new : NameState) → Type 0
CallDoes kinds.Base sector tears meta b r old new = IsBase sector tears (bytes_of b r) new
CallDoes kinds.Open sector tears meta b r old new = ((r.place ≡ 1) × Makes sector tears old new) ⊎ ((r.place ≡ 1 → ⊥) × (new ≡ old))
CallDoes kinds.Write sector tears meta b r old new = Writes r.place (bytes_of b r) (has_failed r) old new
CallDoes kinds.Cut sector tears meta b r old new = Cuts meta r.place (has_failed r) old new
CallDoes kinds.Sync sector tears meta b r old new = Syncs meta (has_failed r) old new
CallDoes kinds.Unlink sector tears meta b r old new = new ≡ cond (has_failed r) old (record old { maybe_none = true; gone = true })
CallDoes kinds.Rename sector tears meta b r old new = (has_failed r ≡ true) × (new ≡ old)
CallDoes kinds.NotHeld sector tears meta b r old new = ⊥
CallDoes kinds.End sector tears meta b r old new = IsAsNoted r old × (new ≡ old)
CallDoes _ sector tears meta b r old new = new ≡ old

-- one name changes so, and nothing else; what is under another name isn't kept
abbrev pub OneGoes : Subject → (NameState → NameState → Type 0) → (old new : Files) → Type 0
OneGoes subjects.Db P old new = P old.db new.db × (new ≡ record old { db = new.db })
OneGoes subjects.Wal P old new = P old.wal new.wal × (new ≡ record old { wal = new.wal })
OneGoes subjects.Journal P old new = P old.journal new.journal × (new ≡ record old { journal = new.journal })
OneGoes _ P old new = ((other : NameState) × P no_file other) × (new ≡ old)

-- after a sync of the folder
abbrev pub all_now : Files → Files
all_now s = record s { db = only_now s.db; wal = only_now s.wal; journal = only_now s.journal }

-- what a record does to the names
abbrev pub NamesGo : List ℕ → Record → (old new : Files) → Type 0
NamesGo b r old new =
    ((r.subject ≡ subjects.Folder) × (new ≡ cond (has_failed r) old (all_now old)))
    ⊎ ((r.subject ≡ subjects.Folder → ⊥) × OneGoes r.subject (CallDoes r.kind old.sector old.tears old.meta b r) old new)

-- A call on a file makes all changes of names and lengths before it durable: a file that was there at first, and a sync that succeeded,
-- unless it is an fdatasync (place 1) and the file's length is as it was when it was last synced.
abbrev pub file_brings_down : Kind → (place : ℕ) (fails : Bool) → NameState → Bool
file_brings_down kinds.Base place fails s = true
file_brings_down kinds.Sync place fails s = cond fails false (not (nat_eq place 1) || is_resized s)
file_brings_down _ place fails s = false

-- a record behind these files does, also a sync of the folder that succeeded
abbrev pub brings_down : Subject → Kind → (place : ℕ) (fails : Bool) → Files → Bool
brings_down subjects.Db kind place fails s = file_brings_down kind place fails s.db
brings_down subjects.Wal kind place fails s = file_brings_down kind place fails s.wal
brings_down subjects.Journal kind place fails s = file_brings_down kind place fails s.journal
brings_down subjects.Folder kind place fails s = cond fails false true
brings_down _ kind place fails s = false

abbrev pub has_all_down : Files → Record → Bool
has_all_down s r = brings_down r.subject r.kind r.place (has_failed r) s

-- What the names held before each change that may not be durable: nothing where all are durable, and what they held
-- last where that is something else now.
abbrev pub Follows : (all_down : Bool) (before after : Epoch) (old new : List Epoch) → Type 0
Follows true before after old new = new ≡ []
Follows false before after old new = ((after ≡ before) × (new ≡ old)) ⊎ ((after ≢ before) × (new ≡ old ++ before ∷ []))

-- one record is played
abbrev pub Step : List ℕ → Record → (old new : Files) → Type 0
Step b r old new = (mid : Files) × NamesGo b r old mid × Follows (has_all_down old r) (epoch_now old) (epoch_now mid) mid.earlier new.earlier
    × (new ≡ record mid { earlier = new.earlier })

-- records are played, one after the other
abbrev pub Plays : List ℕ → List Record → (old new : Files) → Type 0
Plays b [] old new = new ≡ old
Plays b (r ∷ records) old new = (mid : Files) × Step b r old mid × Plays b records mid new

-- what refuses a call: it can't be held, it renames a file, a file would be too long, or it isn't as it was at the end
abbrev pub CallRefused : Kind → List ℕ → Record → NameState → PlayError → Type 0
CallRefused kinds.Base b r old e = FileRefused (length (bytes_of b r)) e
CallRefused kinds.Open b r old e = FileRefused 0 e
CallRefused kinds.Write b r old e = FileRefused (r.place + length (bytes_of b r)) e
CallRefused kinds.Cut b r old e = FileRefused r.place e
CallRefused kinds.Sync b r old e = FileRefused 0 e
CallRefused kinds.Rename b r old e = (e ≡ Renamed) × (has_failed r ≡ false)
CallRefused kinds.NotHeld b r old e = e ≡ NotHeld
CallRefused kinds.End b r old e = ((e ≡ Differs) × IsUnlikeNoted r old) ⊎ (e ≡ NoMemory)
CallRefused _ b r old e = ⊥

-- what is under the name that a record speaks of; of another none is kept
abbrev pub name_at : Subject → Files → NameState
name_at subjects.Db s = s.db
name_at subjects.Wal s = s.wal
name_at subjects.Journal s = s.journal
name_at _ s = no_file

-- what refuses to play a record; where metadata becomes durable in order, what the names held may want memory
abbrev pub StepRefused : (old : Files) → List ℕ → Record → PlayError → Type 0
StepRefused old b r e = ((r.subject ≡ subjects.Folder → ⊥) × CallRefused r.kind b r (name_at r.subject old) e) ⊎ ((old.meta ≡ Ordered) × (e ≡ NoMemory))

-- what refuses to play records: the first that can't be played
abbrev pub PlaysRefused : List ℕ → List Record → (old : Files) → PlayError → Type 0
PlaysRefused b [] old e = ⊥
PlaysRefused b (r ∷ records) old e = StepRefused old b r e ⊎ ((mid : Files) × Step b r old mid × PlaysRefused b records mid e)
