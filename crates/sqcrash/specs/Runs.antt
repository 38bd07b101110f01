-- A recorded run: what it committed, what a crash may leave of it, and what is known to be durable (own).
use Rattle.std.specs.Prelude.{◌≡◌, ◌≢◌, ◌⊎◌, ℕ, ◌+◌, max, Bool, cond, List, [], ◌∷◌, ◌++◌, length, map, reverse, Option, Some, None}
use Rattle.rig_play.specs.Plays.{Files, files_of, no_files, Step}
use Rattle.rig_play.specs.Trace.{bytes_of}
use Rattle.rig_play.specs.declared.meta.Meta.{Meta}
use Rattle.rig_play.specs.declared.trace.Kind.{Kind}
use Rattle.rig_play.specs.declared.trace.Kind.TheVariants as kinds
use Rattle.rig_play.specs.declared.trace.Record.{Record}
use Rattle.rig_images.specs.Left.{IsPresent}
use Rattle.rig_images.specs.declared.image.Image.{Image}
use Rattle.rig_judge.specs.Shown.{Commit, IsNoted, IsShowing, commit_of, commits_of}
use Rattle.rig_missing.specs.Changes.{ChangeAnswer}
use Rattle.rig_missing.specs.Missing.{file_in, AreMissing}
use Rattle.rig_missing.specs.declared.change.Change.{Change}
use Rattle.rig_missing.specs.declared.missing.Missing.{Missing}
use Rattle.rig_missing.specs.declared.playing.Playing.{Playing}
use Rattle.rig_missing.specs.declared.sectors.SectorSize.{SectorSize}
use Rattle.sqcrash.specs.Promises.{IsMark, promised, IsSpokenOf}
use Rattle.sqcrash.specs.declared.plan.CommitsAt.{CommitsAt}
use Rattle.sqcrash.specs.declared.plan.CommitsAt.TheVariants as at
use Rattle.sqcrash.specs.declared.promise.Promise.{Promise}
use Rattle.sqcrash.specs.declared.promise.Mark.{Mark}
use Rattle.sqcrash.specs.declared.run.Run.{Run}

-- What a crash may leave of the files; the committed databases, the oldest first, and the thread that made each; the
-- number of the last one that is known to be durable; where commits are those at marks, these that aren't shown yet; how many
-- records were played; where it is to be told which calls aren't down, by sectors of this size, those that changed a file; and
-- where images with something wrong are shrunk first, the size of a sector.
pub record RunState : Type 0 where
  pub promise : Promise
  pub taken_at : CommitsAt
  pub waiting : List Commit
  pub files : Files
  pub commits : List Commit
  pub makers : List ℕ
  pub known : ℕ
  pub played : ℕ
  pub why : Option ℕ
  pub kept : List Change
  pub shrinks : Option ℕ

abbrev pub size_of : Option SectorSize → Option ℕ
size_of None = None
size_of (Some size) = Some size.bytes

abbrev pub run_of : Run → RunState
run_of r = record { promise = r.promise; taken_at = r.taken_at; waiting = map commit_of (reverse r.waiting.items); files = files_of r.watched.player; commits = commits_of r.watched.history; makers = r.makers.items; known = r.known; played = r.played; why = size_of r.why; kept = r.kept.items; shrinks = size_of r.shrinks }

-- nothing was played yet
abbrev pub no_run : Promise → (sector : ℕ) (tears : Bool) → Meta → RunState
no_run promise sector tears meta = record { promise = promise; taken_at = at.Calls; waiting = []; files = no_files sector tears meta; commits = []; makers = []; known = 0; played = 0; why = None; kept = []; shrinks = None }

-- the database that the present files show is one more commit, which this thread made, where it isn't the last one's
pub record Notes (thread : ℕ) (old new : RunState) : Type 0 where
  pub present : Image
  pub is_present : IsPresent old.files present
  pub taken : Bool
  pub noted : IsNoted present.db.items present.wal.items present.journal.items taken old.commits new.commits
  pub goes : new ≡ record old { commits = new.commits; makers = cond taken (old.makers ++ thread ∷ []) old.makers }

-- the next of the commits at marks is taken, which this thread made, where the present files show it
pub record TakesNext (next : Commit) (rest : List Commit) (thread : ℕ) (old new : RunState) : Type 0 where
  pub present : Image
  pub is_present : IsPresent old.files present
  pub shown : Bool
  pub is_shown : IsShowing next present.db.items present.wal.items present.journal.items shown
  pub goes : new ≡ cond shown (record old { commits = old.commits ++ next ∷ []; makers = old.makers ++ thread ∷ []; waiting = rest }) old

-- the same of those that aren't shown yet, if there are any
abbrev pub TakesWaiting : List Commit → (thread : ℕ) (old new : RunState) → Type 0
TakesWaiting [] thread old new = new ≡ old
TakesWaiting (next ∷ rest) thread old new = TakesNext next rest thread old new

-- commits are taken: each database that the present files show, or those at marks
abbrev pub TakesBy : CommitsAt → (thread : ℕ) (old new : RunState) → Type 0
TakesBy at.Calls thread old new = Notes thread old new
TakesBy at.Marks thread old new = TakesWaiting old.waiting thread old new

abbrev pub Takes : (thread : ℕ) (old new : RunState) → Type 0
Takes thread old new = TakesBy old.taken_at thread old new

-- before the first call that isn't of a file that was there, what the files show is commit 0
abbrev pub Begins : (thread : ℕ) (old new : RunState) → Type 0
Begins thread old new = ((old.commits ≡ []) × Takes thread old new) ⊎ ((old.commits ≢ []) × (new ≡ old))

-- one call more, if it is one
abbrev pub with_change : List Change → Option Change → List Change
with_change changes None = changes
with_change changes (Some c) = changes ++ c ∷ []

-- a record of this number that changed a file is kept, with what it left there
pub record KeepsChange (sector n : ℕ) (b : List ℕ) (r : Record) (before after : Files) (old new : List Change) : Type 0 where
  pub playing : Playing
  pub number : playing.number ≡ n
  pub count : playing.count ≡ length (bytes_of b r)
  pub was : Image
  pub was_present : IsPresent before was
  pub was_long : playing.was ≡ length (file_in r.subject was)
  pub now : Image
  pub is_present : IsPresent after now
  pub change : Option Change
  pub is_change : ChangeAnswer sector r playing (file_in r.subject now) change
  pub kept : new ≡ with_change old change

-- where it is to be told which calls aren't down
abbrev pub KeepsBy : (why : Option ℕ) (number : ℕ) → List ℕ → Record → (before after : Files) → (old new : List Change) → Type 0
KeepsBy None number b r before after old new = new ≡ old
KeepsBy (Some sector) number b r before after old new = KeepsChange sector number b r before after old new

-- the files go over as a record says, which is counted, and kept
pub record Goes (b : List ℕ) (r : Record) (old new : RunState) : Type 0 where
  pub step : Step b r old.files new.files
  pub keeps : KeepsBy old.why (old.played + 1) b r old.files new.files old.kept new.kept
  pub rest : new ≡ record old { files = new.files; played = old.played + 1; kept = new.kept }

-- a call is played, and what it commits is taken
abbrev pub Calls : List ℕ → Record → (old new : RunState) → Type 0
Calls b r old new = (begun : RunState) × (gone : RunState) × Begins r.thread old begun × Goes b r begun gone × Takes r.thread gone new

-- what a thread's line says is known, and stays so
pub record Marks (thread : ℕ) (line : List ℕ) (old new : RunState) : Type 0 where
  pub last : ℕ
  pub is_last : IsSpokenOf old.makers thread last
  pub mark : Mark
  pub is_mark : IsMark line mark
  pub goes : new ≡ record old { known = max old.known (promised old.promise mark last) }

-- one record of a trace: a file that was there is no call, and a mark says what is known
abbrev pub PlaysBy : Kind → List ℕ → Record → (old new : RunState) → Type 0
PlaysBy kinds.Base b r old new = Goes b r old new
PlaysBy kinds.Mark b r old new = (called : RunState) × Calls b r old called × Marks r.thread (bytes_of b r) called new
PlaysBy _ b r old new = Calls b r old new

abbrev pub PlaysOne : List ℕ → Record → (old new : RunState) → Type 0
PlaysOne b r old new = PlaysBy r.kind b r old new

-- a run of which it is to be told, or not, which calls aren't down, and whose images are shrunk first, or aren't
abbrev pub with_why : (why shrinks : Bool) (sector : ℕ) → RunState → RunState
with_why why shrinks sector run = record run { why = cond why (Some sector) None; shrinks = cond shrinks (Some sector) None }

-- the calls that aren't down in an image, where these are to be told
abbrev pub ExplainsBy : (why : Option ℕ) → List Change → Image → List Missing → Type 0
ExplainsBy None changes image found = found ≡ []
ExplainsBy (Some sector) changes image found = AreMissing sector image changes found

abbrev pub Explains : RunState → Image → List Missing → Type 0
Explains run image found = ExplainsBy run.why run.kept image found

-- a run of which the commits are these, at marks
abbrev pub with_marked : RunState → List Commit → RunState
with_marked run commits = record run { taken_at = at.Marks; waiting = commits }
