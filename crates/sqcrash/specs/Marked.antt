-- The databases that files show at the beginning and at each mark, and which of them aren't well formed (own).
use Rattle.std.specs.Prelude.{◌≡◌, ◌≢◌, ◌⊎◌, ℕ, Bool, true, false, List, [], ◌∷◌, ◌++◌, length, map}
use Rattle.sqpage.specs.declared.fault.CheckError.{CheckError}
use Rattle.rig_play.specs.declared.trace.Kind.{Kind}
use Rattle.rig_play.specs.declared.trace.Kind.TheVariants as kinds
use Rattle.rig_play.specs.declared.trace.Record.{Record}
use Rattle.rig_images.specs.declared.image.Image.{Image}
use Rattle.rig_judge.specs.Shown.{commit_of}
use Rattle.rig_judge.specs.Sound.{ShowsSound, ShowsFault}
use Rattle.sqcrash.specs.Runs.{RunState, Notes, Goes}
use Rattle.sqcrash.specs.declared.plan.CommitsAt.{CommitsAt}
use Rattle.sqcrash.specs.declared.plan.CommitsAt.TheVariants as at
use Rattle.sqcrash.specs.declared.marked.CommitFault.{CommitFault}
use Rattle.sqcrash.specs.declared.marked.Marked.{Marked}

-- whether the commits are those at marks
abbrev pub are_at_marks : CommitsAt → Bool
are_at_marks at.Calls = false
are_at_marks at.Marks = true

-- a run, and the faults of its commits
pub record MarkState : Type 0 where
  pub run : RunState
  pub faults : List CommitFault

-- what is wrong with commit number k, which these files show, where it is taken; nothing where it has pointer maps
abbrev pub AreFaults : (taken : Bool) (k : ℕ) → Image → List CommitFault → Type 0
AreFaults false k image found = found ≡ []
AreFaults true k image found =
    (ShowsSound image.db.items image.wal.items image.journal.items × (found ≡ []))
    ⊎ ((e : CheckError) × ShowsFault image.db.items image.wal.items image.journal.items e × (found ≡ record { commit = k; error = e } ∷ []))

-- the database that the present files show is one more commit, and it is checked, where it isn't the last one's
pub record NotesChecked (thread : ℕ) (old new : MarkState) : Type 0 where
  pub notes : Notes thread old.run new.run
  pub found : List CommitFault
  pub are : AreFaults notes.taken (length old.run.commits) notes.present found
  pub faults : new.faults ≡ old.faults ++ found

-- before the first call that isn't of a file that was there, what the files show is commit 0
abbrev pub BeginsChecked : (thread : ℕ) (old new : MarkState) → Type 0
BeginsChecked thread old new = ((old.run.commits ≡ []) × NotesChecked thread old new) ⊎ ((old.run.commits ≢ []) × (new ≡ old))

-- the files go over as a record says
abbrev pub GoesOver : List ℕ → Record → (old new : MarkState) → Type 0
GoesOver b r old new = Goes b r old.run new.run × (new.faults ≡ old.faults)

-- one record of a trace: what the files show is a commit at a mark alone
abbrev pub MarksBy : Kind → List ℕ → Record → (old new : MarkState) → Type 0
MarksBy kinds.Base b r old new = GoesOver b r old new
MarksBy kinds.Mark b r old new =
    (begun : MarkState) × (gone : MarkState) × BeginsChecked r.thread old begun × GoesOver b r begun gone × NotesChecked r.thread gone new
MarksBy _ b r old new = (begun : MarkState) × BeginsChecked r.thread old begun × GoesOver b r begun new

-- records, one after the other
abbrev pub MarksAll : List ℕ → List Record → (old new : MarkState) → Type 0
MarksAll b [] old new = new ≡ old
MarksAll b (r ∷ records) old new = (mid : MarkState) × MarksBy r.kind b r old mid × MarksAll b records mid new

-- The databases that the files show at the beginning of a trace and at each mark, in their order, each once where
-- marks come behind the same one; and the faults of those that aren't well formed.
pub record AreMarked (begun : RunState) (b : List ℕ) (records : List Record) (m : Marked) : Type 0 where
  pub last : MarkState
  pub all : MarksAll b records (record { run = begun; faults = [] }) last
  pub commits : map commit_of m.commits.items ≡ last.run.commits
  pub faults : m.faults.items ≡ last.faults
