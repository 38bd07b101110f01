-- Commits that are taken from the present files, as they were looked at (own).
use Rattle.std.specs.Prelude.{◌≡◌, ℕ, Bool, true, false, cond, List, [], ◌∷◌, ◌++◌, map, reverse, Option, None, MatchOption}
use Rattle.sqpage.specs.declared.fault.CheckError.{CheckError}
use Rattle.rig_images.specs.declared.image.Image.{Image}
use Rattle.rig_judge.specs.Shown.{IsNoted, IsShowing, commit_of}
use Rattle.rig_judge.specs.Sound.{ShowsSound, ShowsFault}
use Rattle.rig_judge.specs.declared.snapshot.Snapshot.{Snapshot}
use Rattle.sqcrash.specs.Runs.{RunState, Notes}

-- the database that this image shows is one more commit, where it isn't the last one's
pub record NotesImage (image : Image) (thread : ℕ) (old new : RunState) (taken : Bool) : Type 0 where
  pub noted : IsNoted image.db.items image.wal.items image.journal.items taken old.commits new.commits
  pub goes : new ≡ record old { commits = new.commits; makers = cond taken (old.makers ++ thread ∷ []) old.makers }

-- what is wrong with the database that an image shows, or nothing
abbrev pub IsFaultIn : Image → Option CheckError → Type 0
IsFaultIn image fault =
    MatchOption fault (ShowsSound image.db.items image.wal.items image.journal.items) (ShowsFault image.db.items image.wal.items image.journal.items)

-- and where it is taken alone
abbrev pub IsFaultOf : (taken : Bool) → Image → Option CheckError → Type 0
IsFaultOf false image fault = fault ≡ None
IsFaultOf true image fault = IsFaultIn image fault

-- the database that the present files show is one more commit, where it isn't the last one's, and this is wrong with it
pub record NotesFault (thread : ℕ) (old new : RunState) (fault : Option CheckError) : Type 0 where
  pub notes : Notes thread old new
  pub is : IsFaultOf notes.taken notes.present fault

-- whether an image shows the last of snapshots, if there is one
abbrev pub ShowsLastOf : List Snapshot → Image → (shown : Bool) → Type 0
ShowsLastOf snapshots image shown =
    (next : Snapshot) (rest : List Snapshot) → reverse snapshots ≡ next ∷ rest → IsShowing (commit_of next) image.db.items image.wal.items image.journal.items shown

-- the last of snapshots, if there is one, is one more commit, which this thread made
abbrev pub TakesLastOf : List Snapshot → (thread : ℕ) → (old new : RunState) → Type 0
TakesLastOf snapshots thread old new =
    (next : Snapshot) (rest : List Snapshot) → reverse snapshots ≡ next ∷ rest
    → new ≡ record old { commits = old.commits ++ commit_of next ∷ []; makers = old.makers ++ thread ∷ []; waiting = map commit_of rest }
