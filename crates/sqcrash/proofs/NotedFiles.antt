-- What the present files show is noted and checked, by their bytes.
use Rattle.std.proofs.Common.{◌≡◌, ℕ, Bool, true, false, cond, Option, None, List, [], ◌∷◌, ◌++◌, refl, sym, subst}
use Rattle.std.specs.Prelude.{MatchOption}
use Rattle.sqpage.specs.declared.fault.CheckError.{CheckError}
use Rattle.rig_images.specs.Left.{IsPresent}
use Rattle.rig_images.specs.declared.image.Image.{Image}
use Rattle.rig_judge.specs.Shown.{Commit, IsNoted}
use Rattle.rig_judge.specs.Sound.{ShowsSound, ShowsFault}
use Rattle.sqcrash.specs.Runs.{RunState, Notes}
use Rattle.sqcrash.specs.Snapshots.{NotesImage, NotesFault, IsFaultIn, IsFaultOf}

pub noted_of : (a b d db wal journal : List ℕ) (t : Bool) (old new : List Commit) → a ≡ db → b ≡ wal → d ≡ journal → IsNoted a b d t old new → IsNoted db wal journal t old new
noted_of a b d db wal journal t old new e f g is =
    subst (λ (x : List ℕ). IsNoted x wal journal t old new) e
    (subst (λ (x : List ℕ). IsNoted a x journal t old new) f
    (subst (λ (x : List ℕ). IsNoted a b x t old new) g is))

-- a commit is taken or isn't
pub notes_image : (image : Image) (thread : ℕ) (old new : RunState) (t u : Bool) → u ≡ t → IsNoted image.db.items image.wal.items image.journal.items u old.commits new.commits
    → new ≡ record old { commits = new.commits; makers = cond t (old.makers ++ thread ∷ []) old.makers } → NotesImage image thread old new u
notes_image image thread old new t u e noted goes = record {
  noted = noted;
  goes = subst (λ (b : Bool). new ≡ record old { commits = new.commits; makers = cond b (old.makers ++ thread ∷ []) old.makers }) (sym e) goes;
}

-- of the present files
pub notes_of : (image : Image) (thread : ℕ) (old new : RunState) (taken : Bool) → IsPresent old.files image → NotesImage image thread old new taken → Notes thread old new
notes_of image thread old new taken present is = record { present = image; is_present = present; taken = taken; noted = is.noted; goes = is.goes }

-- as they were looked at
pub notes_seen : (image : Image) (thread : ℕ) (old seen new : RunState) (taken : Bool) → seen ≡ old → IsPresent old.files image → NotesImage image thread seen new taken → Notes thread old new
notes_seen image thread old seen new taken same present is = notes_of image thread old new taken present (subst (λ (s : RunState). NotesImage image thread s new taken) same is)

-- what is wrong with them
pub fault_of : (a b d db wal journal : List ℕ) (fault : Option CheckError) → a ≡ db → b ≡ wal → d ≡ journal → MatchOption fault (ShowsSound a b d) (ShowsFault a b d)
    → MatchOption fault (ShowsSound db wal journal) (ShowsFault db wal journal)
fault_of a b d db wal journal fault e f g is =
    subst (λ (x : List ℕ). MatchOption fault (ShowsSound x wal journal) (ShowsFault x wal journal)) e
    (subst (λ (x : List ℕ). MatchOption fault (ShowsSound a x journal) (ShowsFault a x journal)) f
    (subst (λ (x : List ℕ). MatchOption fault (ShowsSound a b x) (ShowsFault a b x)) g is))

-- one that is taken is checked
pub checked_taken : (image : Image) (thread : ℕ) (old new : RunState) (taken : Bool) (seen : Image) (fault : Option CheckError) → IsPresent old.files image → NotesImage image thread old new taken
    → taken ≡ true → seen ≡ image → IsFaultIn seen fault → NotesFault thread old new fault
checked_taken image thread old new taken seen fault present noted e same is = record {
  notes = record { present = image; is_present = present; taken = taken; noted = noted.noted; goes = noted.goes };
  is = subst (λ (b : Bool). IsFaultOf b image fault) (sym e) (subst (λ (i : Image). IsFaultIn i fault) same is);
}

-- and no other
pub checked_none : (image : Image) (thread : ℕ) (old new : RunState) (taken : Bool) → IsPresent old.files image → NotesImage image thread old new taken
    → taken ≡ false → NotesFault thread old new None
checked_none image thread old new taken present noted e =
    record {
      notes = record { present = image; is_present = present; taken = taken; noted = noted.noted; goes = noted.goes };
      is = subst (λ (b : Bool). IsFaultOf b image None) (sym e) refl;
    }
