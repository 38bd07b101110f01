-- Records of which the marks are looked at, one after the other.
use Rattle.std.proofs.Common.{◌≡◌, ◌≢◌, inl, inr, ℕ, Bool, true, false, Option, Some, None, List, [], ◌∷◌, ◌++◌, length, refl, ap, subst}
use Rattle.sqpage.specs.declared.fault.CheckError.{CheckError}
use Rattle.rig_play.specs.declared.trace.Kind.{Kind}
use Rattle.rig_play.specs.declared.trace.Kind.TheVariants as kinds
use Rattle.rig_play.specs.declared.trace.Record.{Record}
use Rattle.rig_images.specs.declared.image.Image.{Image}
use Rattle.sqcrash.specs.Marked.{MarkState, AreFaults, NotesChecked, MarksBy, MarksAll, BeginsChecked, GoesOver}
use Rattle.sqcrash.specs.Snapshots.{IsFaultOf, NotesFault}
use Rattle.sqcrash.specs.declared.marked.CommitFault.{CommitFault}

-- one more
pub marks_more : (b : List ℕ) (records : List Record) (r : Record) (old mid new : MarkState) → MarksAll b records old mid → MarksBy r.kind b r mid new → MarksAll b (records ++ r ∷ []) old new
marks_more b [] r old mid new is one = (new, subst (λ (s : MarkState). MarksBy r.kind b r s new) is one, refl)
marks_more b (first ∷ records) r old mid new all one = (all.0, all.1, marks_more b records r all.0 mid new all.2 one)

-- a record that is no file that was there and no mark is a call
pub marks_call : (kind : Kind) (b : List ℕ) (r : Record) (old begun new : MarkState) → kind ≢ kinds.Base → kind ≢ kinds.Mark → BeginsChecked r.thread old begun → GoesOver b r begun new → MarksBy kind b r old new
marks_call kinds.Base b r old begun new no_base no_mark begins goes = absurd (no_base refl)
marks_call kinds.Mark b r old begun new no_base no_mark begins goes = absurd (no_mark refl)
marks_call _ b r old begun new no_base no_mark begins goes = (begun, begins, goes)

-- what is found of a commit, by its fault
abbrev pub faults_of : (k : ℕ) → Option CheckError → List CommitFault
faults_of k None = []
faults_of k (Some e) = record { commit = k; error = e } ∷ []

are_faults : (taken : Bool) (k : ℕ) (image : Image) (fault : Option CheckError) → IsFaultOf taken image fault → AreFaults taken k image (faults_of k fault)
are_faults false k image fault is = ap (λ o. faults_of k o) is
are_faults true k image None is = inl (is, refl)
are_faults true k image (Some e) is = inr (e, is, refl)

-- a commit is noted and checked
pub notes_checked : (thread n : ℕ) (old new : MarkState) (fault : Option CheckError) → n ≡ length old.run.commits → NotesFault thread old.run new.run fault
    → new.faults ≡ old.faults ++ faults_of n fault → NotesChecked thread old new
notes_checked thread n old new fault e noted goes = record {
  notes = noted.notes;
  found = faults_of n fault;
  are = subst (λ (k : ℕ). AreFaults noted.notes.taken k noted.notes.present (faults_of n fault)) e (are_faults noted.notes.taken n noted.notes.present fault noted.is);
  faults = goes;
}
