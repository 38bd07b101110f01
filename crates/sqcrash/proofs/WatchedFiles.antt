-- What records leave of the present files.
use Rattle.std.proofs.Common.{◌≡◌, inl, inr, ℕ, ◌+◌, ◌-◌, ◌<◌, min, Bool, true, false, cond, List, [], ◌∷◌, length, get_or, drop, refl, sym, ◌∙◌, ap, subst, arith}
use Rattle.std.specs.Prelude.{Option, Some, None, slice_get}
use Rattle.std.proofs.lemmas.List.{length-drop, get_or-drop}
use Rattle.std.proofs.lemmas.Option.{slice_get_past, slice_get-get_or}
use Rattle.crashdisk.specs.Call.{DiskState}
use Rattle.rig_images.specs.Left.{IsPresent}
use Rattle.rig_images.specs.declared.image.Image.{Image}
use Rattle.rig_play.specs.Trace.{has_failed}
use Rattle.rig_play.specs.Names.{NameState, file_now, ArePresentOf, only_now}
use Rattle.rig_play.specs.Plays.{Files, all_now, CallDoes, OneGoes, Step}
use Rattle.rig_play.specs.declared.meta.Meta.{Meta}
use Rattle.rig_play.specs.declared.trace.Kind.{Kind}
use Rattle.rig_play.specs.declared.trace.Kind.TheVariants as kinds
use Rattle.rig_play.specs.declared.trace.Subject.{Subject}
use Rattle.rig_play.specs.declared.trace.Subject.TheVariants as subjects
use Rattle.rig_play.specs.declared.trace.Record.{Record}
use Rattle.sqcrash.specs.Watching.{IsLookedAt, Stays}

-- the bytes of a file that was looked at are the present ones
present_as : (s : NameState) (bytes : List ℕ) (o : Option DiskState) → file_now s ≡ o → IsLookedAt s bytes → ArePresentOf o bytes
present_as s bytes None e is = is.gone e
present_as s bytes (Some f) e is = is.there f e

pub present_of : (s : NameState) (bytes : List ℕ) → IsLookedAt s bytes → ArePresentOf (file_now s) bytes
present_of s bytes is = present_as s bytes (file_now s) refl is

pub looked_of : (s : NameState) (bytes : List ℕ) → ArePresentOf (file_now s) bytes → IsLookedAt s bytes
looked_of s bytes are = record {
  there = λ f e. subst (λ (o : Option DiskState). ArePresentOf o bytes) e are;
  gone = λ e. subst (λ (o : Option DiskState). ArePresentOf o bytes) e are;
}

-- the same under a name that has the same file
pub looked_still : (old new : NameState) (bytes : List ℕ) → file_now new ≡ file_now old → IsLookedAt old bytes → IsLookedAt new bytes
looked_still old new bytes e is = record { there = λ f h. is.there f (sym e ∙ h); gone = λ h. is.gone (sym e ∙ h) }

-- the last of files is the last of those that a sync of the folder leaves
last_left : (files : List DiskState) (m : ℕ) → slice_get (drop (min m (length files - 1)) files) (length (drop (min m (length files - 1)) files) - 1) ≡ slice_get files (length files - 1)
last_left [] m =
    let none : List DiskState = [] in
    let k = min m (length none - 1) in
    slice_get_past (drop k none) (length (drop k none) - 1) (omega (arith, length-drop k none)) ∙ sym (slice_get_past none (length none - 1) (omega arith))
last_left (x ∷ xs) m =
    let files : List DiskState = x ∷ xs in
    let k = min m (length files - 1) in
    let long = length-drop k files in
    let some : 0 < length files = omega arith in
    let at : k + (length (drop k files) - 1) ≡ length files - 1 = omega (arith, long, some) in
    slice_get-get_or (drop k files) (length (drop k files) - 1) x (omega (arith, long, some)) ∙ ap Some (get_or-drop k files (length (drop k files) - 1) x)
    ∙ ap (λ (n : ℕ). Some (get_or files n x)) at ∙ sym (slice_get-get_or files (length files - 1) x (omega arith))

still_gone : (gone : Bool) (files : List DiskState) (m : ℕ)
    → cond gone None (slice_get (cond gone [] (drop (min m (length files - 1)) files)) (length (cond gone [] (drop (min m (length files - 1)) files)) - 1))
    ≡ cond gone None (slice_get files (length files - 1))
still_gone true files m = refl
still_gone false files m = last_left files m

-- a sync of the folder leaves the present file
pub now_still : (s : NameState) → file_now (only_now s) ≡ file_now s
now_still s = still_gone s.gone s.files s.made

-- a record that leaves the file that it speaks of leaves its name
stays_name : (kind : Kind) (sector : ℕ) (tears : Bool) (meta : Meta) (b : List ℕ) (r : Record) (old new : NameState) → Stays kind r.place → CallDoes kind sector tears meta b r old new → new ≡ old
stays_name kinds.Close sector tears meta b r old new stays does = does
stays_name kinds.Rename sector tears meta b r old new stays does = does.1
stays_name kinds.End sector tears meta b r old new stays does = does.1
stays_name kinds.Open sector tears meta b r old new stays does = elim does [
  | inl made ↦ absurd (stays made.0)
  | inr same ↦ same.1
]
stays_name _ sector tears meta b r old new stays does = absurd stays

-- each file is the present one still, where the record speaks of another one, or leaves it
one_db : (subject : Subject) (P : NameState → NameState → Type 0) (old new : Files) → (subject ≡ subjects.Db → P old.db new.db → new.db ≡ old.db) → OneGoes subject P old new → new.db ≡ old.db
one_db subjects.Db P old new stays goes = stays refl goes.0
one_db subjects.Wal P old new stays goes = ap (λ (s : Files). s.db) goes.1
one_db subjects.Journal P old new stays goes = ap (λ (s : Files). s.db) goes.1
one_db _ P old new stays goes = ap (λ (s : Files). s.db) goes.1

one_wal : (subject : Subject) (P : NameState → NameState → Type 0) (old new : Files) → (subject ≡ subjects.Wal → P old.wal new.wal → new.wal ≡ old.wal) → OneGoes subject P old new → new.wal ≡ old.wal
one_wal subjects.Db P old new stays goes = ap (λ (s : Files). s.wal) goes.1
one_wal subjects.Wal P old new stays goes = stays refl goes.0
one_wal subjects.Journal P old new stays goes = ap (λ (s : Files). s.wal) goes.1
one_wal _ P old new stays goes = ap (λ (s : Files). s.wal) goes.1

one_journal : (subject : Subject) (P : NameState → NameState → Type 0) (old new : Files) → (subject ≡ subjects.Journal → P old.journal new.journal → new.journal ≡ old.journal) → OneGoes subject P old new
    → new.journal ≡ old.journal
one_journal subjects.Db P old new stays goes = ap (λ (s : Files). s.journal) goes.1
one_journal subjects.Wal P old new stays goes = ap (λ (s : Files). s.journal) goes.1
one_journal subjects.Journal P old new stays goes = stays refl goes.0
one_journal _ P old new stays goes = ap (λ (s : Files). s.journal) goes.1

-- of a sync of the folder
folder_still : (get : Files → NameState) (fails : Bool) (old new : Files) → new ≡ cond fails old (all_now old) → get (all_now old) ≡ only_now (get old) → file_now (get new) ≡ file_now (get old)
folder_still get true old new e at = ap (λ (s : Files). file_now (get s)) e
folder_still get false old new e at = ap (λ (s : Files). file_now (get s)) e ∙ ap file_now at ∙ now_still (get old)

module _ (b : List ℕ) (r : Record) (old new : Files) (step : Step b r old new) where
  pub still_db : (r.subject ≡ subjects.Db → Stays r.kind r.place) → file_now new.db ≡ file_now old.db
  still_db stays =
      let mid = step.0 in
      let there : file_now new.db ≡ file_now mid.db = ap (λ (s : Files). file_now s.db) step.3 in
      there ∙ elim step.1 [
        | inl folder ↦ folder_still (λ (s : Files). s.db) (has_failed r) old mid folder.1 refl
        | inr one ↦ ap file_now (one_db r.subject (CallDoes r.kind old.sector old.tears old.meta b r) old mid (λ e. stays_name r.kind old.sector old.tears old.meta b r old.db mid.db (stays e)) one.1)
      ]

  pub still_wal : (r.subject ≡ subjects.Wal → Stays r.kind r.place) → file_now new.wal ≡ file_now old.wal
  still_wal stays =
      let mid = step.0 in
      let there : file_now new.wal ≡ file_now mid.wal = ap (λ (s : Files). file_now s.wal) step.3 in
      there ∙ elim step.1 [
        | inl folder ↦ folder_still (λ (s : Files). s.wal) (has_failed r) old mid folder.1 refl
        | inr one ↦ ap file_now (one_wal r.subject (CallDoes r.kind old.sector old.tears old.meta b r) old mid (λ e. stays_name r.kind old.sector old.tears old.meta b r old.wal mid.wal (stays e)) one.1)
      ]

  pub still_journal : (r.subject ≡ subjects.Journal → Stays r.kind r.place) → file_now new.journal ≡ file_now old.journal
  still_journal stays =
      let mid = step.0 in
      let there : file_now new.journal ≡ file_now mid.journal = ap (λ (s : Files). file_now s.journal) step.3 in
      there ∙ elim step.1 [
        | inl folder ↦ folder_still (λ (s : Files). s.journal) (has_failed r) old mid folder.1 refl
        | inr one ↦ ap file_now (one_journal r.subject (CallDoes r.kind old.sector old.tears old.meta b r) old mid (λ e. stays_name r.kind old.sector old.tears old.meta b r old.journal mid.journal (stays e)) one.1)
      ]

-- all three were looked at, one after the other
pub present_all : (s a b d : Files) (image : Image) (db wal : List ℕ) → a ≡ s → b ≡ a → d ≡ b → IsLookedAt a.db db → IsLookedAt b.wal wal → IsLookedAt d.journal image.journal.items
    → image.db.items ≡ db → image.wal.items ≡ wal → IsPresent s image
present_all s a b d image db wal e f g is_db is_wal is_journal same_db same_wal = record {
  db = present_of s.db image.db.items (subst (λ (l : List ℕ). IsLookedAt s.db l) (sym same_db) (subst (λ (x : Files). IsLookedAt x.db db) e is_db));
  wal = present_of s.wal image.wal.items (subst (λ (l : List ℕ). IsLookedAt s.wal l) (sym same_wal) (subst (λ (x : Files). IsLookedAt x.wal wal) (f ∙ e) is_wal));
  journal = present_of s.journal image.journal.items (subst (λ (x : Files). IsLookedAt x.journal image.journal.items) (g ∙ f ∙ e) is_journal);
}
