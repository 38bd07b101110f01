-- Records that are played in order, played as a whole.
use Rattle.std.proofs.Common.{◌≡◌, ◌⊎◌, inl, inr, ℕ, zero, suc, ◌+◌, ◌-◌, ◌<◌, ◌≤◌, min, Bool, true, false, IsTrue, cond, List, [], ◌∷◌, ◌++◌, length, get_or, take, drop, length-append, refl, sym, ◌∙◌, ap, subst, arith}
use Rattle.std.specs.Prelude.{nat_eq, nat_lt, not, ◌&&◌, ◌||◌, slice_get}
use Rattle.std.specs.List.{Contains}
use Rattle.std.proofs.lemmas.List.{length-take, length-drop, get_or-take, get_or-drop}
use Rattle.std.proofs.lemmas.Bool.Decides.{nat_tests}
use Rattle.crashdisk.specs.Call.{DiskState}
use Rattle.rig_play.specs.Files.{IsWritten, IsCut, IsSynced}
use Rattle.rig_play.specs.Names.{NameState, no_file, LastGoes, CutsWhole, Syncs, without_uncut, only_now, UncutGo, TakesBelow, Writes, least_cut, has_lengths, is_resized}
use Rattle.rig_play.specs.Plays.{Files, no_files, holds_now, epoch_now, epochs_of, CallDoes, OneGoes, all_now, NamesGo, file_brings_down, brings_down, has_all_down, Follows, Step, Plays}
use Rattle.rig_play.specs.Trace.{has_failed, bytes_of}
use Rattle.rig_play.specs.declared.meta.Epoch.{Epoch}
use Rattle.rig_play.specs.declared.meta.Holds.{Holds}
use Rattle.rig_play.specs.declared.meta.Holds.TheVariants.{Any, Nothing, File}
use Rattle.rig_play.specs.declared.meta.Meta.{Meta}
use Rattle.rig_play.specs.declared.meta.Meta.TheVariants.{Whole, Ordered}
use Rattle.rig_play.specs.declared.trace.Kind.{Kind}
use Rattle.rig_play.specs.declared.trace.Kind.TheVariants as kinds
use Rattle.rig_play.specs.declared.trace.Record.{Record}
use Rattle.rig_play.specs.declared.trace.Subject.{Subject}
use Rattle.rig_play.specs.declared.trace.Subject.TheVariants as subjects
use Rattle.rig_play.proofs.ForgottenFiles.{same_meta}
use Rattle.rig_images.specs.Including.{OrderedIsWhole}
use Rattle.rig_images.specs.Left.{MayBeLeft, MayLeaveIn}

-- ---- the same records as a whole

abbrev pub as_whole : Files → Files
as_whole s = record s { meta = Whole; earlier = [] }

call_whole : (k : Kind) (sector : ℕ) (tears : Bool) (b : List ℕ) (r : Record) (old new : NameState) → CallDoes k sector tears Ordered b r old new → CallDoes k sector tears Whole b r old new
call_whole kinds.Base sector tears b r old new does = does
call_whole kinds.Open sector tears b r old new does = does
call_whole kinds.Close sector tears b r old new does = does
call_whole kinds.Write sector tears b r old new does = does
call_whole kinds.Cut sector tears b r old new does = does
call_whole kinds.Sync sector tears b r old new does = does
call_whole kinds.Unlink sector tears b r old new does = does
call_whole kinds.Rename sector tears b r old new does = does
call_whole kinds.FolderSync sector tears b r old new does = does
call_whole kinds.Mark sector tears b r old new does = does
call_whole kinds.NotHeld sector tears b r old new does = does
call_whole kinds.End sector tears b r old new does = does

one_whole : (subject : Subject) (P Q : NameState → NameState → Type 0) (old new : Files) → ((a b : NameState) → P a b → Q a b) → OneGoes subject P old new → OneGoes subject Q (as_whole old) (as_whole new)
one_whole subjects.Db P Q old new weaker (goes, is) = (weaker old.db new.db goes, ap as_whole is)
one_whole subjects.Wal P Q old new weaker (goes, is) = (weaker old.wal new.wal goes, ap as_whole is)
one_whole subjects.Journal P Q old new weaker (goes, is) = (weaker old.journal new.journal goes, ap as_whole is)
one_whole subjects.Folder P Q old new weaker ((other, goes), is) = ((other, weaker no_file other goes), ap as_whole is)
one_whole subjects.Marks P Q old new weaker ((other, goes), is) = ((other, weaker no_file other goes), ap as_whole is)
one_whole subjects.Other P Q old new weaker ((other, goes), is) = ((other, weaker no_file other goes), ap as_whole is)

folder_whole : (fails : Bool) (old : Files) → as_whole (cond fails old (all_now old)) ≡ cond fails (as_whole old) (all_now (as_whole old))
folder_whole true old = refl
folder_whole false old = refl

names_whole : (b : List ℕ) (r : Record) (old new : Files) → old.meta ≡ Ordered → NamesGo b r old new → NamesGo b r (as_whole old) (as_whole new)
names_whole b r old new is (inl (folder, now)) = inl (folder, ap as_whole now ∙ folder_whole (has_failed r) old)
names_whole b r old new is (inr (file, goes)) = inr (
  file,
  one_whole r.subject (CallDoes r.kind old.sector old.tears old.meta b r) (CallDoes r.kind old.sector old.tears Whole b r) old new
      (λ a c does. call_whole r.kind old.sector old.tears b r a c (subst (λ (m : Meta). CallDoes r.kind old.sector old.tears m b r a c) is does)) goes,
)

no_epochs : (down : Bool) (e : Epoch) → Follows down e e [] []
no_epochs true e = refl
no_epochs false e = inl (refl, refl)

pub step_whole : (b : List ℕ) (r : Record) (old new : Files) → old.meta ≡ Ordered → Step b r old new → Step b r (as_whole old) (as_whole new)
step_whole b r old new is (mid, goes, follows, left) = (as_whole mid, names_whole b r old mid is goes, no_epochs (has_all_down (as_whole old) r) (epoch_now (as_whole old)), ap as_whole left)

step_meta : (b : List ℕ) (r : Record) (old new : Files) → old.meta ≡ Ordered → Step b r old new → new.meta ≡ Ordered
step_meta b r old new is (mid, goes, follows, left) = ap (λ (s : Files). s.meta) left ∙ same_meta b r old mid goes ∙ is

pub plays_whole : (b : List ℕ) (records : List Record) (old new : Files) → old.meta ≡ Ordered → Plays b records old new → Plays b records (as_whole old) (as_whole new)
plays_whole b [] old new is plays = ap as_whole plays
plays_whole b (r ∷ records) old new is (mid, step, plays) = (as_whole mid, step_whole b r old mid is step, plays_whole b records mid new (step_meta b r old mid is step) plays)

-- ---- what the names of an epoch hold

-- a name that is gone may be gone after a crash, and one that isn't has a file
pub record IsFit (n : NameState) : Type 0 where
  pub gone : n.gone ≡ true → n.maybe_none ≡ true
  pub some : (0 < length n.files) ⊎ (n.gone ≡ true)

-- what it held it may still hold
abbrev pub MayHold : NameState → Holds → Type 0
MayHold n Any = Unit {0}
MayHold n Nothing = n.maybe_none ≡ true
MayHold n (File i) = (i < length n.files) ⊎ (n.maybe_none ≡ true)

-- a name after a call: fit, and of what it held nothing went
pub record Grows (old new : NameState) : Type 0 where
  pub fit : IsFit new
  pub longer : length old.files ≤ length new.files
  pub none : old.maybe_none ≡ true → new.maybe_none ≡ true

grown : (old new : NameState) (holds : Holds) → Grows old new → MayHold old holds → MayHold new holds
grown old new Any grows may = tt
grown old new Nothing grows may = grows.none may
grown old new (File i) grows (inl lt) = inl (omega (arith, lt, grows.longer))
grown old new (File i) grows (inr none) = inr (grows.none none)

same_grows : (old new : NameState) → IsFit old → new ≡ old → Grows old new
same_grows old new fit is = record { fit = subst IsFit (sym is) fit; longer = omega (arith, ap (λ (n : NameState). length n.files) is); none = λ e. ap (λ (n : NameState). n.maybe_none) is ∙ e }

-- other files, no fewer
files_grow : (old new : NameState) (files : List DiskState) → IsFit old → length old.files ≤ length files → new ≡ record old { files = files } → Grows old new
files_grow old new files fit le is =
    let now : NameState = record old { files = files } in
    let grows : Grows old now = record {
      fit = record { gone = fit.gone; some = elim fit.some [ inl some ↦ inl (omega (arith, some, le)) | inr gone ↦ inr gone ] };
      longer = le;
      none = λ e. e;
    } in subst (λ (n : NameState). Grows old n) (sym is) grows

last_grows : (P : DiskState → DiskState → Type 0) (old new : NameState) → IsFit old → LastGoes P old new → Grows old new
last_grows P old new fit (inl (none, is)) = same_grows old new fit is
last_grows P old new fit (inr (front, was, now, there, goes, is)) =
    files_grow old new (front ++ now ∷ []) fit (omega (arith, ap (λ (l : List DiskState). length l) there, length-append front (was ∷ []), length-append front (now ∷ []))) is

cut_grows : (n : ℕ) (fails : Bool) (old new : NameState) → IsFit old → CutsWhole n fails old new → Grows old new
cut_grows n true old new fit is = same_grows old new fit is
cut_grows n false old new fit (front, was, now, there, ends, is) =
    let cut : NameState = record old { files = old.files ++ now ∷ [] } in
    let grows : Grows old cut = files_grow old cut (old.files ++ now ∷ []) fit (omega (arith, length-append old.files (now ∷ []))) refl in
    let lower : Grows old (record cut { below = least_cut n old }) = record { fit = record { gone = grows.fit.gone; some = grows.fit.some }; longer = grows.longer; none = grows.none } in
    subst (λ (m : NameState). Grows old m) (sym is) lower

then_grows : (old mid new : NameState) → Grows old mid → Grows mid new → Grows old new
then_grows old mid new first more = record { fit = more.fit; longer = omega (arith, first.longer, more.longer); none = λ e. more.none (first.none e) }

write_grows : (at : ℕ) (bytes : List ℕ) (fails : Bool) (old new : NameState) → IsFit old → Writes at bytes fails old new → Grows old new
write_grows at bytes fails old new fit (mid, uncut, last) =
    let first : Grows old mid = files_grow old mid mid.files fit (omega (arith, uncut.count)) uncut.rest in
    then_grows old mid new first (last_grows (IsWritten at bytes fails) mid new first.fit last)

some_length : (files : List DiskState) (i : ℕ) → 0 < length files → 0 < length (take i files ++ drop (length files - 1) files)
some_length files i some = omega (arith, length-append (take i files) (drop (length files - 1) files), length-drop (length files - 1) files)

or_not : (a b : Bool) → (not a || b) ≡ false → b ≡ false
or_not true b e = e
or_not false b e = absurd (let no : true ≡ false = e in cc)

or_first : (a b : Bool) → (a || b) ≡ false → a ≡ false
or_first true b e = e
or_first false b e = refl

not_below : (m n : ℕ) → nat_lt m n ≡ false → n ≤ m
not_below m n e = grind (arith, nat_tests)

-- where a sync makes none of them durable, no file of the name goes
uncut_stays : (old mid : NameState) → length mid.files ≡ length old.files → mid.made ≡ old.made → is_resized old ≡ false → length (without_uncut mid).files ≡ length mid.files
uncut_stays old mid long made unsized =
    let made_last : length old.files - 1 ≤ old.made = not_below old.made (length old.files - 1) (or_first (nat_lt old.made (length old.files - 1)) (has_lengths (slice_get old.files (length old.files - 1))) unsized) in
    omega (arith, length-append (take (min mid.made (length mid.files - 1)) mid.files) (drop (length mid.files - 1) mid.files), length-take (min mid.made (length mid.files - 1)) mid.files, length-drop (length mid.files - 1) mid.files)

last_same : (P : DiskState → DiskState → Type 0) (old new : NameState) → LastGoes P old new → (length new.files ≡ length old.files) × (new.made ≡ old.made)
last_same P old new (inl (none, is)) = (ap (λ (n : NameState). length n.files) is, ap (λ (n : NameState). n.made) is)
last_same P old new (inr (front, was, now, there, goes, is)) =
    (omega (arith, ap (λ (n : NameState). length n.files) is, ap (λ (l : List DiskState). length l) there, length-append front (was ∷ []), length-append front (now ∷ [])), ap (λ (n : NameState). n.made) is)

sync_fits : (place : ℕ) (fails : Bool) (old new : NameState) → IsFit old → Syncs Ordered fails old new → IsFit new × (file_brings_down kinds.Sync place fails old ≡ false → Grows old new)
sync_fits place true old new fit (mid, goes, is) =
    let P : DiskState → DiskState → Type 0 = IsSynced true in
    let grows : Grows old new = subst (λ (n : NameState). Grows old n) (sym is) (last_grows P old mid fit goes) in (grows.fit, λ e. grows)
sync_fits place false old new fit (mid, goes, is) =
    let P : DiskState → DiskState → Type 0 = IsSynced false in
    let first : Grows old mid = last_grows P old mid fit goes in
    let now : IsFit (without_uncut mid) = record {
      gone = first.fit.gone;
      some = elim first.fit.some [ inl some ↦ inl (some_length mid.files (min mid.made (length mid.files - 1)) some) | inr gone ↦ inr gone ];
    } in (
      subst IsFit (sym is) now,
      λ e.
          let same = last_same P old mid goes in
          let long : length (without_uncut mid).files ≡ length mid.files = uncut_stays old mid same.0 same.1 (or_not (nat_eq place 1) (is_resized old) e) in
          let grows : Grows old (without_uncut mid) = record { fit = now; longer = omega (arith, long, first.longer); none = first.none } in
          subst (λ (n : NameState). Grows old n) (sym is) grows,
    )

unlink_grows : (fails : Bool) (old new : NameState) → IsFit old → new ≡ cond fails old (record old { maybe_none = true; gone = true }) → Grows old new
unlink_grows true old new fit is = same_grows old new fit is
unlink_grows false old new fit is =
    let now : NameState = record old { maybe_none = true; gone = true } in
    let grows : Grows old now = record { fit = record { gone = λ e. refl; some = inr refl }; longer = omega arith; none = λ e. refl } in
    subst (λ (n : NameState). Grows old n) (sym is) grows

abbrev Goes : Kind → (place : ℕ) (fails : Bool) (old new : NameState) → Type 0
Goes k place fails old new = IsFit new × (file_brings_down k place fails old ≡ false → Grows old new)

goes : (k : Kind) (place : ℕ) (fails : Bool) (old new : NameState) → Grows old new → Goes k place fails old new
goes k place fails old new grows = (grows.fit, λ e. grows)

call_goes : (k : Kind) (sector : ℕ) (tears : Bool) (b : List ℕ) (r : Record) (old new : NameState) → IsFit old → CallDoes k sector tears Ordered b r old new → Goes k r.place (has_failed r) old new
call_goes kinds.Base sector tears b r old new fit (d, is_new, is) =
    let now : NameState = record { files = d ∷ []; made = 0; below = 0; maybe_none = false; gone = false } in
    let fits : IsFit now = record { gone = λ e. absurd (let no : false ≡ true = e in cc); some = inl (omega arith) } in
    (subst IsFit (sym is) fits, λ e. absurd (let no : true ≡ false = e in cc))
call_goes kinds.Open sector tears b r old new fit (inl (place, (d, is_new, is))) =
    let now : NameState = record old { files = old.files ++ d ∷ []; made = length old.files; gone = false } in
    let grows : Grows old now = record {
      fit = record { gone = λ e. absurd (let no : false ≡ true = e in cc); some = inl (omega (arith, length-append old.files (d ∷ []))) };
      longer = omega (arith, length-append old.files (d ∷ []));
      none = λ e. e;
    } in goes kinds.Open r.place (has_failed r) old new (subst (λ (n : NameState). Grows old n) (sym is) grows)
call_goes kinds.Open sector tears b r old new fit (inr (place, is)) = goes kinds.Open r.place (has_failed r) old new (same_grows old new fit is)
call_goes kinds.Close sector tears b r old new fit is = goes kinds.Close r.place (has_failed r) old new (same_grows old new fit is)
call_goes kinds.Write sector tears b r old new fit does = goes kinds.Write r.place (has_failed r) old new (write_grows r.place (bytes_of b r) (has_failed r) old new fit does)
call_goes kinds.Cut sector tears b r old new fit (inl (longer, does)) = goes kinds.Cut r.place (has_failed r) old new (cut_grows r.place (has_failed r) old new fit does)
call_goes kinds.Cut sector tears b r old new fit (inr (longer, does)) = goes kinds.Cut r.place (has_failed r) old new (last_grows (IsCut r.place (has_failed r)) old new fit does)
call_goes kinds.Sync sector tears b r old new fit does = sync_fits r.place (has_failed r) old new fit does
call_goes kinds.Unlink sector tears b r old new fit does = goes kinds.Unlink r.place (has_failed r) old new (unlink_grows (has_failed r) old new fit does)
call_goes kinds.Rename sector tears b r old new fit (fails, is) = goes kinds.Rename r.place (has_failed r) old new (same_grows old new fit is)
call_goes kinds.FolderSync sector tears b r old new fit is = goes kinds.FolderSync r.place (has_failed r) old new (same_grows old new fit is)
call_goes kinds.Mark sector tears b r old new fit is = goes kinds.Mark r.place (has_failed r) old new (same_grows old new fit is)
call_goes kinds.NotHeld sector tears b r old new fit does = absurd does
call_goes kinds.End sector tears b r old new fit (noted, is) = goes kinds.End r.place (has_failed r) old new (same_grows old new fit is)

now_fits : (n : NameState) → IsFit n → IsFit (only_now n)
now_fits n fit = by n.gone refl
  where
    by : (b : Bool) → n.gone ≡ b → IsFit (only_now n)
    by true e = record { gone = λ g. g; some = inr e }
    by false e = record {
      gone = λ g. g;
      some = elim fit.some [
        | inl some ↦ inl (
            let files : List DiskState = drop (min n.made (length n.files - 1)) n.files in
            let left : 0 < length files = omega (arith, length-drop (min n.made (length n.files - 1)) n.files) in
            subst (λ (g : Bool). 0 < length (cond g [] files)) (sym e) left)
        | inr gone ↦ inr gone
      ];
    }

-- ---- the three names

pub record AreFit (s : Files) : Type 0 where
  pub db : IsFit s.db
  pub wal : IsFit s.wal
  pub journal : IsFit s.journal

pub record MayStand (s : Files) (e : Epoch) : Type 0 where
  pub db : MayHold s.db e.db
  pub wal : MayHold s.wal e.wal
  pub journal : MayHold s.journal e.journal

abbrev Goes_on : (down : Bool) (old new : Files) → Type 0
Goes_on down old new = AreFit new × (down ≡ false → (e : Epoch) → MayStand old e → MayStand new e)

stays : (down : Bool) (old new : Files) → AreFit old → new ≡ old → Goes_on down old new
stays down old new fit is = (subst AreFit (sym is) fit, λ d e may. subst (λ (s : Files). MayStand s e) (sym is) may)

folder_goes : (place : ℕ) (fails : Bool) (k : Kind) (old new : Files) → AreFit old → new ≡ cond fails old (all_now old) → Goes_on (brings_down subjects.Folder k place fails old) old new
folder_goes place true k old new fit is = stays false old new fit is
folder_goes place false k old new fit is =
    let fits : AreFit (all_now old) = record { db = now_fits old.db fit.db; wal = now_fits old.wal fit.wal; journal = now_fits old.journal fit.journal } in
    (subst AreFit (sym is) fits, λ d. absurd (let no : true ≡ false = d in cc))

one_goes : (subject : Subject) (k : Kind) (place : ℕ) (fails : Bool) (P : NameState → NameState → Type 0) (old new : Files) → (subject ≡ subjects.Folder → ⊥) → ((a b : NameState) → IsFit a → P a b → Goes k place fails a b) → AreFit old → OneGoes subject P old new
    → Goes_on (brings_down subject k place fails old) old new
one_goes subjects.Db k place fails P old new file each fit (does, is) =
    let now : Files = record old { db = new.db } in
    let one = each old.db new.db fit.db does in
    let fits : AreFit now = record { db = one.0; wal = fit.wal; journal = fit.journal } in
    (subst AreFit (sym is) fits, λ d e may. let there : MayStand now e = record { db = grown old.db new.db e.db (one.1 d) may.db; wal = may.wal; journal = may.journal } in subst (λ (s : Files). MayStand s e) (sym is) there)
one_goes subjects.Wal k place fails P old new file each fit (does, is) =
    let now : Files = record old { wal = new.wal } in
    let one = each old.wal new.wal fit.wal does in
    let fits : AreFit now = record { db = fit.db; wal = one.0; journal = fit.journal } in
    (subst AreFit (sym is) fits, λ d e may. let there : MayStand now e = record { db = may.db; wal = grown old.wal new.wal e.wal (one.1 d) may.wal; journal = may.journal } in subst (λ (s : Files). MayStand s e) (sym is) there)
one_goes subjects.Journal k place fails P old new file each fit (does, is) =
    let now : Files = record old { journal = new.journal } in
    let one = each old.journal new.journal fit.journal does in
    let fits : AreFit now = record { db = fit.db; wal = fit.wal; journal = one.0 } in
    (subst AreFit (sym is) fits, λ d e may. let there : MayStand now e = record { db = may.db; wal = may.wal; journal = grown old.journal new.journal e.journal (one.1 d) may.journal } in subst (λ (s : Files). MayStand s e) (sym is) there)
one_goes subjects.Folder k place fails P old new file each fit does = absurd (file refl)
one_goes subjects.Marks k place fails P old new file each fit (does, is) = stays false old new fit is
one_goes subjects.Other k place fails P old new file each fit (does, is) = stays false old new fit is

names_go : (b : List ℕ) (r : Record) (old new : Files) → old.meta ≡ Ordered → AreFit old → NamesGo b r old new → Goes_on (has_all_down old r) old new
names_go b r old new is fit (inl (folder, now)) =
    subst (λ (s : Subject). Goes_on (brings_down s r.kind r.place (has_failed r) old) old new) (sym folder) (folder_goes r.place (has_failed r) r.kind old new fit now)
names_go b r old new is fit (inr (file, does)) =
    one_goes r.subject r.kind r.place (has_failed r) (CallDoes r.kind old.sector old.tears old.meta b r) old new file
    (λ x y fits call. call_goes r.kind old.sector old.tears b r x y fits (subst (λ (m : Meta). CallDoes r.kind old.sector old.tears m b r x y) is call)) fit does

-- ---- all epochs

abbrev pub EachStands : Files → List Epoch → Type 0
EachStands s [] = Unit {0}
EachStands s (e ∷ epochs) = MayStand s e × EachStands s epochs

each_goes : (old new : Files) (epochs : List Epoch) → ((e : Epoch) → MayStand old e → MayStand new e) → EachStands old epochs → EachStands new epochs
each_goes old new [] goes each = tt
each_goes old new (e ∷ epochs) goes each = (goes e each.0, each_goes old new epochs goes each.1)

each_more : (s : Files) (epochs : List Epoch) (e : Epoch) → EachStands s epochs → MayStand s e → EachStands s (epochs ++ e ∷ [])
each_more s [] e each may = (may, tt)
each_more s (first ∷ epochs) e each may = (each.0, each_more s epochs e each.1 may)

each_at : (s : Files) (epochs : List Epoch) (k : ℕ) (e : Epoch) → k < length epochs → get_or epochs k e ≡ e → EachStands s epochs → MayStand s e
each_at s [] k e lt is each = absurd (omega (arith, lt))
each_at s (first ∷ epochs) zero e lt is each = subst (λ (x : Epoch). MayStand s x) is each.0
each_at s (first ∷ epochs) (suc k) e lt is each = each_at s epochs k e (omega (arith, lt)) is each.1

holds_present : (n : NameState) → IsFit n → MayHold n (holds_now Ordered n)
holds_present n fit = by n.gone refl
  where
    by : (b : Bool) → n.gone ≡ b → MayHold n (holds_now Ordered n)
    by true e = subst (λ (g : Bool). MayHold n (cond g Nothing (File (length n.files - 1)))) (sym e) (fit.gone e)
    by false e = subst (λ (g : Bool). MayHold n (cond g Nothing (File (length n.files - 1)))) (sym e) (elim fit.some [
      | inl some ↦ inl (omega (arith, some))
      | inr gone ↦ absurd (let no : false ≡ true = sym e ∙ gone in cc)
    ])

stands_now : (s : Files) → s.meta ≡ Ordered → AreFit s → MayStand s (epoch_now s)
stands_now s is fit =
    let at : (m : Meta) → m ≡ Ordered → MayStand s (record { db = holds_now m s.db; wal = holds_now m s.wal; journal = holds_now m s.journal }) = λ m e.
    let now : MayStand s (record { db = holds_now Ordered s.db; wal = holds_now Ordered s.wal; journal = holds_now Ordered s.journal }) =
    record { db = holds_present s.db fit.db; wal = holds_present s.wal fit.wal; journal = holds_present s.journal fit.journal } in
    subst (λ (m' : Meta). MayStand s (record { db = holds_now m' s.db; wal = holds_now m' s.wal; journal = holds_now m' s.journal })) (sym e) now in at s.meta is

folder_earlier : (fails : Bool) (old : Files) → (cond fails old (all_now old)).earlier ≡ old.earlier
folder_earlier true old = refl
folder_earlier false old = refl

one_earlier : (s : Subject) (P : NameState → NameState → Type 0) (old new : Files) → OneGoes s P old new → new.earlier ≡ old.earlier
one_earlier subjects.Db P old new does = ap (λ (s : Files). s.earlier) does.1
one_earlier subjects.Wal P old new does = ap (λ (s : Files). s.earlier) does.1
one_earlier subjects.Journal P old new does = ap (λ (s : Files). s.earlier) does.1
one_earlier subjects.Folder P old new does = ap (λ (s : Files). s.earlier) does.1
one_earlier subjects.Marks P old new does = ap (λ (s : Files). s.earlier) does.1
one_earlier subjects.Other P old new does = ap (λ (s : Files). s.earlier) does.1

same_earlier : (b : List ℕ) (r : Record) (old new : Files) → NamesGo b r old new → new.earlier ≡ old.earlier
same_earlier b r old new (inl (folder, now)) = ap (λ (s : Files). s.earlier) now ∙ folder_earlier (has_failed r) old
same_earlier b r old new (inr (file, does)) = one_earlier r.subject (CallDoes r.kind old.sector old.tears old.meta b r) old new does

-- what holds of a player in order
pub record IsOrdered (s : Files) : Type 0 where
  pub meta : s.meta ≡ Ordered
  pub fit : AreFit s
  pub each : EachStands s s.earlier

follow_stands : (down : Bool) (before after : Epoch) (old mid : Files) (earlier : List Epoch) → Goes_on down old mid → MayStand old before → EachStands old mid.earlier → Follows down before after mid.earlier earlier → EachStands mid earlier
follow_stands true before after old mid earlier on may each follows = subst (λ (l : List Epoch). EachStands mid l) (sym follows) tt
follow_stands false before after old mid earlier on may each (inl (same, follows)) = subst (λ (l : List Epoch). EachStands mid l) (sym follows) (each_goes old mid mid.earlier (on.1 refl) each)
follow_stands false before after old mid earlier on may each (inr (differ, follows)) =
    subst (λ (l : List Epoch). EachStands mid l) (sym follows) (each_more mid mid.earlier before (each_goes old mid mid.earlier (on.1 refl) each) (on.1 refl before may))

step_ordered : (b : List ℕ) (r : Record) (old new : Files) → IsOrdered old → Step b r old new → IsOrdered new
step_ordered b r old new is (mid, names, follows, left) =
    let on = names_go b r old mid is.meta is.fit names in
    let each : EachStands old mid.earlier = subst (λ (l : List Epoch). EachStands old l) (sym (same_earlier b r old mid names)) is.each in
    let now : Files = record mid { earlier = new.earlier } in
    let stands : EachStands mid new.earlier = follow_stands (has_all_down old r) (epoch_now old) (epoch_now mid) old mid new.earlier on (stands_now old is.meta is.fit) each follows in
    let ordered : IsOrdered now = record { meta = same_meta b r old mid names ∙ is.meta; fit = record { db = on.0.db; wal = on.0.wal; journal = on.0.journal }; each = each_goes mid now new.earlier (λ e may. record { db = may.db; wal = may.wal; journal = may.journal }) stands } in
    subst IsOrdered (sym left) ordered

pub plays_ordered : (b : List ℕ) (records : List Record) (old new : Files) → IsOrdered old → Plays b records old new → IsOrdered new
plays_ordered b [] old new is plays = subst IsOrdered (sym plays) is
plays_ordered b (r ∷ records) old new is (mid, step, plays) = plays_ordered b records mid new (step_ordered b r old mid is step) plays

pub none_ordered : (sector : ℕ) (tears : Bool) → IsOrdered (no_files sector tears Ordered)
none_ordered sector tears =
    let fit : IsFit no_file = record { gone = λ e. refl; some = inr refl } in
    record { meta = refl; fit = record { db = fit; wal = fit; journal = fit }; each = tt }

-- ---- what a crash may leave

or_left : (a b : Bool) → a ≡ true → IsTrue (a || b)
or_left true b e = refl
or_left false b e = absurd (let no : false ≡ true = e in cc)

none_of_some : (n : ℕ) → IsTrue (nat_eq n 0) → 0 < n → ⊥
none_of_some n is some = grind (arith, nat_tests)

left_any : (n : NameState) (holds : Holds) (bytes : List ℕ) → MayHold n holds → MayBeLeft n holds bytes → MayBeLeft n Any bytes
left_any n Any bytes may left = left
left_any n Nothing bytes may (inl (f, has, image)) = absurd (omega (arith, has.1))
left_any n Nothing bytes may (inr (none, is)) = inr (or_left n.maybe_none (nat_eq (length n.files) 0) may, is)
left_any n (File i) bytes may (inl (f, (k, lt, at), image)) =
    let long = length-take 1 (drop i n.files) in
    let first : k ≡ 0 = omega arith in
    let there : get_or n.files (i + k) f ≡ f = sym (get_or-take 1 (drop i n.files) k f (omega arith) ∙ get_or-drop i n.files k f) ∙ at in
    inl (f, (i + k, omega (arith, length-drop i n.files), there), image)
left_any n (File i) bytes (inl lt) (inr (none, is)) =
    absurd (none_of_some (length (take 1 (drop i n.files))) none (omega (arith, length-take 1 (drop i n.files), length-drop i n.files)))
left_any n (File i) bytes (inr gone) (inr (none, is)) = inr (or_left n.maybe_none (nat_eq (length n.files) 0) gone, is)

pub ordered_is_whole : OrderedIsWhole
ordered_is_whole sector tears b records s image plays (e, has, leaves) =
    let start = none_ordered sector tears in
    let is = plays_ordered b records (no_files sector tears Ordered) s start plays in
    let each = each_more s s.earlier (epoch_now s) is.each (stands_now s is.meta is.fit) in
    let may = each_at s (epochs_of s) has.0 e has.1 has.2 each in
    let any : Epoch = record { db = Any; wal = Any; journal = Any } in
    let first : Contains (epochs_of (as_whole s)) any = (0, omega arith, refl) in
    let left : MayLeaveIn (as_whole s) any image = record {
      db = left_any s.db e.db image.db.items may.db leaves.db;
      wal = left_any s.wal e.wal image.wal.items may.wal leaves.wal;
      journal = left_any s.journal e.journal image.journal.items may.journal leaves.journal;
    } in
    (as_whole s, plays_whole b records (no_files sector tears Ordered) s refl plays, (any, first, left))
