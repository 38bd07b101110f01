-- Calls that change no byte, or leave the log alone, one after another; and the count of refused calls.
use Rattle.crashdisk.proofs.Facts.{ArePresent, Bool, Cuts, Db, DiskError, DiskState, EndsWithin, Err, FileState, HadRefusal, InFile, IsImage, IsSound, IsSoundDisk, KeepsLog, List, Looks, Nothing, Result, SameFiles, Still, TooLong, Writes, ap, arith, calls_then, calls_wider, counted, counted_grows, counted_rises, false, handed_db, inl, inr, longest, no_calls, one_cut, one_look, one_write, refl, sound_cuts, sound_looks, sound_writes, subst, sym, true, ℕ, ⊎_elim, ◌<◌, ◌^◌, ◌∙◌, ◌≡◌, ◌≤◌, ◌⊎◌}

pub still : (s : DiskState) → IsSoundDisk s → Still s s
still s sound = record { sector = refl; tears = refl; db = refl; log = refl; kept = refl; handed = refl; refused = omega arith; count = sound.refused; calls = no_calls s }

pub still_then : (a b c : DiskState) → Still a b → Still b c → Still a c
still_then a b c first second =
    let grows : a.refused ≤ c.refused = omega (arith, first.refused, second.refused) in
    assumption (second.sector ∙ first.sector, second.tears ∙ first.tears, second.db ∙ first.db, second.log ∙ first.log, second.kept ∙ first.kept, second.handed ∙ first.handed, grows, calls_then a b c first.calls second.calls)

pub same_files : (a b : DiskState) → Still a b → SameFiles a b
same_files a b is = assumption

sound_at : (m n : ℕ) (s t : FileState) → n ≡ m → t ≡ s → IsSound m s → IsSound n t
sound_at m n s t e f sound = subst (λ (x : ℕ). IsSound x t) (sym e) (subst (λ (x : FileState). IsSound m x) (sym f) sound)

pub same_sound : (a b : DiskState) → IsSoundDisk a → SameFiles a b → IsSoundDisk b
same_sound a b sound is = record {
  db = sound_at a.sector b.sector a.db b.db is.sector is.db sound.db;
  log = sound_at a.sector b.sector a.log b.log is.sector is.log sound.log;
  refused = is.count;
  untorn = λ whole. let none = sound.untorn (sym is.tears ∙ whole) in (is.kept ∙ none.0, is.handed ∙ none.1);
}

pub still_sound : (a b : DiskState) → IsSoundDisk a → Still a b → IsSoundDisk b
still_sound a b sound is = same_sound a b sound (same_files a b is)

pub still_looks : {T : Type 0} (end : ℕ) (result : Result T DiskError) (a b : DiskState) → IsSoundDisk a → Looks end result a b → Still a b
still_looks end result a b sound looked =
    let grows : a.refused ≤ b.refused = omega (arith, counted_grows result a.refused sound.refused, looked.refused) in
    assumption (grows, (sound_looks end result a b sound looked).refused, one_look {May = Nothing} end result a b looked)

pub image_same : (old new : DiskState) → SameFiles old new → (db : List ℕ) → IsImage new.sector new.tears new.db db → IsImage old.sector old.tears old.db db
image_same old new still db image = subst (λ (n : ℕ). IsImage n old.tears old.db db) still.sector (subst (λ (b : Bool). IsImage new.sector b old.db db) still.tears (subst (λ (s : FileState). IsImage new.sector new.tears s db) still.db image))

pub image_still : (old new : DiskState) → Still old new → (db : List ℕ) → IsImage new.sector new.tears new.db db → IsImage old.sector old.tears old.db db
image_still old new still = image_same old new (same_files old new still)

pub present_in : (s t : FileState) (w : List ℕ) → t ≡ s → ArePresent s w → ArePresent t w
present_in s t w e are = subst (λ (x : FileState). ArePresent x w) (sym e) are

-- ---- The log stays.

pub keeps_still : (a b : DiskState) → IsSoundDisk a → Still a b → KeepsLog a b
keeps_still a b sound is = assumption (still_sound a b sound is, calls_wider {Might = InFile Db} (λ change none. absurd none) a b is.calls)

pub keeps_same : (s : DiskState) → IsSoundDisk s → KeepsLog s s
keeps_same s sound = record { sector = refl; tears = refl; log = refl; kept = refl; handed = refl; refused = omega arith; sound = sound; calls = no_calls s }

pub keeps_then : (a b c : DiskState) → KeepsLog a b → KeepsLog b c → KeepsLog a c
keeps_then a b c first second =
    let grows : a.refused ≤ c.refused = omega (arith, first.refused, second.refused) in
    assumption (second.sector ∙ first.sector, second.tears ∙ first.tears, second.log ∙ first.log, second.kept ∙ first.kept, second.handed ∙ first.handed, grows, calls_then a b c first.calls second.calls)

pub keeps_write : {T : Type 0} (at : ℕ) (bytes : List ℕ) (result : Result T DiskError) (a b : DiskState) → IsSoundDisk a → Writes Db at bytes result a b → KeepsLog a b
keeps_write at bytes result a b sound wrote =
    let grows : a.refused ≤ b.refused = omega (arith, counted_grows result a.refused sound.refused, wrote.elsewhere.refused) in
    assumption (grows, wrote.handed ∙ handed_db a.tears result at bytes a.handed, sound_writes Db at bytes result a b sound wrote, one_write {May = InFile Db} Db at bytes result a b refl wrote)

pub keeps_cut : {T : Type 0} (n : ℕ) (result : Result T DiskError) (a b : DiskState) → IsSoundDisk a → Cuts Db n result a b → KeepsLog a b
keeps_cut n result a b sound cut =
    let grows : a.refused ≤ b.refused = omega (arith, counted_grows result a.refused sound.refused, cut.elsewhere.refused) in
    assumption (grows, sound_cuts Db n result a b sound cut, one_cut {May = InFile Db} Db n result a b refl cut)

-- ---- A refused call was counted.

pub refusal_after : (a b c : DiskState) → a.refused ≤ b.refused → HadRefusal b c → HadRefusal a c
refusal_after a b c le had = ⊎_elim (λ lt. inl (omega arith)) (λ most. inr most) had

-- A call that was refused, and whose end is one that a file may have, was counted.
pub had_refusal : {T : Type 0} (result : Result T DiskError) (e : DiskError) (end : ℕ) (old new : DiskState) → old.refused < 2 ^ 64 → result ≡ Err e
    → EndsWithin result end → end ≤ longest → new.refused ≡ counted result old.refused → HadRefusal old new
had_refusal {T = T} result e end old new lt is within short count =
    let ne : e ≡ TooLong → ⊥ = λ z. (let past : longest < end = subst (λ (r : Result T DiskError). EndsWithin r end) (is ∙ ap Err z) within in omega arith) in
    subst (λ (n : ℕ). (old.refused < n) ⊎ (n ≡ 18446744073709551615)) (sym count) (counted_rises result e old.refused lt is ne)
