-- What each call of a disk leaves, in the words that engines keep. Every lemma takes the record of the call that the
-- trait promises, whatever was answered, unless it names the answer.
use Rattle.crashdisk.proofs.Between.{ArePresent, Bool, Changed, ChangedBy, CutTouches, Cuts, Db, DiskError, DiskState, Elsewhere, Err, Failed, File, FileState, Fixed, HasFixed, IsClear, IsFixed, IsImage, IsSettled, IsSound, IsSteady, IsTrue, List, Log, Looks, Meets, NewOrOld, NoMemory, Ok, Result, Spreads, Steady, Stopped, SyncedBy, Syncs, TooLong, WriteTouches, Writes, ap, arith, by_change, by_sync, byte, byte_below, byte_cut, byte_past, byte_written, cases_lt, counted, counted_within, cut_to, false, fixed_sync, get_or, get_or-table, image_shuffled, image_synced, inl, inr, length, length-table, max, min, of, other, refl, settled_again, settled_one, settled_shuffled, settled_synced, subst, sym, table, whole_write, written, written_inside, ℕ, ⊎_elim, ◌+◌, ◌-◌, ◌/◌, ◌<◌, ◌^◌, ◌∙◌, ◌≡◌, ◌≤◌, ◌⊎◌}
use Rattle.crashdisk.proofs.byte.SteadyBytes.{steady_present, steady_write, steady_cut, fixed_steady}

-- ---- What a call doesn't touch. P is any property of a file of the disk, as `λ sector tears s. IsSteady sector tears s i b`.

moved : (P : ℕ → Bool → FileState → Type 0) (m n : ℕ) (a b : Bool) (s t : FileState) → n ≡ m → b ≡ a → t ≡ s → P m a s → P n b t
moved P m n a b s t e f g p = subst (λ (x : ℕ). P x b t) (sym e) (subst (λ (x : Bool). P m x t) (sym f) (subst (λ (x : FileState). P m a x) (sym g) p))

-- ---- Images.

-- A sync adds no file to those that a crash may leave.
pub images_by_sync : {T : Type 0} (sector : ℕ) (tears : Bool) (result : Result T DiskError) (old new : FileState) → IsSound sector old → SyncedBy sector result old new → (c : List ℕ) → IsImage sector tears new c → IsImage sector tears old c
images_by_sync sector tears result old new sound = by_sync (λ s. (c : List ℕ) → IsImage sector tears s c → IsImage sector tears old c) sector result old new (image_synced sector tears old new sound) (λ shuffled. image_shuffled sector old new shuffled tears) (λ c image. image)

pub image_sync : {T : Type 0} (f : File) (result : Result T DiskError) (old new : DiskState) → IsSound old.sector (of f old) → Syncs f result old new
    → (c : List ℕ) → IsImage new.sector new.tears (of f new) c → IsImage old.sector old.tears (of f old) c
image_sync f result old new sound synced c image =
    images_by_sync old.sector old.tears result (of f old) (of f new) sound synced.file c (subst (λ (s : ℕ). IsImage s old.tears (of f new) c) synced.elsewhere.sector (subst (λ (b : Bool). IsImage new.sector b (of f new) c) synced.elsewhere.tears image))

-- Nor does a call on the other file, or a look.
pub image_elsewhere : {T : Type 0} (f : File) (result : Result T DiskError) (old new : DiskState) → Elsewhere f result old new
    → (c : List ℕ) → IsImage new.sector new.tears (of (other f) new) c → IsImage old.sector old.tears (of (other f) old) c
image_elsewhere f result old new elsewhere c image =
    moved (λ n b s. IsImage n b s c) new.sector old.sector new.tears old.tears (of (other f) new) (of (other f) old) (sym elsewhere.sector) (sym elsewhere.tears) (sym elsewhere.other) image

pub image_looks : {T : Type 0} (f : File) (end : ℕ) (result : Result T DiskError) (old new : DiskState) → Looks end result old new
    → (c : List ℕ) → IsImage new.sector new.tears (of f new) c → IsImage old.sector old.tears (of f old) c
image_looks Db end result old new looked = image_elsewhere Log result old new (record { sector = looked.sector; tears = looked.tears; other = looked.db; refused = looked.refused })
image_looks Log end result old new looked = image_elsewhere Db result old new (record { sector = looked.sector; tears = looked.tears; other = looked.log; refused = looked.refused })

-- Where all of the range lies in one sector of a disk that doesn't tear, a write is there whole or not at all, in a
-- file that has the range. (Of files before and after the write a crash may leave others; those come by `Alters`.)
pub image_write : {T : Type 0} (f : File) (at : ℕ) (bytes : List ℕ) (result : Result T DiskError) (old new : DiskState) → IsSound old.sector (of f old) → Writes f at bytes result old new
    → old.tears ≡ false → ((i : ℕ) → at ≤ i → i < at + length bytes → i / old.sector ≡ at / old.sector)
    → (c : List ℕ) → IsImage new.sector new.tears (of f new) c → at + length bytes ≤ length c
    → NewOrOld f at bytes old c
image_write f at bytes result old new sound wrote whole one c image long =
    by_change (λ s. IsImage old.sector false s c → NewOrOld f at bytes old c) old.sector (WriteTouches old.sector (of f old) at bytes) (written (of f old) at bytes) (max (of f old).len (at + length bytes)) result (of f old) (of f new)
    (λ changed now. ⊎_elim (λ new_one. inl new_one) (λ was. inr (was.0, untorn was.0 was.1, was.2)) (whole_write old.sector at bytes (of f old) (of f new) sound changed one c now long))
    (λ now. inr (c, untorn c now, λ i lt. refl))
    wrote.file
    (subst (λ (s : ℕ). IsImage s false (of f new) c) wrote.elsewhere.sector (subst (λ (b : Bool). IsImage new.sector b (of f new) c) (wrote.elsewhere.tears ∙ whole) image))
  where
    untorn : (d : List ℕ) → IsImage old.sector false (of f old) d → IsImage old.sector old.tears (of f old) d
    untorn d was = subst (λ (b : Bool). IsImage old.sector b (of f old) d) (sym whole) was

-- ---- Steady bytes.

-- The present byte is the steady one.
pub present_steady : (f : File) (s : DiskState) (i b : ℕ) → IsSound s.sector (of f s) → Steady f s i b → byte (of f s) i ≡ b
present_steady f s i b sound steady = steady_present s.sector s.tears (of f s) i b sound steady

-- A write keeps a steady byte where it puts nothing.
pub steady_writes : {T : Type 0} (f : File) (at : ℕ) (bytes : List ℕ) (result : Result T DiskError) (old new : DiskState) (i b : ℕ) → IsSound old.sector (of f old) → Writes f at bytes result old new
    → Steady f old i b → (Spreads old.sector old.tears at (at + length bytes) i → ⊥) → IsClear old.sector old.tears (of f old) i → Steady f new i b
steady_writes f at bytes result old new i b sound wrote steady out near =
    moved (λ n t s. IsSteady n t s i b) old.sector new.sector old.tears new.tears (of f new) (of f new) wrote.elsewhere.sector wrote.elsewhere.tears refl
    (by_change (λ s. IsSteady old.sector old.tears s i b) old.sector (WriteTouches old.sector (of f old) at bytes) (written (of f old) at bytes) (max (of f old).len (at + length bytes)) result (of f old) (of f new)
    (λ changed. steady_write old.sector old.tears at bytes (of f old) (of f new) i b sound changed steady (λ le lt. absurd (out (inl (le, lt)))) (λ torn meets. out (inr (torn, meets))) near) steady wrote.file)

-- A change of the length keeps it below the new end, and keeps zeros everywhere.
pub steady_cuts : {T : Type 0} (f : File) (n : ℕ) (result : Result T DiskError) (old new : DiskState) (i b : ℕ) → IsSound old.sector (of f old) → Cuts f n result old new
    → Steady f old i b → (n ≤ i → 0 ≡ b) → (IsTrue old.tears → Meets old.sector n (of f old).len (i / old.sector) → ⊥) → IsClear old.sector old.tears (of f old) i → Steady f new i b
steady_cuts f n result old new i b sound cut steady ends whole near =
    moved (λ m t s. IsSteady m t s i b) old.sector new.sector old.tears new.tears (of f new) (of f new) cut.elsewhere.sector cut.elsewhere.tears refl
    (by_change (λ s. IsSteady old.sector old.tears s i b) old.sector (CutTouches old.sector (of f old) n) (cut_to (of f old) n) n result (of f old) (of f new)
    (λ changed. steady_cut old.sector old.tears n (of f old) (of f new) i b sound changed steady ends whole near) steady cut.file)

-- A sync keeps it.
pub steady_syncs : {T : Type 0} (f : File) (result : Result T DiskError) (old new : DiskState) (i b : ℕ) → IsSound old.sector (of f old) → Syncs f result old new → Steady f old i b → Steady f new i b
steady_syncs f result old new i b sound synced steady c image = steady c (image_sync f result old new sound synced c image)

-- ---- Fixed bytes: as steady ones, below the least length.

least_synced : {T : Type 0} (sector : ℕ) (result : Result T DiskError) (old new : FileState) → IsSound sector old → SyncedBy sector result old new → old.least ≤ new.least
least_synced sector result old new sound = by_sync (λ s. old.least ≤ s.least) sector result old new (λ synced. omega (arith, synced.least, sound.least)) (λ shuffled. omega (arith, shuffled.least)) (omega arith)

pub fixed_writes : {T : Type 0} (f : File) (at : ℕ) (bytes : List ℕ) (result : Result T DiskError) (old new : DiskState) (i b : ℕ) → IsSound old.sector (of f old) → Writes f at bytes result old new
    → Fixed f old i b → (Spreads old.sector old.tears at (at + length bytes) i → ⊥) → Fixed f new i b
fixed_writes f at bytes result old new i b sound wrote fixed out = fixed_steady new.sector new.tears (of f new) i b
    (by_change (λ s. i < s.least) old.sector (WriteTouches old.sector (of f old) at bytes) (written (of f old) at bytes) (max (of f old).len (at + length bytes)) result (of f old) (of f new)
    (λ changed. omega (arith, changed.least, fixed.within, sound.least)) fixed.within wrote.file)
    (steady_writes f at bytes result old new i b sound wrote fixed.each out (λ torn past meets. omega (arith, fixed.within, past, sound.least, sound.greatest)))

pub fixed_syncs : {T : Type 0} (f : File) (result : Result T DiskError) (old new : DiskState) (i b : ℕ) → IsSound old.sector (of f old) → Syncs f result old new → Fixed f old i b → Fixed f new i b
fixed_syncs f result old new i b sound synced fixed = record {
  within = omega (arith, fixed.within, least_synced old.sector result (of f old) (of f new) sound synced.file);
  each = steady_syncs f result old new i b sound synced fixed.each;
}

-- A sync that succeeds fixes each present byte.
pub fixed_synced : {T : Type 0} {u : T} (f : File) (old new : DiskState) (i : ℕ) → Syncs f (Ok u) old new → i < (of f old).len → Fixed f new i (byte (of f old) i)
fixed_synced f old new i synced within = fixed_sync new.sector new.tears (of f old) (of f new) i synced.file within

-- What is written, and then synced, is fixed.
pub fixed_written : {T U : Type 0} {u : T} {v : U} (f : File) (at : ℕ) (bytes : List ℕ) (old mid new : DiskState) → Writes f at bytes (Ok u) old mid → Syncs f (Ok v) mid new → HasFixed new.sector new.tears (of f new) at bytes
fixed_written f at bytes old mid new wrote synced i lt =
    let is : byte (of f mid) (at + i) ≡ get_or bytes i 0 =
    byte_written old.sector at bytes (of f old) (of f mid) wrote.file.0 wrote.file.1 (at + i) ∙ written_inside (of f old) at bytes (at + i) (omega arith) (omega arith) ∙ ap (λ (j : ℕ). get_or bytes j 0) (let back : at + i - at ≡ i = omega arith in back) in
    let below : at + i < (of f mid).len = omega (arith, wrote.file.1.len) in
    subst (λ (b : ℕ). IsFixed new.sector new.tears (of f new) (at + i) b) is (fixed_sync new.sector new.tears (of f mid) (of f new) (at + i) synced.file below)

-- ---- Files of which a crash leaves one list of bytes.

-- A sync that succeeds settles the present bytes, and then a crash leaves these alone.
pub settled_sync : {T : Type 0} {u : T} (f : File) (old new : DiskState) (c : List ℕ) → IsSound old.sector (of f old) → Syncs f (Ok u) old new → ArePresent (of f old) c → IsSettled (of f new) c
settled_sync f old new c sound synced are = settled_synced old.sector (of f old) (of f new) c sound synced.file are

pub one_synced : {T : Type 0} {u : T} (f : File) (old new : DiskState) (c : List ℕ) → IsSound old.sector (of f old) → Syncs f (Ok u) old new → ArePresent (of f old) c
    → (d : List ℕ) → IsImage new.sector new.tears (of f new) d → d ≡ c
one_synced f old new c sound synced are d image = settled_one (of f new) c (settled_sync f old new c sound synced are) new.sector new.tears d image

-- there is such a list
pub present_list : (s : FileState) → ArePresent s (table s.len (byte s))
present_list s = record { len = length-table s.len (byte s); each = λ i lt. get_or-table s.len (byte s) i lt }

-- Further syncs keep it settled.
pub settled_syncs : {T : Type 0} (f : File) (result : Result T DiskError) (old new : DiskState) (c : List ℕ) → Syncs f result old new → IsSettled (of f old) c → IsSettled (of f new) c
settled_syncs f result old new c synced settled = by_sync (λ s. IsSettled s c) old.sector result (of f old) (of f new) (settled_again (of f old) (of f new) c settled) (settled_shuffled old.sector (of f old) (of f new) c settled) settled synced.file

-- ---- Present bytes.

-- after a write that was carried out
pub present_written : {T : Type 0} {u : T} (f : File) (at : ℕ) (bytes : List ℕ) (old new : DiskState) → Writes f at bytes (Ok u) old new → (i : ℕ) → byte (of f new) i ≡ written (of f old) at bytes i
present_written f at bytes old new wrote = byte_written old.sector at bytes (of f old) (of f new) wrote.file.0 wrote.file.1

-- after a change of the length that was carried out
pub present_cut : {T : Type 0} {u : T} (f : File) (n : ℕ) (old new : DiskState) → Cuts f n (Ok u) old new → (i : ℕ) → byte (of f new) i ≡ cut_to (of f old) n i
present_cut f n old new cut = byte_cut old.sector n (of f old) (of f new) cut.file.0 cut.file.1

-- after a sync that succeeded
pub present_synced : {T : Type 0} {u : T} (f : File) (old new : DiskState) → Syncs f (Ok u) old new → (i : ℕ) → byte (of f new) i ≡ byte (of f old) i
present_synced f old new synced i = elim (cases_lt i (of f old).len) [
  | inl lt ↦ byte_below (of f new) i (omega (arith, synced.file.len)) ∙ synced.file.present i
  | inr le ↦ byte_past (of f new) i (omega (arith, synced.file.len)) ∙ sym (byte_past (of f old) i le)
]

-- ---- The count of refused calls.

-- It never falls.
pub counted_grows : {T : Type 0} (result : Result T DiskError) (n : ℕ) → n < 2 ^ 64 → n ≤ counted result n
counted_grows result n lt = (counted_within result n lt).0

rises : (n : ℕ) → n < 2 ^ 64 → (n < min (n + 1) (2 ^ 64 - 1)) ⊎ (min (n + 1) (2 ^ 64 - 1) ≡ 18446744073709551615)
rises n lt = elim (cases_lt (n + 1) (2 ^ 64)) [ inl below ↦ inl (omega arith) | inr past ↦ inr (omega arith) ]

-- It rises with a refusal other than TooLong, or stands at its greatest.
pub counted_rises : {T : Type 0} (result : Result T DiskError) (e : DiskError) (n : ℕ) → n < 2 ^ 64 → result ≡ Err e → (e ≡ TooLong → ⊥) → (n < counted result n) ⊎ (counted result n ≡ 18446744073709551615)
counted_rises {T = T} result e n lt is ne = subst (λ (r : Result T DiskError). (n < counted r n) ⊎ (counted r n ≡ 18446744073709551615)) (sym is) (by e ne)
  where
    by : (e : DiskError) → (e ≡ TooLong → ⊥) → (n < counted {T = T} (Err e) n) ⊎ (counted {T = T} (Err e) n ≡ 18446744073709551615)
    by TooLong ne = absurd (ne refl)
    by Stopped ne = rises n lt
    by Failed ne = rises n lt
    by NoMemory ne = rises n lt
