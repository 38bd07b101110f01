-- Bytes that no crash can take away.
use Rattle.crashdisk.proofs.Below.{AltersFile, Bool, Changed, CutTouches, FileState, IsDone, IsFixed, IsImage, IsSound, IsSynced, IsTrue, List, Spreads, Stale, Value, WriteTouches, ap, arith, byte, byte_below, byte_past, cases_eq, cases_lt, comes, cut_below, cut_past, cut_to, false, get_or, get_or-table, inl, inr, length, length-table, max, refl, subst, sym, table, where_at, written, written_inside, written_outside, ℕ, ⊎_elim, ◌+◌, ◌-◌, ◌/◌, ◌<◌, ◌∙◌, ◌≡◌, ◌≤◌, ◌⊎◌}
use Rattle.crashdisk.proofs.sync.ImagesAfterSync.{only_present}

-- what a call puts at a place that it leaves alone
record Puts (sector : ℕ) (tears : Bool) (touches : ℕ → Type 0) (target : Value) (old : FileState) (i : ℕ) : Type 0 where
  pub below : i < old.len → target i ≡ old.present i
  pub past : old.len ≤ i → target i ≡ 0
  pub whole : IsTrue tears → touches (i / sector) → length (old.earlier (i / sector)) ≡ 0 → ⊥

-- a sector that a call touches for what it holds past the end was touched before
pub stale_before : (sector : ℕ) (old : FileState) (end i : ℕ) → IsSound sector old → Stale sector old end (i / sector) → length (old.earlier (i / sector)) ≡ 0 → ⊥
stale_before sector old end i sound stale none =
    let before : 0 < length (old.earlier (i / sector)) = subst (λ (k : ℕ). 0 < length (old.earlier k)) stale.2.2 (sound.stale stale.2.0 stale.2.1 stale.2.3) in omega arith

alters_by : (sector : ℕ) (tears : Bool) (touches : ℕ → Type 0) (target : Value) (end from to : ℕ) (old new : FileState) → IsSound sector old → IsSound sector new → Changed sector touches target end old new
    → old.len ≤ end → end ≤ max old.len to → ((i : ℕ) → (Spreads sector tears from to i → ⊥) → Puts sector tears touches target old i) → AltersFile sector tears from to old new
alters_by sector tears touches target end from to old new sound sound_new changed le within puts = record {
  sound = sound_new;
  least = omega (arith, sound.least, changed.least);
  len = omega (arith, changed.len);
  comes = λ c image.
      let was = comes sector tears touches target end old new sound changed c image in
      let long : old.least ≤ length c = omega (arith, image.least, changed.least, sound.least) in record {
        file = was.file;
        image = was.image;
        shorter = omega (arith, was.size);
        reaches = omega (arith, was.size, sound.greatest);
        whole = λ inside. omega (arith, was.size, image.greatest, changed.greatest, sound.greatest);
        each = λ i lt_file out.
            let lt : i < length c = omega (arith, was.size) in
            let at = puts i out in
            elim (was.each (i / sector)) [
              | inl e ↦ inl (e i refl lt (inl lt_file))
              | inr put ↦ ⊎_elim
                  (λ shows. ⊎_elim (λ below. inl (shows i refl lt ∙ at.below below ∙ sym (put.1 i refl lt_file))) (λ past. inr (past, shows i refl lt ∙ at.past past)) (cases_lt i old.len))
                  (λ torn. absurd (at.whole torn.0 put.0 torn.1)) put.2
            ];
      };
}

-- A write alters its range alone.
pub alters_write : (sector : ℕ) (tears : Bool) (at : ℕ) (bytes : List ℕ) (old new : FileState) → IsSound sector old → IsSound sector new
    → Changed sector (WriteTouches sector old at bytes) (written old at bytes) (max old.len (at + length bytes)) old new → AltersFile sector tears at (at + length bytes) old new
alters_write sector tears at bytes old new sound sound_new changed =
    alters_by sector tears (WriteTouches sector old at bytes) (written old at bytes) (max old.len (at + length bytes)) at (at + length bytes) old new sound sound_new changed (omega arith) (omega arith)
    (λ i out.
    let same : written old at bytes i ≡ byte old i = ⊎_elim (λ in_range. absurd (out (inl in_range))) (λ outside. written_outside old at bytes i outside) (where_at at (length bytes) i) in record {
      below = λ below. same ∙ byte_below old i below;
      past = λ past. same ∙ byte_past old i past;
      whole = λ torn touched none. ⊎_elim (λ meets. out (inr (torn, meets))) (λ stale. stale_before sector old (max old.len (at + length bytes)) i sound stale none) touched;
    })

-- Where all of the range lies in one sector of a disk that doesn't tear, the write is there whole or not at all, in a
-- file that has the range.
pub whole_write : (sector at : ℕ) (bytes : List ℕ) (old new : FileState) → IsSound sector old
    → Changed sector (WriteTouches sector old at bytes) (written old at bytes) (max old.len (at + length bytes)) old new
    → ((i : ℕ) → at ≤ i → i < at + length bytes → i / sector ≡ at / sector)
    → (c : List ℕ) → IsImage sector false new c → at + length bytes ≤ length c
    → ((i : ℕ) → i < length bytes → get_or c (at + i) 0 ≡ get_or bytes i 0) ⊎ ((d : List ℕ) × IsImage sector false old d × ((i : ℕ) → i < length bytes → get_or c (at + i) 0 ≡ get_or d (at + i) 0))
whole_write sector at bytes old new sound changed one c image long =
    let k = at / sector in
    let was = comes sector false (WriteTouches sector old at bytes) (written old at bytes) (max old.len (at + length bytes)) old new sound changed c image in
    elim (was.each k) [
      | inl e ↦ inr (was.file, was.image, λ i lt. e (at + i) (one (at + i) (omega arith) (omega arith)) (omega arith) (inr refl))
      | inr put ↦ ⊎_elim (λ shows. inl (λ i lt. shows (at + i) (one (at + i) (omega arith) (omega arith)) (omega arith) ∙ written_inside old at bytes (at + i) (omega arith) (omega arith) ∙ ap (λ (j : ℕ). get_or bytes j 0) (let back : at + i - at ≡ i = omega arith in back))) (λ torn. absurd (cc torn.0)) put.2
    ]

-- the present bytes are among those that a crash may leave
pub image_present : (sector : ℕ) (tears : Bool) (s : FileState) → IsSound sector s → IsImage sector tears s (table s.len (byte s))
image_present sector tears s sound = record {
  least = omega (arith, length-table s.len (byte s), sound.least);
  greatest = omega (arith, length-table s.len (byte s), sound.greatest);
  each = λ k. inl (λ i e lt. let below : i < s.len = omega (arith, length-table s.len (byte s)) in get_or-table s.len (byte s) i below ∙ byte_below s i below);
}

-- A sync that succeeds fixes each present byte.
pub fixed_sync : (sector : ℕ) (tears : Bool) (old new : FileState) (i : ℕ) → IsSynced old new → i < old.len → IsFixed sector tears new i (byte old i)
fixed_sync sector tears old new i synced within =
    record { within = omega (arith, synced.least); each = λ c image. only_present sector tears new c synced.earlier image i (omega (arith, image.least, synced.least)) ∙ synced.present i }

-- the present bytes after a write that was carried out
pub byte_written : (sector at : ℕ) (bytes : List ℕ) (old new : FileState) → Changed sector (WriteTouches sector old at bytes) (written old at bytes) (max old.len (at + length bytes)) old new
    → IsDone sector (WriteTouches sector old at bytes) (written old at bytes) (max old.len (at + length bytes)) new → (i : ℕ) → byte new i ≡ written old at bytes i
byte_written sector at bytes old new changed done i = elim (cases_lt i new.len) [
  | inr past ↦ byte_past new i past ∙ sym (written_outside old at bytes i (inr (omega (arith, done.len))) ∙ byte_past old i (omega (arith, done.len)))
  | inl below ↦ byte_below new i below ∙ elim (changed.each (i / sector)) [
    | inr touched ↦ done.present (i / sector) touched.0 i refl
    | inl kept ↦ kept.1.present i refl ∙ sym (elim (where_at at (length bytes) i) [
      | inl in_range ↦ absurd (kept.0 (inl (i, in_range.0, in_range.1, refl)))
      | inr out ↦ written_outside old at bytes i out ∙ elim (cases_lt i old.len) [
        | inl lt ↦ byte_below old i lt
        | inr le ↦ byte_past old i le ∙ elim (cases_eq (old.present i) 0) [
          | inl zero_there ↦ sym zero_there
          | inr ne ↦ absurd (kept.0 (inr (omega (arith, done.len), (i, omega arith, omega (arith, done.len), refl), (i, le, refl, ne))))
        ]
      ]
    ])
  ]
]

-- the present bytes after a change of the length that was carried out
pub byte_cut : (sector n : ℕ) (old new : FileState) → Changed sector (CutTouches sector old n) (cut_to old n) n old new → IsDone sector (CutTouches sector old n) (cut_to old n) n new
    → (i : ℕ) → byte new i ≡ cut_to old n i
byte_cut sector n old new changed done i = elim (cases_lt i new.len) [
  | inr past ↦ byte_past new i past ∙ sym (cut_past old n i (omega (arith, done.len)))
  | inl below ↦ byte_below new i below ∙ elim (changed.each (i / sector)) [
    | inr touched ↦ done.present (i / sector) touched.0 i refl
    | inl kept ↦ kept.1.present i refl ∙ sym (cut_below old n i (omega (arith, done.len)) ∙ elim (cases_lt i old.len) [
      | inl lt ↦ byte_below old i lt
      | inr le ↦ byte_past old i le ∙ elim (cases_eq (old.present i) 0) [
        | inl zero_there ↦ sym zero_there
        | inr ne ↦ absurd (kept.0 (inr (omega (arith, done.len), (i, omega arith, omega (arith, done.len), refl), (i, le, refl, ne))))
      ]
    ])
  ]
]
