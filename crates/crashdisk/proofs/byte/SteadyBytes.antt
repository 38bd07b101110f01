-- Bytes that are the same in each file that a crash may leave, also past the file's end.
use Rattle.crashdisk.proofs.Between.{Bool, Changed, Comes, Contains, CutTouches, FileState, From, IsClear, IsFixed, IsImage, IsSound, IsSteady, IsSynced, IsTrue, List, Meets, Same, Value, WriteTouches, arith, byte, byte_below, byte_past, cases_lt, comes, cut_below, cut_past, cut_to, from_sector, get_or, get_or-table, get_or_past, inl, inr, length, length-table, max, refl, stale_before, sym, table, where_at, written, written_inside, written_outside, ℕ, ⊎_elim, ◌+◌, ◌-◌, ◌/◌, ◌<◌, ◌∙◌, ◌≡◌, ◌≤◌, ◌⊎◌}

-- the present values, cut to any of the lengths
image_cut : (sector : ℕ) (tears : Bool) (s : FileState) (n : ℕ) → s.least ≤ n → n ≤ s.greatest → IsImage sector tears s (table n s.present)
image_cut sector tears s n a b = record {
  least = omega (arith, length-table n s.present);
  greatest = omega (arith, length-table n s.present);
  each = λ k. inl (λ i e lt. get_or-table n s.present i (omega (arith, length-table n s.present)));
}

-- the present byte of a place that is steady
pub steady_present : (sector : ℕ) (tears : Bool) (s : FileState) (i b : ℕ) → IsSound sector s → IsSteady sector tears s i b → byte s i ≡ b
steady_present sector tears s i b sound steady = ⊎_elim
    (λ lt. byte_below s i lt ∙ sym (get_or-table s.len s.present i lt) ∙ steady (table s.len s.present) (image_cut sector tears s s.len sound.least sound.greatest))
    (λ ge. byte_past s i ge ∙ sym (get_or_past (table s.len s.present) i 0 (omega (arith, length-table s.len s.present))) ∙ steady (table s.len s.present) (image_cut sector tears s s.len sound.least sound.greatest))
    (cases_lt i s.len)

-- past the least length it is zero
steady_past : (sector : ℕ) (tears : Bool) (s : FileState) (i b : ℕ) → IsSound sector s → IsSteady sector tears s i b → s.least ≤ i → 0 ≡ b
steady_past sector tears s i b sound steady past =
    sym (get_or_past (table s.least s.present) i 0 (omega (arith, length-table s.least s.present))) ∙ steady (table s.least s.present) (image_cut sector tears s s.least (omega arith) (omega (arith, sound.least, sound.greatest)))

-- A byte stays steady where a call puts the same, without tearing its sector.
pub steady_changed : (sector : ℕ) (tears : Bool) (touches : ℕ → Type 0) (target : Value) (end : ℕ) (old new : FileState) (i b : ℕ) → IsSound sector old → Changed sector touches target end old new
    → IsSteady sector tears old i b → target i ≡ b → (new.least ≤ i → 0 ≡ b) → (IsTrue tears → touches (i / sector) → length (old.earlier (i / sector)) ≡ 0 → ⊥)
    → IsClear sector tears old i → IsSteady sector tears new i b
steady_changed sector tears touches target end old new i b sound changed steady same ends clear near x image = ⊎_elim
    (λ lt.
    let from : From sector tears touches target old x (i / sector) = from_sector sector tears touches target end old new changed x (i / sector) (image.each (i / sector)) in
    let was : Comes sector tears touches target old x = comes sector tears touches target end old new sound changed x image in
    ⊎_elim
    (λ below. elim (was.each (i / sector)) [
      | inl e ↦ e i refl lt (inl below) ∙ steady was.file was.image
      | inr put ↦ ⊎_elim (λ shows. shows i refl lt ∙ same) (λ torn. absurd (clear torn.0 put.0 torn.1)) put.2
    ])
    (λ past.
    let far : old.greatest ≤ i = omega (arith, was.size, sound.least, sound.greatest) in
    let none : 0 ≡ b = steady_past sector tears old i b sound steady (omega (arith, sound.least, sound.greatest)) in
    elim from.comes [
      | inl shows ↦ shows i refl lt ∙ value_past from.listed far ∙ none
      | inr put ↦ ⊎_elim (λ shows. shows i refl lt ∙ same) (λ torn. absurd (clear torn.0 put.0 torn.1)) put.2
    ])
    (cases_lt i (length was.file)))
    (λ ge. get_or_past x i 0 ge ∙ ends (omega (arith, image.least)))
    (cases_lt i (length x))
  where
    value_past : {v : Value} → Same sector (i / sector) v old.present ⊎ (((w : Value) × Contains (old.earlier (i / sector)) w × Same sector (i / sector) v w) ⊎ (IsTrue tears × (0 < length (old.earlier (i / sector))) × Same sector (i / sector) v (λ j. get_or x j 0) × ((j : ℕ) → j / sector ≡ i / sector → get_or x j 0 < 256)))
        → old.greatest ≤ i → v i ≡ 0
    value_past (inl present) far = present i refl ∙ sound.present_end i far
    value_past (inr (inl one)) far = one.2 i refl ∙ sound.earlier_end (i / sector) one.0 one.1 i refl far
    value_past (inr (inr torn)) far = absurd (near torn.0 far torn.1)

-- under a write
pub steady_write : (sector : ℕ) (tears : Bool) (at : ℕ) (bytes : List ℕ) (old new : FileState) (i b : ℕ) → IsSound sector old
    → Changed sector (WriteTouches sector old at bytes) (written old at bytes) (max old.len (at + length bytes)) old new
    → IsSteady sector tears old i b → (at ≤ i → i < at + length bytes → get_or bytes (i - at) 0 ≡ b) → (IsTrue tears → Meets sector at (at + length bytes) (i / sector) → ⊥) → IsClear sector tears old i → IsSteady sector tears new i b
steady_write sector tears at bytes old new i b sound changed steady same whole near =
    steady_changed sector tears (WriteTouches sector old at bytes) (written old at bytes) (max old.len (at + length bytes)) old new i b sound changed steady
    (⊎_elim (λ in_range. written_inside old at bytes i in_range.0 in_range.1 ∙ same in_range.0 in_range.1) (λ outside. written_outside old at bytes i outside ∙ steady_present sector tears old i b sound steady) (where_at at (length bytes) i))
    (λ past. steady_past sector tears old i b sound steady (omega (arith, changed.least, sound.least)))
    (λ torn touched none. ⊎_elim (λ meets. whole torn meets) (λ stale. stale_before sector old (max old.len (at + length bytes)) i sound stale none) touched)
    near

-- under a change of the length
pub steady_cut : (sector : ℕ) (tears : Bool) (n : ℕ) (old new : FileState) (i b : ℕ) → IsSound sector old → Changed sector (CutTouches sector old n) (cut_to old n) n old new
    → IsSteady sector tears old i b → (n ≤ i → 0 ≡ b) → (IsTrue tears → Meets sector n old.len (i / sector) → ⊥) → IsClear sector tears old i → IsSteady sector tears new i b
steady_cut sector tears n old new i b sound changed steady ends whole near =
    steady_changed sector tears (CutTouches sector old n) (cut_to old n) n old new i b sound changed steady
    (⊎_elim (λ below. cut_below old n i below ∙ steady_present sector tears old i b sound steady) (λ past. cut_past old n i past ∙ ends past) (cases_lt i n))
    (λ past. ⊎_elim (λ below. steady_past sector tears old i b sound steady (omega (arith, changed.least))) (λ cut. ends cut) (cases_lt i n))
    (λ torn touched none. ⊎_elim (λ meets. whole torn meets) (λ stale. stale_before sector old n i sound stale none) touched)
    near

-- What is fixed is steady, and what is steady below the least length is fixed.
pub fixed_steady : (sector : ℕ) (tears : Bool) (s : FileState) (i b : ℕ) → i < s.least → IsSteady sector tears s i b → IsFixed sector tears s i b
fixed_steady sector tears s i b within steady = record { within = within; each = steady }
