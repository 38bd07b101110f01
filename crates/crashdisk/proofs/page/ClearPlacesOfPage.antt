-- On a disk that tears, a sector with a steady byte wasn't touched; and so the places of a steady page are clear.
use Rattle.crashdisk.proofs.Below.{Bool, DiskState, FileState, IsClear, IsImage, IsSound, IsSteady, IsTrue, List, Suits, are_whole, arith, cases_eq, cases_lt, cond, get_or, get_or-table, get_or_past, inl, inr, length, length-table, nat_eq, nat_tests, page_at, page_sector, refl, sector_some, subst, sym, table, true, ℕ, ⊎_elim, ◌+◌, ◌-◌, ◌/◌, ◌<◌, ◌∙◌, ◌≡◌, ◌≢◌, ◌≤◌}
use Rattle.crashdisk.proofs.page.PlacesOfPages.{AreWhole}
use Rattle.crashdisk.proofs.page.RecoverablePages.{sector_within}

module _ (sector : ℕ) (s : FileState) (k b : ℕ) where
  -- the sector has this byte everywhere
  value : ℕ → ℕ
  value i = cond (nat_eq (i / sector) k) b (s.present i)

  value_in : (i : ℕ) → i / sector ≡ k → value i ≡ b
  unfolding value
  value_in i e = grind (arith, nat_tests)

  value_out : (i : ℕ) → i / sector ≢ k → value i ≡ s.present i
  unfolding value
  value_out i ne = grind (arith, nat_tests)

  torn_image : IsSound sector s → 0 < length (s.earlier k) → b < 256 → IsImage sector true s (table s.greatest value)
  torn_image sound touched is_byte = record {
    least = omega (arith, length-table s.greatest value, sound.least, sound.greatest);
    greatest = omega (arith, length-table s.greatest value);
    each = λ j. ⊎_elim
        (λ e. inr (inr (
          refl,
          subst (λ (x : ℕ). 0 < length (s.earlier x)) (sym e) touched,
          λ i at. ⊎_elim
              (λ lt. subst (λ (x : ℕ). x < 256) (sym (get_or-table s.greatest value i lt ∙ value_in i (at ∙ e))) is_byte)
              (λ past. subst (λ (x : ℕ). x < 256) (sym (get_or_past (table s.greatest value) i 0 (omega (arith, length-table s.greatest value)))) (omega arith))
              (cases_lt i s.greatest),
        )))
        (λ ne. inl (λ i at lt. get_or-table s.greatest value i (omega (arith, length-table s.greatest value)) ∙ value_out i (λ e. ne (sym at ∙ e))))
        (cases_eq j k);
  }

  torn_byte : (i : ℕ) → i / sector ≡ k → i < s.greatest → get_or (table s.greatest value) i 0 ≡ b
  torn_byte i e lt = get_or-table s.greatest value i lt ∙ value_in i e

pub untouched : (sector : ℕ) (s : FileState) (i b : ℕ) → IsSound sector s → IsSteady sector true s i b → i < s.greatest → 0 < length (s.earlier (i / sector)) → ⊥
untouched sector s i b sound steady lt touched =
    let k : ℕ = i / sector in
    let zero_is : 0 ≡ b = sym (torn_byte sector s k 0 i refl lt) ∙ steady (table s.greatest (value sector s k 0)) (torn_image sector s k 0 sound touched (omega arith)) in
    let one_is : 1 ≡ b = sym (torn_byte sector s k 1 i refl lt) ∙ steady (table s.greatest (value sector s k 1)) (torn_image sector s k 1 sound touched (omega arith)) in
    omega arith

pub whole_pages : (size : ℕ) (s : DiskState) → Suits size s → IsTrue s.tears → AreWhole size s.sector
whole_pages size s suits torn = are_whole size s.sector suits.pages suits.sectors (sector_within size s suits torn)

-- the places of a page whose bytes are all steady are clear
pub page_is_clear : (size : ℕ) (s : DiskState) (p : ℕ) (c : List ℕ) → Suits size s → 1 ≤ p → ((i : ℕ) → i < size → IsSteady s.sector s.tears s.db (page_at size p + i) (get_or c i 0))
    → (i : ℕ) → i < size → IsClear s.sector s.tears s.db (page_at size p + i)
page_is_clear size s p c suits some steady i lt torn far touched =
    let meets = suits.sound.db.touched ((page_at size p + i) / s.sector) touched in
    let j : ℕ = meets.0 in
    let in_page = page_sector size s.sector p j (page_at size p + i) (whole_pages size s suits torn) (omega (arith, sector_some s.sector suits.sectors)) some (omega arith) (omega arith) (sym meets.3) in
    let place : page_at size p + (j - page_at size p) ≡ j = omega (arith, in_page.0) in
    let there : IsSteady s.sector s.tears s.db (page_at size p + (j - page_at size p)) (get_or c (j - page_at size p) 0) = steady (j - page_at size p) (omega (arith, in_page.0, in_page.1)) in
    untouched s.sector s.db j (get_or c (j - page_at size p) 0) suits.sound.db
    (subst (λ (t : Bool). IsSteady s.sector t s.db j (get_or c (j - page_at size p) 0)) torn (subst (λ (x : ℕ). IsSteady s.sector s.tears s.db x (get_or c (j - page_at size p) 0)) place there))
    meets.2 (subst (λ (x : ℕ). 0 < length (s.db.earlier x)) (sym meets.3) touched)
