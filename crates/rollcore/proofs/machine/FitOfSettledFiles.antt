-- A disk on which both files are durable fits the machine's beginning.
use Rattle.rollcore.proofs.Between.{Bool, Database, DiskState, FitsDisk, IsHeld, IsHot, IsImage, IsJust, IsLogDurable, IsNew, IsPageSize, IsSectorSize, IsSettled, List, MayBeRead, NamesSectors, ShowsWhole, Suits, TearsJournal, [], arith, cases_lt, down_read, fits_rested, get_or, inr, journal_log, magic_long, refl, settled_one, sound_new, start, subst, suc, sym, true, word, zero, ℕ, ⊎_elim, ◌<◌, ◌∙◌, ◌∷◌, ◌≡◌, ◌≤◌}

held_at : (size : ℕ) (base : Database) → IsHeld size base → (i : ℕ) → i < 1 → IsHeld size (get_or (base ∷ []) i [])
held_at size base held zero lt = held
held_at size base held (suc i) lt = absurd (omega arith)

-- with an empty log
pub down_fits : (size : ℕ) (base : Database) (bytes : List ℕ) (s : DiskState) → Suits size s → IsHeld size base → IsJust size base bytes → IsSettled s.db bytes → IsLogDurable s [] → FitsDisk (start size base) s
down_fits size base bytes s suits held just file durable = fits_rested (start size base) s suits refl (held_at size base held) (record {
  file = λ db image. subst (λ (x : List ℕ). IsJust size base x) (sym (settled_one s.db bytes file s.sector s.tears db image)) just;
  log = ([], durable, λ magic. (let long = magic_long [] magic in omega (arith, long)));
})

pub base_fits : (size sector : ℕ) (torn : Bool) (base : Database) (bytes : List ℕ) (s : DiskState) → IsPageSize size → IsSectorSize sector → (torn ≡ true → sector ≤ size) → IsHeld size base → IsJust size base bytes
    → IsNew sector torn bytes s → FitsDisk (start size base) s
base_fits size sector torn base bytes s pages sectors whole held just is = down_fits size base bytes s
    (record {
      sound = sound_new sector torn bytes s (omega (arith, just.long, held.few)) is;
      sectors = subst IsSectorSize (sym is.sector) sectors;
      pages = pages;
      whole = λ tears_pages. let le : sector ≤ size = whole (sym is.tears ∙ tears_pages.0) in omega (arith, le, tears_pages.1, is.sector);
    })
    held just is.db
    (record { settled = is.log; kept = λ tears. is.kept; handed = is.handed })

-- with any log that an opening doesn't refuse
module _ (size : ℕ) (d : Database) (db log : List ℕ) (s : DiskState) (file : IsSettled s.db db) (durable : IsLogDurable s log) (shows : ShowsWhole journal_log size db log d) where
  shown : (c w : List ℕ) → IsImage s.sector s.tears s.db c → MayBeRead journal_log s w → ShowsWhole journal_log size c w d
  shown c w image may = subst (λ (x : List ℕ). ShowsWhole journal_log size x w d) (sym (settled_one s.db db file s.sector s.tears c image)) (subst (λ (x : List ℕ). ShowsWhole journal_log size db x d) (sym (down_read journal_log log s durable w may)) shows)

  named : (TearsJournal s log → ⊥) → NamesSectors s
  named fits torn w may hot =
      let same = down_read journal_log log s durable w may in
      ⊎_elim
      (λ lt. absurd (fits (torn, subst IsHot same hot, inr (subst (λ (x : List ℕ). word x 20 < s.sector) same lt))))
      (λ le. le)
      (cases_lt (word w 20) s.sector)

  pub settled_fits : Suits size s → IsHeld size d → (TearsJournal s log → ⊥) → FitsDisk (start size d) s
  settled_fits suits held fits = record {
    suits = suits;
    floor = omega arith;
    held = held_at size d held;
    left = λ w may. (0, omega arith, omega arith, λ c image. shown c w image may);
    sectors = named fits;
    present = λ opens. absurd (cc opens);
  }
