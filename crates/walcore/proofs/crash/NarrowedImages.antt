-- A call that adds no log to those that may be read adds none that shows less.
use Rattle.walcore.proofs.Below.{Database, DiskState, HasMadeHeader, IsLeft, List, MayBeRead, Narrows, NoChance, ShowsHistory, arith, frame_end, frame_end-le, frame_end-suc, frame_end-zero, inl, inr, length, made_before, made_cases, named_size, subst, wal_log, ℕ, ⊎_elim, ◌∷◌, ◌≡◌, ◌≤◌}

module _ (s t : DiskState) (narrows : Narrows wal_log s t) where
  pub history_narrows : (size : ℕ) (logs : List (List ℕ)) (h : List Database) (floor : ℕ) → ShowsHistory size logs h floor s → ShowsHistory size logs h floor t
  history_narrows size logs h floor shows w may chance =
      let is = shows w (narrows.log w may) chance in
      (is.0, is.1, is.2, λ db image. is.3 db (narrows.file db image))

  pub headers_narrow : (logs : List (List ℕ)) → HasMadeHeader logs s → HasMadeHeader logs t
  headers_narrow logs made w may header = made w (narrows.log w may) header

  pub left_narrows : (size : ℕ) (logs : List (List ℕ)) (h : List Database) (floor : ℕ) → IsLeft size logs h floor s → IsLeft size logs h floor t
  left_narrows size logs h floor (inl both) = inl (history_narrows size logs h floor both.0, headers_narrow logs both.1)
  left_narrows size logs h floor (inr one) = inr (one.0, one.1, one.2, λ db w image may. one.3 db w (narrows.file db image) (narrows.log w may))

-- A log that was made and isn't written shows nothing.
module _ (size : ℕ) (logs : List (List ℕ)) (f : List ℕ) (s : DiskState) (alone : length f ≡ 32) (made : HasMadeHeader logs s) where
  chance_before : (w : List ℕ) → MayBeRead wal_log s w → NoChance (f ∷ logs) w → NoChance logs w
  chance_before w may chance = record {
    header = λ is. made w may is;
    frame = λ i valid.
        let from = chance.frame i valid in
        ⊎_elim
        (λ is. absurd (
        let long : frame_end (named_size w) i ≤ 32 = omega (arith, from.2, alone, subst (λ (x : List ℕ). length x ≡ 32) is alone) in
        omega (arith, frame_end-le (named_size w) 1 i valid.first, frame_end-suc (named_size w) 0, frame_end-zero (named_size w))
        ))
        (λ was. (from.0, was, from.2, from.3))
        (made_cases f from.0 logs from.1);
  }

  pub grown_shows : (h : List Database) (floor : ℕ) → ShowsHistory size logs h floor s → ShowsHistory size (f ∷ logs) h floor s × HasMadeHeader (f ∷ logs) s
  grown_shows h floor shows = (
    λ w may chance. shows w may (chance_before w may chance),
    λ w may header. let is = made w may header in (is.0, made_before f is.0 logs is.1, is.2),
  )

-- the same of what is left
pub left_grown : (size : ℕ) (logs : List (List ℕ)) (f : List ℕ) (h : List Database) (floor : ℕ) (s : DiskState) → length f ≡ 32 → IsLeft size logs h floor s → IsLeft size (f ∷ logs) h floor s
left_grown size logs f h floor s alone (inl both) = inl (grown_shows size logs f s alone both.1 h floor both.0)
left_grown size logs f h floor s alone (inr one) = inr one
