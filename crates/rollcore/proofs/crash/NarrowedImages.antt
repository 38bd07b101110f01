-- A call that adds no log to those that may be read adds none that shows less.
use Rattle.rollcore.proofs.Words.{Database, DiskState, EndsBy, List, NamesSectors, Narrows, ShowsHistory, journal_log, subst, sym, word, ℕ, ◌∙◌, ◌≤◌}

module _ (s t : DiskState) (narrows : Narrows journal_log s t) where
  pub history_narrows : (size : ℕ) (h : List Database) (floor : ℕ) → ShowsHistory size h floor s → ShowsHistory size h floor t
  history_narrows size h floor shows w may =
      let is = shows w (narrows.log w may) in
      (is.0, is.1, is.2, λ db image. is.3 db (narrows.file db image))

  pub sectors_narrow : NamesSectors s → NamesSectors t
  sectors_narrow names torn w may hot = subst (λ (n : ℕ). n ≤ word w 20) (sym narrows.sector) (names (sym narrows.tears ∙ torn) w (narrows.log w may) hot)

  pub ends_narrow : (n : ℕ) → EndsBy n s → EndsBy n t
  ends_narrow n ends = record { cold = λ db w image may cold. ends.cold db w (narrows.file db image) (narrows.log w may) cold; sectors = sectors_narrow ends.sectors }
