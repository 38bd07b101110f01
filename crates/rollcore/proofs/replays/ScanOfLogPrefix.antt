-- What a scan of the first bytes of a log says of the log, and the count of refused calls.
use Rattle.rollcore.proofs.Words.{Bool, DiskError, DiskState, EndsWithin, Err, Failed, HadRefusal, HasRead, IsHot, IsPageSize, IsRefused, IsWithoutHeader, JournalError, List, NotAJournal, Ok, PieceAnswer, Replay, Result, RollError, ScanAnswer, ScanRefused, SectorSize, TooLarge, TooLong, Took, WalNoMemory, ap, arith, cases_lt, counted, drop, false, inl, inr, journal_scan, length, length-take-le, longest, min, part, refl, subst, sym, take, take-append-drop, take-take, true, word, word_part, ℕ, ⊎_elim, ◌++◌, ◌+◌, ◌-◌, ◌<◌, ◌^◌, ◌∙◌, ◌≡◌, ◌≤◌}
use Rattle.sqjournal.specs.declared.error.JournalError.TheVariants.{PageSize, NoMemory}
use Rattle.crashdisk.specs.declared.error.DiskError.TheVariants.{Stopped, TooLong as DiskTooLong, NoMemory as DiskNoMemory}
use Rattle.sqjournal.specs.Took.{Refuses, IsSettled}

magic_front : (w : List ℕ) (n : ℕ) → n ≤ length w → 28 ≤ n → part (take n w) 0 8 ≡ part w 0 8
magic_front w n fits long = take-take 8 n w (omega arith)

word_front : (w : List ℕ) (n at : ℕ) → n ≤ length w → 28 ≤ n → at + 4 ≤ 28 → word (take n w) at ≡ word w at
word_front w n at fits long within = word_part w 0 n at (omega arith) ∙ ap (word w) (from_zero at)
  where
    from_zero : (k : ℕ) → 0 + k ≡ k
    from_zero k = omega arith

-- where the front of a journal is refused, it isn't hot
refused_cold : (w : List ℕ) (n : ℕ) (e : JournalError) → n ≤ length w → 28 ≤ n → IsRefused (take n w) e → IsHot w → ⊥
refused_cold w n NotAJournal fits long bad hot = bad (magic_front w n fits long ∙ hot.first.magic)
refused_cold w n SectorSize fits long bad hot = bad.1 (subst IsPageSize (sym (word_front w n 20 fits long (omega arith))) hot.first.sector)
refused_cold w n PageSize fits long bad hot = bad.2 (subst IsPageSize (sym (word_front w n 24 fits long (omega arith))) hot.first.size)
refused_cold w n NoMemory fits long bad hot = bad
refused_cold w n TooLong fits long bad hot = bad

pub no_header : (w : List ℕ) (n : ℕ) (e : JournalError) → n ≤ length w → (e ≡ TooLong → ⊥) → (e ≡ NoMemory → ⊥) → Refuses (take n w) e → IsHot w → ⊥
no_header w n NotAJournal fits a b bad = refused_cold w n NotAJournal fits (omega (arith, bad.1, length-take-le n w fits)) bad.2
no_header w n SectorSize fits a b bad = refused_cold w n SectorSize fits (omega (arith, bad.1, length-take-le n w fits)) bad.2
no_header w n PageSize fits a b bad = refused_cold w n PageSize fits (omega (arith, bad.1, length-take-le n w fits)) bad.2
no_header w n TooLong fits a b bad = absurd (a refl)
no_header w n NoMemory fits a b bad = absurd (b refl)

-- A call that names no place and was refused was counted, whatever the count.
pub had_refusal_any : {T : Type 0} (result : Result T DiskError) (e : DiskError) (old new : DiskState) → result ≡ Err e
    → EndsWithin result 0 → new.refused ≡ counted result old.refused → HadRefusal old new
had_refusal_any {T = T} result e old new is within count =
    by e (subst (λ (r : Result T DiskError). EndsWithin r 0) is within) (subst (λ (r : Result T DiskError). new.refused ≡ counted r old.refused) is count)
  where
    rises : new.refused ≡ min (old.refused + 1) (2 ^ 64 - 1) → HadRefusal old new
    rises eq = ⊎_elim (λ lt. inl (omega arith)) (λ ge. inr (omega arith)) (cases_lt old.refused (2 ^ 64 - 1))

    by : (e : DiskError) → EndsWithin {T = T} (Err e) 0 → new.refused ≡ counted {T = T} (Err e) old.refused → HadRefusal old new
    by DiskTooLong within eq = absurd (omega (arith, within))
    by Stopped within eq = rises eq
    by Failed within eq = rises eq
    by DiskNoMemory within eq = rises eq

module _ (w : List ℕ) (at : ℕ) (piece : List ℕ) (fits : at + length piece ≤ length w) (joined : take at w ++ piece ≡ take (at + length piece) w) where
  pub fed : (s : Replay) (old new : DiskState) → Took (take at w ++ piece) s → PieceAnswer journal_scan w (at + length piece) (Ok true) s old new
  unfolding PieceAnswer
  fed s old new took = subst (λ (b : List ℕ). Took b s) joined took

  pub not_fed : (e : JournalError) (r : Result Bool RollError) (end : ℕ) (s : Replay) (old new : DiskState) → Refuses (take at w ++ piece) e → IsWithoutHeader e r → PieceAnswer journal_scan w end r s old new
  unfolding PieceAnswer ScanRefused
  not_fed e r end s old new refused is = by e (subst (λ (b : List ℕ). Refuses b e) joined refused) is
    where
      answer : (x : Result Bool RollError) → r ≡ x → PieceAnswer journal_scan w end x s old new → PieceAnswer journal_scan w end r s old new
      answer x is p = subst (λ (y : Result Bool RollError). PieceAnswer journal_scan w end y s old new) (sym is) p

      by : (e : JournalError) → Refuses (take (at + length piece) w) e → IsWithoutHeader e r → PieceAnswer journal_scan w end r s old new
      by TooLong refused is = answer (Err TooLarge) is (omega (arith, refused, length-take-le (at + length piece) w fits))
      by NoMemory refused is = answer (Err WalNoMemory) is tt
      by NotAJournal refused is = answer (Ok false) is (no_header w (at + length piece) NotAJournal fits (λ z. cc) (λ z. cc) refused)
      by SectorSize refused is = answer (Ok false) is (no_header w (at + length piece) SectorSize fits (λ z. cc) (λ z. cc) refused)
      by PageSize refused is = answer (Ok false) is (no_header w (at + length piece) PageSize fits (λ z. cc) (λ z. cc) refused)

-- the journal was read up to where it ends
pub settled_read : (w : List ℕ) (s : Replay) (at : ℕ) → Took (take at w) s → IsSettled (take at w) → HasRead w s
settled_read w s at took settled = record { front = take at w; more = drop at w; split = sym (take-append-drop at w); took = took; rest = inr settled }

pub scan_long : (w : List ℕ) (a b : DiskState) (n : ℕ) → length w ≡ n → longest < n → ScanAnswer journal_scan w (Err TooLarge) a b
unfolding ScanAnswer ScanRefused
scan_long w a b n long more = omega arith
