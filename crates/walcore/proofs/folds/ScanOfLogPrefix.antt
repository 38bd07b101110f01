-- What a scan of the first bytes of a log says of the log.
use Rattle.walcore.proofs.Words.{AllPass, AreBytes, Bool, DiskState, Err, HeaderRefused, HeaderSum, IsHeader, IsPageSize, IsSettledWithin, IsValidFrame, IsWithoutHeader, List, LogRefusedWithin, NotAWal, Ok, PieceAnswer, Result, Scan, ScanRefused, TooLarge, TookWithin, UnknownVersion, WalError, WalFormatError, WalNoMemory, all_same, arith, drop, false, get_or-drop, header_same, length, length-take-le, named_size, refl, subst, suc, sym, take, take-append-drop, take-take, true, wal_scan, word_same, ℕ, ◌++◌, ◌+◌, ◌≡◌, ◌≤◌}
use Rattle.sqwal.specs.declared.error.WalFormatError.TheVariants.{PageSize, TooLong, NoMemory}

header_refused : (w x : List ℕ) (e : WalFormatError) → take 32 w ≡ take 32 x → 32 ≤ length x → HeaderRefused x e → IsHeader (named_size w) w → ⊥
header_refused w x NotAWal same long bad is = bad (header_same (named_size w) w x 32 same (omega arith) long is).magic
header_refused w x PageSize same long bad is =
    let there = header_same (named_size w) w x 32 same (omega arith) long is in bad.1 (subst IsPageSize (sym there.named) there.is_size)
header_refused w x HeaderSum same long bad is = bad.2 (header_same (named_size w) w x 32 same (omega arith) long is).sums
header_refused w x UnknownVersion same long bad is = bad.3 (header_same (named_size w) w x 32 same (omega arith) long is).version
header_refused w x TooLong same long bad is = bad
header_refused w x NoMemory same long bad is = bad

module _ (w : List ℕ) (n : ℕ) (fits : n ≤ length w) where
  long : length (take n w) ≡ n
  long = length-take-le n w fits

  -- where its front has no valid header, the log has none
  pub no_header : (most : ℕ) (e : WalFormatError) → (e ≡ TooLong → ⊥) → (e ≡ NoMemory → ⊥) → LogRefusedWithin most (take n w) e → IsHeader (named_size w) w → ⊥
  no_header most NotAWal a b bad is = header_refused w (take n w) NotAWal (sym (take-take 32 n w (omega (arith, bad.0, long)))) bad.0 bad.1 is
  no_header most PageSize a b bad is = header_refused w (take n w) PageSize (sym (take-take 32 n w (omega (arith, bad.0, long)))) bad.0 bad.1 is
  no_header most HeaderSum a b bad is = header_refused w (take n w) HeaderSum (sym (take-take 32 n w (omega (arith, bad.0, long)))) bad.0 bad.1 is
  no_header most UnknownVersion a b bad is = header_refused w (take n w) UnknownVersion (sym (take-take 32 n w (omega (arith, bad.0, long)))) bad.0 bad.1 is
  no_header most TooLong a b bad is = a refl
  no_header most NoMemory a b bad is = b refl

  -- a valid frame of its front is one of the log
  pub valid_longer : (i : ℕ) → IsValidFrame (named_size (take n w)) (take n w) i → IsValidFrame (named_size w) w i
  valid_longer i valid =
      let at_end = valid.each i valid.first (omega arith) in
      let same : take n (take n w) ≡ take n w = take-take n n w (omega arith) in
      let size : named_size (take n w) ≡ named_size w = word_same (take n w) w n 8 same (omega (arith, at_end.header.whole, long)) in
      let all : AllPass (named_size (take n w)) w i = all_same (named_size (take n w)) (take n w) w n i same (omega (arith, at_end.whole, long)) fits valid.each in
      record { first = valid.first; each = subst (λ (s : ℕ). AllPass s w i) size all }

module _ (w : List ℕ) (at : ℕ) (piece : List ℕ) (fits : at + length piece ≤ length w) (joined : take at w ++ piece ≡ take (at + length piece) w) where
  pub fed : (most : ℕ) (s : Scan) (old new : DiskState) → TookWithin most (take at w ++ piece) s → PieceAnswer (wal_scan most) w (at + length piece) (Ok true) s old new
  unfolding PieceAnswer
  fed most s old new took = subst (λ (b : List ℕ). TookWithin most b s) joined took

  pub not_fed : (most : ℕ) (e : WalFormatError) (r : Result Bool WalError) (end : ℕ) (s : Scan) (old new : DiskState) → LogRefusedWithin most (take at w ++ piece) e → IsWithoutHeader e r → PieceAnswer (wal_scan most) w end r s old new
  unfolding PieceAnswer ScanRefused
  not_fed most e r end s old new refused is = by e (subst (λ (b : List ℕ). LogRefusedWithin most b e) joined refused) is
    where
      answer : (x : Result Bool WalError) → r ≡ x → PieceAnswer (wal_scan most) w end x s old new → PieceAnswer (wal_scan most) w end r s old new
      answer x is p = subst (λ (y : Result Bool WalError). PieceAnswer (wal_scan most) w end y s old new) (sym is) p

      by : (e : WalFormatError) → LogRefusedWithin most (take (at + length piece) w) e → IsWithoutHeader e r → PieceAnswer (wal_scan most) w end r s old new
      by TooLong refused is = answer (Err TooLarge) is (valid_longer w (at + length piece) fits (suc most) refused)
      by NoMemory refused is = answer (Err WalNoMemory) is tt
      by NotAWal refused is = answer (Ok false) is (no_header w (at + length piece) fits most NotAWal (λ z. cc) (λ z. cc) refused)
      by PageSize refused is = answer (Ok false) is (no_header w (at + length piece) fits most PageSize (λ z. cc) (λ z. cc) refused)
      by HeaderSum refused is = answer (Ok false) is (no_header w (at + length piece) fits most HeaderSum (λ z. cc) (λ z. cc) refused)
      by UnknownVersion refused is = answer (Ok false) is (no_header w (at + length piece) fits most UnknownVersion (λ z. cc) (λ z. cc) refused)

-- a scan that no further bytes change is one of the whole log
pub settled_read : (most : ℕ) (w : List ℕ) (s : Scan) (at : ℕ) → AreBytes w → IsSettledWithin most (take at w) s → TookWithin most w s
settled_read most w s at bytes settled = subst (λ (l : List ℕ). TookWithin most l s) (take-append-drop at w) (settled (drop at w) (λ i. rw (get_or-drop at w i 0) (bytes (at + i))))
