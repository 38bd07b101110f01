-- The scan of a log, one piece after another.
use Rattle.std.proofs.Common.{◌≡◌, ℕ, ◌+◌, ◌<◌, ◌≤◌, List, ◌++◌, length, get_or, take, sym, ◌∙◌, ap, subst, arith, inl, inr, Bool, true, false, Option, Some, None, Result, Ok, Err, IsErrAnd, take_all}
use Rattle.recovery.proofs.Below.{get_or_past, cases_lt, AreBytes, FileState, IsSound, byte, DiskState, IsSoundDisk, ArePresent, Looks, HadRefusal, DiskError, byte_is_byte, had_refusal, piece_read, ScanKind, PieceAnswer, ScanAnswer, IsSoundKind, PiecesAnswer}

-- the bytes of a log are bytes
pub present_bytes : (sector : ℕ) (log : FileState) (w : List ℕ) → IsSound sector log → ArePresent log w → AreBytes w
present_bytes sector log w sound are i = elim (cases_lt i log.len) [
  | inl lt ↦ subst (λ (b : ℕ). b < 256) (sym (are.each i lt)) (byte_is_byte sector log sound i)
  | inr le ↦ subst (λ (b : ℕ). b < 256) (sym (get_or_past w i 0 (omega (arith, are.len)))) (omega arith)
]

-- a piece that was read follows what stands before it in the log
pub follows : (w : List ℕ) (log : FileState) (at : ℕ) (given piece : List ℕ) → length piece ≡ length given → ArePresent log w → at + length given ≤ length w
    → ((i : ℕ) → i < length piece → get_or piece i 0 ≡ byte log (at + i)) → take at w ++ piece ≡ take (at + length piece) w
follows w log at given piece same are fits each = piece_read w log at piece are (omega arith) each

-- a call of the disk that reads bytes of the log was refused
pub read_refused : {T : Type 0} (w : List ℕ) (end : ℕ) (result : Result T DiskError) (e : DiskError) (a b : DiskState) → IsSoundDisk a → ArePresent a.log w → end ≤ length w → result ≡ Err e → Looks end result a b → HadRefusal a b
read_refused w end result e a b sound are fits is looked = had_refusal result e end a b sound.refused is looked.within (omega (arith, are.len, sound.log.greatest, sound.log.within)) looked.refused

module _ {S E : Type 0} (kind : ScanKind S E) (w : List ℕ) (s : S) (a b : DiskState) where
  -- what refuses it after calls that were done
  pub piece_after : (c : DiskState) → ((e : E) → kind.Refused w e b c → kind.Refused w e a c) → (end : ℕ) (r : Result Bool E) (e : E) → r ≡ Err e → PieceAnswer kind w end r s b c → PiecesAnswer kind w (Err e) s a c
  unfolding PieceAnswer PiecesAnswer
  piece_after c later end r e is answer = later e (let got = subst (λ (x : Result Bool E). PieceAnswer kind w end x s b c) is answer in got)

  pub piece_none : (c : DiskState) (end : ℕ) (r : Result Bool E) (go : Bool) → r ≡ Ok go → go ≡ false → PieceAnswer kind w end r s b c → PiecesAnswer kind w (Ok false) s a c
  unfolding PieceAnswer PiecesAnswer
  piece_none c end r go is off answer = let got = subst (λ (x : Result Bool E). PieceAnswer kind w end x s b c) (is ∙ ap Ok off) answer in got

  pub piece_some : (end : ℕ) (r : Result Bool E) (go : Bool) → r ≡ Ok go → go ≡ true → PieceAnswer kind w end r s a b → kind.Took (take end w) s
  unfolding PieceAnswer
  piece_some end r go is on answer = let got = subst (λ (x : Result Bool E). PieceAnswer kind w end x s a b) (is ∙ ap Ok on) answer in got

  pub pieces_read : kind.Read w s → PiecesAnswer kind w (Ok true) s a b
  unfolding PiecesAnswer
  pieces_read read = read

  pub scan_some : (r : Result Bool E) (go : Bool) → r ≡ Ok go → go ≡ true → PiecesAnswer kind w r s a b → ScanAnswer kind w (Ok (Some s)) a b
  unfolding PiecesAnswer ScanAnswer
  scan_some r go is on answer = let got = subst (λ (x : Result Bool E). PiecesAnswer kind w x s a b) (is ∙ ap Ok on) answer in got

  pub scan_none : (r : Result Bool E) (go : Bool) → r ≡ Ok go → go ≡ false → PiecesAnswer kind w r s a b → ScanAnswer kind w (Ok None) a b
  unfolding PiecesAnswer ScanAnswer
  scan_none r go is off answer = let got = subst (λ (x : Result Bool E). PiecesAnswer kind w x s a b) (is ∙ ap Ok off) answer in got

  pub scan_after : (r : Result Bool E) (e : E) (q : Result (Option S) E) → r ≡ Err e → q ≡ Err e → PiecesAnswer kind w r s a b → ScanAnswer kind w q a b
  unfolding PiecesAnswer ScanAnswer
  scan_after r e q is same answer = subst (λ (x : Result (Option S) E). ScanAnswer kind w x a b) (sym same) (let got = subst (λ (x : Result Bool E). PiecesAnswer kind w x s a b) is answer in got)

  -- a call of the disk was refused
  pub piece_refused : (device : E) (end : ℕ) (r : Result Bool E) → IsSoundKind kind device → HadRefusal a b → r ≡ Err device → PieceAnswer kind w end r s a b
  unfolding PieceAnswer
  piece_refused device end r sound had is = subst (λ (x : Result Bool E). PieceAnswer kind w end x s a b) (sym is) (sound.refused w a b had)

  -- the log was taken up to its end
  pub pieces_whole : (device : E) (end : ℕ) → IsSoundKind kind device → length w ≡ end → kind.Took (take end w) s → PiecesAnswer kind w (Ok true) s a b
  pieces_whole device end sound long took = pieces_read (sound.whole w s (subst (λ (x : List ℕ). kind.Took x s) (take_all end w (omega arith)) took))

  -- the log is refused by what an error was turned into
  pub scan_refused_by : (Gives : E → Type 0) (q : Result (Option S) E) → IsErrAnd q Gives → ((e : E) → Gives e → kind.Refused w e a b) → ScanAnswer kind w q a b
  unfolding ScanAnswer
  scan_refused_by Gives (Err e) gives refused = refused e gives
  scan_refused_by Gives (Ok v) gives refused = absurd gives
