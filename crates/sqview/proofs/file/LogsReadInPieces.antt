-- What is read of logs in pieces.
use Rattle.std.proofs.Common.{◌≡◌, inl, inr, ℕ, ◌+◌, ◌-◌, ◌^◌, ◌<◌, ◌≤◌, min, List, ◌++◌, length, take, drop, sym, ◌∙◌, ap, subst, arith, length-append}
use Rattle.std.specs.Prelude.{Result, Ok, Err, MatchResult}
use Rattle.std.proofs.lemmas.List.{take-append-drop, take_all, get_or-drop, drop_all, length-take-le}
use Rattle.std.proofs.Math.Seq.{take-add}
use Rattle.sqval.specs.Bytes.{AreBytes}
use Rattle.sqwal.specs.Took.{TookWithin, IsSettledWithin}
use Rattle.sqwal.specs.Answers.{FeedAnswerWithin, LogRefusedWithin}
use Rattle.sqwal.specs.declared.scan.Scan.{Scan}
use Rattle.sqwal.specs.declared.error.WalFormatError.{WalFormatError}
use Rattle.sqwal.proofs.feed.ScanUnderMoreBytes.{log_refused-more}
use Rattle.sqjournal.specs.Took.{Took as ReplayTook, IsSettled as IsSettledJournal, IsTakeable, Refuses}
use Rattle.sqjournal.specs.Header.{IsRefused}
use Rattle.sqjournal.specs.declared.error.JournalError.{JournalError}
use Rattle.sqjournal.specs.declared.error.JournalError.TheVariants.{NotAJournal, SectorSize, PageSize, NoMemory, TooLong}
use Rattle.sqjournal.specs.declared.replay.Replay.{Replay}
use Rattle.sqjournal.proofs.read.NextStateOfReading.{refused_more}
use Rattle.sqpage.specs.declared.source.SourceError.{SourceError}
use Rattle.sqview.specs.Laid.{part_or_zeros}
use Rattle.sqview.specs.Logs.{HasRead, ReplayAnswer}
use Rattle.sqview.specs.internal.ViewParts.{ScanPiece, ReplayPiece}
use Rattle.sqview.proofs.file.FileHeads.{part_is}

front_piece : (w piece : List ℕ) (at n : ℕ) → at + n ≤ length w → piece ≡ part_or_zeros n at w → take at w ++ piece ≡ take (at + n) w
front_piece w piece at n le e = ap (λ l. take at w ++ l) (e ∙ part_is n at w le) ∙ sym (take-add at n w)

module _ (w piece : List ℕ) (at n : ℕ) (le : at + n ≤ length w) (read : piece ≡ part_or_zeros n at w) where
  rest_is : take (at + n) w ++ drop (at + n) w ≡ w
  rest_is = take-append-drop (at + n) w

  front_is : take at w ++ piece ≡ take (at + n) w
  front_is = front_piece w piece at n le read

  pub scan_fed : (most : ℕ) (r : Result (Unit {0}) WalFormatError) (s : Scan) → FeedAnswerWithin most (take at w) piece r s → ScanPiece most w (at + n) (Ok r) s
  scan_fed most (Ok x) s a = subst (λ (l : List ℕ). TookWithin most l s) front_is a.0
  scan_fed most (Err e) s a = subst (λ (l : List ℕ). LogRefusedWithin most l e) rest_is
      (log_refused-more most (take (at + n) w) (drop (at + n) w) e (subst (λ (l : List ℕ). LogRefusedWithin most l e) front_is a.1))

  replay_refused : (e : JournalError) → length w ≤ 2 ^ 40 → Refuses (take (at + n) w) e → (r : Replay) → ReplayPiece w (at + n) (Ok (Err e)) r
  replay_refused NoMemory short bad r = tt
  replay_refused TooLong short bad r = absurd (omega (arith, bad, ap length rest_is, length-append (take (at + n) w) (drop (at + n) w)))
  replay_refused NotAJournal short bad r = (short, omega (arith, bad.1, ap length rest_is, length-append (take (at + n) w) (drop (at + n) w)), subst (λ (l : List ℕ). IsRefused l NotAJournal) rest_is (refused_more (take (at + n) w) (drop (at + n) w) NotAJournal bad.1 bad.2))
  replay_refused SectorSize short bad r = (short, omega (arith, bad.1, ap length rest_is, length-append (take (at + n) w) (drop (at + n) w)), subst (λ (l : List ℕ). IsRefused l SectorSize) rest_is (refused_more (take (at + n) w) (drop (at + n) w) SectorSize bad.1 bad.2))
  replay_refused PageSize short bad r = (short, omega (arith, bad.1, ap length rest_is, length-append (take (at + n) w) (drop (at + n) w)), subst (λ (l : List ℕ). IsRefused l PageSize) rest_is (refused_more (take (at + n) w) (drop (at + n) w) PageSize bad.1 bad.2))

  pub replay_fed : (r : Result (Unit {0}) JournalError) (s : Replay) → length w ≤ 2 ^ 40
      → MatchResult r (λ _. IsTakeable (take at w ++ piece) × ReplayTook (take at w ++ piece) s) (λ e. Refuses (take at w ++ piece) e × ReplayTook (take at w) s)
      → ReplayPiece w (at + n) (Ok r) s
  replay_fed (Ok x) s short a = subst (λ (l : List ℕ). ReplayTook l s) front_is a.1
  replay_fed (Err e) s short a = replay_refused e short (subst (λ (l : List ℕ). Refuses l e) front_is a.0) s

-- ---- one piece more

module _ (w v : List ℕ) (same : v ≡ w) (at n : ℕ) (le : at + n ≤ length w) where
  pub scan_on : (most : ℕ) (r : Result (Result (Unit {0}) WalFormatError) SourceError) (s t : Scan) → TookWithin most (take at w) s
      → (at + n ≤ length v → TookWithin most (take at v) s → ScanPiece most v (at + n) r t) → ScanPiece most w (at + n) r t
  scan_on most r s t took fed = subst (λ (l : List ℕ). at + n ≤ length l → TookWithin most (take at l) s → ScanPiece most l (at + n) r t) same fed le took

  pub replay_on : (r : Result (Result (Unit {0}) JournalError) SourceError) (s t : Replay) → length w ≤ 2 ^ 40 → ReplayTook (take at w) s
      → (at + n ≤ length v → length v ≤ 2 ^ 40 → ReplayTook (take at v) s → ReplayPiece v (at + n) r t) → ReplayPiece w (at + n) r t
  replay_on r s t short took fed = subst (λ (l : List ℕ). at + n ≤ length l → length l ≤ 2 ^ 40 → ReplayTook (take at l) s → ReplayPiece l (at + n) r t) same fed le short took

-- ---- where nothing more is read

pub all_taken : {most : ℕ} (w : List ℕ) (at : ℕ) (s : Scan) → length w ≤ at → TookWithin most (take at w) s → TookWithin most w s
all_taken {most} w at s le took = subst (λ (l : List ℕ). TookWithin most l s) (take_all at w le) took

pub over_taken : (most : ℕ) (w : List ℕ) (at : ℕ) (s : Scan) → AreBytes w → IsSettledWithin most (take at w) s → TookWithin most w s
over_taken most w at s are settled = subst (λ (l : List ℕ). TookWithin most l s) (take-append-drop at w) (settled (drop at w) (λ i. rw (get_or-drop at w i 0) (are (at + i))))

pub all_read : (w : List ℕ) (at : ℕ) (r : Replay) → length w ≤ at → ReplayTook (take at w) r → HasRead w r
all_read w at r le took = record { front = take at w; more = drop at w; split = sym (take-append-drop at w); took = took; rest = inl (drop_all at w le) }

pub over_read : (w : List ℕ) (at : ℕ) (r : Replay) → IsSettledJournal (take at w) → ReplayTook (take at w) r → HasRead w r
over_read w at r settled took = record { front = take at w; more = drop at w; split = sym (take-append-drop at w); took = took; rest = inr settled }

-- ---- how long a piece is

pub piece_long : (xs : List ℕ) (at end count : ℕ) → length xs ≡ 65536 → count ≡ min (end - at) 65536 → length (take count xs) ≡ count
piece_long xs at end count long is = length-take-le count xs (omega arith)

pub piece_within : (xs w : List ℕ) (at end count : ℕ) → length xs ≡ 65536 → count ≡ min (end - at) 65536 → at < end → end ≡ length w → at + length (take count xs) ≤ length w
piece_within xs w at end count long is lt e = omega (arith, piece_long xs at end count long is)

-- ---- what became of a piece

module _ (most : ℕ) (w : List ℕ) (end : ℕ) (r : Result (Result (Unit {0}) WalFormatError) SourceError) (t : Scan) (is : ScanPiece most w end r t) where
  pub scan_bad : (q : Result (Unit {0}) WalFormatError) (e : WalFormatError) → r ≡ Ok q → q ≡ Err e → LogRefusedWithin most w e
  scan_bad q e was bad = subst (λ (q : Result (Result (Unit {0}) WalFormatError) SourceError). ScanPiece most w end q t) (was ∙ ap Ok bad) is

  pub scan_good : (q : Result (Unit {0}) WalFormatError) (x : Unit {0}) → r ≡ Ok q → q ≡ Ok x → TookWithin most (take end w) t
  scan_good q x was good = subst (λ (q : Result (Result (Unit {0}) WalFormatError) SourceError). ScanPiece most w end q t) (was ∙ ap Ok good) is

module _ (b : List ℕ) (end : ℕ) (r : Result (Result (Unit {0}) JournalError) SourceError) (t : Replay) (is : ReplayPiece b end r t) where
  refused_answer : (e : JournalError) → ReplayPiece b end (Ok (Err e)) t → ReplayAnswer b (Ok (Err e))
  refused_answer NoMemory bad = tt
  refused_answer NotAJournal bad = bad
  refused_answer SectorSize bad = bad
  refused_answer PageSize bad = bad
  refused_answer TooLong bad = bad

  pub replay_bad : (q : Result (Unit {0}) JournalError) (e : JournalError) → r ≡ Ok q → q ≡ Err e → ReplayAnswer b (Ok (Err e))
  replay_bad q e was bad = refused_answer e (subst (λ (q : Result (Result (Unit {0}) JournalError) SourceError). ReplayPiece b end q t) (was ∙ ap Ok bad) is)

  pub replay_good : (q : Result (Unit {0}) JournalError) (x : Unit {0}) → r ≡ Ok q → q ≡ Ok x → ReplayTook (take end b) t
  replay_good q x was good = subst (λ (q : Result (Result (Unit {0}) JournalError) SourceError). ReplayPiece b end q t) (was ∙ ap Ok good) is
