-- What the parts of a scan promise one another (own).
use Rattle.std.specs.Prelude.{◌≡◌, ◌≢◌, ◌⊎◌, ℕ, suc, ◌+◌, ◌<◌, ◌≤◌, ◌%◌, ◌==◌, cond, List, [], ◌∷◌, ◌++◌, length, take, Result, Ok, Err}
use Rattle.sqval.specs.Bytes.{part, word}
use Rattle.sqwal.specs.Sums.{IsSumOf}
use Rattle.sqwal.specs.Frames.{frame_end, IsValidFrame}
use Rattle.sqwal.specs.Took.{TookFrames, TookParts}
use Rattle.sqwal.specs.Answers.{LogRefusedWithin}
use Rattle.sqwal.specs.declared.header.WalHeader.{WalHeader}
use Rattle.sqwal.specs.declared.sum.Sum.{Sum}
use Rattle.sqwal.specs.declared.scan.Entry.{Entry}
use Rattle.sqwal.specs.declared.scan.Why.{Why}
use Rattle.sqwal.specs.declared.scan.Why.TheVariants.{Salt, PageZero, Sum as SumIsWrong}
use Rattle.sqwal.specs.declared.scan.Progress.{Progress}
use Rattle.sqwal.specs.declared.scan.FrameList.{FrameList}
use Rattle.sqwal.specs.declared.scan.Scan.{Scan}
use Rattle.sqwal.specs.declared.error.WalFormatError.{WalFormatError}
use Rattle.sqwal.specs.declared.error.WalFormatError.TheVariants.{TooLong, NoMemory}

-- a list of frames, and a scan, hold what was taken of b
abbrev pub ListTook : WalHeader → (b held : List ℕ) → FrameList → Type 0
ListTook h b held f = TookFrames h b held f.entries.items f.progress

abbrev pub ScanTook : WalHeader → List ℕ → Scan → Type 0
ScanTook h b s = ListTook h b s.held.items s.frames

pub record HasTaken (most : ℕ) (b : List ℕ) (s : Scan) : Type 0 where
  pub limit : s.frames.progress.limits.frames ≡ most
  pub parts : TookParts b s.held.items s.frames.entries.items s.frames.progress s.header

-- frames were added, or none
abbrev pub KeepsFrames : (old new : FrameList) → Type 0
KeepsFrames old new = take (length old.entries.items) new.entries.items ≡ old.entries.items

-- the limits stay
abbrev pub KeepsLimits : (old new : FrameList) → Type 0
KeepsLimits old new = new.progress.limits ≡ old.progress.limits

-- bytes were added, or none
abbrev pub KeepsHeld : (old new : Scan) → Type 0
KeepsHeld old new = take (length old.held.items) new.held.items ≡ old.held.items

-- the frame's salts are the header's
abbrev pub NamesSalts : WalHeader → List ℕ → Type 0
NamesSalts h f = (word f 8 ≡ h.salt1) × (word f 12 ≡ h.salt2)

-- the frame names this sum
abbrev pub NamesSum : List ℕ → Sum → Type 0
NamesSum f sum = (word f 16 ≡ sum.s0) × (word f 20 ≡ sum.s1)

-- the sum goes on over the frame's first 8 bytes and its page
abbrev pub GoesOver : WalHeader → List ℕ → (before after : Sum) → Type 0
GoesOver h f before after =
    (front : List ℕ) → length front % 8 ≡ 0 → IsSumOf h.order front before → IsSumOf h.order (front ++ part f 0 8 ++ part f 24 h.page_size) after

-- whether a frame behind the sum `before` passes, with the sum behind it, or why it doesn't
abbrev pub IsJudged : WalHeader → (before : Sum) → (f : List ℕ) → Result Sum Why → Type 0
IsJudged h before f (Ok after) = NamesSalts h f × (word f 0 ≢ 0) × GoesOver h f before after × NamesSum f after
IsJudged h before f (Err Salt) = NamesSalts h f → ⊥
IsJudged h before f (Err PageZero) = NamesSalts h f × (word f 0 ≡ 0)
IsJudged h before f (Err SumIsWrong) = NamesSalts h f × (word f 0 ≢ 0) × ((after : Sum) × GoesOver h f before after × (NamesSum f after → ⊥))
IsJudged h before f (Err _) = ⊥

-- with one valid frame more
abbrev pub progress_behind : WalHeader → Entry → Sum → Progress → Progress
progress_behind h e sum p = record p {
  next = p.next + 1;
  sum = sum;
  front = cond (e.size == 0) p.front (record { frames = p.next; size = e.size; end = frame_end h.page_size p.next });
}

-- why the frames of w can't be taken
abbrev pub FramesRefused : (most size : ℕ) → List ℕ → WalFormatError → Type 0
FramesRefused most size w TooLong = IsValidFrame size w (suc most)
FramesRefused most size w NoMemory = Unit {0}
FramesRefused most size w _ = ⊥

-- a valid frame more, or none after an error
abbrev pub IsPushed : {T : Type 0} → WalHeader → Entry → Sum → FrameList → Result T WalFormatError → FrameList → Type 0
IsPushed h e sum s (Ok _) t = (s.progress.next ≤ s.progress.limits.frames) × (t.entries.items ≡ s.entries.items ++ e ∷ []) × (t.progress ≡ progress_behind h e sum s.progress)
IsPushed h e sum s (Err TooLong) t = (s.progress.limits.frames < s.progress.next) × (t.entries.items ≡ s.entries.items) × (t.progress ≡ s.progress)
IsPushed h e sum s (Err NoMemory) t = (t.entries.items ≡ s.entries.items) × (t.progress ≡ s.progress)
IsPushed h e sum s (Err _) t = ⊥

-- a new scan of w, which begins with a whole header
abbrev pub IsBegunScan : (most : ℕ) → List ℕ → Result Scan WalFormatError → Type 0
IsBegunScan most w (Ok s) = HasTaken most w s
IsBegunScan most w (Err e) = LogRefusedWithin most w e

-- a scan of b was given a piece: after an error it is one of b still
abbrev pub IsFed : {T : Type 0} → (most : ℕ) (b piece : List ℕ) → Result T WalFormatError → Scan → Type 0
IsFed most b piece (Ok _) s = HasTaken most (b ++ piece) s
IsFed most b piece (Err e) s = HasTaken most b s × LogRefusedWithin most (b ++ piece) e

-- the bytes complete the frame that is held back, if one is
abbrev pub IsCompleted : WalHeader → (held first : List ℕ) → Type 0
IsCompleted h held first = ((held ≡ []) × (first ≡ [])) ⊎ ((1 ≤ length held) × (length (held ++ first) ≡ 24 + h.page_size))
