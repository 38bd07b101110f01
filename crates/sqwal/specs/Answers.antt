-- What a scan answers of the bytes that it took (own).
use Rattle.std.specs.Prelude.{◌≡◌, ℕ, suc, ◌<◌, ◌≤◌, cond, nat_lt, List, ◌++◌, length, get_or, Result, Ok, Err, Option, Some, None}
use Rattle.sqwal.specs.Header.{named_size, IsHeaderOf, HeaderRefused}
use Rattle.sqwal.specs.Frames.{frame_end, page_of, size_of, IsValidFrame, IsFront}
use Rattle.sqwal.specs.Refusal.{most_frames}
use Rattle.sqwal.specs.Took.{TookWithin}
use Rattle.sqwal.specs.declared.scan.Scan.{Scan}
use Rattle.sqwal.specs.declared.scan.Entry.{Entry}
use Rattle.sqwal.specs.declared.scan.Front.{Front}
use Rattle.sqwal.specs.declared.header.WalHeader.{WalHeader}
use Rattle.sqwal.specs.declared.error.WalFormatError.{WalFormatError}
use Rattle.sqwal.specs.declared.error.WalFormatError.TheVariants.{TooLong, NoMemory}

-- why the bytes b are no log of at most so many frames: judged when all 32 bytes of the header are there, and of a
-- frame when it is whole
abbrev pub LogRefusedWithin : (most : ℕ) → List ℕ → WalFormatError → Type 0
LogRefusedWithin most b TooLong = IsValidFrame (named_size b) b (suc most)
LogRefusedWithin most b NoMemory = Unit {0}
LogRefusedWithin most b e = (32 ≤ length b) × HeaderRefused b e

-- the same at the usual limit
abbrev pub LogRefused : List ℕ → WalFormatError → Type 0
LogRefused b e = LogRefusedWithin most_frames b e

-- a scan of b was given a piece: it took it, and there are no more frames than are scanned; or after an error it is one of b still
abbrev pub FeedAnswerWithin : {T : Type 0} → (most : ℕ) (b piece : List ℕ) → Result T WalFormatError → Scan → Type 0
FeedAnswerWithin most b piece (Ok _) s = TookWithin most (b ++ piece) s × (LogRefusedWithin most (b ++ piece) TooLong → ⊥)
FeedAnswerWithin most b piece (Err e) s = TookWithin most b s × LogRefusedWithin most (b ++ piece) e

-- no header where it isn't whole
abbrev pub HeaderFound : List ℕ → Option WalHeader → Type 0
HeaderFound b None = length b < 32
HeaderFound b (Some h) = (32 ≤ length b) × IsHeaderOf b h

-- valid frame i
abbrev pub EntryFound : List ℕ → (i : ℕ) → Option Entry → Type 0
EntryFound b i None = IsValidFrame (named_size b) b i → ⊥
EntryFound b i (Some e) = IsValidFrame (named_size b) b i × (e.page ≡ page_of (named_size b) b i) × (e.size ≡ size_of (named_size b) b i)

-- the valid frames, the first one first, of which there are at most so many
pub record AreEntriesWithin (limit : ℕ) (b : List ℕ) (entries : List Entry) : Type 0 where
  pub most : length entries ≤ limit
  pub valid : (i : ℕ) → 1 ≤ i → i ≤ length entries → IsValidFrame (named_size b) b i
  pub all : (i : ℕ) → IsValidFrame (named_size b) b i → i ≤ length entries
  pub pages : (i : ℕ) (d : Entry) → i < length entries → (get_or entries i d).page ≡ page_of (named_size b) b (suc i)
  pub sizes : (i : ℕ) (d : Entry) → i < length entries → (get_or entries i d).size ≡ size_of (named_size b) b (suc i)

-- The front, the size of the database there, and the place behind its last frame: 32 where there is a header and no
-- front, 0 where there is no header. No frame up to it is above the limit.
pub record IsCommittedWithin (limit : ℕ) (b : List ℕ) (f : Front) : Type 0 where
  pub front : IsFront (named_size b) b f.frames
  pub most : f.frames ≤ limit
  pub none : f.frames ≡ 0 → f.size ≡ 0
  pub some : 1 ≤ f.frames → f.size ≡ size_of (named_size b) b f.frames
  pub end : f.end ≡ cond (nat_lt (length b) 32) 0 (frame_end (named_size b) f.frames)
