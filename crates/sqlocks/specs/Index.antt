-- The header of the index of a write-ahead log, FILE-shm (walformat, 2.1), as a machine writes it that has the lowest byte
-- of a number first.
use Rattle.std.specs.Prelude.{◌≡◌, ◌≢◌, ℕ, ◌+◌, ◌*◌, ◌≤◌, ◌==◌, ◌&&◌, if◌then◌else◌, List, length, get_or, Option, Some, None}
use Rattle.byteorder.specs.Endian.{little_number}
use Rattle.sqval.specs.Bytes.{part, word}
use Rattle.sqval.specs.PageSize.{IsPageSize}
use Rattle.sqwal.specs.Sums.{words, sum_0, sum_1}
use Rattle.sqwal.specs.Header.{named_size as log_page_size}
use Rattle.sqwal.specs.Frames.{frame_at, IsCommit, HasSalts}
use Rattle.sqwal.specs.declared.sum.Order.TheVariants.{Little}
use Rattle.sqlocks.specs.declared.index.IndexHead.{IndexHead}

-- the 32-bit number and the 16-bit number at a place, the lowest byte first
abbrev pub low_word : List ℕ → (at : ℕ) → ℕ
low_word b at = little_number 4 (part b at 4)

abbrev pub low_half : List ℕ → (at : ℕ) → ℕ
low_half b at = little_number 2 (part b at 2)

-- the page size that a number of 16 bits stands for; where no frame counts it may be 0, while the log has no header yet,
-- and 512 stands for that
abbrev pub named_size : (n frames : ℕ) → ℕ
named_size n frames = if n == 1 then 65536 else (if (n == 0) && (frames == 0) then 512 else n)

-- the header stands twice, one copy behind the other
abbrev pub StandsTwice : List ℕ → Type 0
StandsTwice b = part b 0 48 ≡ part b 48 48

-- its sums are those of the 40 bytes before them, in words of this machine
abbrev pub HasRightSums : List ℕ → Type 0
HasRightSums b = (low_word b 40 ≡ sum_0 (words Little (part b 0 40))) × (low_word b 44 ≡ sum_1 (words Little (part b 0 40)))

-- the index has a valid header
pub record IsIndex (b : List ℕ) : Type 0 where
  pub twice : StandsTwice b
  pub version : low_word b 0 ≡ 3007000
  pub begun : get_or b 12 0 ≢ 0
  pub sums : HasRightSums b
  pub is_size : IsPageSize (named_size (low_half b 14) (low_word b 16))

-- what a valid header says: the page size; mxFrame; the salts, which are bytes of the log; the sums of frame mxFrame; how
-- many frames are copied to FILE; and up to which frame somebody began to
pub record IsIndexOf (b : List ℕ) (head : IndexHead) : Type 0 where
  pub valid : IsIndex b
  pub page_size : head.page_size ≡ named_size (low_half b 14) (low_word b 16)
  pub frames : head.frames ≡ low_word b 16
  pub salts : (head.salt1 ≡ word b 32) × (head.salt2 ≡ word b 36)
  pub sum : (head.sum.s0 ≡ low_word b 24) × (head.sum.s1 ≡ low_word b 28)
  pub copied : head.copied ≡ low_word b 96
  pub attempted : head.attempted ≡ low_word b 128

abbrev pub IndexAnswer : List ℕ → Option IndexHead → Type 0
IndexAnswer b None = ¬ IsIndex b
IndexAnswer b (Some head) = IsIndexOf b head

-- frame mxFrame ends a commit of the log, under the salts and with the sums that the index names
pub record IsFrontOf (head : IndexHead) (w : List ℕ) : Type 0 where
  pub page_size : log_page_size w ≡ head.page_size
  pub salts : (word w 16 ≡ head.salt1) × (word w 20 ≡ head.salt2)
  pub frame_salts : (word w (frame_at head.page_size head.frames + 8) ≡ head.salt1) × (word w (frame_at head.page_size head.frames + 12) ≡ head.salt2)
  pub sums : (word w (frame_at head.page_size head.frames + 16) ≡ head.sum.s0) × (word w (frame_at head.page_size head.frames + 20) ≡ head.sum.s1)
  pub commit : IsCommit head.page_size w head.frames
