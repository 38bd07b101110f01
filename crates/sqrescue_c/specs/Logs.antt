-- What the scans of logs answer.
use Rattle.std.specs.Prelude.{◌≡◌, ℕ, suc, ◌<◌, ◌≤◌, nat_lt, cond, List, length, get_or}
use Rattle.sqwal.specs.Header.{named_size}
use Rattle.sqwal.specs.Frames.{page_of, size_of, IsValidFrame, IsFront}
use Rattle.sqwal.specs.Stops.{IsStop}
use Rattle.sqwal.specs.Answers.{LogRefused}
use Rattle.sqwal.specs.declared.error.WalFormatError.{WalFormatError}
use Rattle.sqwal.specs.declared.scan.Why.{Why}
use Rattle.sqrescue_c.specs.Statuses.{wal_status, wal_why}
use Rattle.sqrescue_c.specs.declared.wal.Frame.{Frame}
use Rattle.sqrescue_c.specs.declared.wal.WalReport.{WalReport}

-- the page size of a log's header, 0 where it isn't whole
abbrev pub scanned_size : List ℕ → ℕ
scanned_size w = cond (nat_lt (length w) 32) 0 (named_size w)

-- the valid frames, the last of them that ends a commit, and where the log stops
pub record IsScanned (w : List ℕ) (out : WalReport) : Type 0 where
  pub page_size : out.page_size ≡ scanned_size w
  pub valid : (i : ℕ) → 1 ≤ i → i ≤ out.frames → IsValidFrame (named_size w) w i
  pub all : (i : ℕ) → IsValidFrame (named_size w) w i → i ≤ out.frames
  pub front : IsFront (named_size w) w out.front
  pub none : out.front ≡ 0 → out.pages ≡ 0
  pub some : 1 ≤ out.front → out.pages ≡ size_of (named_size w) w out.front
  pub why_is : Why
  pub numbered : out.why ≡ wal_why why_is
  pub stops : IsStop w out.stop why_is

-- the array begins with the first n frames of the log
pub record AreFrames (w : List ℕ) (n : ℕ) (frames : List Frame) : Type 0 where
  pub long : n ≤ length frames
  pub pages : (i : ℕ) (d : Frame) → i < n → (get_or frames i d).page ≡ page_of (named_size w) w (suc i)
  pub sizes : (i : ℕ) (d : Frame) → i < n → (get_or frames i d).size ≡ size_of (named_size w) w (suc i)

-- the refusal of this number
pub record WalRefused (w : List ℕ) (number : ℕ) : Type 0 where
  pub error : WalFormatError
  pub numbered : number ≡ wal_status error
  pub refused : LogRefused w error
