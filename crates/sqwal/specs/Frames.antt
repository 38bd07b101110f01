-- The frames of a log, and its front (fileformat2, 4.1 and 4.5).
use Rattle.std.specs.Prelude.{◌≡◌, ◌≢◌, ◌⊎◌, ℕ, zero, suc, ◌+◌, ◌-◌, ◌*◌, ◌≤◌, List, ◌++◌, length}
use Rattle.sqval.specs.Bytes.{part, word}
use Rattle.byteorder.specs.Endian.{big_bytes}
use Rattle.sqwal.specs.Sums.{words, sum_0, sum_1, GoesOn}
use Rattle.sqwal.specs.Header.{order_of, IsHeader}
use Rattle.sqwal.specs.declared.header.WalHeader.{WalHeader}
use Rattle.sqwal.specs.declared.sum.Sum.{Sum}

-- where frame i begins, from 1, and where it ends
unfoldable pub frame_at : (size i : ℕ) → ℕ
frame_at size i = 32 + (i - 1) * (24 + size)

unfoldable pub frame_end : (size i : ℕ) → ℕ
frame_end size i = 32 + i * (24 + size)

-- the page that frame i names, the database's size in pages after its commit, and the page's bytes
abbrev pub page_of : (size : ℕ) → List ℕ → (i : ℕ) → ℕ
page_of size w i = word w (frame_at size i)

abbrev pub size_of : (size : ℕ) → List ℕ → (i : ℕ) → ℕ
size_of size w i = word w (frame_at size i + 4)

abbrev pub content_of : (size : ℕ) → List ℕ → (i : ℕ) → List ℕ
content_of size w i = part w (frame_at size i + 24) size

-- what the sums of frame i are over: the header's first 24 bytes, and the first 8 bytes and the page of each frame
-- up to it
unfoldable pub summed : (size : ℕ) → List ℕ → (i : ℕ) → List ℕ
summed size w zero = part w 0 24
summed size w (suc i) = summed size w i ++ part w (frame_at size (suc i)) 8 ++ content_of size w (suc i)

-- the salts of frame i are the header's
abbrev pub HasSalts : (size : ℕ) → List ℕ → (i : ℕ) → Type 0
HasSalts size w i = (word w (frame_at size i + 8) ≡ word w 16) × (word w (frame_at size i + 12) ≡ word w 20)

-- the sums of frame i are those up to it
abbrev pub HasSums : (size : ℕ) → List ℕ → (i : ℕ) → Type 0
HasSums size w i = (word w (frame_at size i + 16) ≡ sum_0 (words (order_of w) (summed size w i))) × (word w (frame_at size i + 20) ≡ sum_1 (words (order_of w) (summed size w i)))

-- frame i by itself
pub record Passes (size : ℕ) (w : List ℕ) (i : ℕ) : Type 0 where
  pub header : IsHeader size w
  pub whole : frame_end size i ≤ length w
  pub salts : HasSalts size w i
  pub page : page_of size w i ≢ 0
  pub sums : HasSums size w i

-- frames 1 to i
abbrev pub AllPass : (size : ℕ) → List ℕ → (i : ℕ) → Type 0
AllPass size w i = (j : ℕ) → 1 ≤ j → j ≤ i → Passes size w j

-- frame i passes, and so do all before it
pub record IsValidFrame (size : ℕ) (w : List ℕ) (i : ℕ) : Type 0 where
  pub first : 1 ≤ i
  pub each : AllPass size w i

-- frame i ends a commit
abbrev pub IsCommit : (size : ℕ) → List ℕ → (i : ℕ) → Type 0
IsCommit size w i = size_of size w i ≢ 0

-- the greatest valid commit frame, or 0
pub record IsFront (size : ℕ) (w : List ℕ) (m : ℕ) : Type 0 where
  pub is : (m ≡ 0) ⊎ (IsValidFrame size w m × IsCommit size w m)
  pub greatest : (i : ℕ) → IsValidFrame size w i → IsCommit size w i → i ≤ m

-- the header of a frame, whose sums are those of all before it, of its own first 8 bytes and of its page
pub record IsFrameHead (h : WalHeader) (before : Sum) (page size : ℕ) (content head : List ℕ) (after : Sum) : Type 0 where
  pub sum : GoesOn h.order (big_bytes 4 page ++ big_bytes 4 size ++ content) before after
  pub bytes : head ≡ big_bytes 4 page ++ big_bytes 4 size ++ big_bytes 4 h.salt1 ++ big_bytes 4 h.salt2 ++ big_bytes 4 after.s0 ++ big_bytes 4 after.s1
