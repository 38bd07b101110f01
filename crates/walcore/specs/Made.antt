-- Logs as they were made (fileformat2, 4.1), each under salts of its own: a header, and all frames made behind it.
use Rattle.std.specs.Prelude.{◌≡◌, ℕ, suc, ◌+◌, ◌<◌, ◌≤◌, cond, ◌==◌, List, [], length, take, get_or}
use Rattle.std.specs.List.{Contains}
use Rattle.sqval.specs.Bytes.{part, word, AreBytes}
use Rattle.sqval.specs.Database.{Pages}
use Rattle.sqwal.specs.Header.{IsHeader, named_size}
use Rattle.sqwal.specs.Frames.{frame_at, frame_end, page_of, size_of, content_of, IsValidFrame}
use Rattle.sqwal.specs.Log.{IsLog}
use Rattle.sqwal.specs.Refusal.{most_frames}

-- each is a log that can be scanned, and no two have the same salts
pub record AreMade (size : ℕ) (logs : List (List ℕ)) : Type 0 where
  pub each : (e : List ℕ) → Contains logs e → (n : ℕ) × IsLog size e n × (n ≤ most_frames)
  pub new_salts : (i j : ℕ) → i < length logs → j < length logs → word (get_or logs i []) 16 ≡ word (get_or logs j []) 16 → word (get_or logs i []) 20 ≡ word (get_or logs j []) 20 → i ≡ j

-- no made log has these salts
abbrev pub HasNewSalts : List (List ℕ) → (salt1 salt2 : ℕ) → Type 0
HasNewSalts logs salt1 salt2 = (e : List ℕ) → Contains logs e → word e 16 ≡ salt1 → word e 20 ≡ salt2 → ⊥

-- What passes in a log is nothing but what was made: a valid header, of any page size, is a made log's, and a valid
-- frame is one of theirs, at that place.
pub record NoChance (logs : List (List ℕ)) (w : List ℕ) : Type 0 where
  pub header : IsHeader (named_size w) w → (e : List ℕ) × Contains logs e × (take 32 w ≡ take 32 e)
  pub frame : (i : ℕ) → IsValidFrame (named_size w) w i → (e : List ℕ) × Contains logs e × (frame_end (named_size w) i ≤ length e)
      × (part w (frame_at (named_size w) i) (24 + named_size w) ≡ part e (frame_at (named_size w) i) (24 + named_size w))

-- the bytes of a header alone, with this sequence and these salts, whose sums are over words with the highest byte first
pub record IsBegun (size sequence salt1 salt2 : ℕ) (e : List ℕ) : Type 0 where
  pub bytes : AreBytes e
  pub alone : length e ≡ 32
  pub header : IsHeader size e
  pub magic : word e 0 ≡ 0x377f0683
  pub sequence_is : word e 12 ≡ sequence
  pub salt1_is : word e 16 ≡ salt1
  pub salt2_is : word e 20 ≡ salt2

-- frames of these pages behind the n frames of the log e; the last one carries the size after the commit
pub record IsExtended (size : ℕ) (e : List ℕ) (n : ℕ) (pages : Pages) (s : ℕ) (f : List ℕ) : Type 0 where
  pub bytes : AreBytes f
  pub log : IsLog size f (n + length pages)
  pub front : take (length e) f ≡ e
  pub page : (k : ℕ) → k < length pages → page_of size f (n + suc k) ≡ (get_or pages k (0, [])).0
  pub content : (k : ℕ) → k < length pages → content_of size f (n + suc k) ≡ (get_or pages k (0, [])).1
  pub sizes : (k : ℕ) → k < length pages → size_of size f (n + suc k) ≡ cond (suc k == length pages) s 0
