-- What an engine knows of the databases that its log shows, between one beginning of the log and the next (own).
use Rattle.std.specs.Prelude.{◌≡◌, ◌≢◌, ◌⊎◌, ℕ, ◌+◌, ◌<◌, ◌≤◌, List, [], length, get_or}
use Rattle.sqval.specs.Database.{Database, page, file_page}
use Rattle.sqwal.specs.Frames.{page_of, size_of, IsCommit}
use Rattle.sqwal.specs.Log.{IsLog}
use Rattle.sqwal.specs.View.{Unnamed, IsOver}
use Rattle.sqval.specs.Held.{IsJust, IsHeld}

-- the end of a commit, or the beginning
abbrev pub IsBoundary : (size : ℕ) → List ℕ → (m : ℕ) → Type 0
IsBoundary size e m = (m ≡ 0) ⊎ IsCommit size e m

-- the database of the history after the commit that ends with frame m
abbrev pub shown : List Database → (index : ℕ → ℕ) → (m : ℕ) → Database
shown h index m = get_or h (index m) []

-- The log e with its n frames, all that was made since it was begun, over the database that was there then: each
-- boundary m of it shows the database number `index m` of the history, and the last one its last. The mark is the first
-- boundary that shows the last one: behind it stand no frames but a copy of its last.
pub record IsEra (size : ℕ) (e : List ℕ) (n mark : ℕ) (h : List Database) (index : ℕ → ℕ) : Type 0 where
  pub log : IsLog size e n
  pub ends : IsBoundary size e n
  pub last : index n + 1 ≡ length h
  pub rises : (i j : ℕ) → i ≤ j → j ≤ n → index i ≤ index j
  pub held : (i : ℕ) → i < length h → IsHeld size (get_or h i [])
  pub sizes : (m : ℕ) → 1 ≤ m → m ≤ n → IsCommit size e m → length (shown h index m) ≡ size_of size e m
  pub shows : (m : ℕ) → m ≤ n → IsBoundary size e m → IsOver size (page (shown h index 0)) e m (shown h index m)
  -- a page that a later database has was there before, or a frame in between names it
  pub grows : (k m p : ℕ) → k ≤ m → m ≤ n → IsBoundary size e k → IsBoundary size e m → 1 ≤ p → p ≤ length (shown h index m)
      → ((i : ℕ) → k < i → i ≤ m → page_of size e i ≢ p) → p ≤ length (shown h index k)
  pub marked : (mark ≤ n) × IsBoundary size e mark × (index mark ≡ index n)
  pub first : (m : ℕ) → m ≤ n → IsBoundary size e m → index m ≡ index n → mark ≤ m

-- A file that a crash may leave, where checkpoints up to frame c were begun, with none c is 0: what the frames up to c
-- don't name is as it was when the log was begun.
pub record IsUnder (size : ℕ) (e : List ℕ) (h : List Database) (index : ℕ → ℕ) (c : ℕ) (db : List ℕ) : Type 0 where
  pub untouched : c ≡ 0 → IsJust size (shown h index 0) db
  pub rest : (p : ℕ) → 1 ≤ p → p ≤ length (shown h index 0) → p ≤ length (shown h index c) → Unnamed size e c p → page (shown h index 0) p ≡ file_page size db p
