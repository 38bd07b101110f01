-- What an engine knows of the databases that its log shows, between one beginning of the log and the next (own).
use Rattle.std.specs.Prelude.{◌≡◌, ◌≢◌, ℕ, ◌<◌, ◌≤◌, List, length, take}
use Rattle.sqval.specs.Database.{Database, page}
use Rattle.sqwal.specs.Frames.{frame_end, page_of, size_of, content_of}
use Rattle.sqwal.specs.View.{IsLast}

-- A log that a crash may leave, of which the frames 1 to d are durable.
pub record IsDurable (size : ℕ) (e : List ℕ) (d : ℕ) (w : List ℕ) : Type 0 where
  pub long : frame_end size d ≤ length w
  pub same : take (frame_end size d) w ≡ take (frame_end size d) e

-- What the frames n + 1 to m of a log make of a database.
pub record IsApplied (size : ℕ) (f : List ℕ) (n m : ℕ) (old new : Database) : Type 0 where
  pub count : length new ≡ size_of size f m
  pub put : (p i : ℕ) → 1 ≤ p → p ≤ length new → n < i → IsLast size f m p i → page new p ≡ content_of size f i
  pub kept : (p : ℕ) → 1 ≤ p → p ≤ length new → ((i : ℕ) → n < i → i ≤ m → page_of size f i ≢ p) → (p ≤ length old) × (page new p ≡ page old p)
