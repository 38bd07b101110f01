-- Whether a journal is hot, by its front and its length (fileformat2, 3).
use Rattle.std.specs.Prelude.{◌≡◌, ℕ, ◌≤◌, List, length, take}
use Rattle.sqjournal.specs.Journal.{IsHot}

-- the front has a header's bytes
abbrev pub HasHeader : (front : List ℕ) → Type 0
HasHeader front = 28 ≤ length front

-- each journal of this length that begins with these 28 bytes is hot, or none of them is
abbrev pub IsHotIf : (front : List ℕ) → (len : ℕ) → Type 0
IsHotIf front len = (journal : List ℕ) → length journal ≡ len → take 28 journal ≡ front → IsHot journal

abbrev pub IsColdIf : (front : List ℕ) → (len : ℕ) → Type 0
IsColdIf front len = (journal : List ℕ) → length journal ≡ len → take 28 journal ≡ front → ¬ IsHot journal
