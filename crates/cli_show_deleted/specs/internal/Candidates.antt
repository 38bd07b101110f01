-- Two lists of deleted cells of a page with their bytes, and what stands in one of them alone.
use Rattle.std.specs.Prelude.{◌≡◌, ◌↔◌, ◌⊎◌, ℕ, suc, ◌*◌, ◌<◌, List, [], ◌∷◌, map, Option, Some, None}
use Rattle.sqval.specs.Bytes.{part}
use Rattle.sqpage.specs.declared.cell.Parts.{Parts}
use Rattle.sqpage.specs.Lists.{In, Every}
use Rattle.sqcheck.specs.declared.role.Role.{Role}
use Rattle.sqdeleted.specs.Deleted.{BeginsRecord}
use Rattle.sqdeleted.specs.DeletedCursor.{AreLeft, Rise}
use Rattle.sqdeleted.specs.declared.cell.DeletedCell.{DeletedCell}
use Rattle.sqdeleted.specs.declared.cursor.DeletedCells.{DeletedCells}
use Rattle.cli_show_deleted.specs.Cells.{StandsIn, IsCellIn}
use Rattle.cli_row_text.specs.declared.form.Form.{Form}
use Rattle.cli_show_deleted.specs.Changes.{Change, IsChangeText, went, came, turns_of}
use Rattle.cli_show_deleted.specs.declared.candidate.Candidate.{Candidate}
use Rattle.cli_show_deleted.specs.declared.turn.Found.{Found}
use Rattle.cli_show_deleted.specs.declared.turn.Found.TheVariants.{Same, Went, Came}

-- This is the cell that stands at its place, with its bytes, and what lies in them begins a record.
pub record IsCandidateIn (used : List ℕ) (number : ℕ) (x : Candidate) : Type 0 where
  pub cell : IsCellIn used number x.cell
  pub bytes : x.bytes.now ≡ part used x.cell.at x.cell.size
  pub begins : BeginsRecord x.cell.payload x.cell.local.now

abbrev pub place_of : Candidate → ℕ
place_of x = x.cell.at

abbrev pub places : List Candidate → List ℕ
places xs = map place_of xs

-- They are those that a cursor gave to its end.
abbrev pub AreCollected : DeletedCells → List Candidate → Type 0
AreCollected s xs = AreLeft s (places xs) × Every (IsCandidateIn s.used.now s.number) xs

-- They are the deleted cells of a page, each once, in the order of their places.
pub record AreCandidatesOf (role : Role) (used : List ℕ) (number : ℕ) (xs : List Candidate) : Type 0 where
  pub rise : Rise 0 (places xs)
  pub all : (at : ℕ) → In at (places xs) ↔ ((c : Parts) × StandsIn role used number at c)
  pub each : Every (IsCandidateIn used number) xs

-- The places rise, and each begins a record.
pub record AreSound (xs : List Candidate) : Type 0 where
  pub rise : Rise 0 (places xs)
  pub begin : Every (λ x. BeginsRecord x.cell.payload x.cell.local.now) xs

-- One of them has these bytes at this place.
abbrev pub Holds : List Candidate → (at : ℕ) → (bytes : List ℕ) → Type 0
Holds xs at bytes = (x : Candidate) × In x xs × (x.cell.at ≡ at) × (x.bytes.now ≡ bytes)

-- One does that none of the others is.
abbrev pub IsOnlyOf : (xs others : List Candidate) → (at : ℕ) → Type 0
IsOnlyOf xs others at = (bytes : List ℕ) × Holds xs at bytes × ¬ Holds others at bytes

abbrev pub IsCellAmong : List Candidate → DeletedCell → Type 0
IsCellAmong xs cell = (x : Candidate) × In x xs × (x.cell ≡ cell)

abbrev pub IsChangeAmong : (old new : List Candidate) → Change → Type 0
IsChangeAmong old new (went cell) = IsCellAmong old cell
IsChangeAmong old new (came cell) = IsCellAmong new cell

-- These are the changes between two such lists, each once, in their turn.
pub record AreChangesAmong (old new : List Candidate) (changes : List Change) : Type 0 where
  pub rise : Rise 0 (turns_of changes)
  pub gone : (at : ℕ) → In (2 * at) (turns_of changes) ↔ IsOnlyOf old new at
  pub fresh : (at : ℕ) → In (suc (2 * at)) (turns_of changes) ↔ IsOnlyOf new old at
  pub each : Every (IsChangeAmong old new) changes

-- It stands before the first of these, or at its place with other bytes.
abbrev pub IsBefore : Candidate → List Candidate → Type 0
IsBefore x [] = Unit {0}
IsBefore x (y ∷ ys) = (x.cell.at < y.cell.at) ⊎ ((x.cell.at ≡ y.cell.at) × ¬ (x.bytes.now ≡ y.bytes.now))

-- It stands before the first of these.
abbrev pub IsAbove : Candidate → List Candidate → Type 0
IsAbove y [] = Unit {0}
IsAbove y (x ∷ xs) = y.cell.at < x.cell.at

-- What comes first of two such lists, and what is left behind it.
abbrev pub IsTurn : (old new : List Candidate) → Option Found → (olds news : List Candidate) → Type 0
IsTurn old new None olds news = (old ≡ []) × (new ≡ [])
IsTurn old new (Some Same) olds news = (x y : Candidate) × (old ≡ x ∷ olds) × (new ≡ y ∷ news) × (x.cell.at ≡ y.cell.at) × (x.bytes.now ≡ y.bytes.now)
IsTurn old new (Some (Went cell)) olds news = (x : Candidate) × (cell ≡ x.cell) × (old ≡ x ∷ olds) × (new ≡ news) × IsBefore x new
IsTurn old new (Some (Came cell)) olds news = (y : Candidate) × (cell ≡ y.cell) × (new ≡ y ∷ news) × (old ≡ olds) × IsAbove y old

-- what is found begins a record
abbrev pub BeginsFound : Found → Type 0
BeginsFound Same = Unit {0}
BeginsFound (Went cell) = BeginsRecord cell.payload cell.local.now
BeginsFound (Came cell) = BeginsRecord cell.payload cell.local.now

-- its text, which is none where both have it
abbrev pub IsFoundText : (old new : Form) → Found → List ℕ → Type 0
IsFoundText old new Same t = t ≡ []
IsFoundText old new (Went cell) t = IsChangeText old new (went cell) t
IsFoundText old new (Came cell) t = IsChangeText old new (came cell) t
