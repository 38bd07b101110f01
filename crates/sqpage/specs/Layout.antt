-- How the cells and the freeblocks of a b-tree page lie in it (fileformat2, 1.6). All places count from the page's first byte.
use Rattle.std.specs.Prelude.{◌≡◌, ◌≢◌, ℕ, suc, ◌+◌, ◌-◌, ◌<◌, ◌≤◌, ◌⊎◌, ◌==◌, ◌&&◌, nat_lt, nat_le, Bool, List, [], ◌∷◌, ◌++◌, length, max, count_by}
use Rattle.std.specs.List.{range_with_len}
use Rattle.sqpage.specs.declared.cell.Parts.{Parts}
use Rattle.sqpage.specs.declared.fault.Fault.{Fault}
use Rattle.sqpage.specs.declared.fault.Fault.TheVariants as faults
use Rattle.sqpage.specs.Header.{byte, half}
use Rattle.sqpage.specs.Page.{Page, HasParts, head_at, cell_count, content_start_in, pointer, pointers_end_in}

-- Some bytes of a page: the place of the first one, and how many they are.
pub record Span : Type 0 where
  pub start : ℕ
  pub size : ℕ

-- the byte at a place is one of these
abbrev pub covers : Span → (place : ℕ) → Bool
covers s place = nat_le s.start place && nat_lt place (s.start + s.size)

-- how many of the spans have this byte
abbrev pub times_covered : List Span → (place : ℕ) → ℕ
times_covered spans place = count_by (λ s. covers s place) spans

-- no two of the spans share a byte
abbrev pub ShareNone : List Span → Type 0
ShareNone spans = (place : ℕ) → times_covered spans place ≤ 1

-- how many of the n bytes from a place on are in none of the spans
abbrev pub bare_bytes : List Span → (from n : ℕ) → ℕ
bare_bytes spans from n = count_by (λ place. times_covered spans place == 0) (range_with_len from n)

-- A freeblock: its size stands in its third and fourth byte. It begins at `least` or later, has 4 bytes at least and ends
-- in the usable part.
pub record IsFreeblock (used : List ℕ) (least : ℕ) (block : Span) : Type 0 where
  pub after : least ≤ block.start
  pub size : block.size ≡ half used (block.start + 2)
  pub enough : 4 ≤ block.size
  pub within : block.start + block.size ≤ length used

-- The freeblocks from the one at `at` on: each begins behind the begin of the one before and names the next in its first
-- two bytes, where 0 ends them.
abbrev pub AreFreeblocks : List ℕ → (least at : ℕ) → List Span → Type 0
AreFreeblocks used least at [] = at ≡ 0
AreFreeblocks used least at (block ∷ blocks) =
    (at ≢ 0) × (block.start ≡ at) × IsFreeblock used least block × AreFreeblocks used (suc at) (half used at) blocks

-- the freeblocks of a page lie behind the start of its content
abbrev pub HasFreeblocks : Page → List Span → Type 0
HasFreeblocks p blocks = AreFreeblocks p.used (content_start_in p.used p.number) (half p.used (head_at p.number + 1)) blocks

-- what cell i takes: four bytes at least, since a freeblock in its place would take them
pub record IsCellSpan (p : Page) (i : ℕ) (s : Span) : Type 0 where
  pub parts : Parts
  pub has : HasParts p.kind p.used (pointer p i) parts
  pub start : s.start ≡ pointer p i
  pub size : s.size ≡ max (parts.end - pointer p i) 4

-- these are spans of cells, from cell i on
abbrev pub AreCellSpans : Page → (i : ℕ) → List Span → Type 0
AreCellSpans p i [] = Unit {0}
AreCellSpans p i (s ∷ spans) = (i < cell_count p) × IsCellSpan p i s × AreCellSpans p (suc i) spans

-- how many bytes behind the start of the content are in no cell and no freeblock
abbrev pub fragmented : Page → List Span → ℕ
fragmented p spans = bare_bytes spans (content_start_in p.used p.number) (length p.used - content_start_in p.used p.number)

-- and how many the page's header says
abbrev pub fragments_named : Page → ℕ
fragments_named p = byte p.used (head_at p.number + 7)

-- the pointers to the cells end where the content starts, or before
abbrev pub PointersEndBefore : Page → Type 0
PointersEndBefore p = pointers_end_in p.kind p.used p.number ≤ content_start_in p.used p.number

-- The freeblocks are sound, no byte is in two of pointers, cells and freeblocks, and at most 60 bytes, as many as the
-- header says, are in none.
pub record IsLaidOut (p : Page) : Type 0 where
  pub blocks : List Span
  pub cells : List Span
  pub freeblocks : HasFreeblocks p blocks
  pub cells_are : AreCellSpans p 0 cells
  pub all : length cells ≡ cell_count p
  pub pointers : PointersEndBefore p
  pub apart : ShareNone (blocks ++ cells)
  pub fragments : fragmented p (blocks ++ cells) ≡ fragments_named p
  pub few : fragments_named p ≤ 60

-- Pointers reach into the content, or a byte is in two of the freeblocks and the first cells.
abbrev pub Overlaps : Page → (blocks : List Span) → Type 0
Overlaps p blocks = ¬ PointersEndBefore p ⊎ ((cells : List Span) × AreCellSpans p 0 cells × ¬ ShareNone (blocks ++ cells))

-- The first fault in the layout of a page, in the order freeblocks, overlaps, fragments.
abbrev pub LayoutRefused : Fault → Page → Type 0
LayoutRefused faults.Freeblock p = (blocks : List Span) → ¬ HasFreeblocks p blocks
LayoutRefused faults.Overlap p = (blocks : List Span) × HasFreeblocks p blocks × Overlaps p blocks
LayoutRefused faults.Fragments p =
    (blocks cells : List Span) × HasFreeblocks p blocks × AreCellSpans p 0 cells × (length cells ≡ cell_count p)
    × PointersEndBefore p × ShareNone (blocks ++ cells)
    × ((fragmented p (blocks ++ cells) ≢ fragments_named p) ⊎ (60 < fragments_named p))
LayoutRefused faults.NoMemory p = Unit {0}
LayoutRefused _ p = ⊥
