-- Payloads with their overflow chains (fileformat2, 1.7): the local part stands in the cell, and the rest in pages, each of
-- which names the next one in its first four bytes.
use Rattle.std.specs.Prelude.{◌≡◌, ◌≢◌, ℕ, ◌+◌, ◌-◌, ◌/◌, ◌<◌, ◌≤◌, ◌⊎◌, List, ◌++◌, length, take, drop, flat_map, unwrap_or}
use Rattle.sqval.specs.Database.{Database, page}
use Rattle.sqpage.specs.declared.cell.Cell.{Cell}
use Rattle.sqpage.specs.declared.fault.Fault.{Fault}
use Rattle.sqpage.specs.declared.fault.Fault.TheVariants as faults
use Rattle.sqpage.specs.Lists.{In, Apart}
use Rattle.sqpage.specs.Freelist.{IsPage, Leads}

-- the size of a cell's payload, and how much of it is not in the cell
abbrev pub payload_size : Cell → ℕ
payload_size cell = unwrap_or cell.payload 0

abbrev pub bytes_beyond : Cell → ℕ
bytes_beyond cell = payload_size cell - length cell.local.now

-- how many pages that takes, of which each holds 4 bytes less than it has usable ones
abbrev pub links : Cell → ℕ
links cell = (bytes_beyond cell + (cell.usable - 5)) / (cell.usable - 4)

-- the contents of these pages, where u bytes of each are usable
abbrev pub contents : Database → (u : ℕ) → List ℕ → List ℕ
contents d u = flat_map (λ p. take (u - 4) (drop 4 (page d p)))

-- From the cell on, these pages are named one by one and none twice, and then page `at` names the number p.
pub record Follows (d : Database) (cell : Cell) (pages : List ℕ) (at p : ℕ) : Type 0 where
  pub linked : Leads d cell.page cell.overflow pages at p
  pub distinct : Apart pages

-- The payload of the cell: as many pages as it needs, the last of which names 0.
pub record IsPayload (d : Database) (cell : Cell) (content : List ℕ) : Type 0 where
  pub pages : List ℕ
  pub last : ℕ
  pub enough : length pages ≡ links cell
  pub follows : Follows d cell pages last 0
  pub content_is : content ≡ take (payload_size cell) (cell.local.now ++ contents d cell.usable pages)

-- Where a chain that is followed breaks off: the first fault on its way.
abbrev pub ChainBroken : Database → Cell → Fault → (at : ℕ) → Type 0
ChainBroken d cell faults.ChainCut at = (pages : List ℕ) × Follows d cell pages at 0 × (length pages < links cell)
ChainBroken d cell faults.ChainLong at = (pages : List ℕ) × (p : ℕ) × Follows d cell pages at p × (length pages ≡ links cell) × (p ≢ 0)
ChainBroken d cell faults.PageTwice at = (pages : List ℕ) × (holder : ℕ) × Follows d cell pages holder at × (length pages < links cell) × IsPage d at × In at pages
ChainBroken d cell faults.PageOutside at = (pages : List ℕ) × (p : ℕ) × Follows d cell pages at p × (length pages < links cell) × (p ≢ 0) × ¬ IsPage d p
ChainBroken d cell faults.NoMemory at = Unit {0}
ChainBroken d cell _ at = ⊥

-- The first fault of a chain: it needs more pages than there are, which is judged before it is followed, or it breaks off.
abbrev pub ChainRefused : Database → Cell → Fault → (at : ℕ) → Type 0
ChainRefused d cell fault at =
    ((fault ≡ faults.ChainCut) × (at ≡ cell.page) × (length d < links cell))
    ⊎ ((links cell ≤ length d) × ChainBroken d cell fault at)
