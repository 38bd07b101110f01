-- The steps of a commit by what stands on the disk meanwhile: the old contents of pages go into the journal, segment by
-- segment, and so all that a crash may leave shows the old database (fileformat2, 3; segments are own).
use Rattle.std.specs.Prelude.{◌≡◌, ℕ, ◌+◌, List, ◌∷◌, ◌++◌, map, take, drop, []}
use Rattle.sqval.specs.Bytes.{word}
use Rattle.sqval.specs.Database.{Database, Pages, page}
use Rattle.byteorder.specs.Endian.{big_bytes}
use Rattle.sqjournal.specs.NonceSum.{nonce_sum}
use Rattle.sqjournal.specs.Header.{next_header}
use Rattle.sqjournal.specs.Journal.{Segment, Sizes, records_end, IsHeader, AreRecords, AreAll}
use Rattle.rollcore.specs.Machine.{segment_records}

-- ---- Journals as lists of bytes.

-- the pages of these numbers, as records
abbrev pub old_pages : Database → List ℕ → Pages
old_pages d numbers = map (λ p. (p, page d p)) numbers

-- the sizes of a journal on sectors and of pages of these sizes
abbrev pub sizes : (sector size : ℕ) → Sizes
sizes sector size = record { sector = sector; page = size }

-- a record of a page
abbrev pub record_bytes : (number nonce : ℕ) → (content : List ℕ) → List ℕ
record_bytes number nonce content = big_bytes 4 number ++ content ++ big_bytes 4 (nonce_sum nonce content)

-- where the next header begins, behind a segment of these records
abbrev pub next_place : Sizes → (place : ℕ) → Pages → ℕ
next_place z place records = next_header z.sector (records_end z (place + z.sector) records)

-- segments with all their records, one after another up to the place of the next header
abbrev pub AreFull : Sizes → List ℕ → (from : ℕ) → List Segment → (place : ℕ) → Type 0
AreFull z b from [] place = place ≡ from
AreFull z b from (s ∷ ss) place =
    IsHeader z b from × (s.count ≡ word b (from + 8)) × (s.nonce ≡ word b (from + 12)) × AreRecords z b s.nonce (from + z.sector) s.records
    × AreAll s.count s.records × AreFull z b (next_place z from s.records) ss place

-- up to a place stand full segments, which have these nonces, each with its records, in order
abbrev pub HasParts : Sizes → List ℕ → (place : ℕ) → (parts : List (ℕ × Pages)) → Type 0
HasParts z b place parts = (segments : List Segment) × AreFull z b 0 segments place × (map (λ s. (s.nonce, s.records)) segments ≡ parts)

-- Each nonce has the next 64 of these numbers, as records, the last one those that are left.
abbrev pub parts_of : Database → (numbers nonces : List ℕ) → List (ℕ × Pages)
parts_of d numbers [] = []
parts_of d numbers (nonce ∷ nonces) = (nonce, old_pages d (take segment_records numbers)) ∷ parts_of d (drop segment_records numbers) nonces
