-- The freelist (fileformat2, 1.5): trunks, each of which names the next one and its leaves.
use Rattle.std.specs.Prelude.{◌≡◌, ◌≢◌, ℕ, ◌+◌, ◌-◌, ◌*◌, ◌/◌, ◌<◌, ◌≤◌, ◌⊎◌, List, [], ◌∷◌, ◌++◌, length, flat_map}
use Rattle.sqval.specs.Bytes.{word}
use Rattle.sqval.specs.Database.{Database, page}
use Rattle.sqpage.specs.declared.fault.Fault.{Fault}
use Rattle.sqpage.specs.declared.fault.Fault.TheVariants as faults
use Rattle.sqpage.specs.Header.{byte}
use Rattle.sqpage.specs.Lists.{In, Every, Apart, each_from}

-- p is one of so many pages
abbrev pub IsWithin : (n p : ℕ) → Type 0
IsWithin n p = (0 < p) × (p ≤ n)

abbrev pub IsPage : Database → ℕ → Type 0
IsPage d p = IsWithin (length d) p

-- how much of each page is used: the header's byte at 20 says how much of its end is not
abbrev pub usable_size : Database → ℕ
usable_size d = length (page d 1) - byte (page d 1) 20

-- the first trunk and the count of free pages, as the header has them
abbrev pub first_trunk : Database → ℕ
first_trunk d = word (page d 1) 32

abbrev pub free_pages : Database → ℕ
free_pages d = word (page d 1) 36

-- what the bytes of a trunk say: the next trunk or 0, how many leaves, and which
abbrev pub next_in : List ℕ → ℕ
next_in b = word b 0

abbrev pub leaf_count_in : List ℕ → ℕ
leaf_count_in b = word b 4

abbrev pub leaf_in : List ℕ → (i : ℕ) → ℕ
leaf_in b i = word b (8 + 4 * i)

abbrev pub leaves_in : List ℕ → List ℕ
leaves_in b = each_from 0 (leaf_count_in b) (leaf_in b)

-- how many leaves a trunk names at most
abbrev pub most_leaves : Database → ℕ
most_leaves d = usable_size d / 4 - 2

-- From the number `from`, which page `holder` names, the trunks lead to the number `to`, which page `at` names.
abbrev pub Leads : Database → (holder from : ℕ) → List ℕ → (at to : ℕ) → Type 0
Leads d holder from [] at to = (holder ≡ at) × (from ≡ to)
Leads d holder from (t ∷ trunks) at to = (from ≡ t) × IsPage d t × Leads d t (next_in (page d t)) trunks at to

-- the trunks with their leaves, in order
abbrev pub pages_under : Database → List ℕ → List ℕ
pages_under d = flat_map (λ t. t ∷ leaves_in (page d t))

-- Such trunks with their leaves are pages, none twice, and no trunk has too many leaves.
pub record AreSound (d : Database) (trunks : List ℕ) : Type 0 where
  pub few : Every (λ t. leaf_count_in (page d t) ≤ most_leaves d) trunks
  pub within : Every (IsPage d) (pages_under d trunks)
  pub distinct : Apart (pages_under d trunks)

-- The pages of sound trunks with their leaves were taken in order, and the number p comes next: page `holder` names it
-- as the next trunk.
pub record Reaches (d : Database) (taken : List ℕ) (holder p : ℕ) : Type 0 where
  pub trunks : List ℕ
  pub linked : Leads d 1 (first_trunk d) trunks holder p
  pub sound : AreSound d trunks
  pub taken_are : taken ≡ pages_under d trunks

-- The pages of the freelist in order: each trunk, its leaves, the next trunk. The last trunk names 0 as the next.
abbrev pub IsFreelist : Database → List ℕ → Type 0
IsFreelist d pages = (last : ℕ) × Reaches d pages last 0

-- Behind the pages `taken`, which are sound so far, page `holder` names the number p as a trunk.
abbrev pub NamesTrunk : Database → (taken : List ℕ) → (holder p : ℕ) → Type 0
NamesTrunk d taken holder p = Reaches d taken holder p × (p ≢ 0)

-- Behind the pages `taken`, which are sound so far, the trunk `holder` names the number p as a leaf.
pub record NamesLeaf (d : Database) (taken : List ℕ) (holder p : ℕ) : Type 0 where
  pub before : List ℕ
  pub above : ℕ
  pub trunk : NamesTrunk d before above holder
  pub few : leaf_count_in (page d holder) ≤ most_leaves d
  pub index : ℕ
  pub below : index < leaf_count_in (page d holder)
  pub is : p ≡ leaf_in (page d holder) index
  pub taken_are : taken ≡ before ++ holder ∷ each_from 0 index (leaf_in (page d holder))
  pub within : Every (IsPage d) taken
  pub distinct : Apart taken

-- it does so as a trunk, or as a leaf
abbrev pub Names : Database → (taken : List ℕ) → (holder p : ℕ) → Type 0
Names d taken holder p = NamesTrunk d taken holder p ⊎ NamesLeaf d taken holder p

-- The first fault of the freelist, at a page. In order: a trunk before its leaves, a trunk's leaves before the next
-- trunk, the count at the end.
abbrev pub FreelistRefused : Database → Fault → (at : ℕ) → Type 0
FreelistRefused d faults.PageTwice at = (taken : List ℕ) × (holder : ℕ) × Names d taken holder at × IsPage d at × In at taken
FreelistRefused d faults.PageOutside at = (taken : List ℕ) × (p : ℕ) × Names d taken at p × ¬ IsPage d p
FreelistRefused d faults.FreeCount at =
    ((taken : List ℕ) × (holder : ℕ) × NamesTrunk d taken holder at × IsPage d at × ¬ In at taken × (most_leaves d < leaf_count_in (page d at)))
    ⊎ ((at ≡ 1) × (pages : List ℕ) × IsFreelist d pages × (length pages ≢ free_pages d))
FreelistRefused d faults.NoMemory at = Unit {0}
FreelistRefused d _ at = ⊥
