-- The cells of a gap, place by place.
use Rattle.std.proofs.Common.{◌≡◌, ℕ, ◌+◌, ◌<◌, ◌≤◌, nat_lt, List, drop, Bool, true, false, Option, Some, None, inl, inr, sym, ap, subst, arith}
use Rattle.std.proofs.lemmas.Bool.{cases_eq}
use Rattle.sqval.specs.Bytes.{part}
use Rattle.sqpage.specs.declared.cell.Parts.{Parts}
use Rattle.sqpage.specs.declared.kind.Kind.TheVariants.{TableLeaf}
use Rattle.sqpage.specs.Page.{HasParts, FourBytes}
use Rattle.sqpage.proofs.btree.PartsOfCells.{varint_size, FindsParts}
use Rattle.sqdeleted.specs.Deleted.{BeginsRecord, IsShort, StandsBetween}

ends_behind : (b : Bool) (used : List ℕ) (from end n : ℕ) → FourBytes b used from end n → from ≤ end
ends_behind true used from end n h = let e : end ≡ from + 4 = h.0 in omega (arith, e)
ends_behind false used from end n h = let e : end ≡ from = h.0 in omega (arith, e)

-- a cell takes a byte at least
pub cell_takes : (used : List ℕ) (at : ℕ) (c : Parts) → HasParts TableLeaf used at c → at < c.end
cell_takes used at c h =
    let child : h.after_child ≡ at = h.child.0 in
    let payload : h.after_size ≡ h.after_child + h.payload.0 = h.payload.1 in
    let rowid : c.body ≡ h.after_size + h.rowid.0 = h.rowid.1 in
    let takes = varint_size c.payload h.payload.0 (drop h.after_child used) h.payload.2 in
    let one : 1 ≤ h.payload.0 = takes.0 in
    let end : c.body + c.local ≤ c.end = ends_behind (nat_lt c.local c.payload) used (c.body + c.local) c.end c.overflow h.overflow in
    omega (arith, child, payload, rowid, one, end)

-- the same cell between other places
pub between : (used : List ℕ) (from to other end at : ℕ) (c : Parts) → other ≤ at → c.end ≤ end → StandsBetween used from to at c → StandsBetween used other end at c
between used from to other end at c after before s = record { after = after; before = before; has = s.has; begins = s.begins; short = s.short }

pub moved : (used : List ℕ) (from to at place : ℕ) (c : Parts) → place ≡ at → StandsBetween used from to place c → StandsBetween used at to at c
moved used from to at place c e s =
    let same : StandsBetween used from to at c = subst (λ (p : ℕ). StandsBetween used from to p c) e s in
    between used from to at to at c (omega arith) same.before same

-- one place more
pub passes : (used : List ℕ) (from to at : ℕ) → ((p : ℕ) (c : Parts) → p < at → ¬ StandsBetween used from to p c) → ((c : Parts) → ¬ StandsBetween used at to at c)
    → (p : ℕ) (c : Parts) → p < at + 1 → ¬ StandsBetween used from to p c
passes used from to at before here p c below s = elim (cases_eq p at) [
  | inl same ↦ here c (moved used from to at p c same s)
  | inr other ↦ before p c (omega arith) s
]

-- behind the last place
pub exhausted : (used : List ℕ) (from to at : ℕ) → ((p : ℕ) (c : Parts) → p < at → ¬ StandsBetween used from to p c) → to ≤ at
    → (p : ℕ) (c : Parts) → ¬ StandsBetween used from to p c
exhausted used from to at before end p c s =
    let takes : p < c.end = cell_takes used p c s.has in
    let within : c.end ≤ to = s.before in
    before p c (omega (arith, takes, within, end)) s

only_parts : (found : Option Parts) (used : List ℕ) (at : ℕ) (parts c : Parts) → found ≡ Some parts → FindsParts found TableLeaf used at → HasParts TableLeaf used at c → parts ≡ c
only_parts found used at parts c is finds has = let other : found ≡ Some c = (finds c).1 has in cc

-- no cell stands where none is read, where it ends too late, and where its payload begins no record
pub no_parts : (found : Option Parts) (used : List ℕ) (at to : ℕ) → found ≡ None → FindsParts found TableLeaf used at → (c : Parts) → ¬ StandsBetween used at to at c
no_parts found used at to is finds c s = let other : found ≡ Some c = (finds c).1 s.has in absurd (cc)

pub too_long : (found : Option Parts) (used : List ℕ) (at to : ℕ) (parts : Parts) → found ≡ Some parts → FindsParts found TableLeaf used at → to < parts.end
    → (c : Parts) → ¬ StandsBetween used at to at c
too_long found used at to parts is finds long c s =
    let same : parts.end ≡ c.end = ap (λ (p : Parts). p.end) (only_parts found used at parts c is finds s.has) in
    let within : c.end ≤ to = s.before in
    omega (arith, same, long, within)

pub no_record : (found : Option Parts) (used : List ℕ) (at to : ℕ) (parts : Parts) → found ≡ Some parts → FindsParts found TableLeaf used at
    → ((b : BeginsRecord parts.payload (part used parts.body parts.local)) → ¬ IsShort b) → (c : Parts) → ¬ StandsBetween used at to at c
no_record found used at to parts is finds none c s =
    let w = subst (λ (p : Parts). (b : BeginsRecord p.payload (part used p.body p.local)) × IsShort b) (sym (only_parts found used at parts c is finds s.has)) (s.begins, s.short) in
    none w.0 w.1
