-- Faults of a database's pages (own).
use Rattle.std.specs.Prelude.{◌≡◌, ◌≢◌, ℕ, ◌<◌, List, slice_get, Option, Some, None}
use Rattle.sqpage.specs.declared.fault.CheckError.{CheckError}
use Rattle.sqpage.specs.declared.fault.Fault.{Fault}
use Rattle.sqpage.specs.declared.fault.Fault.TheVariants.{SchemaRecord}

-- the first fault of a page, if it has one
abbrev pub IsFirstFault : (faults : List CheckError) → (page : ℕ) → Option Fault → Type 0
IsFirstFault faults page (Some fault) =
    (i : ℕ) × (slice_get faults i ≡ Some (record { page = page; fault = fault }))
    × ((j : ℕ) (e : CheckError) → j < i → slice_get faults j ≡ Some e → e.page ≢ page)
IsFirstFault faults page None = (j : ℕ) (e : CheckError) → slice_get faults j ≡ Some e → e.page ≢ page

-- the page has a fault other than that of a row of the schema
abbrev pub IsUnsound : (faults : List CheckError) → (page : ℕ) → Type 0
IsUnsound faults page = (i : ℕ) × (e : CheckError) × (slice_get faults i ≡ Some e) × (e.page ≡ page) × (e.fault ≢ SchemaRecord)
