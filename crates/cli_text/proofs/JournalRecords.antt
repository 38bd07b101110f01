-- The records of a journal.
use Rattle.std.proofs.Common.{◌≡◌, ℕ, ◌+◌, ◌-◌, ◌==◌, Bool, false, List, length, Option, None, if◌then◌else◌, sym, ap, ◌∙◌, arith}
use Rattle.std.specs.Prelude.{slice_get}
use Rattle.std.proofs.lemmas.Bool.Decides.{nat_tests}
use Rattle.sqjournal.specs.Journal.{Segment, entries, entry_of, sizes_of}
use Rattle.sqjournal.specs.Took.{HasCount, HasEntry, Says}
use Rattle.sqjournal.specs.declared.reading.Record.{Record}
use Rattle.sqjournal.specs.declared.replay.Stop.{Stop}
use Rattle.sqjournal.proofs.read.UniquenessOfReading.{one_journal}

-- a journal has one list of segments, and so of records
same_records : (b : List ℕ) (records : List Record) (stop : Stop) (says : Says b records stop) (segments : List Segment)
    → says.segments ≡ segments → records ≡ entries (sizes_of b) 0 segments
same_records b records stop says segments same =
    sym says.records ∙ ap (λ (l : List Segment). entries (sizes_of b) 0 l) same

-- as many as are counted
pub counted : (b : List ℕ) (records : List Record) (stop : Stop) (n : ℕ) → Says b records stop → HasCount b n → n ≡ length records
counted b records stop n says count =
    let one = one_journal b says.segments count.segments stop.at count.stop.at stop.why count.stop.why says.is count.is in
    count.value ∙ sym (ap length (same_records b records stop says count.segments one.0))

-- the number of an element is its index and one
entry_of-next : (es : List Record) (i : ℕ) → entry_of es (i + 1) ≡ slice_get es i
entry_of-next es i =
    let some : (i + 1 == 0) ≡ false = grind (arith, nat_tests) in
    let index : i + 1 - 1 ≡ i = omega arith in
    ap (λ (b : Bool). if b then None else slice_get es (i + 1 - 1)) some ∙ ap (λ (k : ℕ). slice_get es k) index

-- what is read at a number is that record
pub read_at : (b : List ℕ) (records : List Record) (stop : Stop) (i : ℕ) (entry : Option Record) → Says b records stop → HasEntry b (i + 1) entry
    → entry ≡ slice_get records i
read_at b records stop i entry says found =
    let one = one_journal b says.segments found.segments stop.at found.stop.at stop.why found.stop.why says.is found.is in
    let same = same_records b records stop says found.segments one.0 in
    found.value ∙ entry_of-next (entries (sizes_of b) 0 found.segments) i ∙ ap (λ (l : List Record). slice_get l i) (sym same)
