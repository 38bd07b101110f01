-- The entries of an index, read to their end.
use Rattle.std.proofs.Common.{◌≡◌, ◌≢◌, ◌<◌, ◌+◌, ℕ, List, [], ◌∷◌, ◌++◌, Option, None, ℤ, refl, sym, ap, ◌∙◌, subst, arith, All, Contains}
use Rattle.std.proofs.lemmas.List.Elements.{All-map, All-contains, Contains-append_left, Contains-push}
use Rattle.std.proofs.lemmas.List.Sums.{sum_by-append, sum_by_push}
use Rattle.sqval.specs.Database.{Database}
use Rattle.sqrows.specs.declared.cells.Cells.{Cells}
use Rattle.sqindex.specs.declared.entries.Entries.{Entries}
use Rattle.sqindex.specs.declared.walk.Found.{Found}
use Rattle.sqindex.specs.Stored.{Stored}
use Rattle.sqindex.specs.Rules.{HasEntries}
use Rattle.sqindex.specs.Indexes.{NoEntries, cost_of, memory_of}
use Rattle.sqindex.specs.internal.Held.{held_in, held_by, plain}
use Rattle.sqindex.specs.internal.Reading.{stored_of, AreTaken, AreRead}
use Rattle.sqindex.specs.declared.error.ReadError.TheVariants as reads
use Rattle.sqindex.specs.declared.error.IndexError.{IndexError}
use Rattle.sqindex.specs.declared.error.IndexError.TheVariants as errors
use Rattle.sqindex.specs.internal.Judging.{EntriesRefused, KeepRefused}
use Rattle.sqindex.proofs.CellsTaken.{taken_first}

pub stored_plain : (found : Found) (bytes : List ℕ) → found.rowid ≡ None → stored_of found bytes ≡ plain found bytes
stored_plain found bytes none = ap (λ (r : Option ℤ). record { page = found.page; cell = found.cell; rowid = r; bytes = bytes }) none

pub all_plain : (entries : Entries) → All (λ x. x.rowid ≡ None) (held_by entries)
all_plain entries = All-map (λ x. x.rowid ≡ None) (held_in entries.bytes.items) entries.list.items (λ k d less. refl)

pub has_entries : (d : Database) (root : ℕ) (entries : Entries) → AreRead d root (held_by entries) → HasEntries d root (held_by entries)
has_entries d root entries w = record { stored = w.has; plain = all_plain entries }

-- a cell that was found is one of what is stored
pub among : (taken more : List Stored) (x : Stored) → Contains ((taken ++ x ∷ []) ++ more) x
among taken more x = Contains-append_left (taken ++ x ∷ []) more x (Contains-push taken x)

-- it is no entry, so there are none
pub other_kind : (d : Database) (root : ℕ) (cells : Cells) (taken : List Stored) (x : Stored) → AreTaken d root cells (taken ++ x ∷ []) → x.rowid ≢ None → NoEntries d root
other_kind d root cells taken x w other entries has =
    let f = taken_first d root cells (taken ++ x ∷ []) entries w has.stored in
    other (All-contains (λ x. x.rowid ≡ None) entries x has.plain (subst (λ z. Contains z x) (sym f.3) (among taken f.1 x)))

-- it takes more than is left
pub too_large : (d : Database) (root : ℕ) (cells : Cells) (taken : List Stored) (x : Stored) (limit left : ℕ) → AreTaken d root cells (taken ++ x ∷ []) → left + memory_of taken ≡ limit
    → left < cost_of x.bytes → (entries : List Stored) → HasEntries d root entries → limit < memory_of entries
too_large d root cells taken x limit left w is above entries has =
    let f = taken_first d root cells (taken ++ x ∷ []) entries w has.stored in
    let cost : Stored → ℕ = λ entry. cost_of entry.bytes in
    let all : memory_of entries ≡ memory_of (taken ++ x ∷ []) + memory_of f.1 = ap memory_of f.3 ∙ sum_by-append cost (taken ++ x ∷ []) f.1 in
    let some : memory_of (taken ++ x ∷ []) ≡ memory_of taken + cost_of x.bytes = sum_by_push cost taken x in
    omega (arith, all, some, is, above)

-- why it isn't kept is why the entries aren't read
pub kept_not : (d : Database) (root : ℕ) (cells : Cells) (taken : List Stored) (found : Found) (bytes : List ℕ) (limit longest left : ℕ) (e : IndexError) → AreTaken d root cells (taken ++ stored_of found bytes ∷ [])
    → left + memory_of taken ≡ limit → KeepRefused found bytes left e → EntriesRefused d root limit longest e
kept_not d root cells taken found bytes limit longest left (errors.Index (reads.Tree x)) w is h = absurd h
kept_not d root cells taken found bytes limit longest left (errors.Index reads.TooLong) w is h = absurd h
kept_not d root cells taken found bytes limit longest left (errors.Index reads.RowidOrder) w is h = absurd h
kept_not d root cells taken found bytes limit longest left (errors.Index reads.NoMemory) w is h = tt
kept_not d root cells taken found bytes limit longest left (errors.Index reads.OtherKind) w is h = other_kind d root cells taken (stored_of found bytes) w h
kept_not d root cells taken found bytes limit longest left errors.TooLarge w is h = too_large d root cells taken (stored_of found bytes) limit left w is h
kept_not d root cells taken found bytes limit longest left (errors.Table x) w is h = absurd h
kept_not d root cells taken found bytes limit longest left (errors.Entry x) w is h = absurd h
