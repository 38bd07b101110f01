-- The entries of indexes of tables WITHOUT ROWID, by what was found of their columns.
use Rattle.std.proofs.Common.{◌≡◌, ◌⊎◌, inr, ℕ, Bool, true, false, List, map, subst, sym}
use Rattle.std.specs.Prelude.{Result, Ok, Err, Option, Some, None, IfOk, MatchOption, ⊤}
use Rattle.sqlite_ast.specs.declared.CreateTable.{CreateTable}
use Rattle.sqlite_ast.specs.declared.CreateIndex.{CreateIndex}
use Rattle.sqlite_ast.specs.declared.Keyed.{Keyed}
use Rattle.sqlite_ast.specs.declared.TableBody.{TableBody}
use Rattle.std.specs.Str.{str_eq_ignore_ascii_case}
use Rattle.sqkeys.specs.declared.entry_key.EntryKey.{EntryKey}
use Rattle.sqkeys.specs.Constraints.{IsNumbered}
use Rattle.sqkeys.specs.Keyed.{MakesKeyed, IsPrimaryOf}
use Rattle.sqkeys.specs.Keys.{ReadsAs}
use Rattle.sqkeys.specs.Entries.{rising, IsEntryOver, HasNoEntryOver, IsKeyedOver, HasNoKeyedOver, IsKeyedAutomatic, HasNoKeyedAutomatic, IsKeyedEntryOf, HasNoKeyedEntry}

pub of_over : {E : Type 0} (body : TableBody) (format : ℕ) (named key first second : List Keyed) (r : Result (Option EntryKey) E) → IsPrimaryOf body key → first ≡ key → second ≡ key
    → IfOk r (λ found. MatchOption found (HasNoEntryOver body format named first second) (IsEntryOver body format named first second))
    → IfOk r (λ found. MatchOption found (HasNoKeyedOver body format named) (IsKeyedOver body format named))
of_over body format named key first second (Err e) primary p q h = tt
of_over body format named key first second (Ok None) primary p q h = inr (key, primary, subst (λ k. HasNoEntryOver body format named k key) p (subst (λ k. HasNoEntryOver body format named first k) q h))
of_over body format named key first second (Ok (Some entry)) primary p q h = (key, primary, subst (λ k. IsEntryOver body format named k key entry) p (subst (λ k. IsEntryOver body format named first k entry) q h))

pub of_automatic : {E : Type 0} (table : List ℕ) (number format : ℕ) (made : CreateTable) (named key first second : List Keyed) (r : Result (Option EntryKey) E) → MakesKeyed table made → IsNumbered made.body number named
    → IsPrimaryOf made.body key → first ≡ key → second ≡ map rising key
    → IfOk r (λ found. MatchOption found (HasNoEntryOver made.body format named first second) (IsEntryOver made.body format named first second))
    → IfOk r (λ found. MatchOption found ⊤ (λ entry. (entry.unique ≡ true) × (entry.partial ≡ false)))
    → IfOk r (λ found. MatchOption found (HasNoKeyedAutomatic table number format) (IsKeyedAutomatic table number format))
of_automatic table number format made named key first second (Err e) tabled numbered primary p q h k = tt
of_automatic table number format made named key first second (Ok None) tabled numbered primary p q h k = inr (
  made,
  tabled,
  inr (inr (named, key, numbered, primary, subst (λ z. HasNoEntryOver made.body format named z (map rising key)) p (subst (λ z. HasNoEntryOver made.body format named first z) q h))),
)
of_automatic table number format made named key first second (Ok (Some entry)) tabled numbered primary p q h k = record {
  made = made;
  named = named;
  key = key;
  tabled = tabled;
  numbered = numbered;
  primary = primary;
  over = subst (λ z. IsEntryOver made.body format named z (map rising key) entry) p (subst (λ z. IsEntryOver made.body format named first z entry) q h);
  unique = k.0;
  whole = k.1;
}

pub of_between : {E : Type 0} (table index : List ℕ) (format : ℕ) (made : CreateTable) (indexed : CreateIndex) (partial : Bool) (r : Result (Option EntryKey) E) → MakesKeyed table made → ReadsAs index partial indexed
    → IfOk r (λ found. MatchOption found ((str_eq_ignore_ascii_case indexed.table made.name ≡ false) ⊎ HasNoKeyedOver made.body format indexed.columns)
    (λ entry. (str_eq_ignore_ascii_case indexed.table made.name ≡ true) × IsKeyedOver made.body format indexed.columns entry × (entry.unique ≡ indexed.is_unique) × (entry.partial ≡ partial)))
    → IfOk r (λ found. MatchOption found (HasNoKeyedEntry table index format) (IsKeyedEntryOf table index format))
of_between table index format made indexed partial (Err e) tabled written h = tt
of_between table index format made indexed partial (Ok None) tabled written h = inr (inr (record { made = made; indexed = indexed; partial = partial; tabled = tabled; written = written; because = h }))
of_between table index format made indexed partial (Ok (Some entry)) tabled written h = record {
  made = made;
  indexed = indexed;
  tabled = tabled;
  written = subst (λ b. ReadsAs index b indexed) (sym h.3) written;
  same = h.0;
  over = h.1;
  unique = h.2;
}
