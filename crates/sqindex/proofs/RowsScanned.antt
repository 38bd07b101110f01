-- The rows of a table beside its columns, read one after another.
use Rattle.std.proofs.Common.{◌≡◌, ◌<◌, ◌≤◌, ◌+◌, ⊎_elim, ℕ, zero, suc, Bool, true, false, ◌&&◌, List, [], ◌∷◌, ◌++◌, length, drop, slice_get, option_map, Option, Some, None, is_some, MatchOption, refl, sym, ap, ◌∙◌, subst, arith}
use Rattle.std.specs.Prelude.{MatchBool, Result, Ok, Err, IfOk, IfErr}
use Rattle.std.proofs.lemmas.Bool.{cases_lt}
use Rattle.std.proofs.lemmas.List.Elements.{All-push}
use Rattle.sqval.specs.Database.{Database}
use Rattle.sqval.specs.Record.{most_bytes}
use Rattle.sqlite_record.specs.declared.fields.Fields.{Fields}
use Rattle.sqlite_record.specs.Fields.{fields_left, GivesField}
use Rattle.sqlite_value.specs.declared.value.ValueRef.{ValueRef}
use Rattle.sqlite_value.specs.Value.{owned}
use Rattle.sqlite_value.specs.Order.{Row}
use Rattle.sqkeys.specs.declared.row_rules.ColumnRule.{ColumnRule}
use Rattle.sqindex.specs.declared.row_fault.RowFault.{RowFault}
use Rattle.sqindex.specs.declared.error.RowError.{RowError}
use Rattle.sqindex.specs.declared.error.TableError.{TableError}
use Rattle.sqindex.specs.declared.error.TableError.TheVariants as errors
use Rattle.sqindex.specs.declared.table.Scan.{Scan}
use Rattle.sqindex.specs.Stored.{Stored}
use Rattle.sqindex.specs.Keys.{values_of}
use Rattle.sqindex.specs.Rules.{HasKeyedRows}
use Rattle.sqindex.specs.Indexes.{NoRows}
use Rattle.sqindex.specs.RowsKept.{fault_of, IsFaultless, HasFault, IsClear, IsUnclear, AreRowsKept, TableRefused, RefutesTable}
use Rattle.sqindex.specs.internal.Scanning.{AreKept, ScannedAs, IsScanned, EndsAs}
use Rattle.sqindex.proofs.CellsTaken.{has_once}
use Rattle.sqindex.proofs.FieldsLeft.{rest_of, field_at}
use Rattle.sqindex.proofs.IndexesRefuted.{unlimited}
use Rattle.sqindex.proofs.Places.{get_left, get_here, of_all, contained, place_of}

drop_on : {X : Type 0} (xs : List X) (i : ℕ) → drop i xs ≡ [] → drop (suc i) xs ≡ []
drop_on [] zero e = refl
drop_on [] (suc i) e = refl
drop_on (x ∷ xs) zero e = absurd (cc)
drop_on (x ∷ xs) (suc i) e = drop_on xs i e

-- the values that are left behind the next one
pub left_on : (old new : Fields) (r : Option ValueRef) (xs : Row) (i : ℕ) → drop i xs ≡ fields_left old → GivesField old r new → drop (i + 1) xs ≡ fields_left new
left_on old new None xs i left g = let same : i + 1 ≡ suc i = omega arith in ap (λ n. drop n xs) same ∙ drop_on xs i (left ∙ g.0) ∙ sym g.1
left_on old new (Some v) xs i left g = rest_of xs i (owned v) (fields_left new) (left ∙ g)

-- what is wrong with the next value of a row
pub next_fault : (xs : Row) (i : ℕ) (rule : ColumnRule) (old new : Fields) (r : Option ValueRef) → drop i xs ≡ fields_left old → GivesField old r new
    → fault_of rule (option_map owned r) ≡ fault_of rule (slice_get xs i)
next_fault xs i rule old new r left g = ap (fault_of rule) (field_at old new r xs i left g)

pub fault_found : (rules : List ColumnRule) (xs : Row) (i : ℕ) (rule : ColumnRule) (fault : Option RowFault) → slice_get rules i ≡ Some rule → fault ≡ fault_of rule (slice_get xs i) → is_some fault ≡ true
    → MatchOption fault (IsFaultless rules xs) (HasFault rules xs)
fault_found rules xs i rule None at is some = absurd (cc)
fault_found rules xs i rule (Some f) at is some = (i, rule, at, sym is)

pub nothing_found : (rule : ColumnRule) (xs : Row) (i : ℕ) (fault : Option RowFault) → fault ≡ fault_of rule (slice_get xs i) → is_some fault ≡ false → fault_of rule (slice_get xs i) ≡ None
nothing_found rule xs i None is none = sym is
nothing_found rule xs i (Some f) is none = absurd (cc)

-- what holds of the columns before a place and of that one holds of those up to it
pub more_columns : (P : ℕ → ColumnRule → Type 0) (rules : List ColumnRule) (i : ℕ) (rule : ColumnRule) → ((j : ℕ) (r : ColumnRule) → j < i → slice_get rules j ≡ Some r → P j r)
    → slice_get rules i ≡ Some rule → P i rule → (j : ℕ) (r : ColumnRule) → j < i + 1 → slice_get rules j ≡ Some r → P j r
more_columns P rules i rule before at here j r less is = ⊎_elim
    (λ (below : j < i). before j r below is)
    (λ (not : i ≤ j).
    let same : j ≡ i = omega (arith, less, not) in
    let one : rule ≡ r = some_same rule r (sym at ∙ subst (λ k. slice_get rules k ≡ Some r) same is) in
    subst (λ k. P k r) (sym same) (subst (P i) one here))
    (cases_lt j i)
  where
    some_same : (a b : ColumnRule) → Some a ≡ Some b → a ≡ b
    some_same a b e = cc

pub of_true : (b : Bool) (P Q : Type 0) → b ≡ true → MatchBool b P Q → P
of_true true P Q is h = h
of_true false P Q is h = absurd (cc)

pub of_false : (b : Bool) (P Q : Type 0) → b ≡ false → MatchBool b P Q → Q
of_false true P Q is h = absurd (cc)
of_false false P Q is h = h

module _ (rules : List ColumnRule) where
  pub none_scanned : ScannedAs rules [] None true
  none_scanned = record { faultless = λ i d less. absurd (omega (arith, less)); known = λ i d less. absurd (omega (arith, less)) }

  -- the first fault stays, and before it nothing is wrong
  pub scanned_still : (rows : List Stored) (x : Stored) (fault : Option RowError) (clear : Bool) → is_some fault ≡ true → ScannedAs rules rows fault clear → ScannedAs rules (rows ++ x ∷ []) fault clear
  scanned_still rows x None clear some w = absurd (cc)
  scanned_still rows x (Some e) clear some w = (w.0, w.1, get_left rows (x ∷ []) w.0 w.1 w.2, w.3, w.4, w.5)

  pub scanned_kept : (rows : List Stored) (fault : Option RowError) (clear : Bool) → is_some fault ≡ false → ScannedAs rules rows fault clear → AreKept rules rows clear
  scanned_kept rows None clear none w = w
  scanned_kept rows (Some e) clear none w = absurd (cc)

  pub scanned_fault : (rows : List Stored) (x : Stored) (fault : RowFault) (clear : Bool) → HasFault rules (values_of x) fault
      → ScannedAs rules (rows ++ x ∷ []) (Some (record { fault = fault; page = x.page; cell = x.cell })) clear
  scanned_fault rows x fault clear h = (length rows, x, get_here rows x [], refl, refl, h)

  pub scanned_next : (rows : List Stored) (x : Stored) (now clear : Bool) → AreKept rules rows clear → IsFaultless rules (values_of x) → MatchBool now (IsClear rules (values_of x)) (IsUnclear rules (values_of x))
      → AreKept rules (rows ++ x ∷ []) (now && clear)
  scanned_next rows x true true w f k = record { faultless = All-push (λ row. IsFaultless rules (values_of row)) rows x w.faultless f; known = All-push (λ row. IsClear rules (values_of row)) rows x w.known k }
  scanned_next rows x true false w f k =
      let was = place_of rows w.known.0 w.known.1 in
      record { faultless = All-push (λ row. IsFaultless rules (values_of row)) rows x w.faultless f; known = (w.known.0, contained (rows ++ x ∷ []) was.0 w.known.0 (get_left rows (x ∷ []) was.0 w.known.0 was.1), w.known.2) }
  scanned_next rows x false clear w f k = record { faultless = All-push (λ row. IsFaultless rules (values_of row)) rows x w.faultless f; known = (x, contained (rows ++ x ∷ []) (length rows) x (get_here rows x []), k) }

  -- what is told behind the last row
  pub ended_ok : (d : Database) (table : ℕ) (rows : List Stored) (scan : Scan) (result : Result Bool TableError) → HasKeyedRows d table rows → IsScanned rules rows scan → EndsAs scan result → IfOk result (AreRowsKept d table rules)
  ended_ok d table rows scan (Ok clear) has w h =
      let kept : AreKept rules rows scan.clear = subst (λ (f : Option RowError). ScannedAs rules rows f scan.clear) h.0 w in
      subst (AreRowsKept d table rules) (sym h.1) (record { rows = rows; of_table = has; faultless = kept.faultless; known = kept.known })
  ended_ok d table rows scan (Err e) has w h = tt

  pub ended_err : (d : Database) (table : ℕ) (rows : List Stored) (scan : Scan) (result : Result Bool TableError) → HasKeyedRows d table rows → IsScanned rules rows scan → EndsAs scan result → IfErr result (TableRefused d table rules)
  ended_err d table rows scan (Ok clear) has w h = tt
  ended_err d table rows scan (Err e) has w h =
      let s = subst (λ (f : Option RowError). ScannedAs rules rows f scan.clear) h.1 w in
      subst (TableRefused d table rules) (sym h.2) (rows, s.0, s.1, has, s.2, s.3, s.4, s.5)

  clash : (o : Option RowFault) (fault : RowFault) → o ≡ None → o ≡ Some fault → ⊥
  clash o fault none some = cc

  refuted : (d : Database) (table : ℕ) (e : TableError) → TableRefused d table rules e → RefutesTable d table rules e
  refuted d table (errors.Unread e) h = λ un clear w. unlimited d table most_bytes (NoRows d table) e h un w.rows w.of_table
  refuted d table (errors.Row e) h = λ clear w.
      let same : h.0 ≡ w.rows = has_once d table w.rows h.0 w.of_table.stored h.3.stored in
      let at = subst (λ (xs : List Stored). slice_get xs h.1 ≡ Some h.2) same h.4 in
      let f = h.7 in
      clash (fault_of f.1 (slice_get (values_of h.2) f.0)) e.fault (of_all (λ row. IsFaultless rules (values_of row)) w.rows h.1 h.2 w.faultless at f.0 f.1 f.2) f.3

  -- no fault is told of rows that keep to their columns
  pub refutes : (d : Database) (table : ℕ) (result : Result Bool TableError) → IfErr result (TableRefused d table rules) → IfErr result (RefutesTable d table rules)
  refutes d table (Ok clear) h = tt
  refutes d table (Err e) h = refuted d table e h
