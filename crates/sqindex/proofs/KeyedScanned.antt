-- The rows of a table WITHOUT ROWID, read one after another.
use Rattle.std.proofs.Common.{◌≡◌, ◌+◌, ⊎_elim, ℕ, Bool, true, false, ◌&&◌, List, [], ◌∷◌, ◌++◌, length, take, slice_get, Option, Some, None, is_some, refl, sym, ap, ◌∙◌, subst, arith}
use Rattle.std.specs.Prelude.{MatchBool, Result, Ok, Err, IfOk, IfErr, if◌then◌else◌}
use Rattle.std.proofs.lemmas.List.Elements.{All-push}
use Rattle.std.proofs.lemmas.Option.{slice_get_within}
use Rattle.std.specs.declared.cmp.Ordering.TheVariants.{Less}
use Rattle.sqval.specs.Database.{Database}
use Rattle.sqval.specs.Record.{most_bytes}
use Rattle.sqrows.specs.declared.cells.Cells.{Cells}
use Rattle.sqlite_record.specs.Record.{decode}
use Rattle.sqlite_value.specs.declared.value.Value.{Value}
use Rattle.sqlite_value.specs.declared.value.Value.TheVariants as value
use Rattle.sqlite_value.specs.Keys.{prefix_cmp}
use Rattle.sqlite_value.specs.Order.{Row}
use Rattle.sqkeys.specs.declared.accepts.Accepts.{Accepts}
use Rattle.sqkeys.specs.declared.accepts.Accepts.TheVariants as accept
use Rattle.sqkeys.specs.declared.keyed.RowKey.{RowKey}
use Rattle.sqkeys.specs.declared.row_rules.ColumnRule.{ColumnRule}
use Rattle.sqindex.specs.declared.row_fault.RowFault.{RowFault}
use Rattle.sqindex.specs.declared.row_fault.RowFault.TheVariants as faults
use Rattle.sqindex.specs.declared.error.RowError.{RowError}
use Rattle.sqindex.specs.declared.error.TableError.{TableError}
use Rattle.sqindex.specs.declared.error.TableError.TheVariants as errors
use Rattle.sqindex.specs.declared.table.Scan.{Scan}
use Rattle.sqindex.specs.declared.walk.Found.{Found}
use Rattle.sqindex.specs.declared.walk.Walk.{Walk}
use Rattle.sqindex.specs.Stored.{Stored}
use Rattle.sqindex.specs.Keys.{values_of}
use Rattle.sqindex.specs.Rules.{HasEntries}
use Rattle.sqindex.specs.Indexes.{NoEntries}
use Rattle.sqindex.specs.RowsKept.{takes, fault_under, fault_at, fault_by, fault_of, IsFaultless, HasFault, IsClear, IsUnclear}
use Rattle.sqindex.specs.KeyedRows.{IsKeyBefore, KeysAscend, AreKeyedRows, RowIsWrong, KeyedRefused, RefutesKeyed}
use Rattle.sqindex.specs.internal.Reading.{stored_of, WalkMoves, AreTaken}
use Rattle.sqindex.specs.internal.Scanning.{EndsAs}
use Rattle.sqindex.specs.internal.KeyedScanning.{KeyedAs, IsKeyedScan, IsBehindOf, FaultIn, IsBefore, ArePlain}
use Rattle.sqindex.proofs.CellsTaken.{has_once, one_taken, all_taken}
use Rattle.sqindex.proofs.IndexesRefuted.{unlimited}
use Rattle.sqindex.proofs.Places.{at_once, get_left, get_here, get_push, of_all}
use Rattle.sqindex.proofs.RowsScanned.{none_scanned, scanned_next}

pub none_plain : (d : Database) (table : ℕ) (cells : Cells) → AreTaken d table cells [] → ArePlain d table cells []
none_plain d table cells w = record { taken = w; plain = λ k d less. absurd (omega (arith, less)) }

pub one_plain : (d : Database) (table : ℕ) (old : Cells) (walk : Walk) (found : Found) (rows : List Stored) → ArePlain d table old rows → WalkMoves d old (Some found) walk → found.rowid ≡ None
    → ArePlain d table walk.cells (rows ++ stored_of found walk.payload.items ∷ [])
one_plain d table old walk found rows w m none = record {
  taken = one_taken d table old walk found rows w.taken m;
  plain = All-push (λ row. row.rowid ≡ None) rows (stored_of found walk.payload.items) w.plain none;
}

pub all_plain : (d : Database) (table : ℕ) (old : Cells) (walk : Walk) (rows : List Stored) → ArePlain d table old rows → WalkMoves d old None walk → HasEntries d table rows
all_plain d table old walk rows w m = record { stored = (all_taken d table old walk rows w.taken m).has; plain = w.plain }

-- The order of the key is no fault of a column.
under_not : (accepts : Accepts) → fault_under accepts ≡ faults.RowOrder → ⊥
under_not accept.All e = cc
under_not accept.Integers e = cc
under_not accept.Numbers e = cc
under_not accept.Texts e = cc
under_not accept.Blobs e = cc
under_not accept.NotNumbers e = cc
under_not accept.NotNumericTexts e = cc

beside_not : (accepts : Accepts) (takes' : Bool) → (if takes' then None else Some (fault_under accepts)) ≡ Some faults.RowOrder → ⊥
beside_not accepts true e = cc
beside_not accepts false e = under_not accepts (cc)

null_not : (b : Bool) → (if b then Some faults.NullUnderNotNull else None) ≡ Some faults.RowOrder → ⊥
null_not true e = cc
null_not false e = cc

at_not : (rule : ColumnRule) (v : Value) → fault_at rule v ≡ Some faults.RowOrder → ⊥
at_not rule value.Null e = null_not rule.not_null e
at_not rule (value.Int n) e = beside_not rule.accepts (takes rule.accepts (value.Int n)) e
at_not rule (value.Real x) e = beside_not rule.accepts (takes rule.accepts (value.Real x)) e
at_not rule (value.Text b) e = beside_not rule.accepts (takes rule.accepts (value.Text b)) e
at_not rule (value.Blob b) e = beside_not rule.accepts (takes rule.accepts (value.Blob b)) e

by_not : (rule : ColumnRule) (v : Option Value) → fault_by rule v ≡ Some faults.RowOrder → ⊥
by_not rule None e = cc
by_not rule (Some v) e = at_not rule v e

of_not : (rule : ColumnRule) (v : Option Value) → fault_of rule v ≡ Some faults.RowOrder → ⊥
of_not rule None e = by_not rule rule.default e
of_not rule (Some v) e = at_not rule v e

pub no_order : (rules : List ColumnRule) (xs : Row) → HasFault rules xs faults.RowOrder → ⊥
no_order rules xs h = of_not h.1 (slice_get xs h.0) h.3

-- a fault of a column is one of the row
pub column_fault : (key : RowKey) (before : Option (List ℕ)) (row : List ℕ) (fault : RowFault) → HasFault key.rules.items (decode row) fault → FaultIn key before row (Some fault)
column_fault key before row faults.RowOrder h = absurd (no_order key.rules.items (decode row) h)
column_fault key before row faults.NullUnderNotNull h = h
column_fault key before row faults.TypeUnderStrict h = h
column_fault key before row faults.NumberUnderText h = h
column_fault key before row faults.TextUnderNumeric h = h

module _ (key : RowKey) where
  pub none_keyed : KeyedAs key [] None true
  none_keyed = (λ i a b at next. absurd (cc), none_scanned key.rules.items)

  behind_push : (rows : List Stored) (before : Option (List ℕ)) (x : Stored) → KeysAscend key rows → IsBefore rows before → IsBehindOf key before x.bytes → KeysAscend key (rows ++ x ∷ [])
  behind_push rows before x up held behind i a b at next = ⊎_elim
      (λ (old : slice_get rows (i + 1) ≡ Some b). ⊎_elim
      (λ (here : slice_get rows i ≡ Some a). up i a b here old)
      (λ new. absurd (past rows i b new.0 old))
      (get_push rows x i a at))
      (λ new. ⊎_elim
      (λ (here : slice_get rows i ≡ Some a). last before held behind (new.0) here new.1)
      (λ also. absurd (omega (arith, new.0, also.0)))
      (get_push rows x i a at))
      (get_push rows x (i + 1) b next)
    where
      past : (rows : List Stored) (i : ℕ) (b : Stored) → i ≡ length rows → slice_get rows (i + 1) ≡ Some b → ⊥
      past rows i b e at = let within = slice_get_within rows (i + 1) b at in omega (arith, e, within)

      last : (before : Option (List ℕ)) → IsBefore rows before → IsBehindOf key before x.bytes → i + 1 ≡ length rows → slice_get rows i ≡ Some a → b ≡ x → IsKeyBefore key a b
      last None none behind end here is = absurd (let few : length rows ≡ 0 = ap length none in omega (arith, few, end))
      last (Some bytes) held behind end here is =
          let place : i ≡ held.0 = omega (arith, end, held.2) in
          let same : a ≡ held.1 = at_once rows held.0 a held.1 (subst (λ k. slice_get rows k ≡ Some a) place here) held.3 in
          let of_a : a.bytes ≡ bytes = ap (λ (z : Stored). z.bytes) same ∙ held.4 in
          subst (λ (z : Stored). IsKeyBefore key a z) (sym is) (subst (λ (z : List ℕ). prefix_cmp key.order (decode z) (take key.width (values_of x)) ≡ Less) (sym of_a) behind)

  pub keyed_next : (rows : List Stored) (before : Option (List ℕ)) (x : Stored) (now clear : Bool) → KeyedAs key rows None clear → IsBefore rows before → FaultIn key before x.bytes None
      → MatchBool now (IsClear key.rules.items (values_of x)) (IsUnclear key.rules.items (values_of x)) → KeyedAs key (rows ++ x ∷ []) None (now && clear)
  keyed_next rows before x now clear w held fine known = (behind_push rows before x w.0 held fine.0, scanned_next key.rules.items rows x now clear w.1 fine.1 known)

  wrong : (rows : List Stored) (before : Option (List ℕ)) (x : Stored) (fault : RowFault) → IsBefore rows before → FaultIn key before x.bytes (Some fault) → RowIsWrong key (rows ++ x ∷ []) (length rows) x fault
  wrong rows None x faults.RowOrder held h = absurd (h tt)
  wrong rows (Some bytes) x faults.RowOrder held h =
      (held.0, held.1, held.2, get_left rows (x ∷ []) held.0 held.1 held.3, λ before. h (subst (λ (z : List ℕ). prefix_cmp key.order (decode z) (take key.width (values_of x)) ≡ Less) held.4 before))
  wrong rows before x faults.NullUnderNotNull held h = h
  wrong rows before x faults.TypeUnderStrict held h = h
  wrong rows before x faults.NumberUnderText held h = h
  wrong rows before x faults.TextUnderNumeric held h = h

  pub keyed_fault : (rows : List Stored) (before : Option (List ℕ)) (x : Stored) (fault : RowFault) (clear : Bool) → IsBefore rows before → FaultIn key before x.bytes (Some fault)
      → KeyedAs key (rows ++ x ∷ []) (Some (record { fault = fault; page = x.page; cell = x.cell })) clear
  keyed_fault rows before x fault clear held h = (length rows, x, get_here rows x [], refl, refl, wrong rows before x fault held h)

  -- the first fault stays
  stays : (rows : List Stored) (x y : Stored) (i : ℕ) (fault : RowFault) → RowIsWrong key rows i y fault → RowIsWrong key (rows ++ x ∷ []) i y fault
  stays rows x y i faults.RowOrder h = (h.0, h.1, h.2, get_left rows (x ∷ []) h.0 h.1 h.3, h.4)
  stays rows x y i faults.NullUnderNotNull h = h
  stays rows x y i faults.TypeUnderStrict h = h
  stays rows x y i faults.NumberUnderText h = h
  stays rows x y i faults.TextUnderNumeric h = h

  pub keyed_still : (rows : List Stored) (x : Stored) (fault : Option RowError) (clear : Bool) → is_some fault ≡ true → KeyedAs key rows fault clear → KeyedAs key (rows ++ x ∷ []) fault clear
  keyed_still rows x None clear some w = absurd (cc)
  keyed_still rows x (Some e) clear some w = (w.0, w.1, get_left rows (x ∷ []) w.0 w.1 w.2, w.3, w.4, stays rows x w.1 w.0 e.fault w.5)

  pub keyed_kept : (rows : List Stored) (fault : Option RowError) (clear : Bool) → is_some fault ≡ false → KeyedAs key rows fault clear → KeyedAs key rows None clear
  keyed_kept rows None clear none w = w
  keyed_kept rows (Some e) clear none w = absurd (cc)

  -- what is told behind the last row
  pub ended_ok : (d : Database) (table : ℕ) (rows : List Stored) (scan : Scan) (result : Result Bool TableError) → HasEntries d table rows → IsKeyedScan key rows scan → EndsAs scan result → IfOk result (AreKeyedRows d table key)
  ended_ok d table rows scan (Ok clear) has w h =
      let kept : KeyedAs key rows None scan.clear = subst (λ (f : Option RowError). KeyedAs key rows f scan.clear) h.0 w in
      subst (AreKeyedRows d table key) (sym h.1) (record { rows = rows; of_table = has; ascend = kept.0; faultless = kept.1.faultless; known = kept.1.known })
  ended_ok d table rows scan (Err e) has w h = tt

  pub ended_err : (d : Database) (table : ℕ) (rows : List Stored) (scan : Scan) (result : Result Bool TableError) → HasEntries d table rows → IsKeyedScan key rows scan → EndsAs scan result → IfErr result (KeyedRefused d table key)
  ended_err d table rows scan (Ok clear) has w h = tt
  ended_err d table rows scan (Err e) has w h =
      let s = subst (λ (f : Option RowError). KeyedAs key rows f scan.clear) h.1 w in
      subst (KeyedRefused d table key) (sym h.2) (rows, s.0, s.1, has, s.2, s.3, s.4, s.5)

  clash : (o : Option RowFault) (fault : RowFault) → o ≡ None → o ≡ Some fault → ⊥
  clash o fault none some = cc

  module _ (d : Database) (table : ℕ) (clear : Bool) (w : AreKeyedRows d table key clear) where
    column_not : (i : ℕ) (x : Stored) (fault : RowFault) → slice_get w.rows i ≡ Some x → HasFault key.rules.items (values_of x) fault → ⊥
    column_not i x fault at f =
        clash (fault_of f.1 (slice_get (values_of x) f.0)) fault (of_all (λ row. IsFaultless key.rules.items (values_of row)) w.rows i x w.faultless at f.0 f.1 f.2) f.3

    wrong_not : (i : ℕ) (x : Stored) (fault : RowFault) → slice_get w.rows i ≡ Some x → RowIsWrong key w.rows i x fault → ⊥
    wrong_not i x faults.RowOrder at h = h.4 (w.ascend h.0 h.1 x h.3 (subst (λ k. slice_get w.rows k ≡ Some x) h.2 at))
    wrong_not i x faults.NullUnderNotNull at h = column_not i x faults.NullUnderNotNull at h
    wrong_not i x faults.TypeUnderStrict at h = column_not i x faults.TypeUnderStrict at h
    wrong_not i x faults.NumberUnderText at h = column_not i x faults.NumberUnderText at h
    wrong_not i x faults.TextUnderNumeric at h = column_not i x faults.TextUnderNumeric at h

  refuted : (d : Database) (table : ℕ) (e : TableError) → KeyedRefused d table key e → RefutesKeyed d table key e
  refuted d table (errors.Unread e) h = λ un clear w. unlimited d table most_bytes (NoEntries d table) e h un w.rows w.of_table
  refuted d table (errors.Row e) h = λ clear w.
      let same : h.0 ≡ w.rows = has_once d table w.rows h.0 w.of_table.stored h.3.stored in
      wrong_not d table clear w h.1 h.2 e.fault (subst (λ (xs : List Stored). slice_get xs h.1 ≡ Some h.2) same h.4) (subst (λ xs. RowIsWrong key xs h.1 h.2 e.fault) same h.7)

  -- no fault is told of rows that are as they should be
  pub refutes : (d : Database) (table : ℕ) (result : Result Bool TableError) → IfErr result (KeyedRefused d table key) → IfErr result (RefutesKeyed d table key)
  refutes d table (Ok clear) h = tt
  refutes d table (Err e) h = refuted d table e h
