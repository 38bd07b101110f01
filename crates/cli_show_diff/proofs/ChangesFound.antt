-- The change that a walk is at.
use Rattle.std.proofs.Common.{◌≡◌, ◌↔◌, ◌∙◌, ℕ, true, false, List, [], ◌∷◌, Option, Some, None, refl, sym, ap, subst}
use Rattle.std.specs.Io.KnownBytes.{Appends}
use Rattle.sqval.specs.Database.{Database}
use Rattle.sqval.specs.Record.{Refused}
use Rattle.sqval.specs.declared.error.RecordError.{RecordError}
use Rattle.sqval.specs.declared.error.RecordError.TheVariants as records
use Rattle.sqval.proofs.payload.UniquenessOfReading.{refused_not}
use Rattle.sqrows.specs.Rows.{Row}
use Rattle.sqrows.specs.declared.rows.Rows.{Rows}
use Rattle.sqrows.specs.RowCursor.{IsAtRow}
use Rattle.sqtables.specs.declared.columns.Columns.{Columns}
use Rattle.cli_show_rows.specs.declared.stop.Stop.{Stop}
use Rattle.cli_show_rows.specs.declared.stop.Stop.TheVariants.{Fault, Record, TooLong, NotUnderstood, Default, Behind, Encoding, NotNamed, LeftOut, NoSuchTable, NoMemory, Write}
use Rattle.sqdiff.specs.Changes.{Change, inserted, deleted, changed}
use Rattle.cli_show_diff.specs.internal.TableDiffs.{ChangesLeft, ChangesMove, IsAtChange, new_rows, old_rows}
use Rattle.cli_show_diff.specs.declared.table_diff.TableDiff.{TableDiff}
use Rattle.sqdiff.specs.declared.diff.Kind.{Kind}
use Rattle.sqdiff.specs.declared.diff.Kind.TheVariants.{Inserted, Deleted, Changed}
use Rattle.cli_change_text.specs.declared.style.Writing.{Writing}
use Rattle.sqkeydiff.specs.declared.key.KeyOrder.{KeyOrder}
use Rattle.cli_change_text.specs.declared.style.Style.{Style}
use Rattle.cli_change_text.specs.Changes.{IsTextIn}
use Rattle.cli_change_text.specs.Refusals.{IsUnwritten}
use Rattle.cli_show_diff.specs.internal.Walks.{FoundRefused, IsOnlyChange, NextRefused, TellsNext}
use Rattle.cli_show_diff.proofs.ChangesStopped.{found_stops}

module _ (diff : TableDiff) (row : Row) where
  pub only_inserted : ((r : Row) → IsAtRow (new_rows diff) r ↔ (r ≡ row)) → IsOnlyChange diff Inserted (inserted row)
  only_inserted at (inserted r) = (λ h. ap inserted ((at r).0 h), λ e. (at r).1 (let f : r ≡ row = cc in f))
  only_inserted at (deleted r) = (λ h. absurd h, λ e. absurd (let f : deleted r ≡ inserted row = e in cc))
  only_inserted at (changed r s) = (λ h. absurd h, λ e. absurd (let f : changed r s ≡ inserted row = e in cc))

  pub only_deleted : ((r : Row) → IsAtRow (old_rows diff) r ↔ (r ≡ row)) → IsOnlyChange diff Deleted (deleted row)
  only_deleted at (deleted r) = (λ h. ap deleted ((at r).0 h), λ e. (at r).1 (let f : r ≡ row = cc in f))
  only_deleted at (inserted r) = (λ h. absurd h, λ e. absurd (let f : inserted r ≡ deleted row = e in cc))
  only_deleted at (changed r s) = (λ h. absurd h, λ e. absurd (let f : changed r s ≡ deleted row = e in cc))

  pub only_changed : (new : Row) → ((r : Row) → IsAtRow (old_rows diff) r ↔ (r ≡ row)) → ((r : Row) → IsAtRow (new_rows diff) r ↔ (r ≡ new))
      → IsOnlyChange diff Changed (changed row new)
  only_changed new at too (changed r s) = (
    λ h. let e : r ≡ row = (at r).0 h.0 in let f : s ≡ new = (too s).0 h.1 in cc,
    λ e. ((at r).1 (let f : r ≡ row = cc in f), (too s).1 (let f : s ≡ new = cc in f)),
  )
  only_changed new at too (inserted r) = (λ h. absurd h, λ e. absurd (let f : inserted r ≡ changed row new = e in cc))
  only_changed new at too (deleted r) = (λ h. absurd h, λ e. absurd (let f : deleted r ≡ changed row new = e in cc))

-- a row that is at hand is no record
no_record : (cursor : Rows) (row : Row) (error : RecordError) → Refused error cursor.payload.items → IsAtRow cursor row → error ≡ records.TooLarge
no_record cursor row records.TooLarge refused at = refl
no_record cursor row records.HeaderSize refused at = absurd (refused_not records.HeaderSize row.values cursor.payload.items refused refused.0 at.read)
no_record cursor row records.TypeCut refused at = absurd (refused_not records.TypeCut row.values cursor.payload.items refused refused.0 at.read)
no_record cursor row records.InternalType refused at = absurd (refused_not records.InternalType row.values cursor.payload.items refused refused.0 at.read)
no_record cursor row records.BodyCut refused at = absurd (refused_not records.BodyCut row.values cursor.payload.items refused refused.0 at.read)
no_record cursor row records.TrailingBytes refused at = absurd (refused_not records.TrailingBytes row.values cursor.payload.items refused refused.0 at.read)
no_record cursor row records.NoMemory refused at = absurd refused

module _ (diff : TableDiff) (kind : Kind) (writing : Writing) (key : Option KeyOrder) (columns : Columns) (cursor : Rows) (own : (c : Change) → IsAtChange diff kind c → (row : Row) × IsAtRow cursor row) where
  pub record_refused : (error : RecordError) → Refused error cursor.payload.items → FoundRefused diff kind writing key columns (Record error)
  record_refused records.TooLarge refused = λ c at. let r = own c at in (r.0, cursor.payload.items, r.1.read, refused)
  record_refused records.HeaderSize refused = λ c at. let r = own c at in let e = no_record cursor r.0 records.HeaderSize refused r.1 in cc
  record_refused records.TypeCut refused = λ c at. let r = own c at in let e = no_record cursor r.0 records.TypeCut refused r.1 in cc
  record_refused records.InternalType refused = λ c at. let r = own c at in let e = no_record cursor r.0 records.InternalType refused r.1 in cc
  record_refused records.BodyCut refused = λ c at. let r = own c at in let e = no_record cursor r.0 records.BodyCut refused r.1 in cc
  record_refused records.TrailingBytes refused = λ c at. let r = own c at in let e = no_record cursor r.0 records.TrailingBytes refused r.1 in cc
  record_refused records.NoMemory refused = λ c at. absurd refused

pub own_inserted : (diff : TableDiff) (c : Change) → IsAtChange diff Inserted c → (row : Row) × IsAtRow (new_rows diff) row
own_inserted diff (inserted r) at = (r, at)
own_inserted diff (deleted r) at = absurd at
own_inserted diff (changed r s) at = absurd at

pub own_deleted : (diff : TableDiff) (c : Change) → IsAtChange diff Deleted c → (row : Row) × IsAtRow (old_rows diff) row
own_deleted diff (deleted r) at = (r, at)
own_deleted diff (inserted r) at = absurd at
own_deleted diff (changed r s) at = absurd at

pub own_old : (diff : TableDiff) (c : Change) → IsAtChange diff Changed c → (row : Row) × IsAtRow (old_rows diff) row
own_old diff (changed r s) at = (r, at.0)
own_old diff (inserted r) at = absurd at
own_old diff (deleted r) at = absurd at

pub own_new : (diff : TableDiff) (c : Change) → IsAtChange diff Changed c → (row : Row) × IsAtRow (new_rows diff) row
own_new diff (changed r s) at = (s, at.1)
own_new diff (inserted r) at = absurd at
own_new diff (deleted r) at = absurd at

-- its text isn't written
module _ (diff : TableDiff) (kind : Kind) (writing : Writing) (key : Option KeyOrder) (columns : Columns) (c : Change) (only : IsOnlyChange diff kind c) where
  at_only : (P : Change → Type 0) → P c → (x : Change) → IsAtChange diff kind x → P x
  at_only P p x at = subst P (sym ((only x).0 at)) p

  pub unwritten : (stop : Stop) → ((error : RecordError) → ¬ IsUnwritten writing key columns c (Record error)) → IsUnwritten writing key columns c stop
      → FoundRefused diff kind writing key columns stop
  unwritten (Record records.TooLarge) not h = absurd (not records.TooLarge h)
  unwritten (Record records.HeaderSize) not h = absurd (not records.HeaderSize h)
  unwritten (Record records.TypeCut) not h = absurd (not records.TypeCut h)
  unwritten (Record records.InternalType) not h = absurd (not records.InternalType h)
  unwritten (Record records.BodyCut) not h = absurd (not records.BodyCut h)
  unwritten (Record records.TrailingBytes) not h = absurd (not records.TrailingBytes h)
  unwritten (Record records.NoMemory) not h = absurd (not records.NoMemory h)
  unwritten (Fault f) not h = at_only (λ x. IsUnwritten writing key columns x (Fault f)) h
  unwritten TooLong not h = at_only (λ x. IsUnwritten writing key columns x TooLong) h
  unwritten NotUnderstood not h = at_only (λ x. IsUnwritten writing key columns x NotUnderstood) h
  unwritten Default not h = at_only (λ x. IsUnwritten writing key columns x Default) h
  unwritten Behind not h = at_only (λ x. IsUnwritten writing key columns x Behind) h
  unwritten Encoding not h = at_only (λ x. IsUnwritten writing key columns x Encoding) h
  unwritten NoSuchTable not h = at_only (λ x. IsUnwritten writing key columns x NoSuchTable) h
  unwritten NotNamed not h = at_only (λ x. IsUnwritten writing key columns x NotNamed) h
  unwritten (LeftOut k) not h = at_only (λ x. IsUnwritten writing key columns x (LeftOut k)) h
  unwritten NoMemory not h = at_only (λ x. IsUnwritten writing key columns x NoMemory) h
  unwritten (Write error) not h = at_only (λ x. IsUnwritten writing key columns x (Write error)) h

-- the change that comes next was told, or none was left
module _ (d e : Database) (old new : TableDiff) where
  pub told_next : (kind : Kind) (style : Style) (c : Change) (t : List ℕ) (before after : Option (List ℕ))
      → ((cs : List Change) → ChangesLeft d e old cs ↔ ChangesMove d e (Some kind) cs new) → IsOnlyChange new kind c
      → IsTextIn style c t → Appends before after t → TellsNext d e true style old new before after
  told_next kind style c t before after moves only text appended = (
    c,
    t,
    text,
    appended,
    (λ rest left. (moves (c ∷ rest)).1 (c, rest, refl, (only c).1 refl, left)),
    (λ all left. let m = (moves all).0 left in (m.1, m.2 ∙ ap (λ x. x ∷ m.1) ((only m.0).0 m.3), m.4)),
  )

  pub told_none : (style : Style) (out : Option (List ℕ)) → ((cs : List Change) → ChangesLeft d e old cs ↔ ChangesMove d e None cs new)
      → TellsNext d e false style old new out out
  told_none style out moves = ((moves []).1 refl, refl)

  pub found_refused : (kind : Kind) (writing : Writing) (key : Option KeyOrder) (columns : Columns) (stop : Stop)
      → ((cs : List Change) → ChangesLeft d e old cs ↔ ChangesMove d e (Some kind) cs new) → FoundRefused new kind writing key columns stop
      → NextRefused d e writing key columns old stop
  found_refused kind writing key columns stop moves refused all left =
      let m = (moves all).0 left in
      found_stops d e writing key columns all new kind stop m.0 m.1 m.2 m.3 refused
