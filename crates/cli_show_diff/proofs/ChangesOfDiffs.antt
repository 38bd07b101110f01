-- Where a walk by rowid or by key comes to.
use Rattle.std.proofs.Common.{◌↔◌, List, Option, Some, None}
use Rattle.sqval.specs.Database.{Database}
use Rattle.sqdiff.specs.Changes.{Change, inserted, deleted, changed}
use Rattle.sqdiff.specs.DiffCursor as rowids
use Rattle.sqdiff.specs.declared.diff.Diff.{Diff}
use Rattle.sqdiff.specs.declared.diff.Kind.{Kind}
use Rattle.sqdiff.specs.declared.diff.Kind.TheVariants.{Inserted, Deleted, Changed}
use Rattle.sqkeydiff.specs.KeyCursor as keys
use Rattle.sqkeydiff.specs.declared.diff.KeyDiff.{KeyDiff}
use Rattle.cli_show_diff.specs.declared.table_diff.TableDiff.TheVariants.{Rowids, Keys}
use Rattle.cli_show_diff.specs.internal.TableDiffs.{ChangesLeft, ChangesMove, IsAtChange}

-- the change that it is at is the same
at_rowid : (diff : Diff) (kind : Kind) (c : Change) → rowids.IsAtChange diff kind c ↔ IsAtChange (Rowids diff) kind c
at_rowid diff Inserted (inserted r) = (λ h. h, λ h. h)
at_rowid diff Inserted (deleted r) = (λ h. h, λ h. h)
at_rowid diff Inserted (changed r s) = (λ h. h, λ h. h)
at_rowid diff Deleted (inserted r) = (λ h. h, λ h. h)
at_rowid diff Deleted (deleted r) = (λ h. h, λ h. h)
at_rowid diff Deleted (changed r s) = (λ h. h, λ h. h)
at_rowid diff Changed (inserted r) = (λ h. h, λ h. h)
at_rowid diff Changed (deleted r) = (λ h. h, λ h. h)
at_rowid diff Changed (changed r s) = (λ h. h, λ h. h)

at_key : (diff : KeyDiff) (kind : Kind) (c : Change) → keys.IsAtKeyChange diff kind c ↔ IsAtChange (Keys diff) kind c
at_key diff Inserted (inserted r) = (λ h. h, λ h. h)
at_key diff Inserted (deleted r) = (λ h. h, λ h. h)
at_key diff Inserted (changed r s) = (λ h. h, λ h. h)
at_key diff Deleted (inserted r) = (λ h. h, λ h. h)
at_key diff Deleted (deleted r) = (λ h. h, λ h. h)
at_key diff Deleted (changed r s) = (λ h. h, λ h. h)
at_key diff Changed (inserted r) = (λ h. h, λ h. h)
at_key diff Changed (deleted r) = (λ h. h, λ h. h)
at_key diff Changed (changed r s) = (λ h. h, λ h. h)

pub of_rowids : (d e : Database) (old new : Diff) (found : Option Kind) → ((cs : List Change) → rowids.ChangesLeft d e old cs ↔ rowids.ChangesMove d e found cs new)
    → (cs : List Change) → ChangesLeft d e (Rowids old) cs ↔ ChangesMove d e found cs (Rowids new)
of_rowids d e old new None moves cs = moves cs
of_rowids d e old new (Some kind) moves cs = (
  λ left. let m = (moves cs).0 left in (m.0, m.1, m.2, (at_rowid new kind m.0).0 m.3, m.4),
  λ m. (moves cs).1 (m.0, m.1, m.2, (at_rowid new kind m.0).1 m.3, m.4),
)

pub of_keys : (d e : Database) (old new : KeyDiff) (found : Option Kind) → ((cs : List Change) → keys.KeyChangesLeft d e old cs ↔ keys.KeyChangesMove d e found cs new)
    → (cs : List Change) → ChangesLeft d e (Keys old) cs ↔ ChangesMove d e found cs (Keys new)
of_keys d e old new None moves cs = moves cs
of_keys d e old new (Some kind) moves cs = (
  λ left. let m = (moves cs).0 left in (m.0, m.1, m.2, (at_key new kind m.0).0 m.3, m.4),
  λ m. (moves cs).1 (m.0, m.1, m.2, (at_key new kind m.0).1 m.3, m.4),
)
