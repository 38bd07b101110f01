use Rattle.std.proofs.Common.{rules, ◌≡◌, ℕ, List, IfOk, MatchOption, Some, None, sym, subst}
use Rattle.std.specs.Prelude.{Option}
use Rattle.sqschema.specs.Items.{seen}
use Rattle.sqcontents.specs.Contents.{HasEntryKey, HasNoEntryKey}
use Rattle.sqcontents.proofs.item_key.entry_of_item.Goals as goal

pub returns-in-Some-sql : goal.returns-in-Some-sql
returns-in-Some-sql c =
    let t : (seen c.args.table.now).sql ≡ Some c.deref.result.now = search rules in
    let x : (seen c.args.index.now).sql ≡ Some c.deref-in-Some-sql.result.now = search rules in
    let name = c.args.index.now.name.items in
    subst (λ (a : Option (List ℕ)). IfOk c.written_entry.result (λ found. MatchOption found (HasNoEntryKey c.args.format a (seen c.args.index.now).sql name) (HasEntryKey c.args.format a (seen c.args.index.now).sql name))) (sym t)
    (subst (λ (b : Option (List ℕ)). IfOk c.written_entry.result (λ found. MatchOption found (HasNoEntryKey c.args.format (Some c.deref.result.now) b name) (HasEntryKey c.args.format (Some c.deref.result.now) b name))) (sym x)
    c.written_entry.ensures)

pub returns-in-None : goal.returns-in-None
returns-in-None c =
    let t : (seen c.args.table.now).sql ≡ Some c.deref-in-None.result.now = search rules in
    let x : (seen c.args.index.now).sql ≡ None = search rules in
    let named : c.args.index.now.name.items ≡ c.deref-in-None-2.result.now = search rules in
    let name = c.args.index.now.name.items in
    subst (λ (a : Option (List ℕ)). IfOk c.automatic_entry.result (λ found. MatchOption found (HasNoEntryKey c.args.format a (seen c.args.index.now).sql name) (HasEntryKey c.args.format a (seen c.args.index.now).sql name))) (sym t)
    (subst (λ (b : Option (List ℕ)). IfOk c.automatic_entry.result (λ found. MatchOption found (HasNoEntryKey c.args.format (Some c.deref-in-None.result.now) b name) (HasEntryKey c.args.format (Some c.deref-in-None.result.now) b name))) (sym x)
    (subst (λ (n : List ℕ). IfOk c.automatic_entry.result (λ found. MatchOption found (HasNoEntryKey c.args.format (Some c.deref-in-None.result.now) None n) (HasEntryKey c.args.format (Some c.deref-in-None.result.now) None n))) (sym named)
    c.automatic_entry.ensures))
