use Rattle.std.proofs.Common.{rules, ◌≡◌, ℕ, List, IfOk, MatchOption, Some, None, sym, subst}
use Rattle.std.specs.Prelude.{Option}
use Rattle.sqschema.specs.Items.{seen}
use Rattle.sqcontents.specs.Contents.{HasKey, HasNoKey}
use Rattle.sqcontents.proofs.keys.key_of_item.Goals as goal

pub returns-in-Some-sql : goal.returns-in-Some-sql
returns-in-Some-sql c =
    let t : (seen c.args.table.now).sql ≡ Some c.deref.result.now = search rules in
    let x : (seen c.args.index.now).sql ≡ Some c.deref-in-Some-sql.result.now = search rules in
    let name = c.args.index.now.name.items in
    subst (λ (a : Option (List ℕ)). IfOk c.key_of.result (λ found. MatchOption found (HasNoKey c.args.format a (seen c.args.index.now).sql name) (HasKey c.args.format a (seen c.args.index.now).sql name))) (sym t)
    (subst (λ (b : Option (List ℕ)). IfOk c.key_of.result (λ found. MatchOption found (HasNoKey c.args.format (Some c.deref.result.now) b name) (HasKey c.args.format (Some c.deref.result.now) b name))) (sym x)
    c.key_of.ensures)

pub returns-in-None : goal.returns-in-None
returns-in-None c =
    let t : (seen c.args.table.now).sql ≡ Some c.deref-in-None.result.now = search rules in
    let x : (seen c.args.index.now).sql ≡ None = search rules in
    let named : c.args.index.now.name.items ≡ c.deref-in-None-2.result.now = search rules in
    let name = c.args.index.now.name.items in
    subst (λ (a : Option (List ℕ)). IfOk c.automatic_key.result (λ found. MatchOption found (HasNoKey c.args.format a (seen c.args.index.now).sql name) (HasKey c.args.format a (seen c.args.index.now).sql name))) (sym t)
    (subst (λ (b : Option (List ℕ)). IfOk c.automatic_key.result (λ found. MatchOption found (HasNoKey c.args.format (Some c.deref-in-None.result.now) b name) (HasKey c.args.format (Some c.deref-in-None.result.now) b name))) (sym x)
    (subst (λ (n : List ℕ). IfOk c.automatic_key.result (λ found. MatchOption found (HasNoKey c.args.format (Some c.deref-in-None.result.now) None n) (HasKey c.args.format (Some c.deref-in-None.result.now) None n))) (sym named)
    c.automatic_key.ensures))
