use Rattle.std.proofs.Common.{◌≡◌, ◌↔◌, List, Option, IfOk, subst, sym}
use Rattle.sqdiff.specs.Changes.{Change}
use Rattle.sqdiff.specs.DiffCursor as rowids
use Rattle.sqdiff.specs.declared.diff.Kind.{Kind}
use Rattle.sqkeydiff.specs.KeyCursor as keys
use Rattle.cli_show_diff.specs.declared.table_diff.TableDiff.{TableDiff}
use Rattle.cli_show_diff.specs.declared.table_diff.TableDiff.TheVariants.{Rowids, Keys}
use Rattle.cli_show_diff.specs.internal.TableDiffs.{AreStanding, ChangesLeft, ChangesMove}
use Rattle.cli_show_diff.proofs.Answered.{if_ok}
use Rattle.cli_show_diff.proofs.ChangesOfDiffs.{of_keys, of_rowids}
use Rattle.cli_show_diff.proofs.table_diff.TableDiff.advance.Goals as goal

pub returns-in-Rowids-clause-ok : goal.returns-in-Rowids-clause-ok
returns-in-Rowids-clause-ok g c = λ right too standing.
    let d = g.S.PageSource.pages c.args.old.now in
    let e = g.T.PageSource.pages c.args.new.now in
    let was = c.in-Rowids.diff in
    let now = c.advance.new.self in
    let shown = c.in-Rowids.is in
    let same = c.in-Rowids.diff-is in
    let is : c.args.self.now ≡ Rowids was = cc in
    let stands = subst (λ (t : TableDiff). AreStanding d e t) is standing in
    subst (λ (t : TableDiff). IfOk c.advance.result (λ (found : Option Kind). rowids.AreStanding d e now × ((cs : List Change) → ChangesLeft d e t cs ↔ ChangesMove d e found cs (Rowids now)))) (sym is)
    (if_ok c.advance.result (λ (found : Option Kind). rowids.AreStanding d e now × ((cs : List Change) → rowids.ChangesLeft d e was cs ↔ rowids.ChangesMove d e found cs now))
    (λ (found : Option Kind). rowids.AreStanding d e now × ((cs : List Change) → ChangesLeft d e (Rowids was) cs ↔ ChangesMove d e found cs (Rowids now)))
    (λ found w. (w.0, of_rowids d e was now found w.1)) (c.advance.ensures.ok right too stands))

pub returns-in-Keys-clause-ok : goal.returns-in-Keys-clause-ok
returns-in-Keys-clause-ok g c = λ right too standing.
    let d = g.S.PageSource.pages c.args.old.now in
    let e = g.T.PageSource.pages c.args.new.now in
    let was = c.in-Keys.diff in
    let now = c.advance-in-Keys.new.self in
    let shown = c.in-Keys.is in
    let same = c.in-Keys.diff-is in
    let is : c.args.self.now ≡ Keys was = cc in
    let stands = subst (λ (t : TableDiff). AreStanding d e t) is standing in
    subst (λ (t : TableDiff). IfOk c.advance-in-Keys.result (λ (found : Option Kind). keys.AreStanding d e now × ((cs : List Change) → ChangesLeft d e t cs ↔ ChangesMove d e found cs (Keys now)))) (sym is)
    (if_ok c.advance-in-Keys.result (λ (found : Option Kind). keys.AreStanding d e now × ((cs : List Change) → keys.KeyChangesLeft d e was cs ↔ keys.KeyChangesMove d e found cs now))
    (λ (found : Option Kind). keys.AreStanding d e now × ((cs : List Change) → ChangesLeft d e (Keys was) cs ↔ ChangesMove d e found cs (Keys now)))
    (λ found w. (w.0, of_keys d e was now found w.1)) (c.advance-in-Keys.ensures.ok right too stands))
