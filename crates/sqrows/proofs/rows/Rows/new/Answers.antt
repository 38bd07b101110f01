use Rattle.std.proofs.Common.{◌≡◌, ◌≢◌, ◌↔◌, List, Result, Ok, Err, subst, sym}
use Rattle.std.specs.Prelude.{IsErrAnd, MatchResult}
use Rattle.sqpage.specs.declared.fault.Fault.TheVariants as faults
use Rattle.sqpage.proofs.btree.LayoutOfPage.{exits}
use Rattle.sqrows.specs.Trees.{Entry, IsTree}
use Rattle.sqrows.specs.Rows.{Row, HasRows}
use Rattle.sqrows.specs.Cursor.{IsLeft}
use Rattle.sqrows.specs.declared.rows.Rows.{Rows}
use Rattle.sqrows.proofs.rows.Rows.new.Goals as goal

pub returns-in_err-new-clause-err : goal.returns-in_err-new-clause-err
returns-in_err-new-clause-err g c = λ gives.
    let d = g.S.PageSource.pages c.args.source.now in
    let e = c.in_err-new.ensures.err gives in
    exits (λ e. (e.fault ≢ faults.Source) × (e.fault ≢ faults.NoMemory → (all : List Row) → ¬ HasRows d c.args.root all)) c.in_err-new.field-0.0 c.from_residual.result c.from_residual.ensures.1
    (e.0, λ other all h. e.1 other h.0 h.1)

exits_whole : {T E : Type 0} (P : T → Type 0) (R : E → Type 0) (x : E) (r : Result T E) → IsErrAnd r (λ y. y ≡ x) → R x → MatchResult r P R
exits_whole P R x (Ok v) h p = absurd h
exits_whole P R x (Err y) h p = subst R (sym h) p

pub returns-in_err-new-clause-cells : goal.returns-in_err-new-clause-cells
returns-in_err-new-clause-cells g c = λ gives.
    let d = g.S.PageSource.pages c.args.source.now in
    exits_whole (λ (rows : Rows). (xs : List Entry) → IsTree d c.args.root xs ↔ IsLeft d rows.cells xs)
    (λ e. e.fault ≢ faults.NoMemory → (xs : List Entry) → ¬ IsTree d c.args.root xs) c.in_err-new.field-0.0 c.from_residual.result c.from_residual.ensures.1
    (c.in_err-new.ensures.err gives).1
