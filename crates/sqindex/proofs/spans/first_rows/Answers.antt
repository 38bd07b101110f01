use Rattle.std.proofs.Common.{ℕ, [], sym, subst}
use Rattle.std.specs.Prelude.{Result, Ok, Err, IfOk, IfErr}
use Rattle.sqval.specs.Database.{Database}
use Rattle.sqkeys.specs.declared.key.IndexKey.{IndexKey}
use Rattle.sqindex.specs.declared.error.IndexError.{IndexError}
use Rattle.sqindex.specs.declared.rows.Rows.{Rows}
use Rattle.sqindex.specs.declared.stream.Stage.{Stage}
use Rattle.sqindex.specs.declared.stream.Stage.TheVariants.{Lost}
use Rattle.sqindex.specs.Indexes.{IndexRefused}
use Rattle.sqindex.specs.internal.Matching.{AreFirstRows}
use Rattle.sqindex.specs.internal.RowsGiven.{IsCursor}
use Rattle.sqindex.proofs.spans.first_rows.Goals as goal

begun_anew : (d : Database) (table : ℕ) (old : Rows) (new : Result Rows IndexError) → IfOk new (λ rows. IsCursor d table rows []) → ((index limit : ℕ) (key : IndexKey) → IfErr new (IndexRefused d table index key limit)) → AreFirstRows d table Lost old new
begun_anew d table old (Ok rows) is refused = is
begun_anew d table old (Err e) is refused = refused

pub returns-in-Lost-clause-are : goal.returns-in-Lost-clause-are
returns-in-Lost-clause-are g c = λ right.
    let d = g.S.PageSource.pages c.args.source.now in
    subst (λ (s : Stage). AreFirstRows d c.args.table s c.args.rows c.begin.result) (sym c.in-Lost.is) (begun_anew d c.args.table c.args.rows c.begin.result (c.begin.ensures.ok right) (c.begin.ensures.err right))
