use Rattle.std.proofs.Common.{◌∙◌, sym, subst, List}
use Rattle.std.specs.Prelude.{MatchBool, option_map}
use Rattle.sqlite_record.specs.Record.{decode}
use Rattle.sqkeys.specs.declared.row_rules.ColumnRule.{ColumnRule}
use Rattle.sqindex.specs.RowsKept.{IsClear, IsUnclear}
use Rattle.sqindex.specs.internal.Reading.{stored_of}
use Rattle.sqindex.proofs.KeyedScanned.{keyed_still, keyed_kept, keyed_fault, keyed_next}
use Rattle.sqindex.proofs.keyed_rows.see.Goals as goal

pub returns-then-is_some : goal.returns-then-is_some
returns-then-is_some c = λ rows held w. keyed_still c.args.key.now rows (stored_of c.args.found c.args.row.now) c.args.scan.fault c.args.scan.clear (sym c.is_some.ensures ∙ c.if-is_some.true) w

pub returns-in-Some : goal.returns-in-Some
returns-in-Some c = λ rows held w. keyed_fault c.args.key.now rows (option_map (λ b. b.now) c.args.before) (stored_of c.args.found c.args.row.now) c.in-Some.fault c.args.scan.clear held c.in-Some.ensures

pub returns-in-None : goal.returns-in-None
returns-in-None c = λ rows held w.
    keyed_next c.args.key.now rows (option_map (λ b. b.now) c.args.before) (stored_of c.args.found c.args.row.now) c.is_clear.result c.args.scan.clear
    (keyed_kept c.args.key.now rows c.args.scan.fault c.args.scan.clear (sym c.is_some.ensures ∙ c.if-is_some.false) w) held c.in-None.ensures
    (subst (λ (rules : List ColumnRule). MatchBool c.is_clear.result (IsClear rules (decode c.args.row.now)) (IsUnclear rules (decode c.args.row.now))) c.deref.ensures.value c.is_clear.ensures)
