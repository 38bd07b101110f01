-- No others than the clauses that were read are a statement.
use Rattle.std.proofs.Common.{◌≡◌, ℕ, List, sym, ◌∙◌, arith, true, false}
use Rattle.schema_print.specs.declared.heads.Head.{Head}
use Rattle.schema_text.specs.Clauses.{IsTable}
use Rattle.schema_text.specs.declared.clauses.Clause.{Clause}
use Rattle.schema_text.proofs.Chain.{Are_only, only_table}
use Rattle.schema_text.proofs.clauses.table_of.Goals as goal
use Rattle.schema_text.proofs.clauses.table_of.Goals.{then-walk-tokens-via-then-walk-tokens, then-walk-tokens-via-else-walk-tokens+then-not-may_end}

pub returns-then-walk-tokens-clause-only : goal.returns-then-walk-tokens-clause-only
returns-then-walk-tokens-clause-only c h ds k =
    let w = c.in_ok-walk.walk in
    let all = only_table c.args.text.now c.args.tokens.now c.in-Some.head w.clauses.items w.end w.place h ds (sym c.in-Some.ensures.value) c.in_ok-walk.ensures.clauses c.in_ok-walk.ensures.stops c.in_ok-walk.ensures.within k in
    let reach = all.reach in
    let ended = all.ended in
    elim c.then-walk-tokens.branch [
      | then-walk-tokens-via-then-walk-tokens w ↦ grind (arith, reach)
      | then-walk-tokens-via-else-walk-tokens+then-not-may_end w ↦ grind (arith, ended)
    ]

pub returns-clause-only : goal.returns-clause-only
returns-clause-only c h ds k =
    let w = c.in_ok-walk.walk in
    let all = only_table c.args.text.now c.args.tokens.now c.in-Some.head w.clauses.items w.end w.place h ds (sym c.in-Some.ensures.value) c.in_ok-walk.ensures.clauses c.in_ok-walk.ensures.stops c.in_ok-walk.ensures.within k in
    (all.heads, all.clauses)
