use Rattle.std.proofs.Common.{◌≡◌, ◌∙◌, ℕ, List, refl, sym, subst, arith}
use Rattle.history.specs.Table.{AreThere, IsFirstGone}
use Rattle.sqpast.specs.Past.{IsTable}
use Rattle.sqpast.specs.internal.Before.{IsStart, own_count}
use Rattle.sqpast.proofs.known.KnownViews.{gone_none, gone_some}
use Rattle.sqpast.proofs.known.BeforeCommits.{count_is, page_lost, judged_length}
use Rattle.sqpast.proofs.before.is_lost_before.Goals as goal
use Rattle.sqpast.proofs.before.is_lost_before.Goals.{then-count-len-via-then-count-len, then-count-len-via-else-count-len+then-is_some}

pub returns-then-count-len-clause-right : goal.returns-then-count-len-clause-right
returns-then-count-len-clause-right g c = λ rights most front took named is one start.
    let size = c.args.page_size in
    let w = g.F.FileBytes.bytes c.args.log.now in
    let file = g.F.FileBytes.bytes c.args.db.now in
    let count = c.count-count.result in
    let table = subst (λ (k : ℕ). IsTable k w front file count c.in_ok-table.table) named (c.in_ok-table.ensures.right rights most front took is one) in
    let n : count ≡ own_count size file = c.count-count.ensures ∙ count_is size file c.args.start start in
    elim c.then-count-len.branch [
      | then-count-len-via-then-count-len x ↦ absurd (omega (arith, x.if-count-len.true, c.len.ensures, table.long))
      | then-count-len-via-else-count-len+then-is_some x ↦
          let gone = gone_some x.first_gone.result (AreThere table.until 0 count) (IsFirstGone table.until 0 count)
          (sym x.is_some.ensures ∙ x.if-is_some.true) (x.first_gone.ensures table.until table.greatest) in
          record {
            yes = λ _. (table.bytes, page_lost size w front file one count c.in_ok-table.table table (omega (arith, table.long, n)) gone.0 (subst (λ (k : ℕ). IsFirstGone table.until 0 k gone.0) n gone.1));
            no = λ not. absurd (not refl);
          }
    ]

pub returns-clause-right : goal.returns-clause-right
returns-clause-right g c = λ rights most front took named is one start.
    let size = c.args.page_size in
    let bytes = g.F.FileBytes.bytes in
    let w = bytes c.args.log.now in
    let file = bytes c.args.db.now in
    let count = c.count-count.result in
    let same = c.read_table.ensures.same_bytes in
    let table = subst (λ (k : ℕ). IsTable k w front file count c.in_ok-table.table) named (c.in_ok-table.ensures.right rights most front took is one) in
    let n : count ≡ own_count size file = c.count-count.ensures ∙ count_is size file c.args.start start in
    let all = gone_none c.first_gone.result (AreThere table.until 0 count) (IsFirstGone table.until 0 count)
    (sym c.is_some.ensures ∙ c.if-is_some.false) (c.first_gone.ensures table.until table.greatest) in
    let start' = subst (λ (f : List ℕ). IsStart size f c.args.start) (sym same.0) start in
    let gone = c.in_ok-gone.ensures.right (c.read_table.ensures.still_right rights).0 most front w took named is one start' in
    judged_length size w front file one count c.in_ok-table.table table (omega (arith, table.long, n)) (subst (λ (k : ℕ). AreThere table.until 0 k) n all) c.in_ok-gone.gone
    (bytes c.read_table.new.db) same.0 gone
