-- A byte that isn't the quote is a byte of the name.
use Rattle.std.proofs.Common.{◌+◌, ◌++◌, [], ◌∷◌, drop, get_or, sym, ◌∙◌, ap, append_assoc, arith}
use Rattle.schema_print.specs.Names.{unquoted}
use Rattle.schema_print.proofs.Steps.{unquoted_other}
use Rattle.schema_print.proofs.names.unquoted.Goals as goal

pub loop-n-preserved-then-s-n : goal.loop-n-preserved-then-s-n
loop-n-preserved-then-s-n c =
    let s = c.args.s.now in
    let q = c.args.quote in
    let n = c.loop-n.n in
    let out = c.loop-n.out.items in
    let b = get_or s n 0 in
    let left = unquoted q (drop (n + 1) s) in
    record {
      within = omega (arith, c.loop-n-test.true);
      rest = c.loop-n.invariant.rest ∙ ap (λ r. out ++ r) (unquoted_other q s n c.loop-n-test.true c.if-s-n.true)
          ∙ sym (append_assoc out (b ∷ []) left) ∙ ap (λ r. r ++ left) (sym c.in_ok-push.ensures.items);
    }
