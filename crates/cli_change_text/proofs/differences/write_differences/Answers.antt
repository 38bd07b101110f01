use Rattle.std.proofs.Common.{◌≡◌, ◌∙◌, max, length, ap, ◌++◌, ◌+◌, ◌-◌, ℕ, suc, List, [], false, refl, sym, subst, add-one, append_assoc, append-nil, arith}
use Rattle.std.proofs.KnownBytes.{Appends-trans}
use Rattle.sqrows.specs.Rows.{Row}
use Rattle.cli_change_text.specs.Changes.{AreDifferences, column_count}
use Rattle.cli_change_text.proofs.DifferencesWritten.{takes_one}
use Rattle.cli_change_text.proofs.differences.write_differences.Goals as goal

pub loop-j-preserved : goal.loop-j-preserved
loop-j-preserved g c =
    let old : Row = record { rowid = c.args.old.now.rowid; values = c.args.old.now.values } in
    let new : Row = record { rowid = c.args.new.now.rowid; values = c.args.new.now.values } in
    let columns = c.args.style.columns.now in
    let h = c.loop-j.invariant in
    let e = c.in_ok-begun.ensures in
    let j = c.loop-j.j in
    let count = c.max-count.result in
    let left : count - j ≡ suc (count - (j + 1)) = omega (arith, c.loop-j-test.true) in (
      h.0 ++ e.0,
      Appends-trans (g.W.Write.contents c.args.out.now) (g.W.Write.contents c.loop-j.out) (g.W.Write.contents c.write_column_change.new.out) h.0 e.0 h.1 e.2,
      λ more are.
          let next = subst (λ (k : ℕ). AreDifferences c.args.style.encoding columns old new c.in_ok-begun.begun k (count - (j + 1)) more) (add-one j) are in
          let one = takes_one c.args.style.encoding columns old new c.loop-j.begun c.in_ok-begun.begun j (count - (j + 1)) e.0 more e.1 next in
          let all = h.2 (e.0 ++ more) (subst (λ (n : ℕ). AreDifferences c.args.style.encoding columns old new c.loop-j.begun j n (e.0 ++ more)) (sym left) one) in
          subst (AreDifferences c.args.style.encoding columns old new false 0 count) (sym (append_assoc h.0 e.0 more)) all,
    )

pub returns : goal.returns
returns g c =
    let old : Row = record { rowid = c.args.old.now.rowid; values = c.args.old.now.values } in
    let new : Row = record { rowid = c.args.new.now.rowid; values = c.args.new.now.values } in
    let columns = c.args.style.columns.now in
    let h = c.loop-j.invariant in
    let count = c.max-count.result in
    let none : count - c.loop-j.j ≡ 0 = omega (arith, c.loop-j-test.false) in
    let all = h.2 [] (subst (λ (n : ℕ). AreDifferences c.args.style.encoding columns old new c.loop-j.begun c.loop-j.j n []) (sym none) refl) in
    let whole = subst (AreDifferences c.args.style.encoding columns old new false 0 count) (append-nil h.0) all in
    let total : count ≡ column_count columns old new =
    c.max-count.ensures ∙ ap (λ n. max n c.len-3.result) (c.max-stored.ensures ∙ ap (λ n. max n c.len-2.result) c.len.ensures ∙ ap (λ n. max (length old.values) n) c.len-2.ensures)
    ∙ ap (λ n. max (max (length old.values) (length new.values)) n) (c.len-3.ensures ∙ columns.names.ok.0) in
    (h.0, subst (λ (n : ℕ). AreDifferences c.args.style.encoding columns old new false 0 n h.0) total whole, h.1)
