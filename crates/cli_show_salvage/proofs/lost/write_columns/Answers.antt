use Rattle.std.proofs.Common.{◌≡◌, ◌+◌, ◌-◌, ℕ, arith, subst}
use Rattle.std.proofs.KnownBytes.{Appends-nil}
use Rattle.std.specs.Io.KnownBytes.{Appends}
use Rattle.std.specs.List.{flat_map, range_with_len}
use Rattle.cli_show_salvage.specs.Lost.{added_text}
use Rattle.cli_show_salvage.proofs.TextsInRow.{appends_more}
use Rattle.cli_show_salvage.proofs.lost.write_columns.Goals as goal

pub returns-then-to-from : goal.returns-then-to-from
returns-then-to-from g c =
    let out = g.W.Write.contents c.args.out.now in
    let none : 0 ≡ c.args.to - c.args.from = omega (arith, c.if-to-from.true) in
    subst (λ (n : ℕ). Appends out out (flat_map (added_text c.args.name.now) (range_with_len c.args.from n))) none (Appends-nil out)

pub columns-init : goal.columns-init
columns-init g c =
    let out = g.W.Write.contents c.args.out.now in
    let none : 0 ≡ c.args.from - c.args.from = omega arith in
    subst (λ (n : ℕ). Appends out out (flat_map (added_text c.args.name.now) (range_with_len c.args.from n))) none (Appends-nil out)

pub columns-preserved : goal.columns-preserved
columns-preserved g c =
    let from = c.args.from in
    let k = c.columns.k in
    let old = g.W.Write.contents c.args.out.now in
    let new = g.W.Write.contents c.write_added.new.out in
    let at : from + (k - from) ≡ k = omega (arith, c.columns.near-k) in
    let one : (k - from) + 1 ≡ (k + 1) - from = omega (arith, c.columns.near-k) in
    subst (λ (n : ℕ). Appends old new (flat_map (added_text c.args.name.now) (range_with_len from n))) one
    (appends_more (added_text c.args.name.now) from (k - from) k old (g.W.Write.contents c.columns.out) new at c.columns.invariant c.in_ok-write_added.ensures)
