use Rattle.std.proofs.Common.{◌≡◌, ℕ, ◌≤◌, List, length, ap, sym, ◌∙◌, ◌++◌, drop, map, arith}
use Rattle.std.proofs.lemmas.List.{append-nil, drop_all}
use Rattle.cli_text.specs.Facts.{behind, between, closing, fact_text}
use Rattle.cli_text.specs.declared.fact.Fact.{Fact}
use Rattle.cli_text.proofs.line.put_others.Goals as goal

pub loop-i-init : goal.loop-i-init
loop-i-init c =
    let facts = c.args.facts.now in
    let style = c.args.style in
    let put = c.in_ok-start.ensures in
    let whole : length c.args.line.now ≤ 256 = omega (arith, c.told-line) in
    let nothing : length facts ≤ length facts = omega arith in (
      nothing,
      put.0,
      put.1 ∙ ap (λ (l : List ℕ). c.closing_of.result.now ++ l) (drop_all 256 c.args.line.now whole) ∙ append-nil c.closing_of.result.now
          ∙ c.closing_of.ensures
          ∙ sym (ap (λ (l : List Fact). behind (between style) (map (fact_text style) l) ++ closing style) (drop_all (length facts) facts nothing)),
    )

pub returns : goal.returns
returns c =
    let style = c.args.style in
    let zero : c.loop-i.i ≡ 0 = omega (arith, c.loop-i-test.false) in (
      c.loop-i.invariant.1,
      c.loop-i.invariant.2
          ∙ ap (λ (n : ℕ). behind (between style) (map (fact_text style) (drop n c.args.facts.now)) ++ closing style) zero,
    )
