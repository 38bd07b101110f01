use Rattle.std.proofs.Common.{◌≡◌, ◌∙◌, ◌*◌, ℕ, length, false, not, add-one, below_more, sym, ap, rules, arith}
use Rattle.std.proofs.lemmas.Bool.{not-true}
use Rattle.sqdeep.specs.Texts.{unit, is_high, is_low}
use Rattle.sqdeep.proofs.UnitsOfText.{paired_to_end, last_one}
use Rattle.sqdeep.proofs.text.is_utf16.Goals as goal

pub units-preserved : goal.units-preserved
units-preserved c =
    let u = unit c.args.big c.args.bytes.now in
    let same : c.ends_pair.result ≡ c.units.high = search rules in
    let low : c.ends_pair.result ≡ is_low (u c.units.k) = c.ends_pair.ensures ∙ ap is_low c.unit_at-unit.ensures in
    let high : c.begins_pair-high.result ≡ is_high (u c.units.k) = c.begins_pair-high.ensures ∙ ap is_high c.unit_at-unit.ensures in
    record {
      high = rw add-one high;
      paired = below_more _ _ c.units.invariant.paired (sym low ∙ same ∙ c.units.invariant.high);
    }

pub returns : goal.returns
returns c =
    let u = unit c.args.big c.args.bytes.now in
    let k : ℕ = c.units.k in
    let long : length c.args.bytes.now ≡ 2 * k = omega arith in (
      (λ yes.
          let none : c.units.high ≡ false = not-true c.units.high yes in
          record { whole = search rules; paired = paired_to_end c.args.big c.args.bytes.now k long c.units.invariant.paired (sym c.units.invariant.high ∙ none) }),
      (λ is. ap not (c.units.invariant.high ∙ last_one c.args.big c.args.bytes.now k long is)),
    )
