use Rattle.std.proofs.Common.{◌≡◌, true, false, sym, ◌∙◌}
use Rattle.rig_shrink.proofs.bytes.is_image.Goals as goal

pub returns-then-not-is_long : goal.returns-then-not-is_long
returns-then-not-is_long c = (λ no. absurd (cc no), λ is. let no : true ≡ false = sym (c.is_long.ensures.1 (is.least, is.greatest)) ∙ c.if-not-is_long.true in absurd (cc no))

pub returns : goal.returns
returns c =
    let long = c.is_long.ensures.0 c.if-not-is_long.false in
    (λ yes. record { least = long.0; greatest = long.1; each = c.are_listed.ensures.0 yes }, λ is. c.are_listed.ensures.1 is.each)
