use Rattle.std.proofs.Common.{◌≡◌, ◌+◌, ◌-◌, ◌≤◌, ◌∙◌, ℕ, Bool, true, false, drop, unwrap_or, ap, refl, arith}
use Rattle.std.specs.Bool.{then_some}
use Rattle.std.proofs.lemmas.List.{length-take}
use Rattle.sqpage.specs.Page.{pointer_in, if_present, has_payload}
use Rattle.sqpage.proofs.btree.PartsOfCells.{local_within}
use Rattle.sqsalvage.proofs.tree_page.cell_with.Goals as goal

pub returns-clause-part : goal.returns-clause-part
returns-clause-part c =
    let kind = c.args.kind in
    let used = c.args.used.now in
    let body : ℕ = c.args.parts.now.body in
    let local : ℕ = c.args.parts.now.local in
    let within : local ≤ unwrap_or c.then_some-3.result 0 = local_within kind used (pointer_in kind used c.args.number c.args.i) c.args.parts.now c.then_some-3.result c.requires.parts c.requires.sized.0 (c.then_some-3.ensures ∙ ap (λ b. then_some b c.args.parts.now.payload) c.has_payload.ensures ∙ present (has_payload kind)) in
    let size : body + local - body ≡ local = omega arith in
    omega (arith, size, within, length-take (body + local - body) (drop body used))
  where
    present : (b : Bool) → then_some b c.args.parts.now.payload ≡ if_present b c.args.parts.now.payload
    present true = refl
    present false = refl
