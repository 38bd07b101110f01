use Rattle.std.proofs.Common.{◌≡◌, ◌+◌, ◌-◌, ◌≤◌, ◌∙◌, ℕ, Bool, true, false, length, drop, unwrap_or, ap, sym, subst, refl, arith}
use Rattle.std.specs.Bool.{then_some}
use Rattle.std.proofs.lemmas.List.{length-take}
use Rattle.sqpage.specs.Page.{Page, pointer, HasParts, if_present, has_payload}
use Rattle.sqpage.proofs.btree.PartsOfCells.{local_within}
use Rattle.sqpage.proofs.page.BtreePage.cell_with.Goals as goal

pub returns-clause-part : goal.returns-clause-part
returns-clause-part c =
    let p : Page = record { used = c.self.inside.used.now; number = c.self.inside.number; kind = c.self.inside.kind } in
    let has : HasParts p.kind p.used (pointer p c.args.i) c.args.parts.now = subst (λ (q : Page). HasParts q.kind q.used (pointer q c.args.i) c.args.parts.now) (sym c.self.view_is) c.requires.parts in
    let body : ℕ = c.args.parts.now.body in
    let local : ℕ = c.args.parts.now.local in
    let least : 480 ≤ length c.self.inside.used.now = c.self.invariant.least in
    let within : local ≤ unwrap_or c.then_some-3.result 0 = local_within p.kind p.used (pointer p c.args.i) c.args.parts.now c.then_some-3.result has least (c.then_some-3.ensures ∙ ap (λ b. then_some b c.args.parts.now.payload) c.has_payload.ensures ∙ present (has_payload p.kind)) in
    let size : body + local - body ≡ local = omega arith in
    omega (arith, size, within, length-take (body + local - body) (drop body c.self.inside.used.now))
  where
    present : (b : Bool) → then_some b c.args.parts.now.payload ≡ if_present b c.args.parts.now.payload
    present true = refl
    present false = refl
