use Rattle.std.proofs.Common.{ℕ, ◌+◌, ◌-◌, ◌%◌, ◌/◌, ◌∙◌, sym, subst}
use Rattle.sqpage.specs.internal.PointerMaps.{IsNear}
use Rattle.sqpage.proofs.file.PointerMapGroups.{near_first, near_second}
use Rattle.sqpage.proofs.pointer_map.map_near.Goals as goal

pub returns-then-first-lock_byte_page-clause-near : goal.returns-then-first-lock_byte_page-clause-near
returns-then-first-lock_byte_page-clause-near c =
    let p = c.args.p in
    let u = c.usable_of.result in
    subst (λ (v : ℕ). IsNear c.args.page_size v p (p - (p - 2) % (u / 5 + 1) + 1)) c.usable_of.ensures.value
    (near_second c.args.page_size u p c.requires (c.if-first-lock_byte_page.true ∙ c.lock_byte_page.ensures.value))

pub returns-else-first-lock_byte_page-clause-near : goal.returns-else-first-lock_byte_page-clause-near
returns-else-first-lock_byte_page-clause-near c =
    let p = c.args.p in
    let u = c.usable_of.result in
    subst (λ (v : ℕ). IsNear c.args.page_size v p (p - (p - 2) % (u / 5 + 1))) c.usable_of.ensures.value
    (near_first c.args.page_size u p c.requires (λ e. c.if-first-lock_byte_page.false (e ∙ sym c.lock_byte_page.ensures.value)))
