use Rattle.sqcheck.proofs.Below.{IsPageSize, List, Some, ap, arith, byte, least_page_size, length, of_ok, page, refl, subst, sym, usable_size, with_items_is, word, ℕ, ◌-◌, ◌∙◌, ◌≡◌, ◌≢◌}
use Rattle.sqcheck.proofs.survey.reserved_by_maps.Goals as goal

pub reserved_in-requires : goal.reserved_in-requires
reserved_in-requires g c =
    let least = least_page_size c.page_size.result (subst IsPageSize c.get.ensures.value c.get.ensures.valid) in
    omega (arith, least, c.deref.ensures.len, c.in-Ok.ensures.len, c.get.ensures.value, c.page.auto.out, c.deref_mut.ensures.len)

pub returns-clause-known : goal.returns-clause-known
returns-clause-known g c = λ right asked one auto.
    let d = g.S.PageSource.pages c.args.source.now in
    let read = of_ok _ c.page.result c.is_err.result c.is_err.ensures.value c.if-is_err.false (c.page.ensures.read right) in
    let first : c.deref.result.now ≡ page d 1 = c.deref.ensures.value ∙ with_items_is c.in-Ok.bytes c.page.new.out (c.page.auto.out ∙ c.deref_mut.ensures.len) ∙ read.0 in
    let said : c.reserved_in.result ≡ Some (byte (page d 1) 20) =
    c.reserved_in.ensures.some (subst (λ (l : List ℕ). word l 52 ≢ 0) (sym first) auto) ∙ ap (λ (l : List ℕ). Some (byte l 20)) first in
    let long : length (page d 1) ≡ g.S.PageSource.size c.args.source.now =
    ap (λ (l : List ℕ). length l) (sym read.0) ∙ c.page.auto.out ∙ c.deref_mut.ensures.len ∙ c.in-Ok.ensures.len ∙ c.get.ensures.value ∙ c.page_size.ensures in
    (byte (page d 1) 20, said, ap (λ n. n - byte (page d 1) 20) (sym long))
