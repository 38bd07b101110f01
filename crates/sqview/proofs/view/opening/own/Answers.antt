use Rattle.std.proofs.Common.{◌≡◌, ◌∙◌, ℕ, List, refl, sym, subst, ap}
use Rattle.std.specs.Prelude.{Ok, Err}
use Rattle.sqval.specs.PageSize.{IsPageSize}
use Rattle.sqpage.specs.Header.{size_named, HasMagic, HasPageSize}
use Rattle.sqview.specs.LogView.{head_of, own_pages}
use Rattle.sqview.specs.internal.ViewParts.{IsUnsized, LimitAnswer}
use Rattle.sqview.proofs.openings.ShownOrRefusedView.{answers, unread_not, own_unsized, own_limited, own_shown}
use Rattle.sqview.proofs.view.opening.own.Goals as goal

pub returns-in_err-head-clause-right : goal.returns-in_err-head-clause-right
returns-in_err-head-clause-right g c = λ right ok. absurd (unread_not c.from_residual.result c.from_residual.ensures.1 ok)

pub returns-in_default-clause-right : goal.returns-in_default-clause-right
returns-in_default-clause-right g c = λ right ok wal journal short alone.
    let db = g.F.FileBytes.bytes c.args.db in
    let head : c.in_ok-head.head ≡ head_of db = c.in_ok-head.ensures.read right in
    own_unsized c.args.limits db wal journal alone short c.without_size.result (subst (λ (h : List ℕ). IsUnsized h c.without_size.result) head c.without_size.ensures)
    (λ has. let f = c.in_default.ensures.valid.1 (subst HasPageSize (sym head) has) in cc)

pub returns-in_err-count-clause-right : goal.returns-in_err-count-clause-right
returns-in_err-count-clause-right g c = λ right ok wal journal short alone.
    let db = g.F.FileBytes.bytes c.args.db in
    let head : c.in_ok-head.head ≡ head_of db = c.in_ok-head.ensures.read right in
    let e = c.in_err-count.field-0.0 in
    let named = c.in-Some.ensures.value ∙ ap size_named head in
    let is = subst HasPageSize head (c.in-Some.ensures.valid.0 refl) in
    let size : IsPageSize c.in-Some.page_size = subst IsPageSize (sym named) is in
    let counted : c.count_pages.result ≡ own_pages c.in-Some.page_size db = c.count_pages.ensures (c.read_head.ensures.still_right right) (head ∙ ap head_of (sym c.read_head.ensures.same_bytes)) ∙ ap (own_pages c.in-Some.page_size) c.read_head.ensures.same_bytes in
    let bad : LimitAnswer c.args.limits.bytes c.in-Some.page_size (own_pages c.in-Some.page_size db) (Err e) = subst (λ (n : ℕ). LimitAnswer c.args.limits.bytes c.in-Some.page_size n (Err e)) counted c.in_err-count.ensures in
    answers c.args.limits g.F.FileBytes.bytes db wal journal c.from_residual-in_err-count.result e c.from_residual-in_err-count.ensures.1 (own_limited c.args.limits db wal journal alone short c.in-Some.page_size size named e bad)

pub returns-clause-right : goal.returns-clause-right
returns-clause-right g c = λ right ok wal journal short alone.
    let db = g.F.FileBytes.bytes c.args.db in
    let head : c.in_ok-head.head ≡ head_of db = c.in_ok-head.ensures.read right in
    let named = c.in-Some.ensures.value ∙ ap size_named head in
    let is = subst HasPageSize head (c.in-Some.ensures.valid.0 refl) in
    let size : IsPageSize c.in-Some.page_size = subst IsPageSize (sym named) is in
    let counted : c.count_pages.result ≡ own_pages c.in-Some.page_size db = c.count_pages.ensures (c.read_head.ensures.still_right right) (head ∙ ap head_of (sym c.read_head.ensures.same_bytes)) ∙ ap (own_pages c.in-Some.page_size) c.read_head.ensures.same_bytes in
    let le : LimitAnswer c.args.limits.bytes c.in-Some.page_size (own_pages c.in-Some.page_size db) (Ok c.in_ok-count.count) = subst (λ (n : ℕ). LimitAnswer c.args.limits.bytes c.in-Some.page_size n (Ok c.in_ok-count.count)) counted c.in_ok-count.ensures in
    own_shown c.args.limits db wal journal alone short c.in-Some.page_size size named g.F.FileBytes.bytes _ le
    (subst HasMagic head (c.has_magic.ensures.0 c.if-not-has_magic.false)) refl c.read_head.ensures.same_bytes c.none.ensures refl
