use Rattle.sqcheck.proofs.Between.{Database, HasHeaderOf, HeaderFault, IsPageSize, IsReportOf, List, StandsWith, StandsAt, UnlessUnread, ap, err_of, exits, first_sized, header_sound, header_stands, if_err, knows_maps, least_page_size, length, maps_all, maps_used, no_magic, ok_of, page, page_stands, refl, stands_read, subst, sym, with_items_is, ℕ, ◌∙◌, ◌≡◌}
use Rattle.sqpage.specs.declared.fault.Fault.TheVariants as faults
use Rattle.sqcheck.proofs.checker.check_snapshot.Goals as goal

pub returns-then-count-eq0-clause-err : goal.returns-then-count-eq0-clause-err
returns-then-count-eq0-clause-err g c = λ right.
    stands_read g.V.Snapshot.given c.args.options.pointer_maps g.V.Snapshot.pages g.V.Snapshot.size faults.Magic 1 (header_stands c.args.options.pointer_maps g.V.Snapshot.pages g.V.Snapshot.size g.V.Snapshot.size faults.Magic refl (no_magic g.V.Snapshot.pages (sym (ap (λ (q : Database). length q) c.requires.same.0) ∙ sym c.count-count.ensures ∙ c.if-count-eq0.true)))

pub read_page-requires-clause-same : goal.read_page-requires-clause-same
read_page-requires-clause-same g c = record {
  sized = subst IsPageSize (c.get.ensures.value ∙ c.page_size-size.ensures ∙ c.requires.same.1) c.get.ensures.valid;
  same_pages = c.requires.same.0;
  same_size = c.requires.same.1;
  still_right = c.requires.same.2;
  still_given = c.requires.same.3;
}

pub judge_header-requires-clause-large : goal.judge_header-requires-clause-large
judge_header-requires-clause-large g c = least_page_size c.page_size-size.result (subst IsPageSize c.get.ensures.value c.get.ensures.valid)

pub returns-in-Ok-new_walker-clause-ok : goal.returns-in-Ok-new_walker-clause-ok
returns-in-Ok-new_walker-clause-ok g c = λ right.
    let d = g.V.Snapshot.pages in
    let both : g.V.Snapshot.right × g.V.Snapshot.judged = (right, c.requires.judged.0 right) in
    let read = c.in_ok-read_page.ensures.read right in
    let first : c.deref.result.now ≡ page d 1 = c.deref.ensures.value ∙ with_items_is c.in-Ok.bytes c.read_page.new.out (c.read_page.auto.out ∙ c.deref_mut.ensures.len) ∙ read.0 in
    let hd = subst (λ (l : List ℕ). HasHeaderOf c.args.options.pointer_maps c.in_ok-header.header c.page_size-size.result l) first c.in_ok-header.ensures.ok in
    let size = c.page_size-size.ensures ∙ c.requires.same.1 in
    let long = first_sized d g.V.Snapshot.size c.count-count.result (c.count-count.ensures ∙ ap (λ (q : Database). length q) c.requires.same.0) c.if-count-eq0.false read.1 in
    ok_of _ (StandsAt g.V.Snapshot) c.check_pages.result (c.check_pages.ensures.checks both c.args.options.pointer_maps read.1 (record { first = hd.first_trunk; said = hd.free_pages; largest = hd.largest_root }) (c.in-Ok-new_walker.ensures.new both)
    (header_sound c.args.options.pointer_maps d c.in_ok-header.header c.page_size-size.result g.V.Snapshot.size size hd))

pub returns-in-Ok-new_walker-clause-err : goal.returns-in-Ok-new_walker-clause-err
returns-in-Ok-new_walker-clause-err g c = λ right.
    let d = g.V.Snapshot.pages in
    let both : g.V.Snapshot.right × g.V.Snapshot.judged = (right, c.requires.judged.0 right) in
    let read = c.in_ok-read_page.ensures.read right in
    let first : c.deref.result.now ≡ page d 1 = c.deref.ensures.value ∙ with_items_is c.in-Ok.bytes c.read_page.new.out (c.read_page.auto.out ∙ c.deref_mut.ensures.len) ∙ read.0 in
    let hd = subst (λ (l : List ℕ). HasHeaderOf c.args.options.pointer_maps c.in_ok-header.header c.page_size-size.result l) first c.in_ok-header.ensures.ok in
    let size = c.page_size-size.ensures ∙ c.requires.same.1 in
    let long = first_sized d g.V.Snapshot.size c.count-count.result (c.count-count.ensures ∙ ap (λ (q : Database). length q) c.requires.same.0) c.if-count-eq0.false read.1 in
    let sound = header_sound c.args.options.pointer_maps d c.in_ok-header.header c.page_size-size.result g.V.Snapshot.size size hd in
    if_err _ (λ e. UnlessUnread g.V.Snapshot.given e.fault (StandsWith c.args.options.pointer_maps d g.V.Snapshot.size e.fault e.page)) c.check_pages.result (λ e h. page_stands g.V.Snapshot.given c.args.options.pointer_maps d g.V.Snapshot.size e.fault e.page long sound h)
    (err_of (IsReportOf g.T.Visitor.saw c.args.options.pointer_maps d g.V.Snapshot.size c.args.visitor.now c.check_pages.new.visitor) _ c.check_pages.result
    (c.check_pages.ensures.checks both c.args.options.pointer_maps read.1 (record { first = hd.first_trunk; said = hd.free_pages; largest = hd.largest_root }) (c.in-Ok-new_walker.ensures.new both) sound))

pub new-requires-clause-known : goal.new-requires-clause-known
new-requires-clause-known g c = λ right.
    let d = g.V.Snapshot.pages in
    let read = c.in_ok-read_page.ensures.read right in
    let first : c.deref.result.now ≡ page d 1 = c.deref.ensures.value ∙ with_items_is c.in-Ok.bytes c.read_page.new.out (c.read_page.auto.out ∙ c.deref_mut.ensures.len) ∙ read.0 in
    let hd = subst (λ (l : List ℕ). HasHeaderOf c.args.options.pointer_maps c.in_ok-header.header c.page_size-size.result l) first c.in_ok-header.ensures.ok in
    let size = c.page_size-size.ensures ∙ c.requires.same.1 in
    let long = first_sized d g.V.Snapshot.size c.count-count.result (c.count-count.ensures ∙ ap (λ (q : Database). length q) c.requires.same.0) c.if-count-eq0.false read.1 in
    knows_maps g.V.Snapshot.judged c.args.options.pointer_maps d c.in_ok-header.header c.page_size-size.result (long ∙ sym size) hd

pub new-requires-clause-asked : goal.new-requires-clause-asked
new-requires-clause-asked g c = λ used. c.requires.maps ∙ maps_used c.args.options.pointer_maps c.deref.result.now c.in_ok-header.header c.page_size-size.result c.in_ok-header.ensures.ok used

pub returns-in_err-header-clause-err : goal.returns-in_err-header-clause-err
returns-in_err-header-clause-err g c = λ right.
    let d = g.V.Snapshot.pages in
    let maps = c.args.options.pointer_maps in
    let read = c.in_ok-read_page.ensures.read right in
    let first : c.deref.result.now ≡ page d 1 = c.deref.ensures.value ∙ with_items_is c.in-Ok.bytes c.read_page.new.out (c.read_page.auto.out ∙ c.deref_mut.ensures.len) ∙ read.0 in
    let e = c.in_err-header.field-0.0 in
    let h = c.in_err-header.ensures.err in
    exits (λ e. UnlessUnread g.V.Snapshot.given e.fault (StandsWith maps d g.V.Snapshot.size e.fault e.page)) e c.from_residual-in_err-header.result c.from_residual-in_err-header.ensures.1
    (stands_read g.V.Snapshot.given maps d g.V.Snapshot.size e.fault e.page (subst (StandsWith maps d g.V.Snapshot.size e.fault) (sym h.0) (header_stands maps d c.page_size-size.result g.V.Snapshot.size e.fault (c.page_size-size.ensures ∙ c.requires.same.1)
    (subst (HeaderFault maps e.fault c.page_size-size.result) first h.1))))

pub new-requires-clause-all : goal.new-requires-clause-all
new-requires-clause-all g c = λ right asked auto.
    let d = g.V.Snapshot.pages in
    let read = c.in_ok-read_page.ensures.read right in
    let first : c.deref.result.now ≡ page d 1 = c.deref.ensures.value ∙ with_items_is c.in-Ok.bytes c.read_page.new.out (c.read_page.auto.out ∙ c.deref_mut.ensures.len) ∙ read.0 in
    let hd = subst (λ (l : List ℕ). HasHeaderOf c.args.options.pointer_maps c.in_ok-header.header c.page_size-size.result l) first c.in_ok-header.ensures.ok in
    maps_all c.args.options.pointer_maps d c.in_ok-header.header c.page_size-size.result hd auto
