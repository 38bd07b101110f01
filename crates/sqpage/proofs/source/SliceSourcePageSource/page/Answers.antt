use Rattle.std.proofs.Common.{◌≡◌, ℕ, ◌-◌, ◌*◌, ◌+◌, ◌≤◌, ◌<◌, arith, refl, ap, sym, ◌∙◌, subst, length, take, drop, List}
use Rattle.sqval.specs.Database.{page}
use Rattle.sqpage.proofs.file.PagesInMemory.{most_page_size, within_file, place_fits, page-sliced, length-sliced, slices_sized}
use Rattle.sqpage.proofs.source.SliceSourcePageSource.page.Goals as goal

piece : (m size : ℕ) (b : List ℕ) → take (m + size - m) (drop m b) ≡ take size (drop m b)
piece m size b = let e : m + size - m ≡ size = omega arith in rw e refl

pub overflow_mul-at : goal.overflow_mul-at
overflow_mul-at c = omega (arith, place_fits c.args.p c.get-size.result (omega arith) (most_page_size c.get-size.result c.get-size.ensures.valid))

pub overflow_add-at : goal.overflow_add-at
overflow_add-at c = omega (arith, place_fits c.args.p c.get-size.result (omega arith) (most_page_size c.get-size.result c.get-size.ensures.valid))

pub slice_bounds-copy_from_slice-end : goal.slice_bounds-copy_from_slice-end
slice_bounds-copy_from_slice-end c =
    let s = c.args.self.now in
    let len : length s.bytes.now ≡ s.count * c.get-size.result = s.whole ∙ ap (λ z. s.count * z) (sym c.get-size.ensures.value) in
    let le : c.args.p ≤ s.count = subst (λ n. c.args.p ≤ n) (length-sliced s.page_size s.count s.bytes.now) c.requires.page.1 in
    within_file c.args.p c.get-size.result s.count (length s.bytes.now) c.requires.page.0 le len

pub returns-clause-read : goal.returns-clause-read
unfolding page
returns-clause-read c = λ _.
    let s = c.args.self.now in
    let le : c.args.p ≤ s.count = subst (λ n. c.args.p ≤ n) (length-sliced s.page_size s.count s.bytes.now) c.requires.page.1 in
    let pos : 0 < c.args.p = c.requires.page.0 in
    (c.copy_from_slice.ensures.after ∙ piece _ _ s.bytes.now ∙ ap (λ z. take z (drop ((c.args.p - 1) * z) s.bytes.now)) c.get-size.ensures.value ∙ sym (page-sliced s.page_size s.count (c.args.p - 1) s.bytes.now (omega arith)), slices_sized s.page_size s.count s.bytes.now s.whole)
