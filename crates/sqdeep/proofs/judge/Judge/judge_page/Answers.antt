use Rattle.std.proofs.Common.{◌≡◌, ◌≤◌, ◌∙◌, ℕ, take, length, inl, inr, sym, ap, subst, arith}
use Rattle.std.proofs.lemmas.List.{length-take}
use Rattle.sqpage.specs.Layout.{HasFreeblocks}
use Rattle.sqpage.specs.Page.{Page, cell_count, PageRefused as NoPage}
use Rattle.sqpage.proofs.file.PagesInMemory.{most_page_size}
use Rattle.sqcheck.specs.Places.{used_in, page_as}
use Rattle.sqcheck.proofs.checks.ResultsOfCalls.{if_ok, on_ok}
use Rattle.sqcheck.proofs.visit.FollowedItem.{used_read}
use Rattle.sqdeep.specs.Pages.{PageRefused, IsTidyPage}
use Rattle.sqdeep.specs.internal.Judging.{Tells, IsOfSoundTree, IsSoundPage}
use Rattle.sqdeep.proofs.IllFormedCells.{all_cells, few_cells}
use Rattle.sqdeep.proofs.SoundTrees.{not_refused, page_same}
use Rattle.sqdeep.proofs.judge.Judge.judge_page.Goals as goal

pub returns-in-Err-parse-clause-err : goal.returns-in-Err-parse-clause-err
returns-in-Err-parse-clause-err g c = λ right kind root w said.
    let d = g.V.Snapshot.pages in
    let n : ℕ = c.args.number in
    let read = c.read.new.self in
    let used : used_in d n ≡ take read.usable c.deref.result.now = used_read d n read.usable c.deref.result.now (c.deref.ensures.value ∙ c.in-Ok.ensures.read right) (read.used right) in
    absurd (not_refused d kind n c.in-Err-parse.fault w.page_is (subst (λ l. NoPage c.in-Err-parse.fault l n) (sym used) c.in-Err-parse.ensures.err))

pub judge_cells-requires-clause-most : goal.judge_cells-requires-clause-most
judge_cells-requires-clause-most g c =
    let read = c.read.new.self in
    let len = ap length c.in-Ok-parse.ensures.ok.used_are ∙ length-take read.usable c.deref.result.now in
    omega (arith, len, read.most)

pub returns-in-Err-judge_page-clause-err : goal.returns-in-Err-judge_page-clause-err
returns-in-Err-judge_page-clause-err g c = λ right kind root w said.
    let d = g.V.Snapshot.pages in
    let n : ℕ = c.args.number in
    let read = c.read.new.self in
    let ok = c.in-Ok-parse.ensures.ok in
    let b : Page = c.in-Ok-parse.page in
    let used : used_in d n ≡ take read.usable c.deref.result.now = used_read d n read.usable c.deref.result.now (c.deref.ensures.value ∙ c.in-Ok.ensures.read right) (read.used right) in
    let same : b ≡ page_as d kind n = page_same d n (take read.usable c.deref.result.now) b kind used ok.used_are ok.numbered ok.btree w.page_is in
    let has : HasFreeblocks b w.laid_out.blocks = subst (λ b. HasFreeblocks b w.laid_out.blocks) (sym same) w.laid_out.freeblocks in
    subst (Tells g.V.Snapshot.given d) (sym c.at_page.ensures)
    (inr (inl (kind, root, w.of_tree, subst (λ b. PageRefused b root c.in-Err-judge_page.fault) same (c.in-Err-judge_page.ensures.err root w.laid_out.blocks said has))))

pub returns-clause-ok : goal.returns-clause-ok
returns-clause-ok g c = λ right kind root w said.
    let d = g.V.Snapshot.pages in
    let n : ℕ = c.args.number in
    let read = c.read.new.self in
    let ok = c.in-Ok-parse.ensures.ok in
    let b : Page = c.in-Ok-parse.page in
    let used : used_in d n ≡ take read.usable c.deref.result.now = used_read d n read.usable c.deref.result.now (c.deref.ensures.value ∙ c.in-Ok.ensures.read right) (read.used right) in
    let same : b ≡ page_as d kind n = page_same d n (take read.usable c.deref.result.now) b kind used ok.used_are ok.numbered ok.btree w.page_is in
    let has : HasFreeblocks b w.laid_out.blocks = subst (λ b. HasFreeblocks b w.laid_out.blocks) (sym same) w.laid_out.freeblocks in
    let tidy : IsTidyPage b root = c.in-Ok-judge_page.ensures.ok root w.laid_out.blocks said has in
    on_ok _ _ c.judge_cells.result (λ cells. subst (λ b. IsSoundPage d b root) same (record { tidy = tidy; cells = λ i cell at. cells i cell at.0 at })) (c.judge_cells.ensures.ok right)

pub returns-clause-err : goal.returns-clause-err
returns-clause-err g c = λ right kind root w said.
    let d = g.V.Snapshot.pages in
    let n : ℕ = c.args.number in
    let read = c.read.new.self in
    let ok = c.in-Ok-parse.ensures.ok in
    let b : Page = c.in-Ok-parse.page in
    let used : used_in d n ≡ take read.usable c.deref.result.now = used_read d n read.usable c.deref.result.now (c.deref.ensures.value ∙ c.in-Ok.ensures.read right) (read.used right) in
    let same : b ≡ page_as d kind n = page_same d n (take read.usable c.deref.result.now) b kind used ok.used_are ok.numbered ok.btree w.page_is in
    c.judge_cells.ensures.err right kind root (same ∙ ap (page_as d kind) (sym ok.numbered)) (subst (IsOfSoundTree d kind root) (sym ok.numbered) w)

pub returns-clause-counted : goal.returns-clause-counted
returns-clause-counted g c = λ right trees kind root w said.
    let d = g.V.Snapshot.pages in
    let n : ℕ = c.args.number in
    let read = c.read.new.self in
    let ok = c.in-Ok-parse.ensures.ok in
    let b : Page = c.in-Ok-parse.page in
    let used : used_in d n ≡ take read.usable c.deref.result.now = used_read d n read.usable c.deref.result.now (c.deref.ensures.value ∙ c.in-Ok.ensures.read right) (read.used right) in
    let same : b ≡ page_as d kind n = page_same d n (take read.usable c.deref.result.now) b kind used ok.used_are ok.numbered ok.btree w.page_is in
    all_cells d trees kind root n w.of_tree b same ok.numbered c.judge_cells.result
    (c.judge_cells.ensures.counted right trees kind root (same ∙ ap (page_as d kind) (sym ok.numbered)) (subst (IsOfSoundTree d kind root) (sym ok.numbered) w))

pub returns-clause-most : goal.returns-clause-most
returns-clause-most g c =
    let read = c.read.new.self in
    let b : Page = c.in-Ok-parse.page in
    let len = ap length c.in-Ok-parse.ensures.ok.used_are ∙ length-take read.usable c.deref.result.now in
    let pointers = c.in-Ok-parse.ensures.ok.btree.pointers in
    let sized = most_page_size g.V.Snapshot.size c.requires.same.sized in
    if_ok (λ n. n ≤ cell_count b) (λ n. n ≤ 65536) c.judge_cells.result (λ n le. few_cells b n le pointers (omega (arith, len, read.most, sized))) c.judge_cells.ensures.most
