use Rattle.std.proofs.Common.{◌≢◌, ◌+◌, ◌≤◌, ◌<◌, ℕ, length, subst, ap, arith}
use Rattle.sqpage.specs.declared.fault.Fault.TheVariants as faults
use Rattle.sqpage.specs.Layout.{LayoutRefused}
use Rattle.sqpage.specs.internal.Marking.{FreeblocksRefused, TakesBytes}
use Rattle.sqpage.specs.Page.{Page, cell_count, content_start_in, pointer}
use Rattle.sqpage.proofs.btree.LayoutOfPage.{freeblocks_refused, pointers_reach, cells_share, all_marked, bare_is}
use Rattle.sqpage.proofs.btree.LayoutOfPage.{exits, start_in, first_in, the_end, blocks_in}
use Rattle.sqpage.proofs.page.BtreePage.mark_all.Goals as goal

pub returns-in_err-blocks-clause-err : goal.returns-in_err-blocks-clause-err
returns-in_err-blocks-clause-err c =
    let q : Page = c.args.self.now in
    let s = start_in _ q c.self.view_is c.content_start-start.result c.content_start-start.ensures in
    let f = first_in _ q c.self.view_is c.half_at-first.result c.head.result c.head.ensures.value c.half_at-first.ensures.value in
    exits (λ fault. LayoutRefused fault q × (fault ≢ faults.NoMemory)) c.in_err-blocks.field-0.0 c.from_residual.result c.from_residual.ensures.1
    (freeblocks_refused q c.content_start-start.result c.half_at-first.result _ (subst (λ (p : Page). FreeblocksRefused p.used c.content_start-start.result c.half_at-first.result c.in_err-blocks.field-0.0) c.self.view_is c.in_err-blocks.ensures.err) s f)

pub returns-then-end-start-clause-err : goal.returns-then-end-start-clause-err
returns-then-end-start-clause-err c =
    let q : Page = c.args.self.now in
    let s = start_in _ q c.self.view_is c.content_start-start.result c.content_start-start.ensures in
    let f = first_in _ q c.self.view_is c.half_at-first.result c.head.result c.head.ensures.value c.half_at-first.ensures.value in
    let m = blocks_in _ q c.self.view_is c.content_start-start.result c.half_at-first.result c.in_ok-blocks.blocks c.mark_freeblocks.new.map c.in_ok-blocks.ensures.ok in
    let late = the_end _ q c.self.view_is c.pointers.result c.len.result c.pointers.ensures.value c.len.ensures in
    (pointers_reach q c.content_start-start.result c.half_at-first.result c.in_ok-blocks.blocks c.mark_freeblocks.new.map m s f (λ before. absurd (omega (arith, before, c.if-end-start.true, late, s))), λ e. cc)

pub returns-in-None-clause-err : goal.returns-in-None-clause-err
returns-in-None-clause-err c =
    let q : Page = c.args.self.now in
    let s = start_in _ q c.self.view_is c.content_start-start.result c.content_start-start.ensures in
    let f = first_in _ q c.self.view_is c.half_at-first.result c.head.result c.head.ensures.value c.half_at-first.ensures.value in
    let m = blocks_in _ q c.self.view_is c.content_start-start.result c.half_at-first.result c.in_ok-blocks.blocks c.mark_freeblocks.new.map c.in_ok-blocks.ensures.ok in
    (cells_share q c.content_start-start.result c.half_at-first.result c.in_ok-blocks.blocks c.mark_freeblocks.new.map m s f c.in-None.ensures.touched, λ e. cc)

taken_all : (c : goal.In-Some) → TakesBytes c.args.self.now (c.in_ok-blocks.blocks + c.in-Some.cells)
taken_all c =
    let q : Page = c.args.self.now in
    let s = start_in _ q c.self.view_is c.content_start-start.result c.content_start-start.ensures in
    let f = first_in _ q c.self.view_is c.half_at-first.result c.head.result c.head.ensures.value c.half_at-first.ensures.value in
    let m = blocks_in _ q c.self.view_is c.content_start-start.result c.half_at-first.result c.in_ok-blocks.blocks c.mark_freeblocks.new.map c.in_ok-blocks.ensures.ok in
    let late = the_end _ q c.self.view_is c.pointers.result c.len.result c.pointers.ensures.value c.len.ensures in
    all_marked q c.content_start-start.result c.half_at-first.result c.in_ok-blocks.blocks c.in-Some.cells c.mark_freeblocks.new.map c.mark_cells.new.map m s f (omega (arith, c.if-end-start.false, late, s)) c.in-Some.ensures.marked

pub overflow_add-result : goal.overflow_add-result
overflow_add-result c =
    let q : Page = c.args.self.now in
    let start = subst (λ (p : Page). content_start_in p.used p.number ≤ length p.used) c.self.view_is c.self.invariant.start in
    let above = subst (λ (p : Page). (i : ℕ) → i < cell_count p → content_start_in p.used p.number ≤ pointer p i) c.self.view_is c.self.invariant.above in
    omega (arith, bare_is q (c.in_ok-blocks.blocks + c.in-Some.cells) (taken_all c) start above, c.self.invariant.most, ap (λ (p : Page). length p.used) c.self.view_is)

pub returns-in-Some-clause-ok : goal.returns-in-Some-clause-ok
returns-in-Some-clause-ok c = taken_all c
