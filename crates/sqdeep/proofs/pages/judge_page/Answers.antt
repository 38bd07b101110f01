use Rattle.std.proofs.Common.{◌≡◌, ℕ, List, take, true, false, sym, subst, rules}
use Rattle.sqpage.specs.Page.{content_start_in}
use Rattle.sqdeep.specs.Pages.{AreSpaced}
use Rattle.sqdeep.proofs.SpacedBlocks.{blocks_read, start_read}
use Rattle.sqdeep.proofs.pages.judge_page.Goals as goal

pub returns-then-not-is_filled-clause-err : goal.returns-then-not-is_filled-clause-err
returns-then-not-is_filled-clause-err c = λ root blocks said has filled. let yes = (c.is_filled.ensures root said).1 filled in let no = c.if-not-is_filled.true in cc

pub returns-then-not-are_spaced-clause-err : goal.returns-then-not-are_spaced-clause-err
returns-then-not-are_spaced-clause-err c = λ root blocks said has.
    let b = c.args.page.now in
    let used : List ℕ = take c.args.usable c.args.bytes.now in
    let are = blocks_read b used c.args.number c.head.result c.half_at-first.result blocks c.requires.used c.requires.number c.head.ensures.value c.half_at-first.ensures.value has in
    let start = start_read b used c.args.number c.content_start-start.result c.requires.used c.requires.number c.content_start-start.ensures.value in
    let no : c.are_spaced.result ≡ false = search rules in
    (blocks, has, λ spaced. c.are_spaced.ensures.not no (content_start_in b.used b.number) blocks are (subst (λ m. AreSpaced m blocks) (sym start) spaced))

pub returns-clause-ok : goal.returns-clause-ok
returns-clause-ok c = λ root blocks said has.
    let b = c.args.page.now in
    let used : List ℕ = take c.args.usable c.args.bytes.now in
    let are = blocks_read b used c.args.number c.head.result c.half_at-first.result blocks c.requires.used c.requires.number c.head.ensures.value c.half_at-first.ensures.value has in
    let start = start_read b used c.args.number c.content_start-start.result c.requires.used c.requires.number c.content_start-start.ensures.value in
    let filled : c.is_filled.result ≡ true = search rules in
    let yes : c.are_spaced.result ≡ true = search rules in
    record {
      filled = (c.is_filled.ensures root said).0 filled;
      spaced = (blocks, has, subst (λ m. AreSpaced m blocks) start (c.are_spaced.ensures.yes yes (content_start_in b.used b.number) blocks are));
    }
