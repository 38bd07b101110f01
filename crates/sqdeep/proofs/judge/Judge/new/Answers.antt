use Rattle.std.proofs.Common.{◌≡◌, ◌∙◌, ◌-◌, sym, rules}
use Rattle.std.proofs.lemmas.List.{with_items_is}
use Rattle.sqval.specs.Database.{page}
use Rattle.sqpage.specs.Freelist.{usable_size}
use Rattle.sqcheck.proofs.visit.FollowedItem.{used_read}
use Rattle.sqdeep.proofs.judge.Judge.new.Goals as goal

pub returns-clause-ok : goal.returns-clause-ok
returns-clause-ok g c = λ right.
    let d = g.V.Snapshot.pages in
    let read = c.in-Ok-read_page.ensures.read right in
    let first : c.deref.result.now ≡ page d 1 = c.deref.ensures.value ∙ with_items_is c.in-Ok.bytes c.read_page.new.out (c.read_page.auto.out ∙ c.deref_mut.ensures.len) ∙ read.0 in
    let usable : c.args.size - c.from.result ≡ usable_size d = search rules in
    c.in-Ok-judge_header.ensures.ok d (sym first) (used_read d 1 (c.args.size - c.from.result) c.deref.result.now first usable)
