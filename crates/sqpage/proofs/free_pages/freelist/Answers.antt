use Rattle.std.proofs.Common.{◌≢◌, ℕ, List, length, sym, ◌∙◌}
use Rattle.std.proofs.lemmas.Result.{IfErr-weaker}
use Rattle.sqpage.specs.declared.fault.Fault.TheVariants as faults
use Rattle.sqpage.specs.Source.{UnlessUnread}
use Rattle.sqpage.specs.Freelist.{IsFreelist, FreelistRefused, free_pages}
use Rattle.sqpage.proofs.chain.WalkOverFreelist.{no_freelist, no_pages}
use Rattle.sqpage.proofs.free_pages.freelist.Goals as goal

pub returns-then-count-eq0-clause-found : goal.returns-then-count-eq0-clause-found
returns-then-count-eq0-clause-found g c = λ right. no_pages (g.S.PageSource.pages c.args.source.now) _ (sym c.count.ensures ∙ c.if-count-eq0.true) c.new.ensures.items

pub returns-clause-none : goal.returns-clause-none
returns-clause-none g c = λ right.
    let d = g.S.PageSource.pages c.args.source.now in
    IfErr-weaker c.collect_in.result (λ e. UnlessUnread (g.S.PageSource.gives_pages c.args.source.now) e.fault (FreelistRefused d e.fault e.page)) (λ e. e.fault ≢ faults.Source → e.fault ≢ faults.NoMemory → (pages : List ℕ) → IsFreelist d pages → length pages ≢ free_pages d)
    (λ e h read other pages is. no_freelist d e.fault e.page (h.1 read) other pages is) (c.collect_in.ensures.err right)
