use Rattle.sqcheck.proofs.Facts.{Database, List, ap, arith, chain_adds, false, least_page_size, length, on_ok, refl, row_adds, row_told, sym, tells_nothing, true, ℕ, ◌∙◌, ◌≡◌, ◌≤◌}
use Rattle.sqcheck.proofs.survey_rows.survey_row.Goals as goal

pub takes-requires-clause-room : goal.takes-requires-clause-room
takes-requires-clause-room g c =
    let least = least_page_size g.V.Snapshot.size c.requires.same.sized in
    let long : length c.deref_mut.result.now ≡ g.V.Snapshot.size = ap (λ (l : List ℕ). length l) c.deref_mut.ensures.value ∙ c.requires.room in
    (long ∙ sym c.requires.same.same_size, omega (arith, least, long))

pub returns-then-not-branch-clause-found : goal.returns-then-not-branch-clause-found
returns-then-not-branch-clause-found g c = λ right cell.
    chain_adds g.V.Snapshot.pages c.args.cell.now c.args.rows.now.roots.items cell (λ none. let own = c.in_ok-takes.ensures.short none in let not_own = c.if-not-branch.true in let both : false ≡ true = sym not_own ∙ own in absurd (cc))

pub returns-clause-found : goal.returns-clause-found
returns-clause-found g c = λ right cell.
    let d = g.V.Snapshot.pages in
    let count = c.count-count.ensures ∙ ap (λ (q : Database). length q) c.takes.ensures.keeps.same_pages ∙ ap (λ (q : Database). length q) c.requires.same.same_pages in
    on_ok _ _ c.keep_root.result (λ adds. row_adds d c.count-count.result c.args.cell.now c.row_root-found.result c.args.rows.now.roots.items c.keep_root.new.roots.items cell count (c.row_root-found.ensures.ok right) (c.row_root-found.ensures.err right) adds)
    c.keep_root.ensures.adds

pub returns-then-not-branch-clause-tells : goal.returns-then-not-branch-clause-tells
returns-then-not-branch-clause-tells g c = λ right cell. tells_nothing g.V.Snapshot.maps g.V.Snapshot.pages g.V.Snapshot.size c.args.chart.now.faults.items c.args.chart.now.faults.items refl

pub returns-clause-tells : goal.returns-clause-tells
returns-clause-tells g c = λ right cell.
    on_ok _ _ c.keep_root.result (λ t. row_told g.V.Snapshot.maps g.V.Snapshot.pages g.V.Snapshot.size c.args.cell.now c.row_root-found.result c.args.chart.now.faults.items c.keep_root.new.chart.faults.items cell (c.row_root-found.ensures.row right) t)
    c.keep_root.ensures.tells
