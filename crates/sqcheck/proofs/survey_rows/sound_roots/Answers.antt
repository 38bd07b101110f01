use Rattle.sqcheck.proofs.Facts.{AddsRoots, Every, InRowsOf, IsLeafFound, [], every_index, get_or, none_of, not_before, pages_add, refl, subst, sym, take, take_all, take_more, tells_both, ℕ, ◌++◌, ◌+◌, ◌∙◌, ◌∷◌, ◌≡◌}
use Rattle.sqcheck.proofs.survey_rows.sound_roots.Goals as goal

pub pages-preserved : goal.pages-preserved
pages-preserved g c =
    let d = g.V.Snapshot.pages in
    let i = c.pages.invariant in
    let leaves = c.args.leaves.now in
    let n : ℕ = get_or leaves c.pages.number-index 0 in
    let more : take (c.pages.number-index + 1) leaves ≡ take c.pages.number-index leaves ++ n ∷ [] = take_more leaves c.pages.number-index 0 c.pages-test.true in
    record {
      roles = c.survey_rows.ensures.roles ∙ i.roles;
      found = λ right all apart.
          let leaf = every_index (IsLeafFound d) leaves c.pages.number-index n c.pages-test.true refl all in
          subst (λ l. AddsRoots d (InRowsOf d l) [] c.survey_rows.new.rows.roots.items) (sym more)
          (pages_add d (take c.pages.number-index leaves) n [] c.pages.rows.roots.items c.survey_rows.new.rows.roots.items (not_before leaves c.pages.number-index n c.pages-test.true refl apart) (i.found right all apart) (c.in_ok-survey_rows.ensures.found right leaf));
      tells = λ right all. tells_both g.V.Snapshot.maps d g.V.Snapshot.size c.args.chart.now.faults.items c.pages.chart.faults.items c.survey_rows.new.chart.faults.items (i.tells right all)
          (c.in_ok-survey_rows.ensures.tells right (every_index (IsLeafFound d) leaves c.pages.number-index n c.pages-test.true refl all));
      usable = c.survey_rows.ensures.usable ∙ i.usable;
      room = c.survey_rows.ensures.room;
      same = c.survey_rows.ensures.same;
    }
