use Rattle.sqcheck.proofs.Facts.{AllSchemaRows, Apart, Database, Every, Finds, InRowsOf, IsRowsPage, KeepsFound, List, Root, RootsMatch, Spot, StandsAt, Uses, Visited, Walk, [], ap, arith, becomes_late, drop, exits_as, false, first_roots, is_long, length, none_left, on_match, refl, rows_pages, subst, suc, sym, take, take-append-drop, true, usable_size, ℕ, ◌++◌, ◌∙◌, ◌≡◌, ◌≤◌}
use Rattle.sqcheck.proofs.walker.Walker.follow_others.Goals as goal

-- The roots that were kept, and those that weren't.
record Kept (d : Database) (visited : List Spot) (uses : Uses) (walk : Walk) (roots : List Root) : Type 0 where
  pub all : List Root
  pub found : Finds d (InRowsOf d walk.rows.items) [] all
  pub parts : Visited d true visited (take (suc (length d)) found.spots ++ drop (suc (length d)) found.spots) uses walk
  pub match : RootsMatch d roots (take (suc (length d)) found.spots)

kept_of : (d : Database) (visited : List Spot) (uses : Uses) (walk : Walk) (rows : List ℕ) (roots : List Root) → rows ≡ walk.rows.items → Visited d false visited [] uses walk → KeepsFound d (InRowsOf d rows) [] roots × Every (AllSchemaRows d) rows
    → Kept d visited uses walk roots
kept_of d visited uses walk rows roots e w h =
    let found = h.0 [] refl in
    let f : Finds d (InRowsOf d walk.rows.items) [] found.0 = subst (λ l. Finds d (InRowsOf d l) [] found.0) e found.1 in
    record {
      all = found.0;
      found = f;
      parts = subst (λ l. Visited d true visited l uses walk) (sym (take-append-drop (suc (length d)) f.spots)) (becomes_late d uses.marks.items visited walk.rows.items uses.counts found.0 w f (subst (Every (AllSchemaRows d)) e h.1));
      match = subst (λ l. RootsMatch d l (take (suc (length d)) f.spots)) (sym (found.2 ∙ ap (take (suc (length d))) f.added)) (first_roots d (suc (length d)) f.roots f.spots f.match);
    }

pages_of : (d : Database) (size usable : ℕ) (visited : List Spot) (uses : Uses) (walk : Walk) (rows : List ℕ) → rows ≡ walk.rows.items → usable ≡ usable_size d → 480 ≤ usable → usable ≤ size → Every (λ b. length b ≡ size) d → Visited d false visited [] uses walk
    → Every (IsRowsPage d) rows
pages_of d size usable visited uses walk rows e used least most sized w =
    let least' : 480 ≤ usable_size d = omega (arith, used, least) in
    subst (Every (IsRowsPage d)) (sym e) (rows_pages d uses.marks.items visited walk.rows.items uses.counts least' (is_long d size (usable_size d) (omega (arith, used, most)) sized) w)

pub returns-in_err-roots-clause-walks : goal.returns-in_err-roots-clause-walks
returns-in_err-roots-clause-walks g c = λ right sized visited w.
    let d = g.V.Snapshot.pages in
    let s = c.args.self.now in
    let e = c.in_err-roots.field-0.0 in
    exits_as _ (StandsAt g.V.Snapshot) e c.from_residual.result c.from_residual.ensures.1
    (c.in_err-roots.ensures.err right.0 (pages_of d g.V.Snapshot.size s.reader.usable visited s.uses s.walk c.deref.result.now c.deref.ensures.value (s.reader.used right.0) s.reader.least s.reader.most sized w))

pub returns-clause-walks : goal.returns-clause-walks
returns-clause-walks g c = λ right sized visited w.
    let d = g.V.Snapshot.pages in
    let s = c.args.self.now in
    let n : ℕ = suc (length d) in
    let pages = pages_of d g.V.Snapshot.size s.reader.usable visited s.uses s.walk c.deref.result.now c.deref.ensures.value (s.reader.used right.0) s.reader.least s.reader.most sized w in
    let k = kept_of d visited s.uses s.walk c.deref.result.now _ c.deref.ensures.value w (c.in_ok-roots.ensures.ok right.0 pages (subst Apart (sym c.deref.ensures.value) w.rows.distinct)) in
    let f = c.follow_roots.new.self in
    on_match _ _ _ c.follow_roots.result
    (λ done. (done.0, none_left d s.uses.marks.items f.uses.marks.items visited (visited ++ done.0) s.walk.rows.items f.walk.rows.items s.uses.counts f.uses.counts k.all w k.found done.1, done.2))
    (c.follow_roots.ensures.walks right visited (take n k.found.spots) (drop n k.found.spots) k.parts (subst (λ l. RootsMatch d l (take n k.found.spots)) (sym c.deref-2.ensures.value) k.match))
