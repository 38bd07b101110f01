use Rattle.sqcheck.proofs.Between.{Database, Fault, IsPayload, IsSchemaRow, List, Option, Some, ap, exits, inl, inr, is_no_memory, no_row_fault, refl, subst, sym, ℕ, ◌++◌, ◌∙◌, ◌≡◌, ◌≢◌, ◌⊎◌}
use Rattle.sqpage.specs.declared.fault.Fault.TheVariants as faults
use Rattle.sqcheck.proofs.schema.row_root.Goals as goal

pub returns-in_err-payload-clause-err : goal.returns-in_err-payload-clause-err
returns-in_err-payload-clause-err g c = λ right bytes is.
    let d = g.V.Snapshot.pages in
    let from = c.requires.same in
    let e = c.in_err-payload.field-0.0 in
    exits (λ e. e.fault ≢ faults.Source → (e.fault ≡ faults.NoMemory) ⊎ ((e.fault ≡ faults.SchemaRecord) × (e.page ≡ c.args.cell.now.page) × (bytes : List ℕ) × IsPayload d c.args.cell.now bytes × ((r : ℕ) → ¬ IsSchemaRow bytes r)))
    e c.from_residual.result c.from_residual.ensures.1
    (λ read. inl (is_no_memory e.fault (λ other. ((c.in_err-payload.ensures.err (from.still_right right)).1 read).1 other bytes (subst (λ (q : Database). IsPayload q c.args.cell.now bytes) (sym from.same_pages) is))))

pub returns-in-None-clause-err : goal.returns-in-None-clause-err
returns-in-None-clause-err g c = λ right bytes is read.
    let from = c.requires.same in
    let ok = c.in_ok-payload.ensures.ok (from.still_right right) in
    let whole : c.deref.result.now ≡ ok.0 = c.deref.ensures.value ∙ ok.2 ∙ ap (λ l. l ++ ok.0) c.clear.ensures.items in
    inr (refl, refl, ok.0, subst (λ (q : Database). IsPayload q c.args.cell.now ok.0) from.same_pages ok.1, λ r row. let e = (c.schema_root.ensures r).1 (subst (λ b. IsSchemaRow b r) (sym whole) row) in absurd (cc))

pub returns-in-Some-clause-ok : goal.returns-in-Some-clause-ok
returns-in-Some-clause-ok g c = λ right.
    let from = c.requires.same in
    let ok = c.in_ok-payload.ensures.ok (from.still_right right) in
    let read : c.deref.result.now ≡ ok.0 = c.deref.ensures.value ∙ ok.2 ∙ ap (λ l. l ++ ok.0) c.clear.ensures.items in (
      ok.0,
      subst (λ (q : Database). IsPayload q c.args.cell.now ok.0) from.same_pages ok.1,
      subst (λ b. IsSchemaRow b c.in-Some.root) read ((c.schema_root.ensures c.in-Some.root).0 c.in-Some.is),
      λ q row. let e : ◌≡◌ {A = Option ℕ} (Some q) (Some c.in-Some.root) = sym ((c.schema_root.ensures q).1 (subst (λ b. IsSchemaRow b q) (sym read) row)) ∙ c.in-Some.is in cc,
    )

pub returns-in_err-payload-clause-row : goal.returns-in_err-payload-clause-row
returns-in_err-payload-clause-row g c = λ right.
    let d = g.V.Snapshot.pages in
    let from = c.requires.same in
    let e = c.in_err-payload.field-0.0 in
    exits (λ e. e.fault ≡ faults.SchemaRecord → (e.page ≡ c.args.cell.now.page) × (bytes : List ℕ) × IsPayload d c.args.cell.now bytes × ((r : ℕ) → ¬ IsSchemaRow bytes r))
    e c.from_residual.result c.from_residual.ensures.1
    (λ is. absurd (no_row_fault (g.S.PageSource.pages c.args.source.now) c.args.cell.now e.fault e.page is ((c.in_err-payload.ensures.err (from.still_right right)).1 (λ unread. let both : ◌≡◌ {A = Fault} faults.SchemaRecord faults.Source = sym is ∙ unread in cc)).0))

pub returns-in-None-clause-row : goal.returns-in-None-clause-row
returns-in-None-clause-row g c = λ right is.
    let from = c.requires.same in
    let ok = c.in_ok-payload.ensures.ok (from.still_right right) in
    let whole : c.deref.result.now ≡ ok.0 = c.deref.ensures.value ∙ ok.2 ∙ ap (λ l. l ++ ok.0) c.clear.ensures.items in
    (refl, ok.0, subst (λ (q : Database). IsPayload q c.args.cell.now ok.0) from.same_pages ok.1, λ r row. let e = (c.schema_root.ensures r).1 (subst (λ b. IsSchemaRow b r) (sym whole) row) in absurd (cc))
