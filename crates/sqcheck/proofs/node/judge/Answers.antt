use Rattle.sqcheck.proofs.Facts.{IsPutDown, NodeRefusedBy, Some, ap, exits, false, inl, is_interior, is_table, keys_refused, kind_read, layout_refused, level_put, node_in, page_refused, refl, sym, true, ◌∙◌, ◌≡◌}
use Rattle.sqcheck.proofs.node.judge.Goals.{then-not-is_interior+in_ok-leaf_level, else-not-is_interior}
use Rattle.sqcheck.proofs.node.judge.Goals as goal

pub returns-in_err-page-clause-err : goal.returns-in_err-page-clause-err
returns-in_err-page-clause-err c = λ d e.
    let x = node_in c.args.tree.now c.args.bounds.level c.args.bounds.low c.args.bounds.high in
    exits (λ fault. NodeRefusedBy (IsPutDown c.args.first.now c.args.tree.now.root) d fault c.args.raw.number x) c.in_err-page.field-0.0 c.from_residual-in_err-page.result c.from_residual-in_err-page.ensures.1 (page_refused (IsPutDown c.args.first.now c.args.tree.now.root) d c.args.raw.number _ c.in_err-page.field-0.0 x e c.in_err-page.ensures.err)

pub returns-in_err-layout_in-clause-err : goal.returns-in_err-layout_in-clause-err
returns-in_err-layout_in-clause-err c = λ d e.
    let x = node_in c.args.tree.now c.args.bounds.level c.args.bounds.low c.args.bounds.high in
    let h = c.in_err-layout_in.ensures.err in
    exits (λ fault. NodeRefusedBy (IsPutDown c.args.first.now c.args.tree.now.root) d fault c.args.raw.number x) c.in_err-layout_in.field-0.0 c.from_residual-in_err-layout_in.result c.from_residual-in_err-layout_in.ensures.1
    (layout_refused (IsPutDown c.args.first.now c.args.tree.now.root) d c.args.raw.number _ c.in_ok-page.page c.in_err-layout_in.field-0.0 x e c.in_ok-page.ensures.ok.used_are c.in_ok-page.ensures.ok.numbered c.in_ok-page.ensures.ok.btree h.0 h.1)

pub returns-then-not-keys_rise-clause-err : goal.returns-then-not-keys_rise-clause-err
returns-then-not-keys_rise-clause-err c = λ d e.
    let x = node_in c.args.tree.now c.args.bounds.level c.args.bounds.low c.args.bounds.high in
    keys_refused (IsPutDown c.args.first.now c.args.tree.now.root) d c.args.raw.number _ c.in_ok-page.page x e c.in_ok-page.ensures.ok.used_are c.in_ok-page.ensures.ok.numbered c.in_ok-page.ensures.ok.btree (c.keys_rise.ensures.not x refl refl c.if-not-keys_rise.true)

pub returns-clause-ok : goal.returns-clause-ok
returns-clause-ok c =
    let x = node_in c.args.tree.now c.args.bounds.level c.args.bounds.low c.args.bounds.high in
    let k = c.in_ok-kind.ensures.ok in
    let page = c.in_ok-page.page in
    let kind : page.kind ≡ c.in_ok-kind.kind = kind_read page c.args.raw.number _ c.in_ok-kind.kind c.in_ok-page.ensures.ok.used_are c.in_ok-page.ensures.ok.numbered c.in_ok-page.ensures.ok.btree k.0 in
    let interior : is_interior page.kind ≡ c.is_interior.result = ap is_interior kind ∙ sym c.is_interior.ensures in (
      c.in_ok-page.ensures.ok.numbered,
      c.in_ok-page.ensures.ok.used_are,
      record {
        page_is = c.in_ok-page.ensures.ok.btree;
        same = ap is_table kind ∙ k.1;
        laid_out = c.in_ok-layout_in.ensures.ok;
        keys = c.keys_rise.ensures.yes x refl refl c.if-not-keys_rise.false;
        leaf = λ is. elim c.if-not-is_interior.branch [
          | then-not-is_interior+in_ok-leaf_level w ↦ let h = w.in_ok-leaf_level.ensures.ok in (w.first-is ∙ ap Some h.0, h.1)
          | else-not-is_interior w ↦ absurd (let both : true ≡ false = sym w.if-not-is_interior.false ∙ sym interior ∙ is in cc)
        ];
        interior = λ is. elim c.if-not-is_interior.branch [
          | then-not-is_interior+in_ok-leaf_level w ↦ absurd (let both : false ≡ true = sym w.if-not-is_interior.true ∙ sym interior ∙ is in cc)
          | else-not-is_interior w ↦ w.first-is
        ];
      },
    )

pub returns-in_err-page-clause-level : goal.returns-in_err-page-clause-level
returns-in_err-page-clause-level c = λ d e. elim c.if-not-is_interior.branch [
  | then-not-is_interior+in_ok-leaf_level w ↦ level_put d c.args.raw.number _ c.in_ok-kind.kind c.args.bounds.level c.args.first.now _ e c.in_ok-kind.ensures.ok.0 (sym c.is_interior.ensures ∙ w.if-not-is_interior.true) (w.first-is ∙ ap Some w.in_ok-leaf_level.ensures.ok.0)
  | else-not-is_interior w ↦ inl w.first-is
]

pub returns-in_err-layout_in-clause-level : goal.returns-in_err-layout_in-clause-level
returns-in_err-layout_in-clause-level c = λ d e. elim c.if-not-is_interior.branch [
  | then-not-is_interior+in_ok-leaf_level w ↦ level_put d c.args.raw.number _ c.in_ok-kind.kind c.args.bounds.level c.args.first.now _ e c.in_ok-kind.ensures.ok.0 (sym c.is_interior.ensures ∙ w.if-not-is_interior.true) (w.first-is ∙ ap Some w.in_ok-leaf_level.ensures.ok.0)
  | else-not-is_interior w ↦ inl w.first-is
]

pub returns-then-not-keys_rise-clause-level : goal.returns-then-not-keys_rise-clause-level
returns-then-not-keys_rise-clause-level c = λ d e. elim c.if-not-is_interior.branch [
  | then-not-is_interior+in_ok-leaf_level w ↦ level_put d c.args.raw.number _ c.in_ok-kind.kind c.args.bounds.level c.args.first.now _ e c.in_ok-kind.ensures.ok.0 (sym c.is_interior.ensures ∙ w.if-not-is_interior.true) (w.first-is ∙ ap Some w.in_ok-leaf_level.ensures.ok.0)
  | else-not-is_interior w ↦ inl w.first-is
]

pub returns-clause-level : goal.returns-clause-level
returns-clause-level c = λ d e. elim c.if-not-is_interior.branch [
  | then-not-is_interior+in_ok-leaf_level w ↦ level_put d c.args.raw.number _ c.in_ok-kind.kind c.args.bounds.level c.args.first.now _ e c.in_ok-kind.ensures.ok.0 (sym c.is_interior.ensures ∙ w.if-not-is_interior.true) (w.first-is ∙ ap Some w.in_ok-leaf_level.ensures.ok.0)
  | else-not-is_interior w ↦ inl w.first-is
]
