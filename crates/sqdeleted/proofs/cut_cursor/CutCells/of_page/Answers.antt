use Rattle.std.proofs.Common.{◌≡◌, ◌∙◌, ℕ, ◌+◌, min, length, ap, subst}
use Rattle.sqpage.specs.declared.kind.Kind.{Kind}
use Rattle.sqpage.specs.Header.{byte, half}
use Rattle.sqpage.specs.Page.{code_of}
use Rattle.sqdeleted.proofs.CutPlaces.{cuts_off}
use Rattle.sqdeleted.proofs.cut_cursor.CutCells.of_page.Goals as goal

pub returns-clause-some : goal.returns-clause-some
returns-clause-some c =
    let kind : Kind = c.in_ok-kind.kind in
    let used = c.args.used.now in (
      kind,
      subst (λ (h : ℕ). byte used h ≡ code_of kind) c.head.ensures.value ((c.of.ensures kind).0 c.in_ok-kind.was),
      cuts_off kind used c.args.whole.now c.args.number c.pointers_end.result c.min.result c.content_start-content.result c.half_at.result c.pointers_end.ensures
          (c.min.ensures ∙ ap (λ n. min n (length used)) c.content_start-content.ensures) c.content_start-content.ensures
          (c.half_at.ensures.value ∙ ap (λ h. half used (h + 1)) c.head-2.ensures.value),
    )
