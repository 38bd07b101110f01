-- Cells of a page that lost their first four bytes, one more at the end.
use Rattle.std.proofs.Common.{◌≡◌, ◌≢◌, ◌↔◌, ◌∙◌, ◌⊎◌, ℕ, false, List, [], ◌∷◌, ◌++◌, Option, Some, None, get_or, inl, inr, refl, sym, ap, subst, append_assoc, append-nil}
use Rattle.std.proofs.KnownBytes.{Appends-nil, Appends-trans}
use Rattle.std.specs.Io.KnownBytes.{Appends}
use Rattle.sqpage.specs.declared.cell.Parts.{Parts}
use Rattle.sqpage.specs.declared.kind.Kind.{Kind}
use Rattle.sqpage.specs.Header.{byte}
use Rattle.sqpage.specs.Page.{code_of, head_at}
use Rattle.sqcheck.specs.declared.role.Role.{Role}
use Rattle.sqdeleted.specs.Cut.{AreWholeOf, IsHeld, IsWhole}
use Rattle.sqdeleted.specs.CutCursor.{AreCutLeft, CutsMove}
use Rattle.sqdeleted.specs.DeletedCursor.{IsLeft}
use Rattle.sqdeleted.specs.declared.cursor.DeletedCells.{DeletedCells}
use Rattle.sqdeleted.specs.declared.cut.CutCell.{CutCell}
use Rattle.sqdeleted.specs.declared.cut_cursor.CutCells.{CutCells}
use Rattle.sqdeleted.specs.declared.whole.WholeCells.{WholeCells}
use Rattle.cli_row_text.specs.declared.form.Form.{Form}
use Rattle.cli_show_deleted.specs.Cells.{StandsIn}
use Rattle.cli_show_deleted.specs.CutCells.{AreWholeIn}
use Rattle.cli_show_deleted.specs.CutLines.{AreCutLines, IsCutText}
use Rattle.cli_show_deleted.specs.declared.mark.Mark.TheVariants.{Stands}

lines_more : (form : Form) (cells : List CutCell) (cell : CutCell) (t own : List ℕ) → AreCutLines form cells t → IsCutText Stands form cell own → AreCutLines form (cells ++ cell ∷ []) (t ++ own)
lines_more form [] cell t own are is = (own, [], is, refl, ap (λ z. z ++ own) are ∙ sym (append-nil own))
lines_more form (first ∷ cells) cell t own are is =
    (are.0, are.1 ++ own, are.2, lines_more form cells cell are.1 own are.3 is, ap (λ z. z ++ own) are.4 ∙ append_assoc are.0 are.1 own)

-- the cells that were told, before those that are left
pub record CutWalked (start now : CutCells) (form : Form) (before after : Option (List ℕ)) : Type 0 where
  pub told : List CutCell
  pub text : List ℕ
  pub moves : (cells : List CutCell) → AreCutLeft now cells → AreCutLeft start (told ++ cells)
  pub lines : AreCutLines form told text
  pub written : Appends before after text

pub cut_walked_none : (start : CutCells) (form : Form) (out : Option (List ℕ)) → CutWalked start start form out out
cut_walked_none start form out = record { told = []; text = []; moves = λ cells left. left; lines = refl; written = Appends-nil out }

pub cut_walked_more : (start now new : CutCells) (form : Form) (cell : CutCell) (own : List ℕ) (before mid after : Option (List ℕ)) → CutWalked start now form before mid
    → CutsMove now new (Some cell) → IsCutText Stands form cell own → Appends mid after own → CutWalked start new form before after
cut_walked_more start now new form cell own before mid after w moves text appends = record {
  told = w.told ++ cell ∷ [];
  text = w.text ++ own;
  moves = λ cells left. subst (λ (l : List CutCell). AreCutLeft start l) (sym (append_assoc w.told (cell ∷ []) cells)) (w.moves (cell ∷ cells) (moves cells left));
  lines = lines_more form w.told cell w.text own w.lines text;
  written = Appends-trans before mid after w.text own w.written appends;
}

pub cut_walked_all : (start now new : CutCells) (form : Form) (before after : Option (List ℕ)) → CutWalked start now form before after → CutsMove now new None
    → (told : List CutCell) × (t : List ℕ) × AreCutLeft start told × AreCutLines form told t × Appends before after t
cut_walked_all start now new form before after w none =
    (w.told, w.text, subst (λ (l : List CutCell). AreCutLeft start l) (append-nil w.told) (w.moves [] none), w.lines, w.written)

-- the whole cells of a page are those that a cursor over it has left
pub whole_of : (role : Role) (used : List ℕ) (number : ℕ) (s : DeletedCells) (w : WholeCells) → ((at : ℕ) (c : Parts) → IsLeft s at c ↔ StandsIn role used number at c) → AreWholeOf s w
    → AreWholeIn role used number w
whole_of role used number s w same are = record {
  begin = λ at. (
    (λ t. let x = (are.begin at).0 t in (x.0, (same at x.0).0 x.1)),
    λ x. (are.begin at).1 (x.0, (same at x.0).1 x.1),
  );
  held = λ at. (
    (λ t. let x = (are.held at).0 t in (x.0, x.1, (same x.0 x.1).0 x.2, x.3, x.4)),
    λ x. (are.held at).1 (x.0, x.1, (same x.0 x.1).1 x.2, x.3, x.4),
  );
}

-- and none where none stands
pub whole_none : (role : Role) (used : List ℕ) (number : ℕ) (w : WholeCells) → w.begin.items ≡ [] → w.held.items ≡ [] → ((at : ℕ) (c : Parts) → ¬ StandsIn role used number at c)
    → AreWholeIn role used number w
whole_none role used number w e f none = record {
  begin = λ at. ((λ t. absurd (no_begin at t)), λ x. absurd (none at x.0 x.1));
  held = λ at. ((λ t. absurd (no_held at t)), λ x. absurd (none x.0 x.1 x.2));
}
  where
    no_begin : (at : ℕ) → IsWhole w.begin.items at → ⊥
    no_begin at t = let no : get_or w.begin.items at false ≡ false = ap (λ l. get_or l at false) e in cc

    no_held : (at : ℕ) → IsHeld w at → ⊥
    no_held at t = let no : get_or w.held.items at false ≡ false = ap (λ l. get_or l at false) f in cc
