-- Cells of a page, one more at the end.
use Rattle.std.proofs.Common.{◌≡◌, ◌↔◌, ℕ, List, [], ◌∷◌, ◌++◌, ◌∙◌, Option, Some, None, inl, inr, refl, sym, ap, subst, append_assoc, append-nil}
use Rattle.std.proofs.KnownBytes.{Appends-nil, Appends-trans}
use Rattle.std.proofs.lemmas.List.{map-append}
use Rattle.std.specs.Io.KnownBytes.{Appends}
use Rattle.sqval.specs.Bytes.{part}
use Rattle.sqpage.specs.declared.cell.Parts.{Parts}
use Rattle.sqpage.specs.declared.kind.Kind.TheVariants.{TableLeaf}
use Rattle.sqpage.specs.Lists.{Every}
use Rattle.sqpage.specs.Page.{HasParts}
use Rattle.sqcheck.specs.declared.role.Role.{Role}
use Rattle.sqdeleted.specs.Deleted.{BeginsRecord, IsCellOf}
use Rattle.sqdeleted.specs.DeletedCursor.{AreLeft, CellsMove, IsLeft}
use Rattle.sqdeleted.specs.declared.cell.DeletedCell.{DeletedCell}
use Rattle.sqdeleted.specs.declared.cursor.DeletedCells.{DeletedCells}
use Rattle.cli_row_text.specs.declared.form.Form.{Form}
use Rattle.cli_show_deleted.specs.Cells.{StandsIn, IsCellIn, AreCellsOf, places_of}
use Rattle.cli_show_deleted.specs.Lines.{IsCellText, AreLines}
use Rattle.cli_show_deleted.specs.declared.mark.Mark.TheVariants.{Stands}
use Rattle.cli_show_deleted.specs.Printed.{IsWholeText}
use Rattle.cli_show_deleted.specs.internal.Walks.{AreTold}

lines_more : (form : Form) (cells : List DeletedCell) (cell : DeletedCell) (t own : List ℕ) → AreLines form cells t → IsCellText Stands form cell own → AreLines form (cells ++ cell ∷ []) (t ++ own)
lines_more form [] cell t own are is = (own, [], is, refl, ap (λ z. z ++ own) are ∙ sym (append-nil own))
lines_more form (first ∷ cells) cell t own are is =
    (are.0, are.1 ++ own, are.2, lines_more form cells cell are.1 own are.3 is, ap (λ z. z ++ own) are.4 ∙ append_assoc are.0 are.1 own)

pub every_more : {A : Type 0} (P : A → Type 0) (cells : List A) (cell : A) → Every P cells → P cell → Every P (cells ++ cell ∷ [])
every_more P [] cell all one = (one, tt)
every_more P (first ∷ cells) cell all one = (all.0, every_more P cells cell all.1 one)

-- the parts of a cell that is left, and what it begins
pub left_parts : (s : DeletedCells) (at : ℕ) (c : Parts) → IsLeft s at c → HasParts TableLeaf s.used.now at c
left_parts s at c (inl stands) = stands.has
left_parts s at c (inr w) = w.2.has

left_begins : (s : DeletedCells) (at : ℕ) (c : Parts) → IsLeft s at c → BeginsRecord c.payload (part s.used.now c.body c.local)
left_begins s at c (inl stands) = stands.begins
left_begins s at c (inr w) = w.2.begins

pub begins_cell : (old new : DeletedCells) (cell : DeletedCell) → CellsMove old new (Some cell) → BeginsRecord cell.payload cell.local.now
begins_cell old new cell (at, c, left, is, behind) =
    subst (λ (n : ℕ). BeginsRecord n cell.local.now) (sym is.payload) (subst (λ (l : List ℕ). BeginsRecord c.payload l) (sym is.local) (left_begins old at c left))

pub cell_in : (s : DeletedCells) (at : ℕ) (c : Parts) (cell : DeletedCell) → IsLeft s at c → IsCellOf s.used.now s.number at c cell → IsCellIn s.used.now s.number cell
cell_in s at c cell left is =
    let place : cell.at ≡ at = is.at in
    (c, subst (λ (n : ℕ). HasParts TableLeaf s.used.now n c) (sym place) (left_parts s at c left), subst (λ (n : ℕ). IsCellOf s.used.now s.number n c cell) (sym place) is)

-- the cells that were told, before those that are left
pub record Walked (start now : DeletedCells) (form : Form) (before after : Option (List ℕ)) : Type 0 where
  pub told : List DeletedCell
  pub text : List ℕ
  pub used : now.used.now ≡ start.used.now
  pub number : now.number ≡ start.number
  pub moves : (places : List ℕ) → AreLeft now places → AreLeft start (places_of told ++ places)
  pub each : Every (IsCellIn start.used.now start.number) told
  pub lines : AreLines form told text
  pub written : Appends before after text

pub walked_none : (start : DeletedCells) (form : Form) (out : Option (List ℕ)) → Walked start start form out out
walked_none start form out =
    record { told = []; text = []; used = refl; number = refl; moves = λ places left. left; each = tt; lines = refl; written = Appends-nil out }

pub walked_more : (start now new : DeletedCells) (form : Form) (cell : DeletedCell) (own : List ℕ) (before mid after : Option (List ℕ)) → Walked start now form before mid
    → CellsMove now new (Some cell) → new.used.now ≡ now.used.now → new.number ≡ now.number → IsCellText Stands form cell own → Appends mid after own → Walked start new form before after
walked_more start now new form cell own before mid after w (at, c, left, is, behind) used number text appends =
    let one : IsCellIn now.used.now now.number cell = cell_in now at c cell left is in
    let here : IsCellIn start.used.now start.number cell =
    subst (λ (n : ℕ). IsCellIn start.used.now n cell) w.number (subst (λ (u : List ℕ). IsCellIn u now.number cell) w.used one) in
    let place : at ≡ cell.at = sym is.at in
    let joined = λ (places : List ℕ).
    ap (λ (n : ℕ). places_of w.told ++ n ∷ places) place ∙ sym (append_assoc (places_of w.told) (cell.at ∷ []) places)
    ∙ ap (λ (l : List ℕ). l ++ places) (sym (map-append (λ (x : DeletedCell). x.at) w.told (cell ∷ []))) in
    record {
      told = w.told ++ cell ∷ [];
      text = w.text ++ own;
      used = used ∙ w.used;
      number = number ∙ w.number;
      moves = λ places there. subst (λ (l : List ℕ). AreLeft start l) (joined places) (w.moves (at ∷ places) (behind places there));
      each = every_more (IsCellIn start.used.now start.number) w.told cell w.each here;
      lines = lines_more form w.told cell w.text own w.lines text;
      written = Appends-trans before mid after w.text own w.written appends;
    }

pub walked_all : (start now new : DeletedCells) (form : Form) (before after : Option (List ℕ)) → Walked start now form before after → CellsMove now new None
    → (told : List DeletedCell) × (t : List ℕ) × AreTold start told × AreLines form told t × Appends before after t
walked_all start now new form before after w none =
    (w.told, w.text, (subst (λ (l : List ℕ). AreLeft start l) (append-nil (places_of w.told)) (w.moves [] none), w.each), w.lines, w.written)

-- The cells that a cursor of a page gave are those of the page.
pub told_of : (role : Role) (used : List ℕ) (number : ℕ) (s : DeletedCells) (told : List DeletedCell) → ((at : ℕ) (c : Parts) → IsLeft s at c ↔ StandsIn role used number at c)
    → s.used.now ≡ used → s.number ≡ number → AreTold s told → AreCellsOf role used number told
told_of role used number s told same used_is number_is are = record {
  rise = are.0.0;
  all = λ at. (
    (λ there. let w = (are.0.1 at).0 there in (w.0, (same at w.0).0 w.1)),
    λ stands. (are.0.1 at).1 (stands.0, (same at stands.0).1 stands.1),
  );
  each = subst (λ (n : ℕ). Every (IsCellIn used n) told) number_is (subst (λ (u : List ℕ). Every (IsCellIn u s.number) told) used_is are.1);
}

pub none_of : (role : Role) (used : List ℕ) (number : ℕ) (form : Form) → ((at : ℕ) (c : Parts) → ¬ StandsIn role used number at c) → IsWholeText form role used number []
none_of role used number form none =
    ([], record { rise = tt; all = λ at. (λ there. absurd there, λ stands. absurd (none at stands.0 stands.1)); each = tt }, refl)
