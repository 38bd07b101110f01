-- The cells of an image, one more at the end, and those of them that are told.
use Rattle.std.proofs.Common.{◌≡◌, ◌≢◌, ◌↔◌, ◌⊎◌, ◌∙◌, ℕ, ◌+◌, ◌-◌, ◌≤◌, List, [], ◌∷◌, ◌++◌, length, Option, Some, None, inl, inr, ⊎_elim, refl, sym, ap, subst, append_assoc, append-nil, arith}
use Rattle.std.proofs.KnownBytes.{Appends-nil, Appends-trans}
use Rattle.std.proofs.lemmas.List.{map-append}
use Rattle.std.specs.Io.KnownBytes.{Appends}
use Rattle.sqval.specs.Bytes.{part}
use Rattle.sqpage.specs.declared.cell.Parts.{Parts}
use Rattle.sqpage.specs.declared.kind.Kind.TheVariants.{TableLeaf}
use Rattle.sqpage.specs.Lists.{In, Every}
use Rattle.sqpage.specs.Page.{HasParts}
use Rattle.sqpage.proofs.btree.PartsOfCells.{parts_once}
use Rattle.sqdeleted.specs.Deleted.{StandsBetween}
use Rattle.sqdeleted.specs.DeletedCursor.{AreLeft, CellsMove, IsLeft, Rise}
use Rattle.sqdeleted.specs.declared.cell.DeletedCell.{DeletedCell}
use Rattle.sqdeleted.specs.declared.cursor.DeletedCells.{DeletedCells}
use Rattle.cli_row_text.specs.declared.form.Form.{Form}
use Rattle.cli_show_deleted.specs.Cells.{IsCellIn, places_of}
use Rattle.cli_show_deleted.specs.Images.{AreFrameLines, IsTextOfImage, StandsAlone}
use Rattle.cli_show_deleted.specs.internal.Images.{AreTextsAlone, IsTextAlone, StaysIn}
use Rattle.cli_show_deleted.specs.Lines.{IsCellText}
use Rattle.cli_show_deleted.specs.declared.mark.Mark.TheVariants.{InFrame}
use Rattle.cli_show_deleted.specs.internal.Walks.{AreTold}
use Rattle.cli_show_deleted.proofs.CellsCollected.{every_in}
use Rattle.cli_show_deleted.proofs.CellsTold.{cell_in, every_more}

texts_more : (form : Form) (frame : ℕ) (used shown : List ℕ) (cells : List DeletedCell) (cell : DeletedCell) (t own : List ℕ) → AreTextsAlone form frame used shown cells t
    → IsTextAlone form frame used shown cell own → AreTextsAlone form frame used shown (cells ++ cell ∷ []) (t ++ own)
texts_more form frame used shown [] cell t own are is = (own, [], is, refl, ap (λ z. z ++ own) are ∙ sym (append-nil own))
texts_more form frame used shown (first ∷ cells) cell t own are is =
    (are.0, are.1 ++ own, are.2, texts_more form frame used shown cells cell are.1 own are.3 is, ap (λ z. z ++ own) are.4 ∙ append_assoc are.0 are.1 own)

-- the cells that were seen, before those that are left
pub record Imaged (start now : DeletedCells) (form : Form) (frame : ℕ) (image shown : List ℕ) (before after : Option (List ℕ)) : Type 0 where
  pub seen : List DeletedCell
  pub text : List ℕ
  pub used : now.used.now ≡ start.used.now
  pub number : now.number ≡ start.number
  pub moves : (places : List ℕ) → AreLeft now places → AreLeft start (places_of seen ++ places)
  pub each : Every (IsCellIn start.used.now start.number) seen
  pub texts : AreTextsAlone form frame image shown seen text
  pub written : Appends before after text

pub imaged_none : (start : DeletedCells) (form : Form) (frame : ℕ) (image shown : List ℕ) (out : Option (List ℕ)) → Imaged start start form frame image shown out out
imaged_none start form frame image shown out =
    record { seen = []; text = []; used = refl; number = refl; moves = λ places left. left; each = tt; texts = refl; written = Appends-nil out }

pub imaged_more : (start now new : DeletedCells) (form : Form) (frame : ℕ) (image shown : List ℕ) (cell : DeletedCell) (own : List ℕ) (before mid after : Option (List ℕ))
    → Imaged start now form frame image shown before mid → CellsMove now new (Some cell) → new.used.now ≡ now.used.now → new.number ≡ now.number
    → IsTextAlone form frame image shown cell own → Appends mid after own → Imaged start new form frame image shown before after
imaged_more start now new form frame image shown cell own before mid after w (at, c, left, is, behind) used number text appends =
    let one : IsCellIn now.used.now now.number cell = cell_in now at c cell left is in
    let here : IsCellIn start.used.now start.number cell =
    subst (λ (n : ℕ). IsCellIn start.used.now n cell) w.number (subst (λ (u : List ℕ). IsCellIn u now.number cell) w.used one) in
    let place : at ≡ cell.at = sym is.at in
    let joined = λ (places : List ℕ).
    ap (λ (n : ℕ). places_of w.seen ++ n ∷ places) place ∙ sym (append_assoc (places_of w.seen) (cell.at ∷ []) places)
    ∙ ap (λ (l : List ℕ). l ++ places) (sym (map-append (λ (x : DeletedCell). x.at) w.seen (cell ∷ []))) in
    record {
      seen = w.seen ++ cell ∷ [];
      text = w.text ++ own;
      used = used ∙ w.used;
      number = number ∙ w.number;
      moves = λ places there. subst (λ (l : List ℕ). AreLeft start l) (joined places) (w.moves (at ∷ places) (behind places there));
      each = every_more (IsCellIn start.used.now start.number) w.seen cell w.each here;
      texts = texts_more form frame image shown w.seen cell w.text own w.texts text;
      written = Appends-trans before mid after w.text own w.written appends;
    }

pub imaged_all : (start now new : DeletedCells) (form : Form) (frame : ℕ) (image shown : List ℕ) (before after : Option (List ℕ)) → Imaged start now form frame image shown before after
    → CellsMove now new None
    → (told : List DeletedCell) × (t : List ℕ) × AreTold start told × AreTextsAlone form frame image shown told t × Appends before after t
imaged_all start now new form frame image shown before after w none =
    (w.seen, w.text, (subst (λ (l : List ℕ). AreLeft start l) (append-nil (places_of w.seen)) (w.moves [] none), w.each), w.texts, w.written)

-- ---- which of the cells that were seen are told

abbrev Picked : (used shown : List ℕ) → (seen told : List DeletedCell) → Type 0
Picked used shown [] told = told ≡ []
Picked used shown (cell ∷ cells) told =
    (rest : List DeletedCell) × Picked used shown cells rest × (((¬ StaysIn used shown cell) × (told ≡ cell ∷ rest)) ⊎ (StaysIn used shown cell × (told ≡ rest)))

picked : (form : Form) (frame : ℕ) (used shown : List ℕ) (cells : List DeletedCell) (t : List ℕ) → AreTextsAlone form frame used shown cells t
    → (told : List DeletedCell) × Picked used shown cells told × AreFrameLines form frame told t
picked form frame used shown [] t are = ([], refl, are)
picked form frame used shown (cell ∷ cells) t are =
    let own : List ℕ = are.0 in
    let more : List ℕ = are.1 in
    let w = picked form frame used shown cells more are.3 in
    ⊎_elim
    (λ (x : (¬ StaysIn used shown cell) × IsCellText (InFrame frame) form cell own). (cell ∷ w.0, (w.0, w.1, inl (x.0, refl)), (own, more, x.1, w.2, are.4)))
    (λ (x : StaysIn used shown cell × (own ≡ [])). (w.0, (w.0, w.1, inr (x.0, refl)), subst (AreFrameLines form frame w.0) (sym (are.4 ∙ ap (λ (z : List ℕ). z ++ more) x.1)) w.2))
    are.2

picked_in : (used shown : List ℕ) (cells told : List DeletedCell) (x : DeletedCell) → Picked used shown cells told → In x told → In x cells × (¬ StaysIn used shown x)
picked_in used shown [] told x p i = absurd (subst (λ (l : List DeletedCell). In x l) p i)
picked_in used shown (cell ∷ cells) told x (rest, p, inl (lacks, e)) i =
    ⊎_elim
    (λ (same : x ≡ cell). (inl same, subst (λ (y : DeletedCell). ¬ StaysIn used shown y) (sym same) lacks))
    (λ (j : In x rest). let w = picked_in used shown cells rest x p j in (inr w.0, w.1))
    (subst (λ (l : List DeletedCell). In x l) e i)
picked_in used shown (cell ∷ cells) told x (rest, p, inr (has, e)) i =
    let w = picked_in used shown cells rest x p (subst (λ (l : List DeletedCell). In x l) e i) in (inr w.0, w.1)

picked_has : (used shown : List ℕ) (cells told : List DeletedCell) (x : DeletedCell) → Picked used shown cells told → In x cells → ¬ StaysIn used shown x → In x told
picked_has used shown [] told x p i alone = absurd i
picked_has used shown (cell ∷ cells) told x (rest, p, inl (lacks, e)) i alone =
    subst (λ (l : List DeletedCell). In x l) (sym e) (⊎_elim (λ (same : x ≡ cell). inl same) (λ (j : In x cells). inr (picked_has used shown cells rest x p j alone)) i)
picked_has used shown (cell ∷ cells) told x (rest, p, inr (has, e)) i alone =
    subst (λ (l : List DeletedCell). In x l) (sym e)
    (⊎_elim (λ (same : x ≡ cell). absurd (alone (subst (λ (y : DeletedCell). StaysIn used shown y) (sym same) has)))
    (λ (j : In x cells). picked_has used shown cells rest x p j alone) i)

rise_less : (a b : ℕ) (xs : List ℕ) → a ≤ b → Rise b xs → Rise a xs
rise_less a b [] less rise = tt
rise_less a b (x ∷ xs) less (le, more) = (omega (arith, less, le), more)

picked_rise : (used shown : List ℕ) (cells told : List DeletedCell) (a : ℕ) → Picked used shown cells told → Rise a (places_of cells) → Rise a (places_of told)
picked_rise used shown [] told a p rise = subst (λ (l : List DeletedCell). Rise a (places_of l)) (sym p) tt
picked_rise used shown (cell ∷ cells) told a (rest, p, inl (lacks, e)) (le, more) =
    subst (λ (l : List DeletedCell). Rise a (places_of l)) (sym e) (le, picked_rise used shown cells rest (cell.at + 1) p more)
picked_rise used shown (cell ∷ cells) told a (rest, p, inr (has, e)) (le, more) =
    subst (λ (l : List DeletedCell). Rise a (places_of l)) (sym e)
    (rise_less a (cell.at + 1) (places_of rest) (omega (arith, le)) (picked_rise used shown cells rest (cell.at + 1) p more))

picked_every : (used shown : List ℕ) (cells told : List DeletedCell) (P : DeletedCell → Type 0) → Picked used shown cells told → Every P cells → Every P told
picked_every used shown [] told P p all = subst (λ (l : List DeletedCell). Every P l) (sym p) tt
picked_every used shown (cell ∷ cells) told P (rest, p, inl (lacks, e)) all =
    subst (λ (l : List DeletedCell). Every P l) (sym e) (all.0, picked_every used shown cells rest P p all.1)
picked_every used shown (cell ∷ cells) told P (rest, p, inr (has, e)) all =
    subst (λ (l : List DeletedCell). Every P l) (sym e) (picked_every used shown cells rest P p all.1)

in_place : (cells : List DeletedCell) (x : DeletedCell) → In x cells → In x.at (places_of cells)
in_place [] x i = absurd i
in_place (y ∷ ys) x (inl e) = inl (ap (λ (z : DeletedCell). z.at) e)
in_place (y ∷ ys) x (inr i) = inr (in_place ys x i)

of_place : (cells : List DeletedCell) (at : ℕ) → In at (places_of cells) → (x : DeletedCell) × In x cells × (x.at ≡ at)
of_place [] at i = absurd i
of_place (y ∷ ys) at (inl e) = (y, inl refl, sym e)
of_place (y ∷ ys) at (inr i) = let w = of_place ys at i in (w.0, inr w.1, w.2)

-- how many bytes a cell takes, by its parts
size_by : (used : List ℕ) (number : ℕ) (x : DeletedCell) (c : Parts) → IsCellIn used number x → HasParts TableLeaf used x.at c → x.size ≡ c.end - x.at
size_by used number x c is has =
    let same : is.0 ≡ c = parts_once TableLeaf used x.at is.0 c is.1 has in
    let size : x.at + x.size ≡ c.end = is.2.size ∙ ap (λ (p : Parts). p.end) same in
    omega (arith, size)

-- Of the cells that stand anywhere in an image those are told whose bytes don't stand in the page that is shown.
module _ (used shown : List ℕ) (number : ℕ) (seen told : List DeletedCell) (all : (at : ℕ) → In at (places_of seen) ↔ ((c : Parts) × StandsBetween used 0 (length used) at c))
    (each : Every (IsCellIn used number) seen) (p : Picked used shown seen told) where
  told_alone : (at : ℕ) → In at (places_of told) → (c : Parts) × StandsAlone used shown at c
  told_alone at i =
      let w = of_place told at i in
      let x : DeletedCell = w.0 in
      let v = picked_in used shown seen told x p w.1 in
      let stands = (all x.at).0 (in_place seen x v.0) in
      let c : Parts = stands.0 in
      let size : x.size ≡ c.end - x.at = size_by used number x c (every_in (IsCellIn used number) seen x each v.0) stands.1.has in
      let alone : part used x.at (c.end - x.at) ≢ part shown x.at (c.end - x.at) = subst (λ (n : ℕ). part used x.at n ≢ part shown x.at n) size v.1 in
      subst (λ (n : ℕ). (d : Parts) × StandsAlone used shown n d) w.2 (c, (stands.1, alone))

  alone_told : (at : ℕ) → (c : Parts) × StandsAlone used shown at c → In at (places_of told)
  alone_told at (c, (stands, alone)) =
      let w = of_place seen at ((all at).1 (c, stands)) in
      let x : DeletedCell = w.0 in
      let has : HasParts TableLeaf used x.at c = subst (λ (n : ℕ). HasParts TableLeaf used n c) (sym w.2) stands.has in
      let size : x.size ≡ c.end - x.at = size_by used number x c (every_in (IsCellIn used number) seen x each w.1) has in
      let there : part used x.at (c.end - x.at) ≢ part shown x.at (c.end - x.at) = subst (λ (n : ℕ). part used n (c.end - n) ≢ part shown n (c.end - n)) (sym w.2) alone in
      let differs : ¬ StaysIn used shown x = subst (λ (n : ℕ). part used x.at n ≢ part shown x.at n) (sym size) there in
      subst (λ (n : ℕ). In n (places_of told)) w.2 (in_place told x (picked_has used shown seen told x p w.1 differs))

-- What a cursor gave of an image, told so, is the image's text.
pub image_told : (form : Form) (frame : ℕ) (used shown : List ℕ) (number : ℕ) (s : DeletedCells) (seen : List DeletedCell) (t : List ℕ)
    → ((at : ℕ) (c : Parts) → IsLeft s at c ↔ StandsBetween used 0 (length used) at c) → s.used.now ≡ used → s.number ≡ number → AreTold s seen
    → AreTextsAlone form frame used shown seen t → IsTextOfImage form frame number used shown t
image_told form frame used shown number s seen t left used_is number_is are texts =
    let w = picked form frame used shown seen t texts in
    let each : Every (IsCellIn used number) seen =
    subst (λ (n : ℕ). Every (IsCellIn used n) seen) number_is (subst (λ (u : List ℕ). Every (IsCellIn u s.number) seen) used_is are.1) in
    let all : (at : ℕ) → In at (places_of seen) ↔ ((c : Parts) × StandsBetween used 0 (length used) at c) = λ at. (
      (λ there. let v = (are.0.1 at).0 there in (v.0, (left at v.0).0 v.1)),
      λ stands. (are.0.1 at).1 (stands.0, (left at stands.0).1 stands.1),
    ) in (
      w.0,
      record {
        rise = picked_rise used shown seen w.0 0 w.1 are.0.0;
        all = λ at. (told_alone used shown number seen w.0 all each w.1 at, alone_told used shown number seen w.0 all each w.1 at);
        each = picked_every used shown seen w.0 (IsCellIn used number) w.1 each;
      },
      w.2,
    )
