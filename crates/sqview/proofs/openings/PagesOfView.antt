-- The pages that a view gives.
use Rattle.std.proofs.Common.{◌≡◌, ◌≢◌, ℕ, ◌+◌, ◌-◌, ◌*◌, ◌≤◌, List, [], length, get_or, map, true, false, refl, ◌∙◌, ap, arith, eq-eqb, ne_eqb, zero, suc, ⊎_elim}
use Rattle.std.specs.Prelude.{◌==◌, Result, Ok, Err, OnOk, IsOk}
use Rattle.std.proofs.lemmas.List.FromFn.{get_or-map-range_with_len, length-map-range_with_len}
use Rattle.std.specs.List.{range_with_len}
use Rattle.std.proofs.lemmas.Bool.{cases_eq}
use Rattle.sqpage.specs.Lists.{Every}
use Rattle.sqval.specs.Database.{page, file_page}
use Rattle.sqview.specs.Laid.{part_or_zeros, place_of, laid_page, laid}
use Rattle.sqview.specs.LogView.{pages_of}
use Rattle.sqview.specs.Shapes.{Shape, shape_of}
use Rattle.sqview.specs.declared.view.View.{View}

-- of an answer that is Ok, what follows
pub on_ok : {A E : Type 0} {P Q : Type 0} (r : Result A E) → (P → Q) → OnOk r P → OnOk r Q
on_ok (Ok x) follows p = follows p
on_ok (Err e) follows p = tt

pub ok_now : {A E : Type 0} {P : Type 0} (r : Result A E) → IsOk r → OnOk r P → P
ok_now (Ok x) ok p = p
ok_now (Err e) ok p = let bad : false ≡ true = ok in cc

-- two views that show the same have the same pages
pub same_pages : {F : Type 0} (bytes : F → List ℕ) (a b : View F) → shape_of bytes a ≡ shape_of bytes b → pages_of bytes a ≡ pages_of bytes b
same_pages bytes a b same = ap (λ (s : Shape). laid s.page_size s.count s.db s.log s.places) same

pub length_laid : (size count : ℕ) (file log places : List ℕ) → length (laid size count file log places) ≡ count
unfolding laid
length_laid size count file log places = length-map-range_with_len (laid_page size file log places) 1 count

pub page_laid : (size count : ℕ) (file log places : List ℕ) (p : ℕ) → 1 ≤ p → p ≤ count → page (laid size count file log places) p ≡ laid_page size file log places p
unfolding laid page
page_laid size count file log places p one le = get_or-map-range_with_len (laid_page size file log places) 1 count (p - 1) p [] (omega arith) (omega arith)

pub laid_own : (size : ℕ) (file log places : List ℕ) (p : ℕ) → place_of places p ≡ 0 → laid_page size file log places p ≡ file_page size file p
unfolding laid_page
laid_own size file log places p e = let t : (place_of places p == 0) ≡ true = eq-eqb (place_of places p) 0 e in rw t refl

pub laid_log : (size : ℕ) (file log places : List ℕ) (p : ℕ) → place_of places p ≢ 0 → laid_page size file log places p ≡ part_or_zeros size (place_of places p) log
unfolding laid_page
laid_log size file log places p ne = let t : (place_of places p == 0) ≡ false = ne_eqb (place_of places p) 0 ne in rw t refl

module _ (size count : ℕ) (file log places : List ℕ) (p : ℕ) (one : 1 ≤ p) (le : p ≤ length (laid size count file log places)) where
  most : p ≤ count
  most = omega (arith, length_laid size count file log places)

  pub page_own : place_of places p ≡ 0 → page (laid size count file log places) p ≡ file_page size file p
  page_own none = page_laid size count file log places p one most ∙ laid_own size file log places p none

  pub page_logged : place_of places p ≢ 0 → page (laid size count file log places) p ≡ part_or_zeros size (place_of places p) log
  page_logged some = page_laid size count file log places p one most ∙ laid_log size file log places p some

-- ---- each page has the size of one

every_map : {B : Type 0} (P : B → Type 0) (f : ℕ → B) (a n : ℕ) → ((i : ℕ) → P (f i)) → Every P (map f (range_with_len a n))
every_map P f a zero all = tt
every_map P f a (suc n) all = (all a, every_map P f (a + 1) n all)

file_page_long : (size : ℕ) (file : List ℕ) (p : ℕ) → length (file_page size file p) ≡ size
unfolding file_page
file_page_long size file p = length-map-range_with_len (λ i. get_or file ((p - 1) * size + i) 0) 0 size

part_long : (size at : ℕ) (file : List ℕ) → length (part_or_zeros size at file) ≡ size
unfolding part_or_zeros
part_long size at file = length-map-range_with_len (λ i. get_or file (at + i) 0) 0 size

module _ (size : ℕ) (file log places : List ℕ) where
  page_long : (p : ℕ) → length (laid_page size file log places p) ≡ size
  page_long p = ⊎_elim
      (λ none. ap length (laid_own size file log places p none) ∙ file_page_long size file p)
      (λ some. ap length (laid_log size file log places p some) ∙ part_long size (place_of places p) log)
      (cases_eq (place_of places p) 0)

  pub laid_sized : (count : ℕ) → Every (λ bytes. length bytes ≡ size) (laid size count file log places)
  unfolding laid
  laid_sized count = every_map (λ bytes. length bytes ≡ size) (laid_page size file log places) 1 count page_long
