-- The pages of a view that SQLite uses.
use Rattle.std.proofs.Common.{◌≡◌, ⊎_elim, ℕ, ◌+◌, ◌-◌, ◌<◌, ◌≤◌, cond, min, true, false, List, [], ◌∷◌, length, get_or, take, refl, sym, ◌∙◌, ap, arith, eq-eqb, ne_eqb}
use Rattle.std.specs.Prelude.{◌==◌}
use Rattle.std.proofs.lemmas.Bool.{cases_eq}
use Rattle.std.proofs.lemmas.List.{ext_get_or, get_or-take, length-take-le}
use Rattle.sqval.specs.Database.{Database, page}
use Rattle.history.specs.Past.{valid_count, used}
use Rattle.sqview.specs.Laid.{laid}
use Rattle.sqview.specs.LogView.{pages_of}
use Rattle.sqview.specs.Shapes.{Shape, shape_of}
use Rattle.sqview.specs.declared.view.View.{View}
use Rattle.sqview.proofs.openings.PagesOfView.{length_laid, same_pages}
use Rattle.sqpast.specs.Used.{used_by, AreCounts, IsUsedPart}
use Rattle.sqpast.specs.declared.used.Counts.{Counts}
use Rattle.sqpast.proofs.known.KnownViews.{short_page}

-- a database without pages has no header
pub bare_count : (d : Database) → length d ≡ 0 → valid_count (page d 1) ≡ 0
unfolding valid_count page
bare_count [] none = refl
bare_count (x ∷ d) none = absurd (omega (arith, none))

-- by the counts of a database
pub used_counts : (d : Database) (counts : Counts) → AreCounts d counts → used_by counts ≡ used (length d) (page d 1)
used_counts d counts are = ap (λ n. cond (n == 0) counts.all (min n counts.all)) are.named ∙ ap (λ n. used n (page d 1)) are.all

-- page i + 1 is the element at i
nth : (d : Database) (i : ℕ) → page d (i + 1) ≡ get_or d i []
unfolding page
nth d i = ap (λ k. get_or d k []) (let e : i + 1 - 1 ≡ i = omega arith in e)

-- a view's first pages
pub first_pages : (size : ℕ) (file w : List ℕ) (count most : ℕ) (places : List ℕ) → count ≤ most
    → laid size count file w (take count places) ≡ take count (laid size most file w places)
first_pages size file w count most places le =
    let whole = laid size most file w places in
    let short = laid size count file w (take count places) in
    let long : length short ≡ count = length_laid size count file w (take count places) in
    let kept : length (take count whole) ≡ count = length-take-le count whole (omega (arith, length_laid size most file w places)) in
    ext_get_or [] short (take count whole) (long ∙ sym kept)
    (λ i within.
    let below : i < count = omega (arith, long, within) in
    sym (nth short i) ∙ short_page size file w count most places le (i + 1) (omega arith) (omega (arith, below)) ∙ nth whole i ∙ sym (get_or-take count whole i [] below))

module _ {F : Type 0} (bytes : F → List ℕ) (old v s : View F) (counts : Counts) (are : AreCounts (pages_of bytes old) counts) (same : shape_of bytes v ≡ shape_of bytes old)
    (le : used_by counts ≤ v.count) (counted : s.count ≡ used_by counts) (sizes : (s.page_size ≡ v.page_size) × (s.front ≡ v.front)) (placed : s.places.items ≡ take (used_by counts) v.places.items)
    (files : (s.db ≡ v.db) × (s.log ≡ v.log)) where
  pages_same : pages_of bytes s ≡ laid v.page_size (used_by counts) (bytes v.db) (bytes v.log) (take (used_by counts) v.places.items)
  pages_same = ap (λ n. laid n s.count (bytes s.db) (bytes s.log) s.places.items) sizes.0 ∙ ap (λ n. laid v.page_size n (bytes s.db) (bytes s.log) s.places.items) counted
      ∙ ap (λ f. laid v.page_size (used_by counts) (bytes f) (bytes s.log) s.places.items) files.0 ∙ ap (λ l. laid v.page_size (used_by counts) (bytes v.db) (bytes l) s.places.items) files.1
      ∙ ap (laid v.page_size (used_by counts) (bytes v.db) (bytes v.log)) placed

  pub used_view : IsUsedPart bytes old s
  used_view = record {
    pages = pages_same ∙ first_pages v.page_size (bytes v.db) (bytes v.log) (used_by counts) v.count v.places.items le
        ∙ ap (take (used_by counts)) (same_pages bytes v old same) ∙ ap (λ n. take n (pages_of bytes old)) (used_counts (pages_of bytes old) counts are);
    within = omega (arith, counted, le, ap (λ (x : Shape). x.count) same);
    places = placed ∙ ap (λ (x : Shape). take (used_by counts) x.places) same ∙ ap (λ n. take n old.places.items) (sym counted);
    sizes = (sizes.0 ∙ ap (λ (x : Shape). x.page_size) same, sizes.1 ∙ ap (λ (x : Shape). x.front) same);
    files = (ap bytes files.0 ∙ ap (λ (x : Shape). x.db) same, ap bytes files.1 ∙ ap (λ (x : Shape). x.log) same);
  }

-- they are no more than there are
pub used_fits : (counts : Counts) → used_by counts ≤ counts.all
used_fits counts = ⊎_elim
    (λ none. let t : (counts.named == 0) ≡ true = eq-eqb counts.named 0 none in rw t (omega arith))
    (λ some. let t : (counts.named == 0) ≡ false = ne_eqb counts.named 0 some in rw t (omega arith))
    (cases_eq counts.named 0)
