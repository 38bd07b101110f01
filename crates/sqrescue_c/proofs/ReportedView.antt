-- What a view of files is to a caller.
use Rattle.std.proofs.Common.{◌≡◌, ◌≢◌, ⊎_elim, ℕ, ◌*◌, ◌-◌, ◌<◌, ◌≤◌, List, length, sym, ◌∙◌, ap, subst, arith}
use Rattle.std.specs.Prelude.{Result, Ok, Err, IfOk, IfErr}
use Rattle.std.proofs.lemmas.Bool.{cases_lt}
use Rattle.sqval.specs.Database.{page}
use Rattle.sqval.specs.Limits.{usual}
use Rattle.sqview.specs.Laid.{laid, part_or_zeros, place_of}
use Rattle.sqview.specs.LogView.{ViewAnswer, ViewRefused, ReadsFrom, IsAlone}
use Rattle.sqview.specs.internal.LogView.{IsShown}
use Rattle.sqview.specs.declared.view.View.{View}
use Rattle.sqview.specs.declared.view_error.ViewError.{ViewError}
use Rattle.sqview.proofs.openings.PagesOfView.{length_laid, page_own, page_logged}
use Rattle.sqview.proofs.file.FileHeads.{page_is_part}
use Rattle.sqpast.specs.Files.{IsPastShownWithin}
use Rattle.sqrescue_c.specs.Views.{HasSize, IsOpened, IsCrowded, IsOpenedAt, IsCrowdedAt}

module _ {F : Type 0} (bytes : F → List ℕ) (db wal journal : List ℕ) where
  pub shown : (r : Result (View F) ViewError) → ViewAnswer bytes db wal journal r → IfOk r (IsShown bytes db wal journal)
  shown (Ok v) answer = answer
  shown (Err e) answer = tt

  pub refused : (r : Result (View F) ViewError) → ViewAnswer bytes db wal journal r → IfErr r (ViewRefused db wal journal)
  refused (Ok v) answer = tt
  refused (Err e) answer = answer

  module _ (v : View F) (is : IsShown bytes db wal journal v) where
    long : length (laid v.page_size v.count (bytes v.db) (bytes v.log) v.places.items) ≡ v.count
    long = length_laid v.page_size v.count (bytes v.db) (bytes v.log) v.places.items

    pub has_size : (size count : ℕ) → size ≡ v.page_size → count ≡ length (laid v.page_size v.count (bytes v.db) (bytes v.log) v.places.items)
        → HasSize db wal journal size count
    has_size size count s n = subst (λ (x : ℕ). HasSize db wal journal x count) (sym s) (record {
      database = laid v.page_size v.count (bytes v.db) (bytes v.log) v.places.items;
      shown = is.shows;
      counted = sym n;
    })

    pub opened : (size count : ℕ) (file log places : List ℕ) → size ≡ v.page_size
        → count ≡ length (laid v.page_size v.count (bytes v.db) (bytes v.log) v.places.items)
        → ReadsFrom db wal journal (bytes v.db) (bytes v.log) → file ≡ bytes v.db → log ≡ bytes v.log → places ≡ v.places.items
        → IsOpened db wal journal size count file log places
    opened size count file log places s n reads f l p =
        subst (λ (x : ℕ). IsOpened db wal journal x count file log places) (sym s)
        (subst (λ (x : ℕ). IsOpened db wal journal v.page_size x file log places) (sym (n ∙ long))
        (subst (λ (x : List ℕ). IsOpened db wal journal v.page_size v.count x log places) (sym f)
        (subst (λ (x : List ℕ). IsOpened db wal journal v.page_size v.count (bytes v.db) x places) (sym l)
        (subst (λ (x : List ℕ). IsOpened db wal journal v.page_size v.count (bytes v.db) (bytes v.log) x) (sym p)
        (record { shown = is.shows; reads = reads; unplaced = is.unplaced; placed = is.placed })))))

    pub crowded : (room needed number : ℕ) → number ≡ 9 → needed ≡ length v.places.items → room < needed → IsCrowded db wal journal room number
    crowded room needed number nine n more =
        let counts : ¬ IsAlone wal journal = λ alone. let none = ap length (is.unplaced alone) in omega arith in
        let all = is.placed counts in
        record {
          numbered = nine;
          count = v.count;
          size = v.page_size;
          has = record { database = laid v.page_size v.count (bytes v.db) (bytes v.log) v.places.items; shown = is.shows; counted = long };
          counts = counts;
          more = omega arith;
        }

-- the same at a commit frame
module _ {F : Type 0} (bytes : F → List ℕ) (m : ℕ) (db wal journal : List ℕ) (v : View F) (is : IsPastShownWithin usual bytes m db wal journal v) where
  long_at : length (laid v.page_size v.count (bytes v.db) (bytes v.log) v.places.items) ≡ v.count
  long_at = length_laid v.page_size v.count (bytes v.db) (bytes v.log) v.places.items

  pub opened_at : (size count : ℕ) (file log places : List ℕ) → size ≡ v.page_size
      → count ≡ length (laid v.page_size v.count (bytes v.db) (bytes v.log) v.places.items)
      → bytes v.db ≡ db → bytes v.log ≡ wal → file ≡ bytes v.db → log ≡ bytes v.log → places ≡ v.places.items
      → IsOpenedAt m db wal journal size count file log places
  opened_at size count file log places s n d w f l p =
      subst (λ (x : ℕ). IsOpenedAt m db wal journal x count file log places) (sym s)
      (subst (λ (x : ℕ). IsOpenedAt m db wal journal v.page_size x file log places) (sym (n ∙ long_at))
      (subst (λ (x : List ℕ). IsOpenedAt m db wal journal v.page_size v.count x log places) (sym f)
      (subst (λ (x : List ℕ). IsOpenedAt m db wal journal v.page_size v.count (bytes v.db) x places) (sym l)
      (subst (λ (x : List ℕ). IsOpenedAt m db wal journal v.page_size v.count (bytes v.db) (bytes v.log) x) (sym p)
      (record { shown = is.shows; file_is = d; log_is = w; unplaced = is.unplaced; placed = is.placed })))))

  pub crowded_at : (room number : ℕ) → number ≡ 9 → room < length v.places.items → IsCrowdedAt m db wal journal room number
  crowded_at room number nine more =
      let commit : 1 ≤ m = ⊎_elim
      (λ some. some)
      (λ none. let zero : m ≡ 0 = omega arith in absurd (omega (arith, more, ap length (is.unplaced zero))))
      (cases_lt 0 m) in
      record {
        numbered = nine;
        commit = commit;
        size = v.page_size;
        database = laid v.page_size v.count (bytes v.db) (bytes v.log) v.places.items;
        shown = is.shows;
        more = omega (arith, more, long_at, is.placed commit);
      }

-- a page of the file itself, and one of the log
module _ (size count : ℕ) (file log places : List ℕ) (p : ℕ) (one : 1 ≤ p) (most : p ≤ count) (room : ℕ) (sized : room ≡ size) where
  within : p ≤ length (laid size count file log places)
  within = omega (arith, length_laid size count file log places)

  pub own : (from : ℕ) → from ≡ (p - 1) * size → place_of places p ≡ 0 → part_or_zeros room from file ≡ page (laid size count file log places) p
  own from at none = ap (λ n. part_or_zeros n from file) sized ∙ ap (λ n. part_or_zeros size n file) at ∙ page_is_part size p file
      ∙ sym (page_own size count file log places p one within none)

  pub logged : (from : ℕ) → from ≡ place_of places p → place_of places p ≢ 0 → part_or_zeros room from log ≡ page (laid size count file log places) p
  logged from at some = ap (λ n. part_or_zeros n from log) sized ∙ ap (λ n. part_or_zeros size n log) at
      ∙ sym (page_logged size count file log places p one within some)
