-- What is known of a commit is its database, whatever the file was before.
use Rattle.std.proofs.Common.{◌≡◌, ◌≢◌, inl, inr, ⊎_elim, ℕ, ◌≤◌, true, false, List, length, refl, sym, ◌∙◌, ap, arith, eq-eqb, ne_eqb}
use Rattle.std.specs.Prelude.{◌==◌}
use Rattle.std.proofs.lemmas.Bool.{cases_lt, cases_eq}
use Rattle.sqval.specs.Database.{Database, page, file_page, file_pages}
use Rattle.sqwal.specs.Frames.{size_of}
use Rattle.sqwal.specs.View.{Unnamed}
use Rattle.sqwal.proofs.log.UniquenessOfView.{over_unique, named_or_not}
use Rattle.history.specs.Checkpoints.{padded, IsCopied, IsUncut, IsCutTo, IsBefore}
use Rattle.history.specs.Past.{valid_count, used, first_count, IsAt, IsDatabaseAt, IsOverFile}
use Rattle.history.specs.Known.{IsCutAway, IsKnown, IsPoint}
use Rattle.history.proofs.PaddedPages.{file_past, padded_past}

pub first_by_count : (long : ℕ) (first : List ℕ) → valid_count first ≢ 0 → first_count long first ≡ valid_count first
first_by_count long first some = let t : (valid_count first == 0) ≡ false = ne_eqb (valid_count first) 0 some in rw t refl

pub first_by_length : (long : ℕ) (first : List ℕ) → valid_count first ≡ 0 → first_count long first ≡ long
first_by_length long first none = let t : (valid_count first == 0) ≡ true = eq-eqb (valid_count first) 0 none in rw t refl

module _ (size : ℕ) (w : List ℕ) (front : ℕ) (file : List ℕ) (some : 1 ≤ size) (before : Database) (is : IsBefore size w front file before) where
  -- a page that is neither copied nor cut away is as it was
  module _ (p : ℕ) (one : 1 ≤ p) (uncopied : (p ≤ file_pages size file) × IsCopied size w front file p → ⊥) (uncut : ¬ IsCutAway size w front file p) where
    kept_uncut : IsUncut size w front file before → file_page size file p ≡ padded size before p
    kept_uncut all = ⊎_elim
        (λ past. file_past size file some p past ∙ sym (padded_past size before p (omega (arith, all.long))))
        (λ le. ⊎_elim (λ copied. absurd (uncopied (le, copied))) (λ same. same) (all.each p one le))
        (cases_lt (file_pages size file) p)

    kept_cut : (cut : ℕ) → IsCutTo size w front file before cut → file_page size file p ≡ padded size before p
    kept_cut cut all = ⊎_elim
        (λ past. absurd (uncut (record {
          zeros = file_past size file some p past;
          tail = λ q from to. absurd (omega arith);
          commit = (all.commit.0, all.commit.1, all.commit.2, all.commit.3, omega (arith, all.commit.4, all.within), omega (arith, all.commit.4, all.within));
        })))
        (λ le. ⊎_elim
        (λ copied. absurd (uncopied (le, copied)))
        (λ rest. ⊎_elim
        (λ same. same.1)
        (λ zeros. absurd (uncut (record {
          zeros = zeros.1;
          tail = λ q from to. ⊎_elim
              (λ copied. inl copied)
              (λ more. ⊎_elim (λ low. absurd (omega (arith, low.0, zeros.0))) (λ high. inr high.1) more)
              (all.each q (omega arith) to);
          commit = (all.commit.0, all.commit.1, all.commit.2, all.commit.3, omega (arith, all.commit.4, zeros.0), omega (arith, all.commit.4, all.within));
        })))
        rest)
        (all.each p one le))
        (cases_lt (file_pages size file) p)

    pub kept : file_page size file p ≡ padded size before p
    kept = ⊎_elim kept_uncut (λ x. kept_cut x.0 x.1) is.1

  module _ (m : ℕ) (d : Database) (here : IsOverFile size w m file d) (known : IsKnown size w front file m (length d)) where
    kept_at : (p : ℕ) → 1 ≤ p → p ≤ length d → Unnamed size w m p → file_page size file p ≡ padded size before p
    kept_at p one le free = kept p one (λ copied. known.pages p one le (free, inl copied)) (λ cut. known.pages p one le (free, inr cut))

    module _ (zero : m ≡ 0) where
      free : (p : ℕ) → Unnamed size w m p
      free p i a b = absurd (omega arith)

      start_counted : valid_count (file_page size file 1) ≢ 0 → length d ≡ first_count (length before) (padded size before 1)
      start_counted counted =
          let e : length d ≡ valid_count (file_page size file 1) = here.start zero ∙ first_by_count (file_pages size file) (file_page size file 1) counted in
          let same = kept_at 1 (omega arith) (omega arith) (free 1) in
          let also : valid_count (padded size before 1) ≢ 0 = λ z. counted (ap valid_count same ∙ z) in
          e ∙ ap valid_count same ∙ sym (first_by_count (length before) (padded size before 1) also)

      module _ (none : valid_count (file_page size file 1) ≡ 0) where
        long : length d ≡ file_pages size file
        long = here.start zero ∙ first_by_length (file_pages size file) (file_page size file 1) none

        first_same : file_page size file 1 ≡ padded size before 1
        first_same = kept 1 (omega arith)
            (λ copied. known.pages 1 (omega arith) (omega (arith, copied.0, long)) (free 1, inl copied))
            (λ cut. cut.commit.3 (omega (arith, cut.commit.4)))

        last_is_there : length before ≤ file_pages size file → length before ≡ file_pages size file
        last_is_there le = ⊎_elim
            (λ lt. absurd (known.length_kept (zero, none) (inl (
              omega arith,
              kept_at (file_pages size file) (omega arith) (omega (arith, long)) (free (file_pages size file)) ∙ padded_past size before (file_pages size file) lt,
            ))))
            (λ ge. omega arith)
            (cases_lt (length before) (file_pages size file))

        length_same : length before ≡ file_pages size file
        length_same = ⊎_elim
            (λ uncut. last_is_there uncut.long)
            (λ cut. absurd (known.length_kept (zero, none) (inr (cut.1.commit.0, cut.1.commit.1, cut.1.commit.2, cut.1.commit.3, omega (arith, cut.1.commit.4, cut.1.within)))))
            is.1

        start_by_length : length d ≡ first_count (length before) (padded size before 1)
        start_by_length = long ∙ sym length_same ∙ sym (first_by_length (length before) (padded size before 1) (ap valid_count (sym first_same) ∙ none))

    pub known_at : IsDatabaseAt size w m before d
    known_at = record {
      start = λ zero. ⊎_elim (λ none. start_by_length zero none) (λ counted. start_counted zero counted) (cases_eq (valid_count (file_page size file 1)) 0);
      some = here.some;
      over = record { logged = here.over.logged; other = λ p one le free. here.over.other p one le free ∙ kept_at p one le free };
    }

-- ---- one database

used_some : (most : ℕ) (first : List ℕ) → most ≢ 0 → 1 ≤ used most first
used_some most first some = ⊎_elim
    (λ none. let t : (valid_count first == 0) ≡ true = eq-eqb (valid_count first) 0 none in rw t (omega arith))
    (λ counted. let t : (valid_count first == 0) ≡ false = ne_eqb (valid_count first) 0 counted in rw t (omega arith))
    (cases_eq (valid_count first) 0)

module _ (size : ℕ) (w : List ℕ) (m long : ℕ) (below : ℕ → List ℕ) (point : IsPoint size w m) where
  pub some_at : (d : Database) → IsAt size w m long below d → 1 ≤ m → 1 ≤ length d
  some_at d at one = ⊎_elim
      (λ zero. absurd (omega arith))
      (λ commit. let u = used_some (size_of size w m) (page d 1) commit in omega (arith, at.some one, u))
      point

  first_is_one : (d e : Database) → IsAt size w m long below d → IsAt size w m long below e → 1 ≤ m → page d 1 ≡ page e 1
  first_is_one d e a b one =
      let x = some_at d a one in
      let y = some_at e b one in
      ⊎_elim
      (λ free. a.over.other 1 (omega arith) x free ∙ sym (b.over.other 1 (omega arith) y free))
      (λ is. a.over.logged 1 is.0 (omega arith) x is.1 ∙ sym (b.over.logged 1 is.0 (omega arith) y is.1))
      (named_or_not size w m 1)

  pub one_at : (d e : Database) → IsAt size w m long below d → IsAt size w m long below e → d ≡ e
  one_at d e a b = over_unique size below w m d e
      (⊎_elim
      (λ zero. a.start zero ∙ sym (b.start zero))
      (λ some. let one : 1 ≤ m = omega arith in a.some one ∙ ap (used (size_of size w m)) (first_is_one d e a b one) ∙ sym (b.some one))
      (cases_eq m 0))
      a.over b.over
