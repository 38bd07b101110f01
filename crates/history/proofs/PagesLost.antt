-- Of what is lost two files have different databases.
use Rattle.std.proofs.Common.{◌≡◌, ◌≢◌, ◌⊎◌, inl, inr, ⊎_elim, ℕ, ◌+◌, ◌-◌, ◌<◌, ◌≤◌, true, false, cond, min, max, List, [], length, get_or, set, refl, sym, ◌∙◌, ap, subst, arith, eq-eqb, ne_eqb}
use Rattle.std.specs.Prelude.{◌==◌}
use Rattle.std.proofs.lemmas.Bool.{cases_lt, cases_eq}
use Rattle.std.proofs.lemmas.List.{length-set, get_or-set_same, get_or-set_other}
use Rattle.sqval.specs.Bytes.{AreBytes}
use Rattle.sqval.specs.Database.{Database, page, file_page, file_pages}
use Rattle.sqval.specs.PageSize.{IsPageSize}
use Rattle.sqval.proofs.page.FilePages.{size_some, length-file_page}
use Rattle.sqwal.specs.Frames.{size_of}
use Rattle.sqwal.specs.View.{Unnamed}
use Rattle.history.specs.Checkpoints.{padded, zero_page, IsCopied, IsUncut, IsCutTo, IsBefore}
use Rattle.history.specs.Past.{valid_count, used, first_count, IsDatabaseAt, IsOverFile, IsUnknown}
use Rattle.history.specs.Known.{IsCutAway, IsLengthGone, IsLost, IsPoint}
use Rattle.history.proofs.PaddedPages.{file_past, padded_past, page_bytes, count_kept, byte_kept, built, length_built, page_built, padded_built, pages_built}
use Rattle.history.proofs.PagesKept.{first_by_count, first_by_length}

module _ (size : ℕ) (w : List ℕ) (front : ℕ) (file : List ℕ) (m : ℕ) (d : Database) (is_size : IsPageSize size) (bytes : AreBytes file)
    (point : IsPoint size w m) (here : IsOverFile size w m file d) where
  some : 1 ≤ size
  some = let s = size_some size is_size in omega arith

  -- ---- the file as it is, with more or fewer pages

  abbrev resized : (n : ℕ) → Database
  resized n = built (file_page size file) n

  resized_past : (n q : ℕ) → n < q → file_pages size file < q → padded size (resized n) q ≡ file_page size file q
  resized_past n q past above = padded_past size (resized n) q (omega (arith, length_built (file_page size file) n)) ∙ sym (file_past size file some q above)

  resized_is : (n : ℕ) → file_pages size file ≤ n → (q : ℕ) → 1 ≤ q → padded size (resized n) q ≡ file_page size file q
  resized_is n le q one = ⊎_elim
      (λ past. resized_past n q past (omega arith))
      (λ within. padded_built (file_page size file) n size q one within)
      (cases_lt n q)

  abbrev own : Database
  own = resized (file_pages size file)

  own_is : (q : ℕ) → 1 ≤ q → padded size own q ≡ file_page size file q
  own_is q one = resized_is (file_pages size file) (omega arith) q one

  own_before : IsBefore size w front file own
  own_before = (
    pages_built (file_page size file) (file_pages size file) size (length-file_page size file) (λ p. page_bytes size file p bytes),
    inl (record {
      long = omega (arith, length_built (file_page size file) (file_pages size file));
      each = λ p one le. inr (sym (own_is p one));
    }),
  )

  own_at : IsDatabaseAt size w m own d
  own_at = record {
    start = λ zero. here.start zero ∙ ap (λ (n : ℕ). first_count n (file_page size file 1)) (sym (length_built (file_page size file) (file_pages size file))) ∙ ap (first_count (length own)) (sym (own_is 1 (omega arith)));
    some = here.some;
    over = record { logged = here.over.logged; other = λ p one le free. here.over.other p one le free ∙ sym (own_is p one) };
  }

  -- ---- the length is lost

  module _ (zero : m ≡ 0) (none : valid_count (file_page size file 1) ≡ 0) where
    -- a file of another length, of which the rest is zeros, is its own database
    module _ (n : ℕ) (is : (q : ℕ) → 1 ≤ q → padded size (resized n) q ≡ file_page size file q) where
      resized_at : IsDatabaseAt size w m (resized n) (resized n)
      resized_at = record {
        start = λ _. sym (first_by_length (length (resized n)) (padded size (resized n) 1) (ap valid_count (is 1 (omega arith)) ∙ none));
        some = λ one. absurd (omega arith);
        over = record {
          logged = λ p i one le last. absurd (omega (arith, last.first, last.within));
          other = λ p one le free. let within : p ≤ n = omega (arith, length_built (file_page size file) n) in
              page_built (file_page size file) n p one within ∙ sym (padded_built (file_page size file) n size p one within);
        };
      }

      resized_unknown : n ≢ file_pages size file → IsUncut size w front file (resized n) ⊎ ((cut : ℕ) × IsCutTo size w front file (resized n) cut) → IsUnknown size w front file m
      resized_unknown apart may = record {
        one = own;
        other = resized n;
        shown = d;
        differs = resized n;
        one_before = own_before;
        other_before = (pages_built (file_page size file) n size (length-file_page size file) (λ p. page_bytes size file p bytes), may);
        one_at = own_at;
        other_at = resized_at;
        apart = λ e. apart (sym (length_built (file_page size file) n) ∙ sym (ap length e) ∙ here.start zero ∙ first_by_length (file_pages size file) (file_page size file 1) none);
      }

    shorter_is : 1 ≤ file_pages size file → file_page size file (file_pages size file) ≡ zero_page size → (q : ℕ) → 1 ≤ q → padded size (resized (file_pages size file - 1)) q ≡ file_page size file q
    shorter_is long zeros q one = ⊎_elim
        (λ last. padded_past size (resized (file_pages size file - 1)) q (omega (arith, length_built (file_page size file) (file_pages size file - 1))) ∙ sym zeros ∙ ap (file_page size file) (sym last))
        (λ ne. ⊎_elim
        (λ past. resized_past (file_pages size file - 1) q (omega arith) past)
        (λ within. padded_built (file_page size file) (file_pages size file - 1) size q one (omega arith))
        (cases_lt (file_pages size file) q))
        (cases_eq q (file_pages size file))

    length_lost : IsLengthGone size w front file → IsUnknown size w front file m
    length_lost gone = ⊎_elim
        (λ last. let is = shorter_is last.0 last.1 in
        resized_unknown (file_pages size file - 1) is (omega (arith, last.0)) (inl (record {
          long = omega (arith, length_built (file_page size file) (file_pages size file - 1));
          each = λ p one le. inr (sym (is p one));
        })))
        (λ small. let is = resized_is (file_pages size file + 1) (omega arith) in
        resized_unknown (file_pages size file + 1) is (omega arith) (inr (
          file_pages size file,
          record {
            within = omega arith;
            commit = small;
            each = λ p one le. inr (inl (le, sym (is p one)));
          },
        )))
        gone

  -- ---- a page is lost

  module _ (p : ℕ) (first : 1 ≤ p) (counts : p ≤ length d) (free : Unnamed size w m p) where
    -- its first byte is another
    abbrev byte : ℕ
    byte = cond (get_or (file_page size file p) 0 0 == 0) 1 0

    byte_is_other : get_or (file_page size file p) 0 0 ≢ byte
    byte_is_other e = ⊎_elim
        (λ none. let t : (get_or (file_page size file p) 0 0 == 0) ≡ true = eq-eqb (get_or (file_page size file p) 0 0) 0 none in
        let z : byte ≡ 1 = rw t refl in omega arith)
        (λ some. let t : (get_or (file_page size file p) 0 0 == 0) ≡ false = ne_eqb (get_or (file_page size file p) 0 0) 0 some in
        let z : byte ≡ 0 = rw t refl in omega arith)
        (cases_eq (get_or (file_page size file p) 0 0) 0)

    byte_low : byte < 256
    byte_low = ⊎_elim
        (λ none. let t : (get_or (file_page size file p) 0 0 == 0) ≡ true = eq-eqb (get_or (file_page size file p) 0 0) 0 none in
        let z : byte ≡ 1 = rw t refl in omega arith)
        (λ some. let t : (get_or (file_page size file p) 0 0 == 0) ≡ false = ne_eqb (get_or (file_page size file p) 0 0) 0 some in
        let z : byte ≡ 0 = rw t refl in omega arith)
        (cases_eq (get_or (file_page size file p) 0 0) 0)

    changed : List ℕ
    changed = set (file_page size file p) 0 byte

    changed_long : length changed ≡ size
    unfolding changed
    changed_long = length-set (file_page size file p) 0 byte ∙ length-file_page size file p

    changed_bytes : AreBytes changed
    unfolding changed
    changed_bytes = byte_kept (file_page size file p) byte (page_bytes size file p bytes) byte_low

    changed_count : valid_count changed ≡ valid_count (file_page size file p)
    unfolding changed
    changed_count = count_kept (file_page size file p) byte

    changed_apart : file_page size file p ≢ changed
    unfolding changed
    changed_apart e = byte_is_other (ap (λ l. get_or l 0 0) e ∙ get_or-set_same (file_page size file p) 0 byte 0 (omega (arith, some, length-file_page size file p)))

    rule : (q : ℕ) → List ℕ
    rule q = cond (q == p) changed (file_page size file q)

    rule_here : (q : ℕ) → q ≡ p → rule q ≡ changed
    unfolding rule
    rule_here q e = let t : (q == p) ≡ true = eq-eqb q p e in rw t refl

    rule_there : (q : ℕ) → q ≢ p → rule q ≡ file_page size file q
    unfolding rule
    rule_there q ne = let t : (q == p) ≡ false = ne_eqb q p ne in rw t refl

    rule_long : (q : ℕ) → length (rule q) ≡ size
    rule_long q = ⊎_elim (λ e. ap length (rule_here q e) ∙ changed_long) (λ ne. ap length (rule_there q ne) ∙ length-file_page size file q) (cases_eq q p)

    rule_bytes : (q : ℕ) → AreBytes (rule q)
    rule_bytes q i = ⊎_elim
        (λ e. omega (arith, ap (λ l. get_or l i 0) (rule_here q e), changed_bytes i))
        (λ ne. omega (arith, ap (λ l. get_or l i 0) (rule_there q ne), page_bytes size file q bytes i))
        (cases_eq q p)

    rule_count : valid_count (rule 1) ≡ valid_count (file_page size file 1)
    rule_count = ⊎_elim
        (λ e. ap valid_count (rule_here 1 e) ∙ changed_count ∙ ap (λ q. valid_count (file_page size file q)) (sym e))
        (λ ne. ap valid_count (rule_there 1 ne))
        (cases_eq 1 p)

    other_long : ℕ
    other_long = max (file_pages size file) p

    other_longest : (file_pages size file ≤ other_long) × (p ≤ other_long) × (p ≤ file_pages size file → other_long ≡ file_pages size file)
    unfolding other_long
    other_longest = (omega arith, omega arith, λ le. omega arith)

    abbrev other : Database
    other = built rule other_long

    other_is : (q : ℕ) → 1 ≤ q → padded size other q ≡ rule q
    other_is q one = ⊎_elim
        (λ past. padded_past size other q (omega (arith, length_built rule other_long)) ∙ sym (file_past size file some q (omega (arith, other_longest.0))) ∙ sym (rule_there q (omega (arith, other_longest.1))))
        (λ within. padded_built rule other_long size q one within)
        (cases_lt other_long q)

    -- the database of that file
    abbrev changed_database : Database
    changed_database = set d (p - 1) changed

    new_here : page changed_database p ≡ changed
    unfolding page
    new_here = get_or-set_same d (p - 1) changed [] (omega arith)

    new_there : (q : ℕ) → 1 ≤ q → q ≢ p → page changed_database q ≡ page d q
    unfolding page
    new_there q one ne = get_or-set_other d (p - 1) (q - 1) changed [] (omega arith)

    new_long : length changed_database ≡ length d
    new_long = length-set d (p - 1) changed

    page_is : page d p ≡ file_page size file p
    page_is = here.over.other p first counts free

    first_count_kept : valid_count (page changed_database 1) ≡ valid_count (page d 1)
    first_count_kept = ⊎_elim
        (λ e. ap (λ q. valid_count (page changed_database q)) e ∙ ap valid_count new_here ∙ changed_count ∙ ap valid_count (sym page_is) ∙ ap (λ q. valid_count (page d q)) (sym e))
        (λ ne. ap valid_count (new_there 1 (omega arith) ne))
        (cases_eq 1 p)

    used_by_count : (most : ℕ) (a b : List ℕ) → valid_count a ≡ valid_count b → used most a ≡ used most b
    used_by_count most a b e = ap (λ (n : ℕ). cond (n == 0) most (min n most)) e

    start_same : m ≡ 0 → length d ≡ first_count (length other) (padded size other 1)
    start_same zero =
        let e : valid_count (padded size other 1) ≡ valid_count (file_page size file 1) = ap valid_count (other_is 1 (omega arith)) ∙ rule_count in
        ⊎_elim
        (λ none.
        let long : length d ≡ file_pages size file = here.start zero ∙ first_by_length (file_pages size file) (file_page size file 1) none in
        let same : length other ≡ file_pages size file = length_built rule other_long ∙ other_longest.2 (omega arith) in
        long ∙ sym same ∙ sym (first_by_length (length other) (padded size other 1) (e ∙ none)))
        (λ counted. here.start zero ∙ first_by_count (file_pages size file) (file_page size file 1) counted ∙ sym e
        ∙ sym (first_by_count (length other) (padded size other 1) (λ z. counted (sym e ∙ z))))
        (cases_eq (valid_count (file_page size file 1)) 0)

    new_at : IsDatabaseAt size w m other changed_database
    new_at = record {
      start = λ zero. new_long ∙ start_same zero;
      some = λ one. new_long ∙ here.some one ∙ used_by_count (size_of size w m) (page d 1) (page changed_database 1) (sym first_count_kept);
      over = record {
        logged = λ q i one le last.
            new_there q one (λ e. free i last.first last.within (last.names ∙ e)) ∙ here.over.logged q i one (omega (arith, new_long)) last;
        other = λ q one le unnamed. ⊎_elim
            (λ e. ap (page changed_database) e ∙ new_here ∙ sym (rule_here q e) ∙ sym (other_is q one))
            (λ ne. new_there q one ne ∙ here.over.other q one (omega (arith, new_long)) unnamed ∙ sym (rule_there q ne) ∙ sym (other_is q one))
            (cases_eq q p);
      };
    }

    -- each other page of the file is as it is
    there_same : (q : ℕ) → 1 ≤ q → q ≢ p → file_page size file q ≡ padded size other q
    there_same q one ne = sym (rule_there q ne) ∙ sym (other_is q one)

    copied_uncut : p ≤ file_pages size file → IsCopied size w front file p → IsUncut size w front file other
    copied_uncut le copied = record {
      long = omega (arith, length_built rule other_long, other_longest.2 le);
      each = λ q one most. ⊎_elim (λ e. inl (subst (IsCopied size w front file) (sym e) copied)) (λ ne. inr (there_same q one ne)) (cases_eq q p);
    }

    away_cut : IsCutAway size w front file p → IsCutTo size w front file other (min (p - 1) (file_pages size file))
    away_cut away = record {
      within = omega arith;
      commit = (away.commit.0, away.commit.1, away.commit.2, away.commit.3, omega (arith, away.commit.4, away.commit.5));
      each = λ q one most. ⊎_elim
          (λ below. inr (inl (omega arith, there_same q one (omega arith))))
          (λ above. ⊎_elim (λ copied. inl copied) (λ zeros. inr (inr (omega arith, zeros))) (away.tail q above most))
          (cases_lt q p);
    }

    page_lost : (((p ≤ file_pages size file) × IsCopied size w front file p) ⊎ IsCutAway size w front file p) → IsUnknown size w front file m
    page_lost why = record {
      one = own;
      other = other;
      shown = d;
      differs = changed_database;
      one_before = own_before;
      other_before = (pages_built rule other_long size rule_long rule_bytes, ⊎_elim (λ x. inl (copied_uncut x.0 x.1)) (λ away. inr (min (p - 1) (file_pages size file), away_cut away)) why);
      one_at = own_at;
      other_at = new_at;
      apart = λ e. changed_apart (sym page_is ∙ ap (λ x. page x p) e ∙ new_here);
    }

  pub lost_unknown : IsLost size w front file m (length d) → IsUnknown size w front file m
  lost_unknown lost = ⊎_elim
      (λ x. page_lost x.0 x.1 x.2 x.3.0 x.3.1)
      (λ x. length_lost x.0.0 x.0.1 x.1)
      lost
