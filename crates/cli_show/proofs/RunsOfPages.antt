-- Runs of pages that are written one behind the other.
use Rattle.std.proofs.Common.{◌≡◌, ℕ, zero, suc, ◌+◌, ◌<◌, ◌==◌, Bool, true, false, List, [], ◌∷◌, ◌++◌, length, map, Option, refl, sym, ◌∙◌, ap, subst, append_assoc, arith}
use Rattle.std.specs.Prelude.{slice_get, Some, None, option_to_list, IfSome, IsSome}
use Rattle.std.specs.List.{enumerate_from, flat_map, range_with_len}
use Rattle.std.specs.Io.KnownBytes.{Appends}
use Rattle.std.proofs.KnownBytes.{Appends-trans, Appends-nil}
use Rattle.std.proofs.lemmas.List.{append-nil, length-append, map-append}
use Rattle.std.proofs.lemmas.Grind.{flat_map-append}
use Rattle.std.proofs.lemmas.Option.{none-some}
use Rattle.std.proofs.lemmas.Bool.Decides.{nat_tests}
use Rattle.cli_text.specs.Facts.{behind, joined, separator}
use Rattle.cli_text.specs.Reports.{line_comma}
use Rattle.cli_show.proofs.LinesOfPages.{each_more}
use Rattle.cli_show.specs.Reports.{logged_text, pages_of, placed}
use Rattle.cli_show.specs.internal.Reports.{AreWritten, page_at}
use Rattle.cli_text.specs.declared.pages.Logged.{Logged}
use Rattle.cli_show.specs.declared.report.LoggedRun.{LoggedRun}
use Rattle.cli_show.specs.declared.report.LoggedRuns.{LoggedRuns}

-- one more number
range_with_len-more : (from count : ℕ) → range_with_len from (suc count) ≡ range_with_len from count ++ (from + count) ∷ []
range_with_len-more from zero = let here : from + 0 ≡ from = omega arith in ap (λ (n : ℕ). n ∷ []) (sym here)
range_with_len-more from (suc count) =
    let here : from + 1 + count ≡ from + suc count = omega arith in
    ap (λ (l : List ℕ). from ∷ l) (range_with_len-more (from + 1) count ∙ ap (λ (n : ℕ). range_with_len (from + 1) count ++ n ∷ []) here)

-- a run that is one page longer
pub run_more : (first at count more page here : ℕ) → more ≡ count + 1 → page ≡ first + count → here ≡ at + count
    → pages_of (record { page = first; at = at; count = more }) ≡ pages_of (record { page = first; at = at; count = count }) ++ (page, here) ∷ []
run_more first at count more page here longer is_page is_here =
    let one : ℕ → ℕ × ℕ = λ k. (first + k, at + k) in
    let last : ℕ × ℕ = (page, here) in
    let is_last : one count ≡ last = cc in
    let long : more ≡ suc count = omega arith in
    let none : 0 + count ≡ count = omega arith in
    let grown : range_with_len 0 more ≡ range_with_len 0 count ++ count ∷ [] =
    ap (λ (n : ℕ). range_with_len 0 n) long ∙ range_with_len-more 0 count ∙ ap (λ (n : ℕ). range_with_len 0 count ++ n ∷ []) none in
    ap (map one) grown ∙ map-append one (range_with_len 0 count) (count ∷ [])
    ∙ ap (λ (p : ℕ × ℕ). map one (range_with_len 0 count) ++ p ∷ []) is_last

-- one more text behind others
joined-more : (mark : List ℕ) (texts : List (List ℕ)) (text : List ℕ)
    → joined mark (texts ++ text ∷ []) ≡ joined mark texts ++ (separator mark (length texts == 0) ++ text)
joined-more mark [] text = append-nil text
joined-more mark (x ∷ xs) text =
    let not_first : (length (x ∷ xs) == 0) ≡ false = grind (arith, nat_tests) in
    ap (λ (l : List ℕ). x ++ l) (flat_map-append (λ (t : List ℕ). mark ++ t) xs (text ∷ []))
    ∙ ap (λ (l : List ℕ). x ++ (behind mark xs ++ l)) (append-nil (mark ++ text))
    ∙ sym (append_assoc x (behind mark xs) (mark ++ text))
    ∙ ap (λ (b : Bool). joined mark (x ∷ xs) ++ (separator mark b ++ text)) (sym not_first)

length-texts : (runs : List LoggedRun) → length (map logged_text runs) ≡ length runs
length-texts [] = refl
length-texts (run ∷ runs) = ap (λ (n : ℕ). suc n) (length-texts runs)

-- one more run
pub appends_run : (old mid new : Option (List ℕ)) (runs : List LoggedRun) (run : LoggedRun)
    → Appends old mid (joined line_comma (map logged_text runs))
    → Appends mid new (separator line_comma (length runs == 0) ++ logged_text run)
    → Appends old new (joined line_comma (map logged_text (runs ++ run ∷ [])))
appends_run old mid new runs run first more =
    let texts = map logged_text runs in
    let all : joined line_comma (map logged_text (runs ++ run ∷ []))
    ≡ joined line_comma texts ++ (separator line_comma (length runs == 0) ++ logged_text run) =
    ap (joined line_comma) (map-append logged_text runs (run ∷ [])) ∙ joined-more line_comma texts (logged_text run)
    ∙ ap (λ (n : ℕ). joined line_comma texts ++ (separator line_comma (n == 0) ++ logged_text run)) (length-texts runs) in
    subst (λ (l : List ℕ). Appends old new l) (sym all)
    (Appends-trans old mid new (joined line_comma texts) (separator line_comma (length runs == 0) ++ logged_text run) first more)

-- the pages of runs, the last of which is told in another way
pub last_pages : (runs front back : List LoggedRun) (pages more : List (ℕ × ℕ))
    → flat_map pages_of (runs ++ front) ≡ pages → flat_map pages_of back ≡ flat_map pages_of front ++ more
    → flat_map pages_of (runs ++ back) ≡ pages ++ more
last_pages runs front back pages more is last =
    flat_map-append pages_of runs back ∙ ap (λ (l : List (ℕ × ℕ)). flat_map pages_of runs ++ l) last
    ∙ sym (append_assoc (flat_map pages_of runs) (flat_map pages_of front) more)
    ∙ ap (λ (l : List (ℕ × ℕ)). l ++ more) (sym (flat_map-append pages_of runs front) ∙ is)

-- one more place
pub places_more : (from : ℕ) (places : List (Option Logged)) (place : Option Logged)
    → flat_map (λ e. placed e.0 e.1) (enumerate_from from (places ++ place ∷ []))
    ≡ flat_map (λ e. placed e.0 e.1) (enumerate_from from places) ++ placed (from + length places) place
places_more from [] place =
    let here : from + 0 ≡ from = omega arith in
    append-nil (placed from place) ∙ ap (λ (n : ℕ). placed n place) (sym here)
places_more from (x ∷ xs) place =
    let here : from + 1 + length xs ≡ from + length (x ∷ xs) = omega arith in
    ap (λ (l : List (ℕ × ℕ)). placed from x ++ l)
    (places_more (from + 1) xs place
    ∙ ap (λ (n : ℕ). flat_map (λ e. placed e.0 e.1) (enumerate_from (from + 1) xs) ++ placed n place) here)
    ∙ sym (append_assoc (placed from x) (flat_map (λ e. placed e.0 e.1) (enumerate_from (from + 1) xs)) (placed (from + length (x ∷ xs)) place))

-- what is at a place stays there where more stands behind
kept_at : {X : Type 0} (xs ys : List X) (j : ℕ) (x : X) → slice_get xs j ≡ Some x → slice_get (xs ++ ys) j ≡ Some x
kept_at [] ys j x is = absurd (none-some x is)
kept_at (z ∷ xs) ys zero x is = is
kept_at (z ∷ xs) ys (suc j) x is = kept_at xs ys j x is

-- runs with another one, which may not be there
some_more : (written : List LoggedRun) (last : Option LoggedRun) → ((i : ℕ) (run : LoggedRun) → slice_get written i ≡ Some run → 0 < run.count)
    → IfSome last (λ run. 0 < run.count) → (i : ℕ) (run : LoggedRun) → slice_get (written ++ option_to_list last) i ≡ Some run → 0 < run.count
some_more written (Some last) each is i run there =
    each_more (λ (j : ℕ) (r : LoggedRun). 0 < r.count) written (length written) last refl each is i run there
some_more written None each is i run there =
    each i run (subst (λ (l : List LoggedRun). slice_get l i ≡ Some run) (append-nil written) there)

module _ (begin : Option (List ℕ)) where
  -- before all
  pub none_written : AreWritten begin begin (record { is_first = true; last = None }) []
  none_written = record {
    written = [];
    is_first = refl;
    text = Appends-nil begin;
    none_empty = λ i run is. absurd (none-some run is);
    are_pages = refl;
  }

  -- another last run, with these pages behind those of the last one
  pub other_written : (out : Option (List ℕ)) (runs : LoggedRuns) (last : Option LoggedRun) (pages more : List (ℕ × ℕ))
      → AreWritten begin out runs pages → flat_map pages_of (option_to_list last) ≡ flat_map pages_of (option_to_list runs.last) ++ more
      → IfSome last (λ run. 0 < run.count) → AreWritten begin out (record { is_first = runs.is_first; last = last }) (pages ++ more)
  other_written out runs last pages more were is some = record {
    written = were.written;
    is_first = were.is_first;
    text = were.text;
    none_empty = some_more were.written last
        (λ (i : ℕ) (run : LoggedRun) there. were.none_empty i run (kept_at were.written (option_to_list runs.last) i run there)) some;
    are_pages = last_pages were.written (option_to_list runs.last) (option_to_list last) pages more were.are_pages is;
  }

  -- the last run is written
  pub last_written : (old new : Option (List ℕ)) (runs : LoggedRuns) (run : LoggedRun) (pages : List (ℕ × ℕ))
      → AreWritten begin old runs pages → runs.last ≡ Some run → Appends old new (separator line_comma runs.is_first ++ logged_text run)
      → AreWritten begin new (record { is_first = false; last = None }) pages
  last_written old new runs run pages were is more =
      let all = were.written ++ run ∷ [] in
      let same : were.written ++ option_to_list runs.last ≡ all ++ [] =
      ap (λ (l : Option LoggedRun). were.written ++ option_to_list l) is ∙ sym (append-nil all) in
      let long : length all ≡ length were.written + 1 = length-append were.written (run ∷ []) in
      let not_first : false ≡ (length all == 0) = rw long (grind (arith, nat_tests)) in record {
        written = all;
        is_first = not_first;
        text = appends_run begin old new were.written run were.text
            (subst (λ (b : Bool). Appends old new (separator line_comma b ++ logged_text run)) were.is_first more);
        none_empty = subst (λ (l : List LoggedRun). (i : ℕ) (r : LoggedRun) → slice_get l i ≡ Some r → 0 < r.count) same were.none_empty;
        are_pages = subst (λ (l : List LoggedRun). flat_map pages_of l ≡ pages) same were.are_pages;
      }

-- where no run is last, the next one is alone
pub alone : (last next : Option LoggedRun) (more : List (ℕ × ℕ)) → last ≡ None → flat_map pages_of (option_to_list next) ≡ more
    → flat_map pages_of (option_to_list next) ≡ flat_map pages_of (option_to_list last) ++ more
alone last next more none is = is ∙ ap (λ (l : Option LoggedRun). flat_map pages_of (option_to_list l) ++ more) (sym none)

-- a page by its number
pub page_placed : (here : Option ℕ) (place : Option Logged) (page i n : ℕ) → (IsSome here → i < 4294967295)
    → ((p : ℕ) → page_at p here ≡ placed p place) → (i < 4294967295 → page ≡ i + 1) → n ≡ i + 1 → page_at page here ≡ placed n place
page_placed None place page i n within same is next = same n
page_placed (Some number) place page i n within same is next =
    ap (λ (p : ℕ). page_at p (Some number)) (is (within refl) ∙ sym next) ∙ same n

-- no run is left over
pub all_written : (written : List LoggedRun) (last : Option LoggedRun) → last ≡ None → written ++ option_to_list last ≡ written
all_written written last none = ap (λ (l : Option LoggedRun). written ++ option_to_list l) none ∙ append-nil written
