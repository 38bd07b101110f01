-- The places of a log's last frames.
use Rattle.std.proofs.Common.{◌≡◌, ◌≢◌, inl, inr, ⊎_elim, ℕ, ◌+◌, ◌-◌, ◌*◌, ◌≤◌, cond, true, false, List, length, refl, sym, ◌∙◌, ap, subst, arith, eq-eqb, ne_eqb}
use Rattle.std.specs.Prelude.{◌==◌}
use Rattle.std.proofs.lemmas.Bool.{cases_lt, cases_eq}
use Rattle.sqwal.specs.Frames.{frame_at, page_of, size_of, IsValidFrame}
use Rattle.sqwal.specs.View.{IsLast, IsView}
use Rattle.sqwal.proofs.log.DependenceOnPrefix.{frame_at-end}
use Rattle.sqview.specs.Laid.{part_or_zeros, place_of, laid}
use Rattle.sqview.specs.internal.Places.{Noted}
use Rattle.sqview.specs.Origins.{IsFramePlace, AreFramePlaces}
use Rattle.sqview.proofs.file.FileHeads.{part_is}
use Rattle.sqview.proofs.openings.PagesOfView.{length_laid, page_laid, laid_own, laid_log}

pub content_place : (size frame : ℕ) → 32 + (frame - 1) * (24 + size) + 24 ≡ frame_at size frame + 24
unfolding frame_at
content_place size frame = refl

pub placed_none : (size : ℕ) (w : List ℕ) (count : ℕ) (places : List ℕ) → length places ≡ count → ((p : ℕ) → place_of places p ≡ 0) → AreFramePlaces size w 0 count places
placed_none size w count places long zeros = record { long = long; each = λ p one le. inl (zeros p, λ i a b. absurd (omega arith)) }

module _ (size : ℕ) (w : List ℕ) (m p : ℕ) (other : page_of size w (m + 1) ≢ p) where
  not_named : (i : ℕ) → i ≡ m + 1 → page_of size w i ≢ p
  not_named i e is = other (ap (page_of size w) (sym e) ∙ is)

  -- a frame more that names another page
  further : (at : ℕ) → IsFramePlace size w m p at → IsFramePlace size w (m + 1) p at
  further at place = ⊎_elim
      (λ none. inl (none.0, λ i one le. ⊎_elim (λ lt. none.1 i one (omega arith)) (λ ge. not_named i (omega arith)) (cases_lt i (m + 1))))
      (λ is. inr (
        is.0,
        record {
          first = is.1.first;
          within = omega (arith, is.1.within);
          names = is.1.names;
          last = λ j lt le. ⊎_elim (λ below. is.1.last j lt (omega arith)) (λ ge. not_named j (omega arith)) (cases_lt j (m + 1));
        },
        is.2,
      ))
      place

-- the place of one frame more is put down
pub placed_more : (size : ℕ) (w : List ℕ) (m count page at : ℕ) (old new : List ℕ) → AreFramePlaces size w m count old → Noted page at old new
    → page ≡ page_of size w (m + 1) → at ≡ frame_at size (m + 1) + 24 → AreFramePlaces size w (m + 1) count new
placed_more size w m count page at old new are noted names place = record {
  long = noted.0 ∙ are.long;
  each = λ p one le.
      let is : place_of new p ≡ cond (page == p) at (place_of old p) = noted.1 p one (omega (arith, are.long)) in
      ⊎_elim
      (λ same.
      let t : (page == p) ≡ true = eq-eqb page p same in
      let here : place_of new p ≡ at = is ∙ ap (λ b. cond b at (place_of old p)) t in
      let last : IsLast size w (m + 1) p (m + 1) = record { first = omega arith; within = omega arith; names = sym names ∙ same; last = λ j a b. absurd (omega arith) } in
      inr (m + 1, last, here ∙ place))
      (λ ne.
      let t : (page == p) ≡ false = ne_eqb page p ne in
      let kept : place_of new p ≡ place_of old p = is ∙ ap (λ b. cond b at (place_of old p)) t in
      subst (λ (n : ℕ). IsFramePlace size w (m + 1) p n) (sym kept) (further size w m p (λ e. ne (names ∙ e)) (place_of old p) (are.each p one le)))
      (cases_eq page p);
}

module _ (size : ℕ) (w : List ℕ) (m count : ℕ) (places : List ℕ) (are : AreFramePlaces size w m count places) (valid : IsValidFrame size w m) where
  at_frame : (i : ℕ) → 1 ≤ i → i ≤ m → frame_at size i + 24 + size ≤ length w
  at_frame i one le = omega (arith, (valid.each i one le).whole, frame_at-end size i one)

  one_last : (p i j : ℕ) → IsLast size w m p i → IsLast size w m p j → i ≡ j
  one_last p i j a b = ⊎_elim (λ lt. absurd (a.last j lt b.within b.names)) (λ le. ⊎_elim (λ e. e) (λ ne. absurd (b.last i (omega arith) a.within a.names)) (cases_eq i j)) (cases_lt i j)

  pub view_laid : (file : List ℕ) → count ≡ size_of size w m → IsView size file w m (laid size count file w places)
  view_laid file e = record {
    none = λ zero. absurd (omega (arith, valid.first));
    some = λ one. length_laid size count file w places ∙ e;
    over = record {
      logged = λ p i one le last.
          let most : p ≤ count = omega (arith, length_laid size count file w places) in
          page_laid size count file w places p one most ∙ ⊎_elim
          (λ none. absurd (none.1 i last.first last.within last.names))
          (λ is. let same : is.0 ≡ i = one_last p is.0 i is.1 last in
          let at : place_of places p ≡ frame_at size i + 24 = is.2 ∙ ap (λ n. frame_at size n + 24) same in
          laid_log size file w places p (λ z. omega arith) ∙ ap (λ n. part_or_zeros size n w) at
          ∙ part_is size (frame_at size i + 24) w (at_frame i last.first last.within))
          (are.each p one most);
      other = λ p one le un.
          let most : p ≤ count = omega (arith, length_laid size count file w places) in
          page_laid size count file w places p one most ∙ ⊎_elim
          (λ none. laid_own size file w places p none.0)
          (λ is. absurd (un is.0 is.1.first is.1.within is.1.names))
          (are.each p one most);
    };
  }
