-- At which commits a page is gone, by what it is like.
use Rattle.std.proofs.Common.{◌≡◌, ◌⊎◌, inl, inr, ⊎_elim, ℕ, ◌-◌, ◌^◌, ◌<◌, ◌≤◌, Bool, true, false, List, refl, subst, arith}
use Rattle.std.specs.Prelude.{◌↔◌, IsTrue}
use Rattle.std.proofs.lemmas.Bool.{cases_lt, cases_eq}
use Rattle.sqval.specs.Database.{file_page, file_pages}
use Rattle.sqval.specs.PageSize.{IsPageSize}
use Rattle.sqval.proofs.page.FilePages.{size_some}
use Rattle.sqwal.specs.View.{Unnamed}
use Rattle.history.specs.Checkpoints.{zero_page, IsCopied}
use Rattle.history.specs.Known.{IsCutAway}
use Rattle.history.proofs.PaddedPages.{file_past}
use Rattle.sqpast.specs.internal.Chains.{IsNextFrame, IsLeastCommit, IsUntilNamed, IsUntil, IsTail, IsLike, IsJudged}
use Rattle.sqpast.specs.declared.likeness.Likeness.{Likeness}

true_or_not : (b : Bool) → IsTrue b ⊎ (IsTrue b → ⊥)
true_or_not true = inl refl
true_or_not false = inr (λ e. cc e)

module _ (size : ℕ) (w : List ℕ) (front : ℕ) (file : List ℕ) (low : front < 2 ^ 32) where
  -- no frame up to m names the page exactly if m is before that one
  module _ (p first until : ℕ) (is : IsNextFrame size w front 0 p first) (until_is : IsUntilNamed first until) (m : ℕ) (lt : m < front) where
    unnamed_before : Unnamed size w m p → m < until
    unnamed_before free = ⊎_elim
        (λ none. omega (arith, none.1))
        (λ x. ⊎_elim
        (λ none. absurd (omega (arith, none.0, x.0)))
        (λ y. ⊎_elim (λ early. omega (arith, y.1)) (λ late. absurd (free first (omega (arith, x.0)) late y.2)) (cases_lt m first))
        is)
        until_is

    before_unnamed : m < until → Unnamed size w m p
    before_unnamed early i one le e = ⊎_elim
        (λ none. none.1 i (omega arith) (omega arith) e)
        (λ x. ⊎_elim
        (λ none. omega (arith, none.0, x.0))
        (λ y. x.3 i (omega arith) (omega (arith, y.1)) e)
        until_is)
        is

  pub gone_until : (p first until : ℕ) → IsNextFrame size w front 0 p first → IsUntilNamed first until
      → ((p ≤ file_pages size file) × IsCopied size w front file p) ⊎ IsCutAway size w front file p → IsUntil size w front file p until
  gone_until p first until is until_is why m lt = (λ gone. unnamed_before p first until is until_is m lt gone.0, λ early. (before_unnamed p first until is until_is m lt early, why))

  pub never_gone : (p until : ℕ) → ((p ≤ file_pages size file) × IsCopied size w front file p → ⊥) → ¬ IsCutAway size w front file p → until ≡ 0 → IsUntil size w front file p until
  never_gone p until uncopied uncut none m lt = (λ gone. ⊎_elim (λ copied. absurd (uncopied copied)) (λ cut. absurd (uncut cut)) gone.1, λ early. absurd (omega arith))

  module _ (least : ℕ) (is_least : IsLeastCommit size w front least) where
    -- ---- past the end

    module _ (is_size : IsPageSize size) where
      some : 1 ≤ size
      some = let s = size_some size is_size in omega arith

      pub past_cut : (p : ℕ) → file_pages size file < p → least ≤ file_pages size file → IsCutAway size w front file p
      past_cut p past le = record {
        zeros = file_past size file some p past;
        tail = λ q from to. absurd (omega arith);
        commit = (is_least.one.0, is_least.one.1, is_least.one.2, is_least.one.3, omega (arith, is_least.one.4), omega (arith, is_least.one.4));
      }

    pub short_uncut : (p : ℕ) → (least ≤ file_pages size file → ⊥) → ¬ IsCutAway size w front file p
    short_uncut p above cut = let c = cut.commit in above (omega (arith, is_least.below c.0 c.1 c.2 c.3, c.5))

    below_uncut : (p : ℕ) → p ≤ least → ¬ IsCutAway size w front file p
    below_uncut p le cut = let c = cut.commit in omega (arith, is_least.below c.0 c.1 c.2 c.3, c.4)

    pub tail_at_end : (tail : Bool) → (IsTrue tail ↔ (least ≤ file_pages size file)) → IsTail size w front file least (file_pages size file) tail
    tail_at_end tail is = record {
      yes = λ t. (is.0 t, λ q gt le. absurd (omega arith));
      no = λ not p le. short_uncut p (λ short. not (is.1 short));
    }

    pub past_until : IsPageSize size → (p : ℕ) → file_pages size file < p → (cut : Bool) → (IsTrue cut ↔ (least ≤ file_pages size file)) → (first until : ℕ) → IsNextFrame size w front 0 p first
        → (IsTrue cut × IsUntilNamed first until) ⊎ ((¬ IsTrue cut) × (until ≡ 0)) → IsUntil size w front file p until
    past_until is_size p past cut is first until next why = ⊎_elim
        (λ yes. gone_until p first until next yes.1 (inr (past_cut is_size p past (is.0 yes.0))))
        (λ no. never_gone p until (λ copied. omega (arith, copied.0)) (short_uncut p (λ short. no.0 (is.1 short))) no.1)
        why

    -- ---- one page

    module _ (p : ℕ) (one : 1 ≤ p) (within : p ≤ file_pages size file) (was : Bool) (before : IsTail size w front file least p was)
        (tail : Bool) (tail_is : IsTrue tail ↔ (IsTrue was × (least < p))) where
      no_cut : (IsTrue tail → ⊥) → (q : ℕ) → q ≤ p → ¬ IsCutAway size w front file q
      no_cut not q le = ⊎_elim
          (λ yes. ⊎_elim
          (λ lt. absurd (not (tail_is.1 (yes, lt))))
          (λ ge. below_uncut q (omega arith))
          (cases_lt least p))
          (λ no. before.no no q le)
          (true_or_not was)

      -- it isn't read
      pub judged_unread : (first : ℕ) → IsNextFrame size w front 0 p first → first ≡ 0 → (IsTrue tail → ⊥) → IsJudged size w front file least p (record { until = 0; tail = tail })
      judged_unread first is none not = record {
        until = never_gone p 0
            (λ copied. let x = copied.1 in ⊎_elim (λ free. free.1 x.0 (omega (arith, x.1)) x.2 x.3) (λ named. omega (arith, named.0)) is)
            (no_cut not p (omega arith)) refl;
        tail = record { yes = λ t. absurd (not t); no = λ _ q le. no_cut not q (omega arith) };
      }

      module _ (like : Likeness) (like_is : IsLike size w front file p like) where
        cut_here : IsTrue tail → IsTrue like.zero → IsCutAway size w front file p
        cut_here t z =
            let t' = tail_is.0 t in
            let y = before.yes t'.0 in
            record {
              zeros = like_is.zero.0 z;
              tail = λ q from to. ⊎_elim
                  (λ e. inr (subst (λ (n : ℕ). file_page size file n ≡ zero_page size) e (like_is.zero.0 z)))
                  (λ ne. y.1 q (omega arith) to)
                  (cases_eq p q);
              commit = (is_least.one.0, is_least.one.1, is_least.one.2, is_least.one.3, omega (arith, is_least.one.4, t'.1), omega (arith, is_least.one.4, y.0));
            }

        pub until_gone : (first until : ℕ) → IsNextFrame size w front 0 p first → IsUntilNamed first until → IsTrue like.copied ⊎ (IsTrue tail × IsTrue like.zero) → IsUntil size w front file p until
        until_gone first until is until_is why = gone_until p first until is until_is
            (⊎_elim (λ copied. inl (within, like_is.copied.0 copied)) (λ both. inr (cut_here both.0 both.1)) why)

        pub until_never : (until : ℕ) → (IsTrue like.copied ⊎ (IsTrue tail × IsTrue like.zero) → ⊥) → until ≡ 0 → IsUntil size w front file p until
        until_never until not none = never_gone p until
            (λ copied. not (inl (like_is.copied.1 copied.1)))
            (λ cut. ⊎_elim (λ t. not (inr (t, like_is.zero.1 cut.zeros))) (λ no. no_cut no p (omega arith) cut) (true_or_not tail))
            none

        pub tail_before : (next : Bool) → (IsTrue next ↔ (IsTrue tail × (IsTrue like.copied ⊎ IsTrue like.zero))) → IsTail size w front file least (p - 1) next
        tail_before next is = record {
          yes = λ n.
              let both = is.0 n in
              let y = before.yes (tail_is.0 both.0).0 in (
                y.0,
                λ q gt to. ⊎_elim
                    (λ e. subst (λ (k : ℕ). IsCopied size w front file k ⊎ (file_page size file k ≡ zero_page size)) e
                    (⊎_elim (λ copied. inl (like_is.copied.0 copied)) (λ zero. inr (like_is.zero.0 zero)) both.1))
                    (λ ne. y.1 q (omega arith) to)
                    (cases_eq p q),
              );
          no = λ not q le. ⊎_elim
              (λ t. λ cut. ⊎_elim
              (λ copied. not (is.1 (t, inl (like_is.copied.1 copied))))
              (λ zero. not (is.1 (t, inr (like_is.zero.1 zero))))
              (cut.tail p (omega arith) within))
              (λ no. no_cut no q (omega arith))
              (true_or_not tail);
        }
