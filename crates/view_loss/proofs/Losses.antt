-- A page that is gone, and why.
use Rattle.std.proofs.Common.{◌≡◌, ◌≤◌, ◌<◌, ◌-◌, ℕ, List, length, get_or, inl, inr, refl, sym, ◌∙◌, ⊎_elim, subst, ap, arith}
use Rattle.std.specs.Prelude.{◌↔◌, Option, None, Some, MatchOption}
use Rattle.sqval.specs.Database.{file_page, file_pages}
use Rattle.sqwal.specs.Frames.{IsCommit, size_of}
use Rattle.history.specs.Known.{IsCutAway, IsGone}
use Rattle.history.specs.Table.{AreThere, IsFirstGone}
use Rattle.history.specs.declared.table.Table.{Table}
use Rattle.sqpast.specs.Past.{IsTable}
use Rattle.view_loss.specs.Losses.{AreAllThere, IsFirstLost, LossIsLost}
use Rattle.view_loss.specs.declared.loss.Loss.{Loss}
use Rattle.view_loss.specs.declared.loss.Loss.TheVariants.{Copied, CutAway, CutShort, Lengthened}
use Rattle.view_loss.specs.internal.Reasons.{IsChanged, IsCopiedOf, IsCopyOf, IsCutBy, IsNoCopy, IsNoCut, IsPageLoss, IsReasonOf}

module _ (size : ℕ) (w : List ℕ) (front : ℕ) (file : List ℕ) (p : ℕ) where
  -- what isn't copied is cut away
  cut_of : IsChanged size w front file p → IsCopiedOf size w front file p None → IsCutAway size w front file p
  cut_of changed not_copied = ⊎_elim (λ copied. absurd (not_copied copied)) (λ cut. cut) changed

  -- which commit may have cut it
  pub cut_reason : (long : ℕ) → long ≡ file_pages size file → IsChanged size w front file p → IsCopiedOf size w front file p None
      → (i : ℕ) → IsCutBy size w front p long i → IsReasonOf size w front file p (Some (CutAway p i))
  cut_reason long same changed not_copied i by =
      (refl, (cut_of changed not_copied, (by.first, by.within, by.commit, omega (arith, by.least, same)), by.below))

  -- one did
  pub some_cut : (long : ℕ) → long ≡ file_pages size file → IsChanged size w front file p → IsCopiedOf size w front file p None
      → IsNoCut size w front p long → ⊥
  some_cut long same changed not_copied none =
      let cut = cut_of changed not_copied in
      none cut.commit.0 cut.commit.1 cut.commit.2 cut.commit.3 cut.commit.4 (omega (arith, cut.commit.5, same))

  -- which frame was copied over it, by the bytes that were read of it
  pub copied_page : (content : List ℕ) (found : Option ℕ) → content ≡ file_page size file p → p ≤ file_pages size file
      → MatchOption found (IsNoCopy size w front p content) (IsCopyOf size w front p content) → IsCopiedOf size w front file p found
  copied_page content None read within none = λ both. none both.1.0 both.1.1 both.1.2 both.1.3 (read ∙ both.1.4)
  copied_page content (Some i) read within is = (within, is.first, is.within, is.names, sym read ∙ is.same)

module _ (size : ℕ) (w : List ℕ) (front : ℕ) (file : List ℕ) (m n : ℕ) (before : m < front) (t : Table) (pages : ℕ) (is : IsTable size w front file pages t)
    (fits : n ≤ length t.greatest.items) where
  gone_at : (p : ℕ) → 1 ≤ p → p ≤ n → IsGone size w front file m p ↔ (m < get_or is.until (p - 1) 0)
  gone_at p one le = is.are.each m p before one (omega (arith, is.greatest.long))

  pub all_there : AreThere is.until m n → AreAllThere size w front file m n
  all_there all p one le gone = omega (arith, (gone_at p one le).0 gone, all p one le)

  module _ (p : ℕ) (first : IsFirstGone is.until m n p) where
    gone : IsGone size w front file m p
    gone = (gone_at p first.first first.within).1 first.gone

    pub changed : IsChanged size w front file p
    changed = gone.1

    lost : IsFirstLost size w front file m n p
    lost = record {
      first = first.first;
      within = first.within;
      unnamed = gone.0;
      before = λ q one less other. let le : q ≤ n = omega (arith, first.within) in omega (arith, (gone_at q one le).0 other, first.before q one less);
    }

    -- of a page that is gone this is told
    pub loss_of : (loss : Option Loss) → IsReasonOf size w front file p loss → IsPageLoss size w front file m n loss
    loss_of None why = absurd why
    loss_of (Some (Copied q i)) why = (subst (λ (k : ℕ). IsFirstLost size w front file m n k) (sym why.0) lost, why.1)
    loss_of (Some (CutAway q i)) why = (subst (λ (k : ℕ). IsFirstLost size w front file m n k) (sym why.0) lost, why.1)
    loss_of (Some (CutShort i)) why = absurd why
    loss_of (Some Lengthened) why = absurd why

-- what is lost isn't known
pub loss_lost : LossIsLost
loss_lost size w front file m n (Copied p i) loss =
    inl (p, loss.0.first, loss.0.within, (loss.0.unnamed, inl (loss.1.0, (i, loss.1.1, loss.1.2, loss.1.3, loss.1.4))))
loss_lost size w front file m n (CutAway p i) loss = inl (p, loss.0.first, loss.0.within, (loss.0.unnamed, inr loss.1.0))
loss_lost size w front file m n (CutShort i) loss = inr (loss.0.1, inr (i, loss.1.0, loss.1.1, loss.1.2, loss.1.3))
loss_lost size w front file m n Lengthened loss = inr (loss.0.1, inl loss.1)
