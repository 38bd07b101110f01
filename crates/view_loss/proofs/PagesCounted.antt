-- The pages of a database that count, and which of them are lost.
use Rattle.std.proofs.Common.{◌≡◌, ◌≢◌, ◌≤◌, ◌<◌, ◌+◌, ◌-◌, ℕ, List, [], Bool, true, false, cond, length, get_or, take, inl, inr, ⊎_elim, refl, sym, ◌∙◌, subst, ap, arith}
use Rattle.std.specs.Prelude.{◌==◌, ◌↔◌, IsTrue, Option, None, Some, Result, Ok, Err, IfOk}
use Rattle.std.proofs.lemmas.List.{get_or-take, length-take-le, length-replicate, get_or-replicate, ext_get_or}
use Rattle.sqval.specs.Database.{Database, page, file_page, file_pages}
use Rattle.sqwal.specs.Frames.{IsCommit, size_of}
use Rattle.sqwal.specs.View.{IsView}
use Rattle.sqval.proofs.page.FilePages.{size_some, length-file_page}
use Rattle.history.specs.Checkpoints.{zero_page}
use Rattle.sqwal.specs.Frames.{IsFront}
use Rattle.sqwal.specs.Header.{named_size}
use Rattle.history.specs.Past.{used, first_count, IsOverFile, IsPast, IsUnknown}
use Rattle.history.specs.Known.{IsByLength, IsLengthGone, IsKnown, IsPoint}
use Rattle.history.proofs.PagesKept.{known_at, one_at}
use Rattle.sqpast.proofs.known.BeforeCommits.{front_header}
use Rattle.history.proofs.PaddedPages.{built, length_built, page_built}
use Rattle.sqpast.proofs.known.KnownViews.{used_low, used_high}
use Rattle.sqview.specs.declared.view_error.ViewError.{ViewError}
use Rattle.view_loss.specs.Losses.{AreAllThere, IsLossIn, IsLossOf}
use Rattle.view_loss.specs.declared.loss.Loss.{Loss}
use Rattle.view_loss.specs.declared.loss.Loss.TheVariants.{Copied, CutAway, CutShort, Lengthened}
use Rattle.view_loss.specs.internal.Reasons.{IsCutBy, IsLengthLoss, IsNoCut, IsPageLoss, IsStart, lengthened_if}
use Rattle.view_loss.specs.declared.start.Start.{Start}

-- ---- at a commit

module _ (size : ℕ) (w file : List ℕ) (m : ℕ) (one : 1 ≤ m) (commit : IsCommit size w m) (v : Database) (view : IsView size file w m v) where
  abbrev n : ℕ
  n = used (length v) (page v 1)

  abbrev counted : Database
  counted = take n v

  le : n ≤ length v
  le = used_high (length v) (page v 1)

  long : length counted ≡ n
  long = length-take-le n v le

  same_page : (p : ℕ) → 1 ≤ p → p ≤ n → page counted p ≡ page v p
  unfolding page
  same_page p from within = get_or-take n v (p - 1) [] (omega arith)

  some : 1 ≤ n
  some = let e = view.some one in let nz : size_of size w m ≢ 0 = commit in used_low (length v) (page v 1) (omega arith)

  over_file : IsOverFile size w m file counted
  over_file = record {
    start = λ zero. absurd (omega arith);
    some = λ _. long ∙ ap (λ k. used k (page v 1)) (view.some one) ∙ ap (used (size_of size w m)) (sym (same_page 1 (omega arith) some));
    over = record {
      logged = λ p i from to last. let within : p ≤ n = omega (arith, long) in same_page p from within ∙ view.over.logged p i from (omega (arith, le)) last;
      other = λ p from to free. let within : p ≤ n = omega (arith, long) in same_page p from within ∙ view.over.other p from (omega (arith, le)) free;
    };
  }

  module _ (front count : ℕ) (count_is : count ≡ n) where
    loss_in : (loss : Option Loss) → IsPageLoss size w front file m n loss → IsLossIn size w front file m n loss
    loss_in (Some loss) is = is
    loss_in None is = record { pages = is; length_kept = λ short. absurd (omega (arith, short.0)) }

    pub loss_counted : (loss : Option Loss) → IsPageLoss size w front file m count loss → IsLossOf size w front file m loss
    loss_counted loss is = (
      counted,
      over_file,
      subst (λ (k : ℕ). IsLossIn size w front file m k loss) (sym long) (loss_in loss (subst (λ (k : ℕ). IsPageLoss size w front file m k loss) count_is is)),
    )

-- ---- before the first commit

module _ (size : ℕ) (w : List ℕ) (front : ℕ) (file : List ℕ) (count : ℕ) (count_is : count ≡ first_count (file_pages size file) (file_page size file 1)) where
  abbrev own : Database
  own = built (file_page size file) count

  own_over : IsOverFile size w 0 file own
  own_over = record {
    start = λ _. length_built (file_page size file) count ∙ count_is;
    some = λ one. absurd (omega arith);
    over = record {
      logged = λ p i from to last. absurd (omega (arith, last.first, last.within));
      other = λ p from to _. page_built (file_page size file) count p from (omega (arith, length_built (file_page size file) count));
    };
  }

  of_in : (loss : Option Loss) → IsLossIn size w front file 0 count loss → IsLossOf size w front file 0 loss
  of_in loss is = (own, own_over, subst (λ (k : ℕ). IsLossIn size w front file 0 k loss) (sym (length_built (file_page size file) count)) is)

  pub own_loss : (loss : Loss) → IsPageLoss size w front file 0 count (Some loss) → IsLossOf size w front file 0 (Some loss)
  own_loss loss is = of_in (Some loss) is

  pub own_length : AreAllThere size w front file 0 count → (loss : Option Loss) → IsLengthLoss size w front file loss → IsLossOf size w front file 0 loss
  own_length all None is = of_in None (record { pages = all; length_kept = is })
  own_length all (Some (CutShort i)) is = of_in (Some (CutShort i)) ((all, is.0), is.1)
  own_length all (Some Lengthened) is = of_in (Some Lengthened) ((all, is.0), is.1)
  own_length all (Some (Copied p i)) is = absurd is
  own_length all (Some (CutAway p i)) is = absurd is

-- ---- how many they are before the first commit

pub start_count : (size : ℕ) (file : List ℕ) (s : Start) → IsStart size file s
    → cond (s.valid == 0) s.long s.valid ≡ first_count (file_pages size file) (file_page size file 1)
start_count size file s is = ap (λ n. cond (s.valid == 0) n s.valid) is.long ∙ ap (λ v. cond (v == 0) (file_pages size file) v) is.valid

module _ (size : ℕ) (w : List ℕ) (front : ℕ) (file : List ℕ) (s : Start) (start : IsStart size file s) (none : s.valid ≡ 0) where
  by_length : IsByLength size file 0
  by_length = (refl, sym start.valid ∙ none)

  -- a commit may have cut them
  pub cut_short : (i : ℕ) → IsCutBy size w front (s.long + 1) s.long i → IsLengthLoss size w front file (Some (CutShort i))
  cut_short i cut = (by_length, (cut.first, cut.within, cut.commit, omega (arith, cut.least, start.long)))

  -- the last one may have been added
  pub zeros_loss : IsNoCut size w front (s.long + 1) s.long → (zeros : Bool) → (IsTrue zeros ↔ ((1 ≤ s.long) × (file_page size file s.long ≡ zero_page size)))
      → IsLengthLoss size w front file (lengthened_if zeros)
  zeros_loss uncut true is = (by_length, subst (λ (k : ℕ). (1 ≤ k) × (file_page size file k ≡ zero_page size)) start.long (is.0 refl))
  zeros_loss uncut false is = λ by gone. ⊎_elim
      (λ last. let bad : false ≡ true = is.1 (subst (λ (k : ℕ). (1 ≤ k) × (file_page size file k ≡ zero_page size)) (sym start.long) last) in cc)
      (λ small. uncut small.0 small.1 small.2 small.3 (omega (arith, small.4, start.long)) (omega (arith, small.4, start.long)))
      gone

-- a page that was read is zeros if its bytes are
module _ (size : ℕ) (file : List ℕ) (p : ℕ) (page : List ℕ) (is : page ≡ file_page size file p) where
  page_long : length page ≡ size
  page_long = ap length is ∙ length-file_page size file p

  pub zeros_here : ((k : ℕ) → k < length page → get_or page k 0 ≡ 0) → file_page size file p ≡ zero_page size
  zeros_here each = sym is ∙ ext_get_or 0 page (zero_page size) (page_long ∙ sym (length-replicate size 0))
      (λ i lt. each i lt ∙ sym (get_or-replicate size i 0 0 (omega (arith, page_long))))

  pub zeros_each : file_page size file p ≡ zero_page size → (k : ℕ) → k < length page → get_or page k 0 ≡ 0
  zeros_each zeros k lt = ap (λ l. get_or l k 0) (is ∙ zeros) ∙ get_or-replicate size k 0 0 (omega (arith, page_long))

-- what holds of each answer
pub ok_all : {A E : Type 0} (r : Result A E) (Q : A → Type 0) → ((x : A) → Q x) → IfOk r Q
ok_all (Ok x) Q all = all x
ok_all (Err _) Q all = tt

-- ---- of which nothing is lost is known

pub none_unknown : (w : List ℕ) (front : ℕ) (file : List ℕ) (m : ℕ) → 1 ≤ front → IsFront (named_size w) w front → IsPoint (named_size w) w m
    → IsLossOf (named_size w) w front file m None → ¬ IsUnknown (named_size w) w front file m
none_unknown w front file m some is point of unknown =
    let size = named_size w in
    let is_size = (front_header w front some is).is_size in
    let past : IsPast size w front file m of.0 = λ before was. known_at size w front file (let s = size_some size is_size in omega arith) before was m of.0 of.1 of.2 in
    unknown.apart
    (one_at size w m (length unknown.one) _ point unknown.shown of.0 unknown.one_at (past unknown.one unknown.one_before)
    ∙ one_at size w m (length unknown.other) _ point of.0 unknown.differs (past unknown.other unknown.other_before) unknown.other_at)
