-- A log has one front, and a file with its log one view at each frame.
use Rattle.std.proofs.Common.{◌≡◌, ◌⊎◌, inl, inr, ⊎_elim, ℕ, zero, suc, ◌-◌, ◌≤◌, List, [], length, take, get_or, sym, ◌∙◌, ap, arith}
use Rattle.std.proofs.lemmas.List.{ext_get_or}
use Rattle.std.proofs.lemmas.Bool.{cases_eq}
use Rattle.sqval.specs.Database.{Database, page, file_page, IsFile}
use Rattle.sqwal.specs.Header.{IsHeader}
use Rattle.sqwal.specs.Frames.{frame_end, page_of, IsFront}
use Rattle.sqwal.specs.View.{Unnamed, IsLast, IsOver, IsView}
use Rattle.sqwal.proofs.log.DependenceOnPrefix.{frame_end-le, page_same, size_same, content_same}

front_le : (size : ℕ) (w : List ℕ) (m n : ℕ) → IsFront size w m → IsFront size w n → m ≤ n
front_le size w m n a b = ⊎_elim (λ e. omega arith) (λ v. b.greatest m v.0 v.1) a.is

pub front_unique : (size : ℕ) (w : List ℕ) (m n : ℕ) → IsFront size w m → IsFront size w n → m ≡ n
front_unique size w m n a b = let x : m ≤ n = front_le size w m n a b in let y : n ≤ m = front_le size w n m b a in omega arith

-- without a valid header the front is 0
pub front_none : (size : ℕ) (w : List ℕ) (m : ℕ) → (IsHeader size w → ⊥) → IsFront size w m → m ≡ 0
front_none size w m bad is = ⊎_elim (λ e. e) (λ v. absurd (bad (v.0.each 1 (omega arith) v.0.first).header)) is.is

pub named_or_not : (size : ℕ) (w : List ℕ) (m p : ℕ) → Unnamed size w m p ⊎ ((i : ℕ) × IsLast size w m p i)
named_or_not size w zero p = inl (λ i a b. absurd (omega arith))
named_or_not size w (suc m) p = ⊎_elim
    (λ e. inr (suc m, record { first = omega arith; within = omega arith; names = e; last = λ j a b. absurd (omega arith) }))
    (λ ne. ⊎_elim
    (λ un. inl (λ i a b. ⊎_elim (λ e. λ z. ne (ap (page_of size w) (sym e) ∙ z)) (λ d. un i a (let le : i ≤ m = omega arith in le)) (cases_eq i (suc m))))
    (λ is. inr (is.0, record { first = is.1.first; within = omega (arith, is.1.within); names = is.1.names; last = λ j a b. ⊎_elim (λ e. λ z. ne (ap (page_of size w) (sym e) ∙ z)) (λ d. is.1.last j a (let le : j ≤ m = omega arith in le)) (cases_eq j (suc m)) }))
    (named_or_not size w m p))
    (cases_eq (page_of size w (suc m)) p)

-- two lists of pages with the same pages
pub same_pages : (d e : Database) → length d ≡ length e → ((p : ℕ) → 1 ≤ p → p ≤ length d → page d p ≡ page e p) → d ≡ e
unfolding page
same_pages d e l same = ext_get_or [] d e l (λ i lt. let k : suc i - 1 ≡ i = omega arith in ap (λ j. get_or d j []) (sym k) ∙ same (suc i) (omega arith) lt ∙ ap (λ j. get_or e j []) k)

pub over_unique : (size : ℕ) (below : ℕ → List ℕ) (w : List ℕ) (m : ℕ) (d e : Database) → length d ≡ length e → IsOver size below w m d → IsOver size below w m e → d ≡ e
over_unique size below w m d e l a b = same_pages d e l (λ p x y. ⊎_elim
    (λ un. a.other p x y un ∙ sym (b.other p x (omega arith) un))
    (λ is. a.logged p is.0 x y is.1 ∙ sym (b.logged p is.0 x (omega arith) is.1))
    (named_or_not size w m p))

pub view_unique : (size : ℕ) (db w : List ℕ) (m : ℕ) (d e : Database) → IsView size db w m d → IsView size db w m e → d ≡ e
view_unique size db w m d e a b = over_unique size (file_page size db) w m d e
    (⊎_elim (λ z. a.none z ∙ sym (b.none z)) (λ nz. a.some (omega arith) ∙ sym (b.some (omega arith))) (cases_eq m 0)) a.over b.over

-- the view at 0 is the file's pages
pub view_file : (size : ℕ) (db w : List ℕ) (d : Database) → IsFile size db d → IsView size db w 0 d
view_file size db w d is = record {
  none = λ e. is.count;
  some = λ h. absurd (omega arith);
  over = record { logged = λ p i a b last. absurd (omega (arith, last.first, last.within)); other = λ p a b un. is.each p a b };
}

-- ---- a view looks at the front of its log alone

pub last_same : (size : ℕ) (w v : List ℕ) (n m p i : ℕ) → take n w ≡ take n v → frame_end size m ≤ n → IsLast size w m p i → IsLast size v m p i
last_same size w v n m p i e h is = record {
  first = is.first;
  within = is.within;
  names = sym (page_same size w v n i e is.first (omega (arith, frame_end-le size i m is.within))) ∙ is.names;
  last = λ j a b z. is.last j a b (page_same size w v n j e (omega (arith, is.first)) (omega (arith, frame_end-le size j m b)) ∙ z);
}

pub unnamed_same : (size : ℕ) (w v : List ℕ) (n m p : ℕ) → take n w ≡ take n v → frame_end size m ≤ n → Unnamed size w m p → Unnamed size v m p
unnamed_same size w v n m p e h un i a b z = un i a b (page_same size w v n i e a (omega (arith, frame_end-le size i m b)) ∙ z)

pub over_same : (size : ℕ) (below : ℕ → List ℕ) (w v : List ℕ) (n m : ℕ) (d : Database) → take n w ≡ take n v → frame_end size m ≤ n → IsOver size below w m d → IsOver size below v m d
over_same size below w v n m d e h is = record {
  logged = λ p i a b last. is.logged p i a b (last_same size v w n m p i (sym e) h last) ∙ content_same size w v n i e last.first (omega (arith, frame_end-le size i m last.within));
  other = λ p a b un. is.other p a b (unnamed_same size v w n m p (sym e) h un);
}

pub view_same : (size : ℕ) (db w v : List ℕ) (n m : ℕ) (d : Database) → take n w ≡ take n v → frame_end size m ≤ n → IsView size db w m d → IsView size db v m d
view_same size db w v n m d e h is = record {
  none = is.none;
  some = λ p. is.some p ∙ size_same size w v n m e p h;
  over = over_same size (file_page size db) w v n m d e h is.over;
}
