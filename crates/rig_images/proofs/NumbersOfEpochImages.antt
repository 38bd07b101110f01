-- Where the images of epochs have their numbers.
use Rattle.std.proofs.Common.{◌≡◌, inl, inr, ℕ, ◌+◌, ◌-◌, ◌<◌, ◌≤◌, Bool, true, false, cond, List, [], ◌∷◌, ◌++◌, length, take, drop, get_or, Some, None, refl, sym, ◌∙◌, ap, subst, arith}
use Rattle.std.specs.Prelude.{nat_lt}
use Rattle.std.proofs.lemmas.Bool.{cases_lt, lt-ltb, le-ltb}
use Rattle.std.proofs.lemmas.List.{drop_more, take_more, take_all, take-append-drop}
use Rattle.std.proofs.Math.ListN.{drop_of_length-le}
use Rattle.rig_play.specs.Plays.{Files, epoch_now}
use Rattle.rig_play.specs.declared.meta.Epoch.{Epoch}
use Rattle.rig_images.specs.Images.{numbered, total, EachHasPlace, epoch_count, epochs_count, IsCounted, AreCounted, AreCounts, image_count}
use Rattle.rig_images.specs.internal.Adding.{IsAdded}
use Rattle.rig_images.specs.declared.counts.Counts.{Counts}
use Rattle.rig_images.specs.declared.counts.EpochCounts.{EpochCounts}

-- from one epoch on: its images, and those behind it
step : (xs : List EpochCounts) (i rest : ℕ) (x : EpochCounts) → i < length xs → x ≡ get_or xs i x
    → numbered (drop i xs) rest ≡ cond (nat_lt rest x.images) (Some (x, rest)) (numbered (drop (i + 1) xs) (rest - x.images))
step xs i rest x lt is =
    ap (λ (l : List EpochCounts). numbered l rest) (drop_more xs i x lt)
    ∙ ap (λ (y : EpochCounts). cond (nat_lt rest y.images) (Some (y, rest)) (numbered (drop (i + 1) xs) (rest - y.images))) (sym is)

pub here : (xs : List EpochCounts) (i rest : ℕ) (x : EpochCounts) → i < length xs → x ≡ get_or xs i x → rest < x.images → numbered (drop i xs) rest ≡ Some (x, rest)
here xs i rest x lt is less = step xs i rest x lt is ∙ ap (λ (b : Bool). cond b (Some (x, rest)) (numbered (drop (i + 1) xs) (rest - x.images))) (lt-ltb rest x.images less)

pub later : (xs : List EpochCounts) (i rest : ℕ) (x : EpochCounts) → i < length xs → x ≡ get_or xs i x → x.images ≤ rest → numbered (drop i xs) rest ≡ numbered (drop (i + 1) xs) (rest - x.images)
later xs i rest x lt is past = step xs i rest x lt is ∙ ap (λ (b : Bool). cond b (Some (x, rest)) (numbered (drop (i + 1) xs) (rest - x.images))) (le-ltb rest x.images past)

pub nowhere : (xs : List EpochCounts) (i rest : ℕ) → length xs ≤ i → numbered (drop i xs) rest ≡ None
nowhere xs i rest past = ap (λ (l : List EpochCounts). numbered l rest) (drop_of_length-le xs past)

placed : (front back : List EpochCounts) (c : EpochCounts) (n : ℕ) → n < c.images → numbered (front ++ c ∷ back) (total front + n) ≡ Some (c, n)
placed [] back c n lt =
    let e : 0 + n ≡ n = omega arith in
    ap (λ (k : ℕ). cond (nat_lt k c.images) (Some (c, k)) (numbered back (k - c.images))) e ∙ ap (λ (b : Bool). cond b (Some (c, n)) (numbered back (n - c.images))) (lt-ltb n c.images lt)
placed (d ∷ front) back c n lt =
    let m : ℕ = d.images + total front + n in
    let rest : m - d.images ≡ total front + n = omega arith in
    ap (λ (b : Bool). cond b (Some (d, m)) (numbered (front ++ c ∷ back) (m - d.images))) (le-ltb m d.images (omega arith)) ∙ ap (λ (k : ℕ). numbered (front ++ c ∷ back) k) rest ∙ placed front back c n lt

all : (counts : List EpochCounts) (n : ℕ) → n < total counts → (front back : List EpochCounts) × (c : EpochCounts) × (m : ℕ) × (counts ≡ front ++ c ∷ back) × (m < c.images) × (n ≡ total front + m)
all [] n lt = absurd (omega (arith, lt))
all (c ∷ counts) n lt = elim (cases_lt n c.images) [
  | inl less ↦ ([], counts, c, n, refl, less, omega arith)
  | inr past ↦
      let found = all counts (n - c.images) (omega arith) in
      (c ∷ found.0, found.1, found.2, found.3, ap (λ (l : List EpochCounts). c ∷ l) found.4, found.5, omega (arith, found.6))
]

pub each_has_place : (counts : List EpochCounts) → EachHasPlace counts
each_has_place counts = record {
  placed = λ front back c n is lt. ap (λ (l : List EpochCounts). numbered l (total front + n)) is ∙ placed front back c n lt;
  all = all counts;
}

-- one epoch more is counted
pub counted_more : (s : Files) (epochs : List Epoch) (counts : List EpochCounts) (e : Epoch) (c : EpochCounts) → AreCounted s epochs counts → IsCounted s e c → AreCounted s (epochs ++ e ∷ []) (counts ++ c ∷ [])
counted_more s [] [] e c are is = (is, tt)
counted_more s (first ∷ epochs) (count ∷ counts) e c are is = (are.0, counted_more s epochs counts e c are.1 is)
counted_more s [] (count ∷ counts) e c are is = absurd are
counted_more s (first ∷ epochs) [] e c are is = absurd are

pub count_append : (s : Files) (xs ys : List Epoch) → epochs_count s (xs ++ ys) ≡ epochs_count s xs + epochs_count s ys
count_append s [] ys = omega arith
count_append s (x ∷ xs) ys = omega (arith, count_append s xs ys)

pub count_one : (s : Files) (xs : List Epoch) (e : Epoch) → epochs_count s (xs ++ e ∷ []) ≡ epochs_count s xs + epoch_count s e
count_one s xs e = omega (arith, count_append s xs (e ∷ []))

first_more : (s : Files) (i : ℕ) (d : Epoch) → i < length s.earlier → epochs_count s (take (i + 1) s.earlier) ≡ epochs_count s (take i s.earlier) + epoch_count s (get_or s.earlier i d)
first_more s i d lt = ap (λ (l : List Epoch). epochs_count s l) (take_more s.earlier i d lt) ∙ count_one s (take i s.earlier) (get_or s.earlier i d)

-- what is known behind the first epochs
pub record IsSoFar (s : Files) (limit i : ℕ) (c : Counts) : Type 0 where
  pub each : AreCounted s (take i s.earlier) c.epochs.items
  pub images : c.images ≡ epochs_count s (take i s.earlier)
  pub within : c.images ≤ limit

pub one_more : (s : Files) (limit i : ℕ) (d : Epoch) (old new : Counts) → i < length s.earlier → IsSoFar s limit i old → IsAdded s (get_or s.earlier i d) limit old new true → IsSoFar s limit (i + 1) new
one_more s limit i d old new lt so_far (c, is, items, images, within) = record {
  each = subst (λ (l : List Epoch). AreCounted s l new.epochs.items) (sym (take_more s.earlier i d lt))
      (subst (λ (l : List EpochCounts). AreCounted s (take i s.earlier ++ get_or s.earlier i d ∷ []) l) (sym items) (counted_more s (take i s.earlier) old.epochs.items (get_or s.earlier i d) c so_far.each is));
  images = omega (arith, images, is.images, so_far.images, first_more s i d lt);
  within = within;
}

-- the present epoch is the last
pub last_more : (s : Files) (limit i : ℕ) (old new : Counts) → length s.earlier ≤ i → IsSoFar s limit i old → IsAdded s (epoch_now s) limit old new true → AreCounts s new × (image_count s ≤ limit)
last_more s limit i old new past so_far (c, is, items, images, within) =
    let all : take i s.earlier ≡ s.earlier = take_all i s.earlier past in
    let count : new.images ≡ image_count s = omega (arith, images, is.images, so_far.images, ap (λ (l : List Epoch). epochs_count s l) all, count_one s s.earlier (epoch_now s)) in (
      record {
        each = subst (λ (l : List EpochCounts). AreCounted s (s.earlier ++ epoch_now s ∷ []) l) (sym items)
            (counted_more s s.earlier old.epochs.items (epoch_now s) c (subst (λ (l : List Epoch). AreCounted s l old.epochs.items) all so_far.each) is);
        images = count;
      },
      omega (arith, count, within),
    )

-- an epoch is one too many
pub too_many : (s : Files) (limit i : ℕ) (d : Epoch) (old new : Counts) → i < length s.earlier → IsSoFar s limit i old → IsAdded s (get_or s.earlier i d) limit old new false → limit < image_count s
too_many s limit i d old new lt so_far above =
    let whole : epochs_count s s.earlier ≡ epochs_count s (take (i + 1) s.earlier) + epochs_count s (drop (i + 1) s.earlier) =
    ap (λ (l : List Epoch). epochs_count s l) (sym (take-append-drop (i + 1) s.earlier)) ∙ count_append s (take (i + 1) s.earlier) (drop (i + 1) s.earlier) in
    omega (arith, above, so_far.images, first_more s i d lt, whole, count_one s s.earlier (epoch_now s))

pub last_too_many : (s : Files) (limit i : ℕ) (old new : Counts) → length s.earlier ≤ i → IsSoFar s limit i old → IsAdded s (epoch_now s) limit old new false → limit < image_count s
last_too_many s limit i old new past so_far above =
    omega (arith, above, so_far.images, ap (λ (l : List Epoch). epochs_count s l) (take_all i s.earlier past), count_one s s.earlier (epoch_now s))
