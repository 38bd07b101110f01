-- Entries that are judged by themselves, and then by rowid.
use Rattle.std.proofs.Common.{◌≡◌, ◌<◌, ◌≤◌, ◌+◌, ℕ, zero, suc, Bool, true, false, cond, List, [], ◌∷◌, map, length, get_or, slice_get, Some, ℤ, ◌<ℤ◌, ◌≤ℤ◌, ap₂, refl, sym, ap, ◌∙◌, subst, arith, All, count_by, IsPermutation}
use Rattle.std.specs.declared.cmp.Ordering.{Ordering}
use Rattle.std.specs.declared.cmp.Ordering.TheVariants.{Less, Equal, Greater}
use Rattle.std.specs.Ordering.{is_lt, int_cmp}
use Rattle.std.proofs.lemmas.Cmp.{int_ranked}
use Rattle.std.proofs.lemmas.Int.{ints}
use Rattle.std.proofs.lemmas.List.Sums.{sum_by-cons}
use Rattle.std.proofs.lemmas.List.Sorted.{Contains-permutation, IsPermutation-map, IsPermutation-sym, All-permutation, sum_by-IsPermutation}
use Rattle.std.proofs.lemmas.Option.{get_or_from_slice_get}
use Rattle.sqkeys.specs.declared.key.IndexKey.{IndexKey}
use Rattle.sqindex.specs.declared.entries.Held.{Held}
use Rattle.sqindex.specs.declared.entries.Entries.{Entries}
use Rattle.sqindex.specs.declared.fault.IndexFault.TheVariants as faults
use Rattle.sqindex.specs.Stored.{Stored}
use Rattle.sqindex.specs.Keys.{values_of, has_rowid, IsKeyed}
use Rattle.sqindex.specs.Rules.{width}
use Rattle.sqindex.specs.Indexes.{EntryRefused}
use Rattle.sqindex.specs.internal.Held.{held_in, entry_in, held_by}
use Rattle.sqindex.specs.internal.Judging.{IsTie, IsNumbered}
use Rattle.sqindex.proofs.Places.{some_once, of_all, map_get, contained, place_of}
use Rattle.sqindex.proofs.RowidsOfEntries.{has_own}

-- what is said of entries when they are sorted
pub sorted_same : (key : IndexKey) (old new : Entries) → new.bytes ≡ old.bytes → IsPermutation old.list.items new.list.items → All (IsNumbered key old) old.list.items
    → All (IsNumbered key new) new.list.items × IsPermutation (held_by new) (held_by old)
sorted_same key old new bytes moved each =
    let b : new.bytes.items ≡ old.bytes.items = ap (λ z. z.items) bytes in
    let f = held_in old.bytes.items in (
      subst (λ (z : List ℕ). All (λ (p : Held). IsKeyed (width key) p.rowid (values_of (held_in z p))) new.list.items) (sym b) (All-permutation (IsNumbered key old) old.list.items new.list.items moved each),
      subst (λ (z : List ℕ). IsPermutation (map (held_in z) new.list.items) (held_by old)) (sym b)
          (IsPermutation-sym (map f old.list.items) (map f new.list.items) (IsPermutation-map f old.list.items new.list.items moved)),
    )

-- two elements next to each other pass a test
two_pass : {X : Type 0} (test : X → Bool) (xs : List X) (i : ℕ) (a b : X) → slice_get xs i ≡ Some a → slice_get xs (i + 1) ≡ Some b → test a ≡ true → test b ≡ true → 2 ≤ count_by test xs
two_pass test [] i a b p q f g = absurd (cc)
two_pass test (x ∷ []) zero a b p q f g = absurd (cc)
two_pass test (x ∷ y ∷ xs) zero a b p q f g =
    let first : test x ≡ true = ap test (some_once x a p) ∙ f in
    let second : test y ≡ true = ap test (some_once y b q) ∙ g in
    let all : count_by test (x ∷ y ∷ xs) ≡ cond (test x) 1 0 + count_by test (y ∷ xs) = sum_by-cons (λ z. cond (test z) 1 0) x (y ∷ xs) in
    let more : count_by test (y ∷ xs) ≡ cond (test y) 1 0 + count_by test xs = sum_by-cons (λ z. cond (test z) 1 0) y xs in
    let count : Bool → ℕ = λ b. cond b 1 0 in
    let one : count (test x) ≡ count true = ap count first in
    let two : count (test y) ≡ count true = ap count second in
    omega (arith, all, more, one, two)
two_pass test (x ∷ xs) (suc i) a b p q f g =
    let e : suc i + 1 ≡ suc (i + 1) = omega arith in
    let rest = two_pass test xs i a b p (subst (λ n. slice_get (x ∷ xs) n ≡ Some b) e q) f g in
    let all : count_by test (x ∷ xs) ≡ cond (test x) 1 0 + count_by test xs = sum_by-cons (λ z. cond (test z) 1 0) x xs in
    omega (arith, all, rest)

-- an entry whose rowid is that of another
pub tied : (key : IndexKey) (xs : List Stored) (entries : Entries) (i : ℕ) (p q : Held) → All (IsNumbered key entries) entries.list.items → IsPermutation (held_by entries) xs
    → slice_get entries.list.items i ≡ Some p → slice_get entries.list.items (i + 1) ≡ Some q → p.rowid ≡ q.rowid
    → (k : ℕ) × (slice_get xs k ≡ Some (entry_in entries q)) × EntryRefused key xs k (entry_in entries q) faults.RowTwice
tied key xs entries i p q each same at next tie =
    let ps = entries.list.items in
    let f = held_in entries.bytes.items in
    let first = of_all (IsNumbered key entries) ps i p each at in
    let second = of_all (IsNumbered key entries) ps (i + 1) q each next in
    let test : Stored → Bool = λ e. has_rowid (width key) q.rowid (values_of e) in
    let ys = map f ps in
    let here = map_get f ps (i + 1) q next in
    let two : 2 ≤ count_by test ys = two_pass test ys i (entry_in entries p) (entry_in entries q) (map_get f ps i p at) here
    (has_own (width key) p.rowid q.rowid (values_of (entry_in entries p)) first tie) (has_own (width key) q.rowid q.rowid (values_of (entry_in entries q)) second refl) in
    let there = place_of xs (entry_in entries q) (Contains-permutation ys xs (entry_in entries q) same (contained ys (i + 1) (entry_in entries q) here)) in
    (there.0, there.1, (q.rowid, second, subst (λ n. 2 ≤ n) (sym (sum_by-IsPermutation (λ e. cond (test e) 1 0) ys xs same)) two))

-- where rowids don't fall, one that isn't below the next is the same
pub tie_of : (ps : List Held) (i : ℕ) (a b : ℤ) → i + 1 < length ps → ((p : Held) → slice_get ps i ≡ Some p → a ≡ p.rowid) → ((p : Held) → slice_get ps (i + 1) ≡ Some p → b ≡ p.rowid)
    → b ≤ℤ a → IsTie ps i
tie_of ps i a b within first second below = (
  within,
  λ sorted p q at next.
      let one : a ≡ p.rowid = first p at in
      let two : b ≡ q.rowid = second q next in
      let up : is_lt (int_cmp (get_or ps (i + 1) p).rowid (get_or ps i p).rowid) ≡ false = sorted i p (omega arith) within in
      let up' : is_lt (int_cmp q.rowid p.rowid) ≡ false = ap₂ (λ (x y : Held). is_lt (int_cmp x.rowid y.rowid)) (sym (get_or_from_slice_get ps (i + 1) q p next)) (sym (get_or_from_slice_get ps i p p at)) ∙ up in
      let high = not_less q.rowid p.rowid up' in
      omega (arith, ints, one, two, below, high),
)
  where
    not_less : (x y : ℤ) → is_lt (int_cmp x y) ≡ false → y ≤ℤ x
    not_less x y h = go (int_cmp x y) refl h
      where
        go : (r : Ordering) → r ≡ int_cmp x y → is_lt r ≡ false → y ≤ℤ x
        go Less is h = absurd (cc)
        go Equal is h = let e : x ≡ y = int_ranked x y Equal is in omega (arith, ints, e)
        go Greater is h = let e : y <ℤ x = int_ranked x y Greater is in omega (arith, ints, e)
