-- Names that show other things in an image, one after the other.
use Rattle.std.proofs.Common.{◌≡◌, ◌≢◌, ◌<◌, ◌≤◌, inl, inr, ℕ, zero, suc, ◌+◌, List, [], ◌∷◌, ◌++◌, map, get_or, Option, None, refl, sym, ◌∙◌, subst, arith}
use Rattle.std.specs.List.{All, Contains}
use Rattle.std.proofs.lemmas.Bool.{cases_lt}
use Rattle.std.proofs.lemmas.List.{map-append}
use Rattle.std.proofs.lemmas.List.Elements.{All-append, Contains-append_left, Contains-append_right, Contains-append_cases}
use Rattle.rig_store.specs.Differing.{AreDifferences, IsDifferenceIn, Rise}
use Rattle.rig_store.specs.declared.differing.Difference.{Difference}

all_none : {X : Type 0} (P : X → Type 0) → All P []
all_none P k d below = absurd (omega arith)

all_one : {X : Type 0} (P : X → Type 0) (x : X) → P x → All P (x ∷ [])
all_one P x is zero d below = is
all_one P x is (suc k) d below = absurd (omega arith)

one_of : (n : ℕ) → Contains (n ∷ []) n
one_of n = (0, omega arith, refl)

in_one : (n k : ℕ) → Contains (n ∷ []) k → k ≡ n
in_one n k (zero, below, is) = sym is
in_one n k (suc i, below, is) = absurd (omega (arith, below))

-- one that is greater than all before it
rise_more : (least n : ℕ) (numbers : List ℕ) → Rise least numbers → ((k : ℕ) → Contains numbers k → k < n) → least ≤ n → Rise least (numbers ++ n ∷ [])
rise_more least n [] rise below room = (room, tt)
rise_more least n (m ∷ numbers) rise below room = (
  rise.0,
  rise_more (m + 1) n numbers rise.1 (λ k h. below k (Contains-append_right (m ∷ []) numbers k h))
      (omega (arith, below m (Contains-append_left (m ∷ []) numbers m (one_of m)))),
)

module _ (sector : ℕ) (image now : List (Option (List ℕ))) where
  -- no names yet
  pub differ_none : AreDifferences sector 0 image now []
  differ_none = record {
    each = all_none (IsDifferenceIn sector image now);
    told = λ k. (λ h. absurd (omega (arith, h.1)), λ h. absurd (omega (arith, h.0)));
    ordered = tt;
  }

  -- a name that shows the same
  pub differ_same : (n : ℕ) (found : List Difference) → AreDifferences sector n image now found → get_or image n None ≡ get_or now n None
      → AreDifferences sector (n + 1) image now found
  differ_same n found so_far same = record {
    each = so_far.each;
    told = λ k. (
      λ h. let is = (so_far.told k).0 h in (omega (arith, is.0), is.1),
      λ h. elim (cases_lt k n) [
        | inl less ↦ (so_far.told k).1 (less, h.1)
        | inr past ↦ let e : k ≡ n = omega (arith, h.0, past) in absurd (h.1 (subst (λ j. get_or image j None ≡ get_or now j None) (sym e) same))
      ],
    );
    ordered = so_far.ordered;
  }

  -- a name that shows another thing
  pub differ_more : (n : ℕ) (found : List Difference) (d : Difference) → AreDifferences sector n image now found → get_or image n None ≢ get_or now n None
      → d.name ≡ n → IsDifferenceIn sector image now d → AreDifferences sector (n + 1) image now (found ++ d ∷ [])
  differ_more n found d so_far differ name is =
      let names = map (λ (x : Difference). x.name) found in
      let all : map (λ (x : Difference). x.name) (found ++ d ∷ []) ≡ names ++ d.name ∷ [] = map-append (λ (x : Difference). x.name) found (d ∷ []) in
      record {
        each = All-append (IsDifferenceIn sector image now) found (d ∷ []) so_far.each (all_one (IsDifferenceIn sector image now) d is);
        told = λ k. (
          λ h. elim (Contains-append_cases names (d.name ∷ []) k (subst (λ l. Contains l k) all h)) [
            | inl a ↦ let old = (so_far.told k).0 a in (omega (arith, old.0), old.1)
            | inr b ↦
                let e : k ≡ n = in_one d.name k b ∙ name in
                (omega (arith, e), subst (λ j. get_or image j None ≢ get_or now j None) (sym e) differ)
          ],
          λ h. subst (λ l. Contains l k) (sym all) (elim (cases_lt k n) [
            | inl less ↦ Contains-append_left names (d.name ∷ []) k ((so_far.told k).1 (less, h.1))
            | inr past ↦
                let e : d.name ≡ k = omega (arith, h.0, past, name) in
                Contains-append_right names (d.name ∷ []) k (subst (λ j. Contains (d.name ∷ []) j) e (one_of d.name))
          ]),
        );
        ordered = subst (λ l. Rise 0 l) (sym all)
            (rise_more 0 d.name names so_far.ordered (λ k h. omega (arith, ((so_far.told k).0 h).0, name)) (omega arith));
      }
