-- Faults in another order are the same faults.
use Rattle.std.proofs.Common.{◌≡◌, ◌<◌, ◌⊎◌, ℕ, zero, suc, Bool, true, List, [], ◌∷◌, length, get_or, sym, inl, inr, arith}
use Rattle.std.specs.List.{Contains}
use Rattle.std.specs.List.Sorted.{IsPermutation}
use Rattle.std.proofs.lemmas.List.Sorted.{Contains-permutation, IsPermutation-sym, length_permutation}
use Rattle.sqval.specs.Database.{Database}
use Rattle.sqpage.specs.Lists.{In, Every}
use Rattle.sqpage.proofs.chain.ListsByRecursion.{every_in, every_from_in}
use Rattle.sqpage.specs.declared.fault.CheckError.{CheckError}
use Rattle.sqpage.specs.declared.fault.Fault.TheVariants as faults
use Rattle.sqcheck.specs.declared.role.Role.{Role}
use Rattle.sqcheck.specs.Found.{IsFaultOf, IsWrongAt}
use Rattle.sqcheck.specs.Places.{Spot}
use Rattle.sqcheck.specs.Stands.{is_of_header}
use Rattle.sqcheck.specs.Surveys.{Names, IsLookedAt, IsLookedThrough, IsNamedFault, HasJudgedRole, AreFoundFaults}

contained : (xs : List CheckError) (x : CheckError) → In x xs → Contains xs x
contained [] x i = absurd i
contained (y ∷ xs) x (inl e) = (0, (let lt : 0 < suc (length xs) = omega arith in lt), sym e)
contained (y ∷ xs) x (inr i) = let c = contained xs x i in (suc c.0, (let lt : suc c.0 < suc (length xs) = omega (arith, c.1) in lt), c.2)

found_in : (xs : List CheckError) (x : CheckError) (k : ℕ) → k < length xs → get_or xs k x ≡ x → In x xs
found_in [] x k lt e = absurd (omega (arith, lt))
found_in (y ∷ xs) x zero lt e = inl (sym e)
found_in (y ∷ xs) x (suc k) lt e = inr (found_in xs x k (let less : k < length xs = omega (arith, lt) in less) e)

in_again : (xs ys : List CheckError) (x : CheckError) → IsPermutation xs ys → In x xs → In x ys
in_again xs ys x p i = let c = Contains-permutation xs ys x p (contained xs x i) in found_in ys x c.0 c.1 c.2

names_again : (Is : CheckError → Type 0) (xs ys : List CheckError) → IsPermutation xs ys → Names xs Is → Names ys Is
names_again Is xs ys p (inl full) = inl (omega (arith, full, length_permutation xs ys p))
names_again Is xs ys p (inr (e, i, is)) = inr (e, in_again xs ys e p i, is)

every_again : (P : CheckError → Type 0) (xs ys : List CheckError) → IsPermutation xs ys → Every P xs → Every P ys
every_again P xs ys p h = every_from_in P ys (λ y i. every_in P y xs h (in_again ys xs y (IsPermutation-sym xs ys p) i))

looked_again : (d : Database) (roles : List Role) (xs ys : List CheckError) → IsPermutation xs ys → (s : Spot) → IsLookedAt d roles xs s → IsLookedAt d roles ys s
looked_again d roles xs ys p s (inl has) = inl has
looked_again d roles xs ys p s (inr named) = inr (names_again (IsFaultOf d s) xs ys p named)

through_again : (d : Database) (roles : List Role) (xs ys : List CheckError) → IsPermutation xs ys → (s : Spot) → IsLookedThrough d roles xs s → IsLookedThrough d roles ys s
through_again d roles xs ys p s h = record {
  whole = h.whole;
  pages = λ t stands. looked_again d roles xs ys p t (h.pages t stands);
  roots = λ t stands short. elim (h.roots t stands short) [ inl looked ↦ inl (looked_again d roles xs ys p t looked) | inr many ↦ inr many ];
}

pub faults_again : (maps : Bool) (d : Database) (size : ℕ) (roles : List Role) (xs ys : List CheckError) → IsPermutation xs ys → AreFoundFaults maps d size roles xs → AreFoundFaults maps d size roles ys
faults_again maps d size roles xs ys p f = record {
  only = every_again (IsNamedFault maps d size roles) xs ys p f.only;
  header = λ none. names_again (λ e. (e.page ≡ 1) × ((is_of_header e.fault ≡ true) ⊎ (e.fault ≡ faults.PointerMap))) xs ys p (f.header none);
  starts = λ s first. looked_again d roles xs ys p s (f.starts s first);
  judged = λ q is. elim (f.judged q is) [
    | inl none ↦ inl none
    | inr more ↦ elim more [ inl j ↦ inr (inl (judged q _ j)) | inr aside ↦ inr (inr aside) ]
  ];
  unused = λ q is none. names_again (λ e. (e.page ≡ q) × (e.fault ≡ faults.PageUnused)) xs ys p (f.unused q is none);
  free = λ none. names_again (λ e. (e.page ≡ 1) × (e.fault ≡ faults.FreeCount)) xs ys p (f.free none);
  largest = λ none. names_again (λ e. (e.page ≡ 1) × (e.fault ≡ faults.PointerMap)) xs ys p (f.largest none);
}
  where
    judged : (q : ℕ) (role : Role) → HasJudgedRole d roles xs q role → HasJudgedRole d roles ys q role
    judged q role h = (h.0, h.1, h.2, h.3, elim h.4 [ inl through ↦ inl (through_again d roles xs ys p h.0 through) | inr named ↦ inr (names_again (IsWrongAt d h.0) xs ys p named) ])
