-- The values of sectors, and what of a file is left.
use Rattle.std.proofs.Common.{◌≡◌, ◌↔◌, inl, inr, ℕ, zero, suc, ◌+◌, ◌-◌, ◌*◌, ◌/◌, ◌<◌, ◌≤◌, min, max, Bool, true, false, cond, IsTrue, nat_lt, Option, Some, None, List, [], ◌∷◌, ◌++◌, length, get_or, map, refl, sym, ◌∙◌, ap, subst, length-append, arith}
use Rattle.std.specs.Prelude.{◌%◌, ◌&&◌, ◌⊎◌}
use Rattle.std.specs.List.{Contains}
use Rattle.std.proofs.Math.Nat.{eq-or-lt_of_le, mod-eq_of_lt, mod-lt}
use Rattle.std.proofs.Math.ListN.{get_or-append, get_or-eq_default}
use Rattle.std.proofs.Math.Seq.{get_or-append_seam}
use Rattle.std.proofs.lemmas.Bool.{lt-ltb, cases_lt}
use Rattle.std.proofs.lemmas.List.{get_or-map, get_or_default, map-append}
use Rattle.crashdisk.specs.Call.{DiskState}
use Rattle.crashdisk.specs.Choice.{Naming, last_torn, torn_here, byte_by, listed, named_len, image_of}
use Rattle.crashdisk.specs.Held.{picked}
use Rattle.crashdisk.specs.State.{Value, FileState, Shows, OneListed, IsImage}
use Rattle.crashdisk.proofs.sector.PlacesInSectors.{inside, sector_at, sector_le}
use Rattle.crashdisk.proofs.image.ImageNamedByChoice.{image_at, image_len}
use Rattle.rig_shrink.specs.internal.Values.{IsEach, IsValued, AreValued, AreValues, HasMost, AreSameFrom, IsSameIn, IsSameAsOne}

-- each sector by its number, and the length of the file at its longest
abbrev pub by_numbers : List ℕ → (greatest : ℕ) → Naming
by_numbers picks greatest = record { pick = picks; torn = []; newest = true; len = Some greatest }

torn_none : (b : Bool) (k : ℕ) → cond b (last_torn [] k) None ≡ None
torn_none true k = refl
torn_none false k = refl

picked_at : (picks : List ℕ) (k n count : ℕ) → k < length picks → get_or picks k 0 ≡ n → picked picks true k count ≡ n % count
picked_at picks k n count lt is =
    ap (λ (b : Bool). cond b (get_or picks k 0 % count) (cond true (count - 1) 0)) (lt-ltb k (length picks) lt) ∙ ap (λ (m : ℕ). m % count) is

-- a choice of the same number for each sector leaves the values of that number
pub valued_is : (f : DiskState) (n : ℕ) (picks bytes : List ℕ) → 0 < f.sector → f.db.least ≤ f.db.greatest → IsEach n (f.db.greatest / f.sector + 1) picks
    → bytes ≡ image_of f.sector f.tears f.db (by_numbers picks f.db.greatest) → IsValued f n bytes
valued_is f n picks bytes positive order each is =
    let s = f.db in
    let naming = by_numbers picks s.greatest in
    let long : named_len (Some s.greatest) s.least s.len s.greatest ≡ s.greatest = omega arith in
    record {
      long = ap (λ (l : List ℕ). length l) is ∙ image_len f.sector f.tears s naming ∙ long;
      each = λ i lt.
          let k : ℕ = i / f.sector in
          let less : k < s.greatest / f.sector + 1 = omega (arith, sector_le f.sector i s.greatest positive (omega arith)) in
          let within : k < length picks = omega (arith, each.long) in
          ap (λ (l : List ℕ). get_or l i 0) is
          ∙ image_at f.sector f.tears s naming i (omega (arith, long))
          ∙ ap (λ (torn : Option (List ℕ)). byte_by torn (i % f.sector) (listed s k (picked picks true k (suc (length (s.earlier k)))) i)) (torn_none (f.tears && nat_lt 0 (length (s.earlier k))) k)
          ∙ ap (λ (m : ℕ). listed s k m i) (picked_at picks k n (suc (length (s.earlier k))) within (each.each k less));
    }

-- the present value is the last, and each value is that or an earlier one
listed_last : (s : FileState) (k : ℕ) → listed s k (length (s.earlier k)) ≡ s.present
listed_last s k = get_or-eq_default (s.earlier k) s.present (omega arith)

listed_earlier : (s : FileState) (k m : ℕ) → m < length (s.earlier k) → Contains (s.earlier k) (listed s k m)
listed_earlier s k m lt = (m, lt, get_or_default (s.earlier k) m (listed s k m) s.present lt)

-- bytes that are those of a value in a sector show it, and those that show it are
pub shows_value : (f : DiskState) (n k : ℕ) (value bytes : List ℕ) → IsValued f n value → length bytes ≤ f.db.greatest → IsSameIn f.sector k value bytes
    → Shows f.sector k (listed f.db k (n % suc (length (f.db.earlier k)))) bytes
shows_value f n k value bytes valued long same i at lt =
    same i at lt ∙ valued.each i (omega arith) ∙ ap (λ (j : ℕ). listed f.db j (n % suc (length (f.db.earlier j))) i) at

pub same_as_value : (f : DiskState) (n k : ℕ) (v : Value) (value bytes : List ℕ) → IsValued f n value → length bytes ≤ f.db.greatest → n < suc (length (f.db.earlier k)) → listed f.db k n ≡ v → Shows f.sector k v bytes
    → IsSameIn f.sector k value bytes
same_as_value f n k v value bytes valued long small is shows i at lt =
    shows i at lt ∙ sym (
    valued.each i (omega arith)
    ∙ ap (λ (j : ℕ). listed f.db j (n % suc (length (f.db.earlier j))) i) at
    ∙ ap (λ (m : ℕ). listed f.db k m i) (mod-eq_of_lt small)
    ∙ ap (λ (w : Value). w i) is)

-- a value of a sector is listed
pub one_listed : (f : DiskState) (n k : ℕ) (value bytes : List ℕ) → IsValued f n value → length bytes ≤ f.db.greatest → IsSameIn f.sector k value bytes → OneListed f.sector f.tears f.db bytes k
one_listed f n k value bytes valued long same =
    let s = f.db in
    let m : ℕ = n % suc (length (s.earlier k)) in
    let shows = shows_value f n k value bytes valued long same in
    let below : m < suc (length (s.earlier k)) = mod-lt n (omega arith) in
    elim (cases_lt m (length (s.earlier k))) [
      | inl lt ↦ inr (inl (listed s k m, listed_earlier s k m lt, shows))
      | inr past ↦
          let last : m ≡ length (s.earlier k) = omega arith in
          inl (subst (λ (v : Value). Shows f.sector k v bytes) (ap (λ (j : ℕ). listed s k j) last ∙ listed_last s k) shows)
    ]

-- and what is listed is a value, where the sector isn't torn
pub value_of_listed : (f : DiskState) (k : ℕ) (bytes : List ℕ) → length bytes ≤ f.db.greatest → (IsTrue f.tears → 0 < length (f.db.earlier k) → ⊥) → OneListed f.sector f.tears f.db bytes k
    → (n : ℕ) × (n < suc (length (f.db.earlier k))) × ((value : List ℕ) → IsValued f n value → IsSameIn f.sector k value bytes)
value_of_listed f k bytes long whole listed_one = elim listed_one [
  | inl present ↦
      let n : ℕ = length (f.db.earlier k) in
      (n, omega arith, λ value valued. same_as_value f n k f.db.present value bytes valued long (omega arith) (listed_last f.db k) present)
  | inr other ↦ elim other [
    | inl earlier ↦
        let v = earlier.0 in
        let at = earlier.1 in
        (at.0, omega (arith, at.1), λ value valued. same_as_value f at.0 k v value bytes valued long (omega (arith, at.1)) (get_or_default (f.db.earlier k) at.0 f.db.present v at.1 ∙ at.2) earlier.2)
    | inr torn ↦ absurd (whole torn.0 torn.1)
  ]
]

-- behind the end of the bytes a sector shows anything
pub listed_behind : (f : DiskState) (k : ℕ) (bytes : List ℕ) → 0 < f.sector → length bytes / f.sector < k → OneListed f.sector f.tears f.db bytes k
listed_behind f k bytes positive behind = inl (λ i at lt. absurd (omega (arith, sector_le f.sector i (length bytes) positive (omega arith), at)))

-- one number more
pub each_more : (n count : ℕ) (picks new : List ℕ) → IsEach n count picks → new ≡ picks ++ n ∷ [] → IsEach n (count + 1) new
each_more n count picks new are is = record {
  long = ap (λ (l : List ℕ). length l) is ∙ length-append picks (n ∷ []) ∙ omega (arith, are.long);
  each = λ k lt. ap (λ (l : List ℕ). get_or l k 0) is ∙ elim (cases_lt k count) [
    | inl less ↦ get_or-append picks (n ∷ []) 0 k (omega (arith, are.long)) ∙ are.each k less
    | inr past ↦
        let last : k ≡ length picks = omega (arith, are.long) in
        ap (λ (j : ℕ). get_or (picks ++ n ∷ []) j 0) last ∙ get_or-append_seam picks n [] 0
  ];
}

-- the values of one number more
pub values_more : {X : Type 0} (items : X → List ℕ) (f : DiskState) (n : ℕ) (all new : List X) (x : X) → AreValued f n (map items all) → IsValued f n (items x) → new ≡ all ++ x ∷ [] → AreValued f (n + 1) (map items new)
values_more {X} items f n all new x are valued is =
    let old = map items all in
    let more : map items new ≡ old ++ items x ∷ [] = ap (λ (l : List X). map items l) is ∙ map-append items all (x ∷ []) in
    record {
      long = ap (λ (l : List (List ℕ)). length l) more ∙ length-append old (items x ∷ []) ∙ omega (arith, are.long);
      each = λ m lt. subst (λ (l : List (List ℕ)). IsValued f m (get_or l m [])) (sym more) (elim (cases_lt m n) [
        | inl less ↦ subst (λ (b : List ℕ). IsValued f m b) (sym (get_or-append old (items x ∷ []) [] m (omega (arith, are.long)))) (are.each m less)
        | inr past ↦
            let last : n ≡ m = omega arith in
            let seam : get_or (old ++ items x ∷ []) n [] ≡ items x = ap (λ (j : ℕ). get_or (old ++ items x ∷ []) j []) (sym are.long) ∙ get_or-append_seam old (items x) [] [] in
            subst (λ (j : ℕ). IsValued f j (get_or (old ++ items x ∷ []) j [])) last (subst (λ (b : List ℕ). IsValued f n b) (sym seam) valued)
      ]);
    }

-- the values of all numbers that a sector may have
pub values_all : (f : DiskState) (n : ℕ) (all : List (List ℕ)) → HasMost f n → AreValued f n all → AreValues f all
values_all f n all most are = record { most = subst (λ (m : ℕ). HasMost f m) (sym are.long) most; each = λ m lt. are.each m (omega (arith, are.long)) }

-- a sector is the same in two files where these are the same in its places
pub same_in_iff : (sector k start end : ℕ) (longer bytes : List ℕ) → 0 < sector → start ≡ min (k * sector) (length bytes) → end ≡ min (start + sector) (length bytes)
    → AreSameFrom start end longer bytes ↔ IsSameIn sector k longer bytes
same_in_iff sector k start end longer bytes positive from to = (
  λ same i at lt. let place = inside sector k i positive at in same i (omega (arith, place.0)) (omega (arith, place.0, place.1)),
  λ same i ge lt. same i (sector_at sector k i positive (omega arith) (omega arith)) (omega arith),
)

-- an element of mapped lists
pub item_at : {X : Type 0} (items : X → List ℕ) (all : List X) (n : ℕ) (x : X) (bytes : List ℕ) → n < length all → x ≡ get_or all n x → bytes ≡ items x → get_or (map items all) n [] ≡ bytes
item_at items all n x bytes lt at is = get_or-map items all n x [] lt ∙ ap items (sym at) ∙ sym is

-- what is so where something else is
pub iff_by : {A B C : Type 0} → A ↔ B → B ↔ C → A ↔ C
iff_by {A} {B} {C} f g = (λ a. g.0 (f.0 a), λ c. f.1 (g.1 c))

-- a sector is listed where it is that of one of its values
pub listed_iff : (f : DiskState) (k : ℕ) (all : List (List ℕ)) (bytes : List ℕ) → AreValues f all → k ≤ f.db.greatest / f.sector → length bytes ≤ f.db.greatest → (IsTrue f.tears → 0 < length (f.db.earlier k) → ⊥)
    → IsSameAsOne f.sector k all bytes ↔ OneListed f.sector f.tears f.db bytes k
listed_iff f k all bytes values within long whole = (
  λ same. one_listed f same.0 k (get_or all same.0 []) bytes (values.each same.0 same.1) long same.2,
  λ is.
      let found = value_of_listed f k bytes long whole is in
      let less : found.0 < length all = omega (arith, found.1, values.most k within) in
      (found.0, less, found.2 (get_or all found.0 []) (values.each found.0 less)),
)
