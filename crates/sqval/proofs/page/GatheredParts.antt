-- Parts of bytes that stand at equal distances.
use Rattle.std.proofs.Common.{◌≡◌, ⊎_elim, ℕ, ◌+◌, ◌-◌, ◌*◌, ◌<◌, ◌≤◌, List, ◌++◌, length, get_or, take, drop, refl, sym, ◌∙◌, ap, subst, arith, length-append, length-drop}
use Rattle.std.proofs.lemmas.List.{get_or_append_left, get_or-append_right, get_or-take, get_or-drop, length-take-le, take_all}
use Rattle.std.proofs.lemmas.Slice.{put_mid-paste}
use Rattle.std.proofs.lemmas.Bool.{cases_lt}
use Rattle.std.proofs.Math.Nat.{mul-le-mul_right}
use borrow.Rule.Slice.PartMut.{put_mid}

-- Bytes that were split at m; then k of those in front, from a on, were written over.
module _ (m a k : ℕ) (xs ys : List ℕ) (long : length ys ≡ k) (fits : a + k ≤ m) (within : m ≤ length xs) where
  abbrev front : List ℕ
  front = take m xs

  front_long : length front ≡ m
  front_long = length-take-le m xs within

  before_long : length (take a front) ≡ a
  before_long = length-take-le a front (omega (arith, front_long))

  both_long : length (take a front ++ ys) ≡ a + k
  both_long = omega (arith, length-append (take a front) ys, before_long)

  rest_long : length (drop (a + k) front) ≡ m - (a + k)
  rest_long = omega (arith, length-drop (a + k) front, front_long)

  pasted : put_mid a k front ys ≡ (take a front ++ ys) ++ drop (a + k) front
  pasted = put_mid-paste a k front ys ys k refl refl (sym long) ∙ ap (λ (l : List ℕ). (take a front ++ l) ++ drop (a + k) front) (take_all k ys (omega arith))

  put_long : length (put_mid a k front ys) ≡ m
  put_long = ap length pasted ∙ length-append (take a front ++ ys) (drop (a + k) front) ∙ (let e : length (take a front ++ ys) + length (drop (a + k) front) ≡ m = omega (arith, both_long, rest_long) in e)

  abbrev now : List ℕ
  now = put_mid a k front ys ++ drop m xs

  now_front : (i : ℕ) → i < m → get_or now i 0 ≡ get_or ((take a front ++ ys) ++ drop (a + k) front) i 0
  now_front i lt = get_or_append_left (put_mid a k front ys) (drop m xs) 0 i (omega (arith, put_long)) ∙ ap (λ (l : List ℕ). get_or l i 0) pasted

  before : (i : ℕ) → i < a → get_or now i 0 ≡ get_or xs i 0
  before i lt = now_front i (omega arith) ∙ get_or_append_left (take a front ++ ys) (drop (a + k) front) 0 i (omega (arith, both_long))
      ∙ get_or_append_left (take a front) ys 0 i (omega (arith, before_long)) ∙ get_or-take a front i 0 lt ∙ get_or-take m xs i 0 (omega arith)

  inside : (i : ℕ) → i < k → get_or now (a + i) 0 ≡ get_or ys i 0
  inside i lt = now_front (a + i) (omega arith) ∙ get_or_append_left (take a front ++ ys) (drop (a + k) front) 0 (a + i) (omega (arith, both_long))
      ∙ get_or-append_right (take a front) ys a (a + i) 0 before_long (omega arith) ∙ ap (λ (n : ℕ). get_or ys n 0) (let e : a + i - a ≡ i = omega arith in e)

  behind : (i : ℕ) → a + k ≤ i → get_or now i 0 ≡ get_or xs i 0
  behind i le = ⊎_elim
      (λ lt. now_front i lt ∙ get_or-append_right (take a front ++ ys) (drop (a + k) front) (a + k) i 0 both_long le ∙ get_or-drop (a + k) front (i - (a + k)) 0
      ∙ ap (λ (n : ℕ). get_or front n 0) (let e : a + k + (i - (a + k)) ≡ i = omega arith in e) ∙ get_or-take m xs i 0 lt)
      (λ ge. get_or-append_right (put_mid a k front ys) (drop m xs) m i 0 put_long ge ∙ get_or-drop m xs (i - m) 0 ∙ ap (λ (n : ℕ). get_or xs n 0) (let e : m + (i - m) ≡ i = omega arith in e))
      (cases_lt i m)

next_place : (j k size : ℕ) → j < k → j * size + size ≤ k * size
next_place j k size lt = let more : (j + 1) * size ≤ k * size = mul-le-mul_right size (let le : j + 1 ≤ k = omega arith in le) in omega arith

-- the first k parts are where they belong, and nothing else has changed
pub record Gathered (first size gap k : ℕ) (old new : List ℕ) : Type 0 where
  pub done : (j i : ℕ) → j < k → i < size → get_or new (j * size + i) 0 ≡ get_or old (first + j * (size + gap) + i) 0
  pub rest : (i : ℕ) → k * size ≤ i → get_or new i 0 ≡ get_or old i 0

-- one part more
module _ (old xs ys fr bk : List ℕ) (first size gap k n : ℕ) (is : n ≡ size) (apart : k * size + size ≤ first + k * (size + gap)) (fits : first + k * (size + gap) + size ≤ length xs)
    (fr_is : fr ≡ take (first + k * (size + gap)) xs) (bk_is : bk ≡ drop (first + k * (size + gap)) xs) (part : ys ≡ take size bk) (so_far : Gathered first size gap k old xs) where
  abbrev m : ℕ
  m = first + k * (size + gap)

  part_is : ys ≡ take size (drop m xs)
  part_is = part ∙ ap (λ (l : List ℕ). take size l) bk_is

  long : length ys ≡ n
  long = ap length part_is ∙ length-take-le size (drop m xs) (omega (arith, length-drop m xs)) ∙ sym is

  abbrev out : List ℕ
  out = put_mid (k * size) n (take m xs) ys ++ drop m xs

  one_more : Gathered first size gap (k + 1) old out
  one_more = record {
    done = λ j i lt lt_i. ⊎_elim
        (λ below. before m (k * size) n xs ys long (omega arith) (omega arith) (j * size + i) (omega (arith, next_place j k size below)) ∙ so_far.done j i below lt_i)
        (λ above. let e : j ≡ k = omega arith in
        ap (λ (z : ℕ). get_or out (z * size + i) 0) e
        ∙ inside m (k * size) n xs ys long (omega arith) (omega arith) i (omega arith)
        ∙ ap (λ (l : List ℕ). get_or l i 0) part_is ∙ get_or-take size (drop m xs) i 0 lt_i ∙ get_or-drop m xs i 0
        ∙ so_far.rest (m + i) (omega arith)
        ∙ ap (λ (z : ℕ). get_or old (first + z * (size + gap) + i) 0) (sym e))
        (cases_lt j k);
    rest = λ i le. behind m (k * size) n xs ys long (omega arith) (omega arith) i (omega arith) ∙ so_far.rest i (omega arith);
  }

  pub gathered : Gathered first size gap (k + 1) old (put_mid (k * size) n fr ys ++ bk)
  gathered = subst (λ (l : List ℕ). Gathered first size gap (k + 1) old (put_mid (k * size) n l ys ++ bk)) (sym fr_is)
      (subst (λ (l : List ℕ). Gathered first size gap (k + 1) old (put_mid (k * size) n (take m xs) ys ++ l)) (sym bk_is) one_more)
