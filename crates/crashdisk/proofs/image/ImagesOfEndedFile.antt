-- The images of a file that was ended.
use Rattle.crashdisk.proofs.Below.{Bool, EndsEachImage, FileState, IsEnded, IsImage, IsSound, List, OneListed, Value, ap, arith, cases_lt, cond, ended, false, get_or, get_or-table, get_or-take, get_or_default, get_or_past, inl, inr, le-ltb, length, length-table, length-take, lt-ltb, max, min, nat_lt, refl, same_number_lists, subst, sym, table, take, true, ℕ, ◌*◌, ◌/◌, ◌<◌, ◌∙◌, ◌≡◌, ◌≤◌}

module _ (sector n : ℕ) (tears : Bool) (old new : FileState) (c : List ℕ) (sound : IsSound sector old) (is : IsEnded sector n old new) (image : IsImage sector tears new c) where
  -- the value of the file before it that a sector took
  chosen : (k : ℕ) → OneListed sector tears new c k → Value
  chosen k (inl shows) = old.present
  chosen k (inr (inl (v, has, shows))) = get_or (old.earlier k) has.0 v
  chosen k (inr (inr torn)) = λ i. 0

  long : ℕ
  long = cond (nat_lt (length c) n) (length c) (max (length c) old.least)

  value : Value
  value i = cond (nat_lt i (length c)) (get_or c i 0) (chosen (i / sector) (image.each (i / sector)) i)

  whole : List ℕ
  whole = table long value

  within : length c ≤ n
  within = omega (arith, image.greatest, is.greatest)

  lengths : (length c ≤ long) × (old.least ≤ long) × (long ≤ old.greatest) × (min n long ≡ length c)
  unfolding long
  lengths = elim (cases_lt (length c) n) [
    | inl lt ↦
        let e : cond (nat_lt (length c) n) (length c) (max (length c) old.least) ≡ length c = ap (λ (b : Bool). cond b (length c) (max (length c) old.least)) (lt-ltb (length c) n lt) in
        (omega (arith, e), omega (arith, e, image.least, is.least), omega (arith, e, image.greatest, is.greatest), omega (arith, e))
    | inr ge ↦
        let e : cond (nat_lt (length c) n) (length c) (max (length c) old.least) ≡ max (length c) old.least = ap (λ (b : Bool). cond b (length c) (max (length c) old.least)) (le-ltb (length c) n ge) in
        (omega (arith, e), omega (arith, e), omega (arith, e, image.greatest, is.greatest, sound.least, sound.greatest), omega (arith, e, within))
  ]

  value_front : (i : ℕ) → i < length c → value i ≡ get_or c i 0
  unfolding value
  value_front i lt = ap (λ (b : Bool). cond b (get_or c i 0) (chosen (i / sector) (image.each (i / sector)) i)) (lt-ltb i (length c) lt)

  value_back : (i k : ℕ) → i / sector ≡ k → length c ≤ i → value i ≡ chosen k (image.each k) i
  unfolding value
  value_back i k at le =
      ap (λ (b : Bool). cond b (get_or c i 0) (chosen (i / sector) (image.each (i / sector)) i)) (le-ltb i (length c) le) ∙ ap (λ (j : ℕ). chosen j (image.each j) i) at

  byte_is : (i : ℕ) → i < length whole → get_or whole i 0 ≡ value i
  unfolding whole
  byte_is i lt = get_or-table long value i (omega (arith, lt, length-table long value))

  front : (v w : Value) (i : ℕ) → (v i ≡ ended n w i) → i < length c → v i ≡ w i
  front v w i e lt = e ∙ ap (λ (b : Bool). cond b (w i) 0) (lt-ltb i n (omega (arith, within)))

  some_below : (b : Bool) (most count j : ℕ) → count ≡ cond b most 0 → j < count → j < most
  some_below true most count j e lt = omega (arith, e, lt)
  some_below false most count j e lt = absurd (omega (arith, e, lt))

  listed : (k : ℕ) (one : OneListed sector tears new c k) → image.each k ≡ one → OneListed sector tears old whole k
  unfolding chosen
  listed k (inl shows) e = inl (λ i at lt. byte_is i lt ∙ elim (cases_lt i (length c)) [
    | inl less ↦ value_front i less ∙ shows i at less ∙ front new.present old.present i (is.present i) less
    | inr past ↦ value_back i k at past ∙ ap (λ (o : OneListed sector tears new c k). chosen k o i) e
  ])
  listed k (inr (inl (v, has, shows))) e =
      let there : has.0 < length (old.earlier k) = some_below (nat_lt (k * sector) n) (length (old.earlier k)) (length (new.earlier k)) has.0 (is.count k) has.1 in
      let w : Value = get_or (old.earlier k) has.0 v in
      inr (inl (
        w,
        (has.0, there, get_or_default (old.earlier k) has.0 w v there),
        λ i at lt. byte_is i lt ∙ elim (cases_lt i (length c)) [
          | inl less ↦ value_front i less ∙ shows i at less ∙ front v w i (ap (λ (u : Value). u i) (sym has.2) ∙ is.each k has.0 v has.1 i at) less
          | inr past ↦ value_back i k at past ∙ ap (λ (o : OneListed sector tears new c k). chosen k o i) e
        ],
      ))
  listed k (inr (inr torn)) e = inr (inr (
    torn.0,
    some_below (nat_lt (k * sector) n) (length (old.earlier k)) (length (new.earlier k)) 0 (is.count k) torn.1,
    λ i at. elim (cases_lt i (length whole)) [
      | inl lt ↦ elim (cases_lt i (length c)) [
        | inl less ↦ subst (λ (b : ℕ). b < 256) (sym (byte_is i lt ∙ value_front i less)) (torn.2 i at)
        | inr past ↦ subst (λ (b : ℕ). b < 256) (sym (byte_is i lt ∙ value_back i k at past ∙ ap (λ (o : OneListed sector tears new c k). chosen k o i) e)) (omega arith)
      ]
      | inr past ↦ subst (λ (b : ℕ). b < 256) (sym (get_or_past whole i 0 past)) (omega arith)
    ],
  ))

  pub image_ended : (whole : List ℕ) × IsImage sector tears old whole × (c ≡ take n whole)
  unfolding whole
  image_ended =
      let is_long : length (table long value) ≡ long = length-table long value in
      let same : length c ≡ length (take n (table long value)) = omega (arith, is_long, lengths.3, length-take n (table long value)) in (
        table long value,
        record { least = omega (arith, is_long, lengths.1); greatest = omega (arith, is_long, lengths.2); each = λ k. listed k (image.each k) refl },
        same_number_lists c (take n (table long value)) same (λ i lt. sym (get_or-take n (table long value) i 0 (omega (arith, within)) ∙ byte_is i (omega (arith, is_long, lengths.0)) ∙ value_front i lt)),
      )

pub ends_each_image : EndsEachImage
ends_each_image sector n tears old new c sound is image = image_ended sector n tears old new c sound is image
