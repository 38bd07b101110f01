-- Each three ways have one number.
use Rattle.std.proofs.Common.{◌≡◌, ℕ, suc, ◌+◌, ◌*◌, ◌/◌, ◌<◌, ◌≤◌, sym, ◌∙◌, ap, mul-suc, arith}
use Rattle.std.specs.Prelude.{◌%◌}
use Rattle.std.proofs.Math.Nat.{add-mul-mod_self_left, add-mul-div_left, mod-eq_of_lt, div-eq_of_lt, mod-add-div', mul-le-mul_left}
use Rattle.rig_images.specs.Images.{EachIsNumbered}

-- a digit below its base, and the rest below a bound
below : (a n x m : ℕ) → a < n → x < m → a + n * x < n * m
below a n x m small h = let le : suc x ≤ m = h in omega (arith, small, mul-suc n x, mul-le-mul_left n le)

-- the digit and the rest
digit_is : (a n x : ℕ) → a < n → (a + n * x) % n ≡ a
digit_is a n x h = add-mul-mod_self_left a n x ∙ mod-eq_of_lt h

rest_is : (a n x : ℕ) → a < n → (a + n * x) / n ≡ x
rest_is a n x h = let some : 0 < n = omega arith in add-mul-div_left a x some ∙ ap (λ (k : ℕ). k + x) (div-eq_of_lt h) ∙ omega arith

-- a number by its digit and the rest
number_is : (m n a x : ℕ) → m % n ≡ a → m / n ≡ x → m ≡ a + n * x
number_is m n a x e f = sym (mod-add-div' m n) ∙ ap (λ (k : ℕ). k + m / n * n) e ∙ ap (λ (k : ℕ). a + k * n) f ∙ omega arith

pub each_is_numbered : EachIsNumbered
each_is_numbered a b c db wal journal w =
    let x : ℕ = b + wal * c in
    let q : (a + db * x) / db ≡ x = rest_is a db x w.db_way in (
      a + db * x,
      below a db x (wal * journal) w.db_way (below b wal c journal w.wal_way w.journal_way),
      digit_is a db x w.db_way,
      ap (λ (k : ℕ). k % wal) q ∙ digit_is b wal c w.wal_way,
      ap (λ (k : ℕ). k / wal) q ∙ rest_is b wal c w.wal_way,
      λ m e f h. number_is m db a x e (number_is (m / db) wal b c f h),
    )
