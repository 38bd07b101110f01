-- Pieces of an image, brought down one after the other.
use Rattle.std.proofs.Common.{◌≡◌, ◌≢◌, ◌⊎◌, inl, inr, ℕ, zero, suc, ◌+◌, ◌-◌, ◌*◌, ◌/◌, ◌<◌, ◌≤◌, min, Bool, true, false, List, [], ◌∷◌, ◌++◌, length, take, drop, refl, sym, ◌∙◌, ap, subst, arith}
use Rattle.std.specs.Prelude.{◌||◌}
use Rattle.std.specs.Bool.{MatchBool}
use Rattle.std.proofs.Math.Nat.{div-lt_iff_lt-mul}
use Rattle.std.proofs.lemmas.Bool.{cases_lt}
use Rattle.std.proofs.lemmas.List.{take-append-drop}
use Rattle.rig_play.specs.Plays.{Files}
use Rattle.rig_images.specs.Left.{MayLeave}
use Rattle.rig_images.specs.Torn.{bytes_in}
use Rattle.rig_images.specs.declared.image.Image.{Image}
use Rattle.rig_images.specs.declared.torn.Which.{Which}
use Rattle.rig_images.specs.declared.torn.Which.TheVariants.{Db, Wal, Journal}
use Rattle.rig_shrink.specs.Shrunk.{patched, down, GoesDown, AreAlike, IsBelow, IsTried}
use Rattle.rig_shrink.specs.internal.Trying.{piece_at, Tries, IsPassed, HasPassed}
use Rattle.rig_shrink.specs.declared.piece.Piece.{Piece}
use Rattle.rig_shrink.specs.declared.piece.Piece.TheVariants.{Sector, Length, All}

-- a piece more was tried
pub below_tried : (Says : Image → Bool → Type 0) (s : Files) (sector : ℕ) (present first old new : Image) (w : Which) (p : Piece) (b : Bool) → Tries Says s sector present w p b old new
    → IsBelow Says s sector present first old → IsBelow Says s sector present first new
below_tried Says s sector present first old new w p true tries below = record { steps = (w, p) ∷ below.steps; reached = (old, below.reached, tries.0); found = inr tries.1 }
below_tried Says s sector present first old new w p false tries below = subst (λ (x : Image). IsBelow Says s sector present first x) (sym tries.0) below

-- none of four is so
none_true : (t a b d : Bool) → (t || (a || (b || d))) ≡ false → (t ≡ false) × (a ≡ false) × (b ≡ false) × (d ≡ false)
none_true true a b d e = let no : true ≡ false = e in absurd (cc no)
none_true false true b d e = let no : true ≡ false = e in absurd (cc no)
none_true false false true d e = let no : true ≡ false = e in absurd (cc no)
none_true false false false true e = let no : true ≡ false = e in absurd (cc no)
none_true false false false false e = (refl, refl, refl, refl)

-- what holds of each of the three files
pub by_file : (P : Which → Type 0) → P Db → P Wal → P Journal → (w : Which) → P w
by_file P a b d Db = a
by_file P a b d Wal = b
by_file P a b d Journal = d

-- where nothing was brought down, the image stayed, and the piece can't be
not_taken : (Says : Image → Bool → Type 0) (s : Files) (sector : ℕ) (present old new : Image) (w : Which) (p : Piece) (b : Bool) → b ≡ false → Tries Says s sector present w p b old new
    → (new ≡ old) × IsTried Says s sector present w p new
not_taken Says s sector present old new w p b stays tries =
    let is : (new ≡ old) × IsTried Says s sector present w p old = subst (λ (x : Bool). Tries Says s sector present w p x old new) stays tries in
    (is.0, subst (λ (x : Image). IsTried Says s sector present w p x) (sym is.0) is.1)

-- the pieces of one number more were tried
pub passed_on : (Says : Image → Bool → Type 0) (s : Files) (sector : ℕ) (present : Image) (n : ℕ) (p q r : Piece) (t a b d : Bool) (old x0 x1 x2 x3 : Image) → p ≡ piece_at n → q ≡ piece_at n → r ≡ piece_at n
    → IsPassed Says s sector present n t old x0 → Tries Says s sector present Db p a x0 x1 → Tries Says s sector present Wal q b x1 x2 → Tries Says s sector present Journal r d x2 x3
    → IsPassed Says s sector present (n + 1) (t || (a || (b || d))) old x3
passed_on Says s sector present n p q r t a b d old x0 x1 x2 x3 is_p is_q is_r passed one two three = record {
  below = λ first below. below_tried Says s sector present first x2 x3 Journal r d three (below_tried Says s sector present first x1 x2 Wal q b two (below_tried Says s sector present first x0 x1 Db p a one (passed.below first below)));
  same = λ e.
      let no = none_true t a b d e in
      (not_taken Says s sector present x2 x3 Journal r d no.3 three).0 ∙ (not_taken Says s sector present x1 x2 Wal q b no.2 two).0 ∙ (not_taken Says s sector present x0 x1 Db p a no.1 one).0 ∙ passed.same no.0;
  tried = λ e w j lt.
      let no = none_true t a b d e in
      let of_db = not_taken Says s sector present x0 x1 Db p a no.1 one in
      let of_wal = not_taken Says s sector present x1 x2 Wal q b no.2 two in
      let of_journal = not_taken Says s sector present x2 x3 Journal r d no.3 three in
      let from_0 : x3 ≡ x0 = of_journal.0 ∙ of_wal.0 ∙ of_db.0 in
      let from_1 : x3 ≡ x1 = of_journal.0 ∙ of_wal.0 in
      elim (cases_lt j n) [
        | inl less ↦ subst (λ (x : Image). IsTried Says s sector present w (piece_at j) x) (sym from_0) (passed.tried no.0 w j less)
        | inr past ↦
            let last : n ≡ j = omega arith in
            by_file (λ (v : Which). IsTried Says s sector present v (piece_at j) x3)
            (subst (λ (y : Piece). IsTried Says s sector present Db y x3) (is_p ∙ ap (λ (m : ℕ). piece_at m) last) (subst (λ (x : Image). IsTried Says s sector present Db p x) (sym from_1) of_db.1))
            (subst (λ (y : Piece). IsTried Says s sector present Wal y x3) (is_q ∙ ap (λ (m : ℕ). piece_at m) last) (subst (λ (x : Image). IsTried Says s sector present Wal q x) (sym of_journal.0) of_wal.1))
            (subst (λ (y : Piece). IsTried Says s sector present Journal y x3) (is_r ∙ ap (λ (m : ℕ). piece_at m) last) of_journal.1) w
      ];
}

-- nothing was tried yet
pub passed_none : (Says : Image → Bool → Type 0) (s : Files) (sector : ℕ) (present image : Image) (n : ℕ) (t : Bool) → n ≡ 0 → IsPassed Says s sector present n t image image
passed_none Says s sector present image n t none = record { below = λ first below. below; same = λ e. refl; tried = λ e w j lt. absurd (omega arith) }

-- what is said by whether something is so
pub when_true : (b : Bool) (A B : Type 0) → b ≡ true → MatchBool b A B → A
when_true true A B e is = is
when_true false A B e is = absurd (cc e)

pub when_false : (b : Bool) (A B : Type 0) → b ≡ false → MatchBool b A B → B
when_false true A B e is = absurd (cc e)
when_false false A B e is = is

-- an image may stand for another one, or something else is found of it
pub stands : (b : Bool) (L A N : Type 0) (S : Bool → Type 0) → L → S b → MatchBool b (L × S true) (A ⊎ (N ⊎ S false))
stands true L A N S left says = (left, says)
stands false L A N S left says = inr (inr says)

-- a sector behind the end of a file
patched_none : (n : ℕ) (present old : List ℕ) → patched n n present old ≡ old
patched_none n present old =
    let none : n - n ≡ 0 = omega arith in
    ap (λ (m : ℕ). take n old ++ (take m (drop n present) ++ drop n old)) none ∙ take-append-drop n old

past_end : (a sector m n : ℕ) → n < a → (min a (min m n) ≡ min m n) × (min (a + sector) (min m n) ≡ min m n)
past_end a sector m n past = (omega arith, omega arith)

sector_behind : (sector k : ℕ) (present old : List ℕ) → 0 < sector → length old / sector < k → down (Sector k) sector present old ≡ old
sector_behind sector k present old positive behind =
    let end = min (length present) (length old) in
    let past : length old < k * sector = (div-lt_iff_lt-mul positive).0 behind in
    let at_end = past_end (k * sector) sector (length present) (length old) past in
    ap (λ (m : ℕ). patched m (min (k * sector + sector) end) present old) at_end.0 ∙ ap (λ (m : ℕ). patched end m present old) at_end.1 ∙ patched_none end present old

-- all pieces were tried where the sectors of these numbers were
pub passed_all : (Says : Image → Bool → Type 0) (s : Files) (sector : ℕ) (present old new : Image) (n : ℕ) (t : Bool) → 0 < sector → ((w : Which) → length (bytes_in w old) / sector + 3 ≤ n)
    → IsPassed Says s sector present n t old new → HasPassed Says s sector present t old new
passed_all Says s sector present old new n t positive enough passed = record { below = passed.below; least = each }
  where
    each : t ≡ false → (w : Which) (p : Piece) → IsTried Says s sector present w p new
    each e w All = passed.tried e w 0 (omega (arith, enough w))
    each e w Length = passed.tried e w 1 (omega (arith, enough w))
    each e w (Sector k) = elim (cases_lt (suc (suc k)) n) [
      | inl lt ↦ passed.tried e w (suc (suc k)) lt
      | inr past ↦
          let behind : length (bytes_in w old) / sector < k = omega (arith, enough w) in
          let stays = sector_behind sector k (bytes_in w present) (bytes_in w old) positive behind in
          subst (λ (x : Image). IsTried Says s sector present w (Sector k) x) (sym (passed.same e))
          (old, record { file = sym stays; others = λ v other. refl }, inl (λ v. refl))
    ]

-- the first image is below itself
pub below_first : (Says : Image → Bool → Type 0) (s : Files) (sector : ℕ) (present first image : Image) → AreAlike first image → IsBelow Says s sector present first image
below_first Says s sector present first image alike = record { steps = []; reached = alike; found = inl alike }

-- one file of an image is another one
pub goes_down : (sector : ℕ) (present : Image) (w : Which) (p : Piece) (old new : Image) → bytes_in w new ≡ down p sector (bytes_in w present) (bytes_in w old)
    → (w ≢ Db → bytes_in Db new ≡ bytes_in Db old) → (w ≢ Wal → bytes_in Wal new ≡ bytes_in Wal old) → (w ≢ Journal → bytes_in Journal new ≡ bytes_in Journal old)
    → GoesDown sector present w p old new
goes_down sector present w p old new file db wal journal = record {
  file = file;
  others = by_file (λ v. v ≢ w → bytes_in v new ≡ bytes_in v old) (λ other. db (λ e. other (sym e))) (λ other. wal (λ e. other (sym e))) (λ other. journal (λ e. other (sym e)));
}

-- the bytes that a piece that is brought down leaves, of the same files
pub down_same : (p : Piece) (sector : ℕ) (present old x y new : List ℕ) → x ≡ present → y ≡ old → new ≡ down p sector x y → new ≡ down p sector present old
down_same p sector present old x y new e f is = is ∙ ap (λ (l : List ℕ). down p sector l y) e ∙ ap (λ (l : List ℕ). down p sector present l) f
