-- What stands where a magic may stand, as it is read.
use Rattle.rollcore.proofs.Words.{ArePresent, Bool, BreakSteps, Device, DiskError, DiskState, Err, FileState, HasMagic, IsSoundDisk, List, Log, Looks, PutsZero, Result, RollError, Still, Writes, [], ap, arith, byte, byte_past, cases_lt, drop, ext_get_or, get_or, get_or-drop, get_or-take, had_refusal, inl, inr, length, length-drop, length-take-le, longest, magic, part, present_byte, refl, refusal_after, still_looks, still_sound, subst, sym, take, ℕ, ⊎_elim, ◌+◌, ◌<◌, ◌∙◌, ◌∷◌, ◌≡◌, ◌≤◌}

module _ (w : List ℕ) (s : FileState) (at : ℕ) (front : List ℕ) (are : ArePresent s w) (eight : length front ≡ 8) (same : (i : ℕ) → i < length front → get_or front i 0 ≡ byte s (at + i)) where
  read_byte : (i : ℕ) → i < 8 → get_or front i 0 ≡ get_or w (at + i) 0
  read_byte i lt = same i (omega arith) ∙ sym (present_byte s w are (at + i))

  part_byte : (i : ℕ) → i < 8 → get_or (part w at 8) i 0 ≡ get_or w (at + i) 0
  part_byte i lt = get_or-take 8 (drop at w) i 0 lt ∙ get_or-drop at w i 0

  pub magic_read : HasMagic w at → front ≡ magic
  magic_read is =
      let long : length (take 8 (drop at w)) ≡ 8 = ap (λ (x : List ℕ). length x) is in
      ext_get_or 0 front (part w at 8) (eight ∙ sym long) (λ i lt. let below : i < 8 = omega arith in read_byte i below ∙ sym (part_byte i below)) ∙ is

  pub magic_there : front ≡ magic → HasMagic w at
  magic_there is =
      let last : get_or front 7 0 ≡ 215 = ap (λ (x : List ℕ). get_or x 7 0) is in
      let inside : at + 7 < s.len = ⊎_elim (λ lt. lt) (λ past. absurd (let zero : get_or front 7 0 ≡ 0 = same 7 (omega arith) ∙ byte_past s (at + 7) past in omega (arith, last, zero))) (cases_lt (at + 7) s.len) in
      let long : length (take 8 (drop at w)) ≡ 8 = length-take-le 8 (drop at w) (omega (arith, length-drop at w, are.len, inside)) in
      ext_get_or 0 (part w at 8) front (long ∙ sym eight) (λ i lt. let below : i < 8 = omega (arith, long) in part_byte i below ∙ sym (read_byte i below)) ∙ is

-- what stands there couldn't be read
pub break_unread : {T : Type 0} (at : ℕ) (a b : DiskState) → IsSoundDisk a → (end : ℕ) (called : Result T DiskError) (e : DiskError) (q : Result Bool RollError) → called ≡ Err e → Looks end called a b → end ≤ longest → q ≡ Err Device → BreakSteps at q a b
break_unread at a b sound end called e q was looked within given = subst (λ (y : Result Bool RollError). BreakSteps at y a b) (sym given) (
  refl,
  had_refusal called e end a b sound.refused was looked.within within looked.refused,
  inl (still_looks end called a b sound looked),
)

-- the zero byte is written, or not
module _ (at : ℕ) (a b c : DiskState) (sound : IsSoundDisk a) (is : Still a b) (there : (w : List ℕ) → ArePresent a.log w → HasMagic w at) where
  pub puts_zero : (called : Result (Unit {0}) DiskError) → Writes Log at (0 ∷ []) called b c → PutsZero at called a c
  puts_zero called wrote = record { mid = b; still = is; magic = there; wrote = wrote }

  pub break_failed : (called : Result (Unit {0}) DiskError) (e : DiskError) (q : Result Bool RollError) → called ≡ Err e → Writes Log at (0 ∷ []) called b c → at + 8 ≤ longest → q ≡ Err Device → BreakSteps at q a c
  break_failed called e q was wrote within given = subst (λ (y : Result Bool RollError). BreakSteps at y a c) (sym given) (
    refl,
    refusal_after a b c is.refused (had_refusal called e (at + length {A = ℕ} (0 ∷ [])) b c (still_sound a b sound is).refused was wrote.within (omega arith) wrote.elsewhere.refused),
    inr (called, puts_zero called wrote),
  )
