-- The last of some files, and whether its length changed.
use Rattle.std.proofs.Common.{◌≡◌, ℕ, ◌+◌, ◌-◌, ◌<◌, ◌≤◌, List, length, get_or, map, refl, sym, ◌∙◌, ap, arith}
use Rattle.std.specs.Prelude.{true, false, ◌||◌, nat_lt, slice_get, Option, Some}
use Rattle.std.proofs.lemmas.Bool.Decides.{nat_tests}
use Rattle.std.proofs.lemmas.List.{length-map}
use Rattle.std.proofs.lemmas.Option.{slice_get_read, slice_get-map}
use Rattle.std.specs.Option.{option_map}
use Rattle.crashdisk.specs.Call.{DiskState}
use Rattle.crashdisk.specs.Model.{state_of}
use Rattle.crashdisk.specs.declared.model.ModelDisk.{ModelDisk}
use Rattle.rig_play.specs.Names.{has_lengths}

-- a test of a number below another, by which is less
pub below_is : (m n : ℕ) → m < n → nat_lt m n ≡ true
below_is m n lt = grind (arith, nat_tests)

pub above_is : (m n : ℕ) → n ≤ m → nat_lt m n ≡ false
above_is m n le = grind (arith, nat_tests)

-- the last file, read by its number
pub resized : (made last : ℕ) (items : List ModelDisk) (d : ModelDisk) → last + 1 ≡ length items → d ≡ get_or items last d
    → (nat_lt made last || nat_lt (state_of d).db.least (state_of d).db.greatest)
    ≡ (nat_lt made (length (map (λ x. state_of x) items) - 1) || has_lengths (slice_get (map (λ x. state_of x) items) (length (map (λ x. state_of x) items) - 1)))
resized made last items d long is =
    let f : ModelDisk → DiskState = λ x. state_of x in
    let at : length (map f items) - 1 ≡ last = omega (arith, length-map items f, long) in
    let there : slice_get items last ≡ Some d = slice_get_read items (length items) last d refl (omega (arith, long)) is in
    let mapped : slice_get (map f items) last ≡ Some (f d) = slice_get-map f items last ∙ ap (λ (o : Option ModelDisk). option_map f o) there in
    sym (ap (λ (k : ℕ). nat_lt made k || has_lengths (slice_get (map f items) k)) at ∙ ap (λ (o : Option DiskState). nat_lt made last || has_lengths o) mapped)
