-- Choices and ways, counted.
use Rattle.std.proofs.Common.{◌≡◌, ℕ, zero, suc, ◌+◌, ◌-◌, ◌*◌, ◌/◌, ◌<◌, ◌≤◌, Bool, true, false, cond, List, [], ◌∷◌, length, drop, get_or, refl, sym, ◌∙◌, ap, subst, mul-suc, arith}
use Rattle.std.specs.Prelude.{nat_eq, ◌||◌}
use Rattle.std.proofs.Math.Seq.{drop-cons}
use Rattle.crashdisk.specs.State.{FileState}
use Rattle.crashdisk.specs.Call.{DiskState}
use Rattle.crashdisk.specs.Count.{ways, value_count, length_count, sector_count, choice_count}
use Rattle.crashdisk.proofs.image.DigitsOfChoice.{ways_more, some_both, some_choice}
use Rattle.rig_play.specs.Names.{NameState}
use Rattle.rig_play.specs.declared.meta.Holds.{Holds}
use Rattle.rig_play.specs.declared.meta.Holds.TheVariants.{Any, Nothing, File}
use Rattle.rig_images.specs.Ways.{file_ways, files_ways, held_files, may_be_none, name_ways}

-- sectors more are no fewer ways
ways_le : (s : FileState) (k m : ℕ) → ways (value_count s) k ≤ ways (value_count s) (k + m)
ways_le s k zero = let e : k + zero ≡ k = omega arith in rw e (omega arith)
ways_le s k (suc m) =
    let e : k + suc m ≡ suc (k + m) = omega arith in
    rw e (omega (arith, ways_le s k m, mul-suc (ways (value_count s) (k + m)) (length (s.earlier (k + m)))))

some_cond : (b : Bool) (m : ℕ) → 0 < cond b 1 (2 + m)
some_cond true m = omega arith
some_cond false m = omega arith

-- a product of a part is no more than all choices
le_product : (w x l : ℕ) → w ≤ x → 0 < l → w ≤ x * l
le_product w x zero le some = absurd (omega (arith, some))
le_product w x (suc l) le some = omega (arith, le, mul-suc x l)

pub above_choices : (sector limit k : ℕ) (s : FileState) → k < sector_count sector s.greatest → limit < ways (value_count s) k * value_count s k → limit < choice_count sector s
above_choices sector limit k s less above =
    let n = sector_count sector s.greatest in
    let l = length_count sector s.least s.greatest in
    let some : 0 < l = some_cond (nat_eq s.least s.greatest) ((s.greatest - 1) / sector - s.least / sector) in
    let e : k + 1 + (n - (k + 1)) ≡ n = omega arith in
    let le : ways (value_count s) (k + 1) ≤ ways (value_count s) n = subst (λ (m : ℕ). ways (value_count s) (k + 1) ≤ ways (value_count s) m) e (ways_le s (k + 1) (n - (k + 1))) in
    omega (arith, above, ways_more (value_count s) k, le_product (ways (value_count s) (k + 1)) (ways (value_count s) n) l le some)

-- the files from one on: its choices, and those behind it
pub files_step : (files : List DiskState) (i : ℕ) (f : DiskState) → i < length files → f ≡ get_or files i f → files_ways (drop i files) ≡ file_ways f + files_ways (drop (i + 1) files)
files_step files i f h e =
    let next : suc i ≡ i + 1 = omega arith in
    ap files_ways (drop-cons files i f h) ∙ ap (λ (x : DiskState). file_ways x + files_ways (drop (suc i) files)) (sym e) ∙ ap (λ (k : ℕ). file_ways f + files_ways (drop k files)) next

-- there is a way at least
one : (b : Bool) → b ≡ true → 0 < cond b 1 0 + files_ways []
one true e = omega arith
one false e = absurd (let no : false ≡ true = e in cc)

some_files : (b : Bool) (files : List DiskState) → (nat_eq (length files) 0 ≡ true → b ≡ true) → 0 < cond b 1 0 + files_ways files
some_files b [] none = one b (none refl)
some_files b (f ∷ files) none = let some : 0 < file_ways f = some_choice f.sector f.db in omega (arith, some)

or_true : (a b : Bool) → b ≡ true → (a || b) ≡ true
or_true true b e = refl
or_true false b e = e

pub some_name : (s : NameState) (holds : Holds) → 0 < name_ways s holds
some_name s Any = some_files (may_be_none s Any) s.files (λ e. or_true s.maybe_none (nat_eq (length s.files) 0) e)
some_name s Nothing = some_files (may_be_none s Nothing) [] (λ e. e)
some_name s (File i) = some_files (may_be_none s (File i)) (held_files s (File i)) (λ e. e)

-- one factor above the limit, where the others aren't 0
pub above_logs : (limit a y : ℕ) → limit < y → 0 < a → limit < a * y
above_logs limit a y above some = omega (arith, above, le_product y y a (omega arith) some)

pub above_one : (limit a b c : ℕ) → limit < a → 0 < b → 0 < c → limit < a * (b * c)
above_one limit a b c above some_b some_c = omega (arith, above, le_product a a (b * c) (omega arith) (some_both b c some_b some_c))

pub above_two : (limit a b c : ℕ) → limit < b → 0 < a → 0 < c → limit < a * (b * c)
above_two limit a b c above some_a some_c = let more : limit < b * c = omega (arith, above, le_product b b c (omega arith) some_c) in above_logs limit a (b * c) more some_a

pub above_three : (limit a b c : ℕ) → limit < c → 0 < a → 0 < b → limit < a * (b * c)
above_three limit a b c above some_a some_b = above_logs limit a (b * c) (above_logs limit b c above some_b) some_a

pub above_ways : (n a b : ℕ) → n < a → 0 < b → n < a * b
above_ways n a b less some = omega (arith, less, le_product a a b (omega arith) some)
