-- What is left of the files under a name where some of them are forgotten, and why a player wants memory for its epochs.
use Rattle.std.proofs.Common.{◌≡◌, ◌≢◌, inl, inr, ℕ, zero, suc, ◌+◌, ◌-◌, ◌<◌, ◌≤◌, min, Bool, true, false, cond, List, [], ◌∷◌, ◌++◌, length, get_or, set, take, drop, map, refl, sym, ◌∙◌, ap, arith}
use Rattle.std.specs.List.{swap}
use Rattle.std.proofs.lemmas.Bool.{cases_lt}
use Rattle.std.proofs.lemmas.Grind.{take-set_at}
use Rattle.std.proofs.lemmas.List.{take-set-le, drop_more, drop-map, length-map, length-set, length-drop}
use Rattle.std.proofs.Math.ListN.{drop_of_length-le}
use Rattle.crashdisk.specs.Call.{DiskState}
use Rattle.crashdisk.specs.Model.{state_of}
use Rattle.crashdisk.specs.declared.model.ModelDisk.{ModelDisk}
use Rattle.rig_play.specs.Names.{NameState}
use Rattle.rig_play.specs.Plays.{Files, NamesGo, OneGoes, CallDoes, all_now, holds_now, epoch_now}
use Rattle.rig_play.specs.Trace.{has_failed}
use Rattle.rig_play.specs.declared.meta.Epoch.{Epoch}
use Rattle.rig_play.specs.declared.meta.Meta.{Meta}
use Rattle.rig_play.specs.declared.meta.Meta.TheVariants.{Parts, Whole, Ordered}
use Rattle.rig_play.specs.declared.trace.Record.{Record}
use Rattle.rig_play.specs.declared.trace.Subject.{Subject}
use Rattle.rig_play.specs.declared.trace.Subject.TheVariants as subjects

map_take : {X Y : Type 0} (f : X → Y) (n : ℕ) (xs : List X) → map f (take n xs) ≡ take n (map f xs)
map_take f zero xs = refl
map_take f (suc n) [] = refl
map_take f (suc n) (x ∷ xs) = ap (λ l. f x ∷ l) (map_take f n xs)

map_append : {X Y : Type 0} (f : X → Y) (xs ys : List X) → map f (xs ++ ys) ≡ map f xs ++ map f ys
map_append f [] ys = refl
map_append f (x ∷ xs) ys = ap (λ l. f x ∷ l) (map_append f xs ys)

take_front : {X : Type 0} (xs ys : List X) (n : ℕ) → n ≡ length xs → take n (xs ++ ys) ≡ xs
take_front [] ys zero e = refl
take_front [] ys (suc n) e = absurd (omega (arith, e))
take_front (x ∷ xs) ys zero e = absurd (omega (arith, e))
take_front (x ∷ xs) ys (suc n) e = ap (λ l. x ∷ l) (take_front xs ys n (omega (arith, e)))

last_alone : {X : Type 0} (xs : List X) (l : ℕ) (d : X) → l + 1 ≡ length xs → drop l xs ≡ get_or xs l d ∷ []
last_alone xs l d end = drop_more xs l d (omega arith) ∙ ap (λ rest. get_or xs l d ∷ rest) (drop_of_length-le xs (omega arith))

-- the last is put behind the first ones
swapped : {X : Type 0} (xs : List X) (f l : ℕ) → f ≤ l → l + 1 ≡ length xs → take (f + 1) (swap xs f l) ≡ take f xs ++ drop l xs
swapped [] f l le end = absurd (omega (arith, end))
swapped (d ∷ ys) f l le end =
    let xs = d ∷ ys in
    let a = get_or xs l d in
    let b = get_or xs f d in
    let long = length-set xs f a in
    elim (cases_lt f l) [
      | inl lt ↦ take-set-le (f + 1) (set xs f a) l b (omega arith) ∙ take-set_at xs f (f + 1) a refl (omega arith) ∙ ap (λ rest. take f xs ++ rest) (sym (last_alone xs l d end))
      | inr ge ↦
          let same : f ≡ l = omega arith in
          take-set_at (set xs f a) l (f + 1) b (omega arith) (omega (arith, long))
          ∙ ap (λ front. front ++ b ∷ []) (take-set-le l xs f a (omega arith))
          ∙ ap (λ (k : ℕ). take k xs ++ get_or xs f d ∷ []) (sym same)
          ∙ ap (λ (k : ℕ). take f xs ++ get_or xs k d ∷ []) same
          ∙ ap (λ rest. take f xs ++ rest) (sym (last_alone xs l d end))
    ]

pub uncut_forgotten : (xs items : List ModelDisk) (made first last : ℕ) → last + 1 ≡ length xs → first ≡ min made last → items ≡ take (first + 1) (swap xs first last)
    → map (λ d. state_of d) items ≡ take (min made (length (map (λ d. state_of d) xs) - 1)) (map (λ d. state_of d) xs) ++ drop (length (map (λ d. state_of d) xs) - 1) (map (λ d. state_of d) xs)
uncut_forgotten xs items made first last end is left =
    let f : ModelDisk → DiskState = λ d. state_of d in
    let states = map f xs in
    let back : length states - 1 ≡ last = omega (arith, length-map xs f) in
    ap (λ (l : List ModelDisk). map f l) (left ∙ swapped xs first last (omega arith) end)
    ∙ map_append f (take first xs) (drop last xs)
    ∙ ap (λ l. l ++ map f (drop last xs)) (map_take f first xs)
    ∙ ap (λ l. take first states ++ l) (sym (drop-map f last xs))
    ∙ ap (λ (k : ℕ). take k states ++ drop last states) is
    ∙ ap (λ (k : ℕ). take (min made k) states ++ drop k states) (sym back)

pub older_forgotten : (xs turned items : List ModelDisk) (made first count : ℕ) → 0 < count → count ≡ length xs → first ≡ min made (count - 1) → turned ≡ drop first xs ++ take first xs
    → items ≡ take (count - first) turned → map (λ d. state_of d) items ≡ drop (min made (length (map (λ d. state_of d) xs) - 1)) (map (λ d. state_of d) xs)
older_forgotten xs turned items made first count some long is turns left =
    let f : ModelDisk → DiskState = λ d. state_of d in
    let states = map f xs in
    let number : first ≡ min made (length states - 1) = omega (arith, is, length-map xs f) in
    ap (λ (l : List ModelDisk). map f l) (left ∙ ap (λ l. take (count - first) l) turns ∙ take_front (drop first xs) (take first xs) (count - first) (omega (arith, length-drop first xs)))
    ∙ sym (drop-map f first xs) ∙ ap (λ (k : ℕ). drop k states) number

abbrev epoch_by : Meta → (db wal journal : NameState) → Epoch
epoch_by meta db wal journal = record { db = holds_now meta db; wal = holds_now meta wal; journal = holds_now meta journal }

by_meta : (meta : Meta) (a b c d e f : NameState) → epoch_by meta d e f ≢ epoch_by meta a b c → meta ≡ Ordered
by_meta Ordered a b c d e f differ = refl
by_meta Parts a b c d e f differ = absurd (differ refl)
by_meta Whole a b c d e f differ = absurd (differ refl)

-- what the names hold changes only where metadata goes down in order
pub in_order : (old new : Files) (before : Epoch) → new.meta ≡ old.meta → before ≡ epoch_now old → epoch_now new ≢ before → old.meta ≡ Ordered
in_order old new before same is differ =
    by_meta old.meta old.db old.wal old.journal new.db new.wal new.journal (λ e. differ (ap (λ (m : Meta). epoch_by m new.db new.wal new.journal) same ∙ e ∙ sym is))

folder_meta : (fails : Bool) (old : Files) → (cond fails old (all_now old)).meta ≡ old.meta
folder_meta true old = refl
folder_meta false old = refl

one_meta : (s : Subject) (P : NameState → NameState → Type 0) (old new : Files) → OneGoes s P old new → new.meta ≡ old.meta
one_meta subjects.Db P old new goes = ap (λ (s : Files). s.meta) goes.1
one_meta subjects.Wal P old new goes = ap (λ (s : Files). s.meta) goes.1
one_meta subjects.Journal P old new goes = ap (λ (s : Files). s.meta) goes.1
one_meta subjects.Folder P old new goes = ap (λ (s : Files). s.meta) goes.1
one_meta subjects.Marks P old new goes = ap (λ (s : Files). s.meta) goes.1
one_meta subjects.Other P old new goes = ap (λ (s : Files). s.meta) goes.1

-- a record leaves it as it was how metadata goes down
pub same_meta : (b : List ℕ) (r : Record) (old new : Files) → NamesGo b r old new → new.meta ≡ old.meta
same_meta b r old new (inl folder) = ap (λ (s : Files). s.meta) folder.1 ∙ folder_meta (has_failed r) old
same_meta b r old new (inr one) = one_meta r.subject (CallDoes r.kind old.sector old.tears old.meta b r) old new one.1
