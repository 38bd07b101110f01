-- The files that truncations left go over one after the other.
use Rattle.std.proofs.Common.{◌≡◌, ◌≢◌, inl, inr, ℕ, ◌+◌, ◌-◌, ◌<◌, ◌≤◌, min, Bool, List, length, get_or, set, take, map, Result, Ok, Err, OnOk, refl, sym, ◌∙◌, ap, subst, arith}
use Rattle.std.proofs.Math.Nat.{eq-or-lt_of_le}
use Rattle.std.proofs.lemmas.Bool.{cases_lt}
use Rattle.std.proofs.lemmas.List.{get_or-map, get_or-set_other, get_or-set_same, length-map, length-set, map-set, take_all}
use Rattle.crashdisk.specs.Call.{DiskState}
use Rattle.crashdisk.specs.Model.{state_of}
use Rattle.crashdisk.specs.declared.model.ModelDisk.{ModelDisk}
use Rattle.rig_play.specs.Files.{IsWritten}
use Rattle.rig_play.specs.Names.{NameState, IsUncut, UncutGo, TakesBelow, LastGoes, Writes}
use Rattle.rig_play.proofs.ChangeOfLastFile.{with_files}

-- those below place k went over so, and nothing else
pub record UncutGone (P : DiskState → DiskState → Type 0) (k : ℕ) (old new : NameState) : Type 0 where
  pub count : length new.files ≡ length old.files
  pub each : (j : ℕ) (d : DiskState) → IsUncut old j → j < k → P (get_or old.files j d) (get_or new.files j d)
  pub others : (j : ℕ) (d : DiskState) → j < length old.files → (IsUncut old j → j < k → ⊥) → get_or new.files j d ≡ get_or old.files j d
  pub rest : new ≡ record old { files = new.files }

-- none yet
pub uncut_none : (P : DiskState → DiskState → Type 0) (s : NameState) → UncutGone P s.made s s
uncut_none P s = record { count = refl; each = λ j d uncut lt. absurd (omega (arith, uncut.0, lt)); others = λ j d lt no. refl; rest = refl }

-- one more
pub uncut_more : (P : DiskState → DiskState → Type 0) (old : NameState) (ys : List ModelDisk) (made below : ℕ) (maybe_none gone : Bool) (k : ℕ) (was now : ModelDisk)
    → UncutGone P k old (with_files ys made below maybe_none gone) → IsUncut old k → k < length ys → was ≡ get_or ys k was → P (state_of was) (state_of now)
    → UncutGone P (k + 1) old (with_files (set ys k now) made below maybe_none gone)
uncut_more P old ys made below maybe_none gone k was now so_far uncut lt is goes =
    let f : ModelDisk → DiskState = λ d. state_of d in
    let states = map f ys in
    let all : map f (set ys k now) ≡ set states k (f now) = map-set f ys k now in
    let long : length states ≡ length ys = length-map ys f in
    let count : length states ≡ length old.files = so_far.count in
    let elsewhere : (j : ℕ) (d : DiskState) → j ≢ k → get_or (map f (set ys k now)) j d ≡ get_or states j d =
    λ j d ne. ap (λ (l : List DiskState). get_or l j d) all ∙ get_or-set_other states k j (f now) d ne in
    let before : (d : DiskState) → state_of was ≡ get_or old.files k d =
    λ d. ap f is ∙ sym (get_or-map f ys k was d lt) ∙ so_far.others k d (omega (arith, count, long, lt)) (λ u no. absurd (omega (arith, no))) in
    let after : (d : DiskState) → get_or (map f (set ys k now)) k d ≡ state_of now =
    λ d. ap (λ (l : List DiskState). get_or l k d) all ∙ get_or-set_same states k (f now) d (omega (arith, long, lt)) in
    record {
      count = ap (λ (l : List DiskState). length l) all ∙ length-set states k (f now) ∙ count;
      each = λ j d u below_k. elim (eq-or-lt_of_le (let le : j ≤ k = omega (arith, below_k) in le)) [
        | inl e ↦ subst (λ (n : ℕ). P (get_or old.files n d) (get_or (map f (set ys k now)) n d)) (sym e)
            (subst (λ (x : DiskState). P (get_or old.files k d) x) (sym (after d)) (subst (λ (x : DiskState). P x (state_of now)) (before d) goes))
        | inr less ↦ subst (λ (x : DiskState). P (get_or old.files j d) x) (sym (elsewhere j d (let ne : j ≢ k = omega (arith, less) in ne))) (so_far.each j d u less)
      ];
      others = λ j d there no.
          let ne : j ≢ k = λ e. no (subst (λ (n : ℕ). IsUncut old n) (sym e) uncut) (omega (arith, e)) in
          elsewhere j d ne ∙ so_far.others j d there (λ u less. no u (omega (arith, less)));
      rest = ap (λ (s : NameState). let t : NameState = record s { files = map f (set ys k now) } in t) so_far.rest;
    }

-- all
pub uncut_all : (P : DiskState → DiskState → Type 0) (k : ℕ) (old new : NameState) → length old.files - 1 ≤ k → UncutGone P k old new → UncutGo P old new
uncut_all P k old new end gone = record {
  count = gone.count;
  each = λ j d uncut. gone.each j d uncut (omega (arith, uncut.1, end));
  others = λ j d there no. gone.others j d there (λ u lt. no u);
  rest = gone.rest;
}

-- nothing is written below the cuts
pub uncut_stay : (n at : ℕ) (bytes : List ℕ) (fails : Bool) (s : NameState) → n ≤ at → UncutGo (TakesBelow n at bytes fails) s s
uncut_stay n at bytes fails s le = record { count = refl; each = λ j d uncut. inr (le, refl); others = λ j d there no. refl; rest = refl }

-- no more than there are
pub take_least : (n : ℕ) (bytes : List ℕ) → take (min n (length bytes)) bytes ≡ take n bytes
take_least n bytes = elim (cases_lt n (length bytes)) [
  | inl lt ↦ ap (λ (k : ℕ). take k bytes) (let e : min n (length bytes) ≡ n = omega (arith, lt) in e)
  | inr ge ↦ ap (λ (k : ℕ). take k bytes) (let e : min n (length bytes) ≡ length bytes = omega (arith, ge) in e) ∙ take_all (length bytes) bytes (omega arith) ∙ sym (take_all n bytes (omega (arith, ge)))
]

-- and then the present file
pub writes_then : {T : Type 0} (answer : Result (Unit {0}) T) (at : ℕ) (bytes : List ℕ) (fails : Bool) (old mid new : NameState) → UncutGo (TakesBelow old.below at bytes fails) old mid
    → OnOk answer (LastGoes (IsWritten at bytes fails) mid new) → OnOk answer (Writes at bytes fails old new)
writes_then (Err e) at bytes fails old mid new uncut last = tt
writes_then (Ok x) at bytes fails old mid new uncut last = (mid, uncut, last)
