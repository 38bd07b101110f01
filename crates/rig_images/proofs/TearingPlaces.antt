-- The sectors that may be torn, found.
use Rattle.std.proofs.Common.{◌≡◌, inl, inr, ◌⊎◌, ℕ, zero, suc, ◌+◌, ◌<◌, ◌≤◌, List, [], ◌∷◌, ◌++◌, length, get_or, map, refl, sym, ◌∙◌, ap, subst, Option, Some, None, MatchOption, length-append, arith}
use Rattle.std.proofs.Math.Nat.{eq-or-lt_of_le}
use Rattle.std.proofs.Math.ListN.{get_or-append}
use Rattle.std.proofs.Math.Seq.{get_or-append_seam}
use Rattle.std.proofs.lemmas.List.{get_or-map, get_or_default, length-map}
use Rattle.std.specs.List.{Contains}
use Rattle.crashdisk.specs.Call.{DiskState}
use Rattle.crashdisk.specs.Model.{state_of}
use Rattle.crashdisk.specs.declared.model.ModelDisk.{ModelDisk}
use Rattle.rig_play.specs.Plays.{Files, epoch_now, epochs_of}
use Rattle.rig_play.specs.declared.meta.Epoch.{Epoch}
use Rattle.rig_images.specs.Left.{MayBeLeft, MayLeaveIn}
use Rattle.rig_images.specs.Torn.{IsPlace, IsTornFile, MayLeaveTorn, NoneTears, name_in, holds_in}
use Rattle.rig_images.specs.declared.image.Image.{Image}
use Rattle.rig_images.specs.declared.torn.Which.TheVariants.{Db, Wal, Journal}
use Rattle.rig_images.specs.Ways.{held_files}
use Rattle.rig_images.specs.declared.torn.Which.{Which}
use Rattle.rig_images.specs.internal.Tearing.{IsTearing, NoneTearing, NoneIn}

-- what is found of two, where neither is found none is
pub found_of : {T : Type 0} (first second result : Option T) (N M K : Type 0) (P : T → Type 0) → MatchOption first N P → MatchOption second M P
    → (result ≡ None → (first ≡ None) × (second ≡ None)) → (result ≡ first) ⊎ (result ≡ second) → (N → M → K) → MatchOption result K P
found_of first second None N M K P a b none one both =
    let e = none refl in
    both (subst (λ o. MatchOption o N P) e.0 a) (subst (λ o. MatchOption o M P) e.1 b)
found_of first second (Some x) N M K P a b none one both = elim one [
  | inl e ↦ subst (λ o. MatchOption o N P) (sym e) a
  | inr e ↦ subst (λ o. MatchOption o M P) (sym e) b
]

-- one file more
pub none_more : (files : List ModelDisk) (i : ℕ) (x : ModelDisk) → x ≡ get_or files i x → NoneTearing files i → ((k : ℕ) → ¬ IsTearing (state_of x) k) → NoneTearing files (i + 1)
none_more files i x is before here j d k less within at = elim (eq-or-lt_of_le (let le : j ≤ i = omega arith in le)) [
  | inl e ↦
      let same : d ≡ x = sym at ∙ ap (λ (m : ℕ). get_or files m d) e ∙ get_or_default files i d x (omega arith) ∙ sym is in
      λ tearing. here k (subst (λ (y : ModelDisk). IsTearing (state_of y) k) same tearing)
  | inr lt ↦ before j d k lt within at
]

element : {X : Type 0} (xs : List X) (i : ℕ) → i < length xs → (x : X) × (get_or xs i x ≡ x)
element [] i less = absurd (omega arith)
element (x ∷ xs) zero less = (x, refl)
element (x ∷ xs) (suc i) less = element xs i (omega arith)

-- the files of a name by their disks
pub none_held : (files : List ModelDisk) (held : List DiskState) → map (λ d. state_of d) files ≡ held → NoneTearing files (length files) → (f : DiskState) (k : ℕ) → Contains held f → ¬ IsTearing f k
none_held files held same none f k (i, less, at) =
    let state : ModelDisk → DiskState = λ d. state_of d in
    let within : i < length files = omega (arith, length-map files state, ap (λ (l : List DiskState). length l) same) in
    let x = element files i within in
    let is : state_of x.0 ≡ f = sym (ap state x.1) ∙ sym (get_or-map state files i x.0 f within) ∙ ap (λ (l : List DiskState). get_or l i f) same ∙ at in
    λ tearing. none i x.0 k within within x.1 (subst (λ (s : DiskState). IsTearing s k) (sym is) tearing)

pub place_held : (files : List ModelDisk) (held : List DiskState) (x : ModelDisk) → map (λ d. state_of d) files ≡ held → Contains files x → Contains held (state_of x)
place_held files held x same (i, less, at) =
    let state : ModelDisk → DiskState = λ d. state_of d in
    subst (λ (l : List DiskState). Contains l (state_of x)) same (i, omega (arith, length-map files state), get_or-map state files i x (state_of x) less ∙ ap state at)

-- where no epoch has one, none is there
pub none_tears : (s : Files) (w : Which) → NoneIn s w (epoch_now s) → ((i : ℕ) (e : Epoch) → i < length s.earlier → get_or s.earlier i e ≡ e → NoneIn s w e) → NoneTears s w
none_tears s w now before e f k place = elim (eq-or-lt_of_le (let le : place.epoch.0 ≤ length s.earlier = omega (arith, place.epoch.1, length-append s.earlier (epoch_now s ∷ [])) in le)) [
  | inr lt ↦ before place.epoch.0 e lt (sym (get_or-append s.earlier (epoch_now s ∷ []) e place.epoch.0 lt) ∙ place.epoch.2) f k place.held (place.tears, place.touched)
  | inl last ↦
      let is : epoch_now s ≡ e = sym (get_or-append_seam s.earlier (epoch_now s) [] e) ∙ ap (λ (m : ℕ). get_or (epochs_of s) m e) (sym last) ∙ place.epoch.2 in
      subst (λ (x : Epoch). NoneIn s w x) is now f k place.held (place.tears, place.touched)
]

-- the epochs of a player
pub has_now : (s : Files) → Contains (epochs_of s) (epoch_now s)
has_now s = (length s.earlier, omega (arith, length-append s.earlier (epoch_now s ∷ [])), get_or-append_seam s.earlier (epoch_now s) [] (epoch_now s))

pub has_earlier : (s : Files) (i : ℕ) (e : Epoch) → i < length s.earlier → get_or s.earlier i e ≡ e → Contains (epochs_of s) e
has_earlier s i e less at = (i, omega (arith, length-append s.earlier (epoch_now s ∷ [])), get_or-append s.earlier (epoch_now s ∷ []) e i less ∙ at)

-- what is said of an option is weaker
pub option_weaker : {T : Type 0} (o : Option T) (N M : Type 0) (P Q : T → Type 0) → (N → M) → ((x : T) → P x → Q x) → MatchOption o N P → MatchOption o M Q
option_weaker None N M P Q none some is = none is
option_weaker (Some x) N M P Q none some is = some x is

-- one epoch more
pub epochs_more : (s : Files) (w : Which) (earlier : List Epoch) (i : ℕ) (here : Epoch) → i < length earlier → get_or earlier i here ≡ here
    → NoneIn s w (epoch_now s) × ((j : ℕ) (e : Epoch) → j < i → j < length earlier → get_or earlier j e ≡ e → NoneIn s w e) → NoneIn s w here
    → NoneIn s w (epoch_now s) × ((j : ℕ) (e : Epoch) → j < i + 1 → j < length earlier → get_or earlier j e ≡ e → NoneIn s w e)
epochs_more s w earlier i here less at before none = (
  before.0,
  λ j e short within is. elim (eq-or-lt_of_le (let le : j ≤ i = omega arith in le)) [
    | inl same ↦ subst (λ (x : Epoch). NoneIn s w x) (sym at ∙ get_or_default earlier i here e less ∙ ap (λ (m : ℕ). get_or earlier m e) (sym same) ∙ is) none
    | inr lt ↦ before.1 j e lt within is
  ],
)

-- a place in an epoch of a player
pub place_of : (s : Files) (w : Which) (e p : Epoch) (f : DiskState) (k : ℕ) → Contains (epochs_of s) e → (p ≡ e) × Contains (held_files (name_in w s) (holds_in w e)) f × IsTearing f k → IsPlace s w p f k
place_of s w e p f k has is = subst (λ (x : Epoch). IsPlace s w x f k) (sym is.0) (record { epoch = has; held = is.1; tears = is.2.0; touched = is.2.1 })

-- one file of what may be left is torn
pub torn_db : (s : Files) (e : Epoch) (f : DiskState) (k : ℕ) (old new : Image) → IsPlace s Db e f k → MayLeaveIn s e old → IsTornFile f new.db.items → new.wal.items ≡ old.wal.items → new.journal.items ≡ old.journal.items → MayLeaveTorn s Db new
torn_db s e f k old new place left torn wal journal = (
  e,
  f,
  k,
  place,
  record {
    db = inl (f, place.held, torn.image);
    wal = subst (λ (b : List ℕ). MayBeLeft s.wal e.wal b) (sym wal) left.wal;
    journal = subst (λ (b : List ℕ). MayBeLeft s.journal e.journal b) (sym journal) left.journal;
  },
  torn,
)

pub torn_wal : (s : Files) (e : Epoch) (f : DiskState) (k : ℕ) (old new : Image) → IsPlace s Wal e f k → MayLeaveIn s e old → IsTornFile f new.wal.items → new.db.items ≡ old.db.items → new.journal.items ≡ old.journal.items → MayLeaveTorn s Wal new
torn_wal s e f k old new place left torn db journal = (
  e,
  f,
  k,
  place,
  record {
    db = subst (λ (b : List ℕ). MayBeLeft s.db e.db b) (sym db) left.db;
    wal = inl (f, place.held, torn.image);
    journal = subst (λ (b : List ℕ). MayBeLeft s.journal e.journal b) (sym journal) left.journal;
  },
  torn,
)

pub torn_journal : (s : Files) (e : Epoch) (f : DiskState) (k : ℕ) (old new : Image) → IsPlace s Journal e f k → MayLeaveIn s e old → IsTornFile f new.journal.items → new.db.items ≡ old.db.items → new.wal.items ≡ old.wal.items → MayLeaveTorn s Journal new
torn_journal s e f k old new place left torn db wal = (
  e,
  f,
  k,
  place,
  record {
    db = subst (λ (b : List ℕ). MayBeLeft s.db e.db b) (sym db) left.db;
    wal = subst (λ (b : List ℕ). MayBeLeft s.wal e.wal b) (sym wal) left.wal;
    journal = inl (f, place.held, torn.image);
  },
  torn,
)
