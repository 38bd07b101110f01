-- Files with a torn sector that a crash may leave under a name.
use Rattle.std.proofs.Common.{◌≡◌, inl, inr, true, false, ℕ, zero, suc, ◌+◌, ◌<◌, List, [], ◌∷◌, length, get_or, set, take, Option, Some, None, refl, sym, ◌∙◌, ap, subst, arith}
use Rattle.std.specs.Prelude.{is_some, slice_get, option_map, MatchOption}
use Rattle.std.proofs.lemmas.Bool.{cases_lt}
use Rattle.std.proofs.lemmas.List.{get_or-set_same}
use Rattle.std.proofs.lemmas.Option.{slice_get_past, slice_get_within}
use Rattle.rig_play.specs.Plays.{Files}
use Rattle.rig_images.specs.Torn.{NoneTears, MayLeaveTorn as TornOf}
use Rattle.rig_images.specs.declared.image.Image.{Image}
use Rattle.rig_images.specs.declared.torn.Which.TheVariants.{Db}
use Rattle.rig_store.specs.Left.{AreLeft, EachHas, IsLeft}
use Rattle.rig_store.specs.Names.{holder, is_ordered}
use Rattle.rig_store.specs.Stores.{StoreState}
use Rattle.rig_store.specs.Torn.{IsLeftTorn, MayLeaveTorn, NoNameTears}
use Rattle.rig_store.specs.internal.Showing.{AreShown, StandBy}
use Rattle.rig_store.specs.internal.Tearing.{IsTorn, NoneTearsAt, NoneTearsAmong, NoneTearsBetween}
use Rattle.rig_store.specs.declared.torn.Torn.{Torn}
use Rattle.rig_store.proofs.NamesShown.{left_image}

-- a name without a file has none that tears, nor has one with a file of which no sector may tear
pub none_held : (s : StoreState) (k n : ℕ) → holder (take n s.log) k ≡ None → NoneTearsAt s k n
none_held s k n none i f holds there =
    let bad : None ≡ Some i = sym none ∙ holds.holds in
    cc

pub none_tears : (s : StoreState) (k n i : ℕ) → holder (take n s.log) k ≡ Some i → ((f : Files) → slice_get s.files i ≡ Some f → NoneTears f Db) → NoneTearsAt s k n
none_tears s k n i is none j f holds there =
    let e : Some i ≡ Some j = sym is ∙ holds.holds in
    let same : i ≡ j = cc in
    none f (ap (λ (m : ℕ). slice_get s.files m) same ∙ there)

-- bytes of a file that is torn
pub left_torn : (f : Files) (image : Image) → TornOf f Db image → IsLeftTorn f image.db.items
left_torn f image t = (t.0, t.1, t.2, t.3, t.4.db, t.5)

-- as many files have bytes as there are
pub has_length : (Has : Files → List ℕ → Type 0) (files : List Files) (contents : List (List ℕ)) → EachHas Has files contents → length contents ≡ length files
has_length Has [] [] all = refl
has_length Has (f ∷ files) (bytes ∷ contents) all = ap suc (has_length Has files contents all.1)
has_length Has [] (bytes ∷ contents) all = absurd all
has_length Has (f ∷ files) [] all = absurd all

-- one has others
has_set : (Has : Files → List ℕ → Type 0) (files : List Files) (contents : List (List ℕ)) (i : ℕ) (f : Files) (bytes : List ℕ) → EachHas Has files contents
    → slice_get files i ≡ Some f → Has f bytes → EachHas Has files (set contents i bytes)
has_set Has [] contents i f bytes all there has =
    let bad : None ≡ Some f = sym (slice_get_past [] i (omega arith)) ∙ there in
    cc
has_set Has (g ∷ files) [] i f bytes all there has = absurd all
has_set Has (g ∷ files) (c ∷ contents) zero f bytes all there has =
    let same : g ≡ f = cc in
    (subst (λ (x : Files). Has x bytes) (sym same) has, all.1)
has_set Has (g ∷ files) (c ∷ contents) (suc i) f bytes all there has = (all.0, has_set Has files contents i f bytes all.1 there has)

is_left : (f : Files) (bytes : List ℕ) → IsLeftTorn f bytes → IsLeft f bytes
is_left f bytes torn = (torn.0, torn.3.epoch, torn.4)

-- an image in which a name shows a file with a torn sector
pub torn_image : (s : StoreState) (t : Torn) (contents : List (List ℕ)) (stands : List ℕ) (image : List (Option (List ℕ))) → IsTorn s t → AreLeft s.files contents
    → StandBy (is_ordered s.meta) s stands → get_or stands t.name 0 ≡ t.stand → AreShown s (set contents t.file t.bytes.items) stands s.names image → MayLeaveTorn s image
torn_image s t contents stands image is left by own shown =
    let bytes = t.bytes.items in
    let all = set contents t.file bytes in
    let within : t.file < length contents = omega (arith, has_length IsLeft s.files contents left, slice_get_within s.files t.file is.state is.there) in
    record {
      left = left_image s all stands image (has_set IsLeft s.files contents t.file is.state bytes left is.there (is_left is.state bytes is.torn)) by shown;
      name = t.name;
      stand = t.stand;
      file = t.file;
      holds = is.holds;
      state = is.state;
      there = is.there;
      bytes = bytes;
      torn = is.torn;
      shown = shown.each t.name is.holds.name
          ∙ ap (λ (n : ℕ). option_map (λ i. get_or all i []) (holder (take n s.log) t.name)) own
          ∙ ap (λ (o : Option ℕ). option_map (λ i. get_or all i []) o) is.holds.holds
          ∙ ap (λ (b : List ℕ). Some b) (get_or-set_same contents t.file bytes [] within);
    }

-- what is found is so whatever holds where nothing is; and what holds where nothing is
pub found_some : {X : Type 0} (o : Option X) (P Q : Type 0) (R : X → Type 0) → is_some o ≡ true → MatchOption o P R → MatchOption o Q R
found_some None P Q R some found = absurd (cc some)
found_some (Some x) P Q R some found = found

pub found_none : {X : Type 0} (o : Option X) (P : Type 0) (R : X → Type 0) → is_some o ≡ false → MatchOption o P R → P
found_none None P R none found = found
found_none (Some x) P R none found = absurd (cc none)

pub found_at_none : {X : Type 0} (o : Option X) (P : Type 0) (R : X → Type 0) → o ≡ None → MatchOption o P R → P
found_at_none None P R none found = found
found_at_none (Some x) P R none found = absurd (cc none)

pub found_weaker : {X : Type 0} (o : Option X) (P Q : Type 0) (R S : X → Type 0) → (P → Q) → ((x : X) → R x → S x) → MatchOption o P R → MatchOption o Q S
found_weaker None P Q R S less more found = less found
found_weaker (Some x) P Q R S less more found = more x found

-- of one more number of changes no file tears, and of one more name
pub between_more : (s : StoreState) (k from n : ℕ) → NoneTearsBetween s k from n → NoneTearsAt s k n → NoneTearsBetween s k from (n + 1)
between_more s k from n before here m above below = elim (cases_lt m n) [
  | inl less ↦ before m above less
  | inr least ↦
      let same : n ≡ m = omega (arith, least, below) in
      subst (λ (j : ℕ). NoneTearsAt s k j) same here
]

pub among_more : (s : StoreState) (from k : ℕ) → NoneTearsAmong s from k → ((n : ℕ) → NoneTearsAt s k n) → NoneTearsAmong s from (k + 1)
among_more s from k before here j n above below = elim (cases_lt j k) [
  | inl less ↦ before j n above less
  | inr least ↦
      let same : k ≡ j = omega (arith, least, below) in
      subst (λ (m : ℕ). NoneTearsAt s m n) same (here n)
]

-- of a name none behind any, and of none any
pub both_none : (s : StoreState) (k at : ℕ) → NoneTearsBetween s k at (length s.log + 1) → NoneTearsBetween s k s.durable at → (n : ℕ) → NoneTearsAt s k n
both_none s k at behind front n i f holds there = elim (cases_lt n at) [
  | inl less ↦ front n holds.stands.0 less i f holds there
  | inr least ↦ behind n least (omega (arith, holds.stands.1)) i f holds there
]

pub all_none : (s : StoreState) (at : ℕ) → NoneTearsAmong s at s.names → NoneTearsAmong s 0 at → NoneTearsAmong s 0 s.names
all_none s at behind front k n above below = elim (cases_lt k at) [
  | inl less ↦ front k n above less
  | inr least ↦ behind k n least below
]

-- what is found of a name, or of any, in two parts
pub found_between : (s : StoreState) (k at : ℕ) (o : Option Torn) → NoneTearsBetween s k at (length s.log + 1) → MatchOption o (NoneTearsBetween s k s.durable at) (IsTorn s)
    → MatchOption o ((n : ℕ) → NoneTearsAt s k n) (IsTorn s)
found_between s k at o behind found = found_weaker o (NoneTearsBetween s k s.durable at) ((n : ℕ) → NoneTearsAt s k n) (IsTorn s) (IsTorn s) (λ front. both_none s k at behind front) (λ t torn. torn) found

pub found_among : (s : StoreState) (at : ℕ) (o : Option Torn) → NoneTearsAmong s at s.names → MatchOption o (NoneTearsAmong s 0 at) (IsTorn s) → MatchOption o (NoneTearsAmong s 0 s.names) (IsTorn s)
found_among s at o behind found = found_weaker o (NoneTearsAmong s 0 at) (NoneTearsAmong s 0 s.names) (IsTorn s) (IsTorn s) (λ front. all_none s at behind front) (λ t torn. torn) found

pub no_name : (s : StoreState) → NoneTearsAmong s 0 s.names → NoNameTears s
no_name s none k n i f holds there = none k n (omega arith) holds.name i f holds there
