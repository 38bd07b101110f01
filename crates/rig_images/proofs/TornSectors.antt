-- What a choice with a torn sector leaves of it.
use Rattle.std.proofs.Common.{◌≡◌, ℕ, suc, ◌+◌, ◌-◌, ◌*◌, ◌/◌, ◌<◌, ◌≤◌, Bool, true, false, cond, List, [], ◌∷◌, ◌++◌, length, take, drop, get_or, refl, sym, ◌∙◌, ap, subst, arith, Option, Some, None, nat_lt, nat_eq}
use Rattle.std.specs.Prelude.{◌%◌, ◌&&◌, ◌≢◌, min}
use Rattle.std.proofs.lemmas.Bool.{ltb-true, lt-ltb}
use Rattle.std.proofs.lemmas.Bool.Decides.{nat_tests}
use Rattle.std.proofs.lemmas.List.{ext_get_or, get_or_past, get_or-take, get_or-drop, length-take, length-drop}
use Rattle.crashdisk.specs.Call.{DiskState}
use Rattle.crashdisk.specs.State.{Value, FileState, IsImage, IsSound, Shows}
use Rattle.crashdisk.specs.Held.{picked}
use Rattle.crashdisk.specs.Choice.{Naming, or_else, last_torn, torn_here, byte_by, listed, named_byte, named_len, image_of}
use Rattle.rig_images.specs.Torn.{IsTornFile}
use Rattle.rig_images.specs.internal.Tearing.{IsTearing, IsValue, sector_end}
use Rattle.crashdisk.proofs.sector.PlacesInSectors.{inside, sector_at, place_in}
use Rattle.crashdisk.proofs.image.ImageNamedByChoice.{image_at, image_len}

-- the last entry of a sector counts
pub last_torn_append : (torn : List (ℕ × List ℕ)) (k : ℕ) (bytes : List ℕ) → last_torn (torn ++ (k, bytes) ∷ []) k ≡ Some bytes
last_torn_append [] k bytes =
    let same : nat_eq k k ≡ true = grind (arith, nat_tests) in
    ap (λ (b : Bool). cond b (Some bytes) None) same
last_torn_append (entry ∷ torn) k bytes = ap (λ (o : Option (List ℕ)). or_else o (cond (nat_eq entry.0 k) (Some entry.1) None)) (last_torn_append torn k bytes)

-- a place of sector k
place : (sector k j : ℕ) → j < sector → ((k * sector + j) / sector ≡ k) × ((k * sector + j) % sector ≡ j)
place sector k j lt =
    let at : (k * sector + j) / sector ≡ k = sector_at sector k (k * sector + j) (omega arith) (omega arith) (omega arith) in
    (at, (let e = place_in sector k (k * sector + j) at in omega (arith, e)))

torn_both : (tears touched : Bool) (naming : Naming) (k : ℕ) → tears ≡ true → touched ≡ true → torn_here tears touched naming k ≡ last_torn naming.torn k
torn_both true true naming k a b = refl
torn_both true false naming k a b = absurd (cc b)
torn_both false touched naming k a b = absurd (cc a)

torn_none : (b : Bool) (k : ℕ) → cond b (last_torn [] k) None ≡ None
torn_none true k = refl
torn_none false k = refl

-- a torn sector has the bytes of its entry
pub torn_bytes_at : (sector : ℕ) (tears : Bool) (s : FileState) (naming : Naming) (k : ℕ) (bytes : List ℕ) → tears ≡ true → 0 < length (s.earlier k) → last_torn naming.torn k ≡ Some bytes
    → (j : ℕ) → j < sector → k * sector + j < named_len naming.len s.least s.len s.greatest → get_or (image_of sector tears s naming) (k * sector + j) 0 ≡ get_or bytes j 0
torn_bytes_at sector tears s naming k bytes tear touched entry j lt within =
    let i : ℕ = k * sector + j in
    let at = place sector k j lt in
    let here : torn_here tears (nat_lt 0 (length (s.earlier k))) naming k ≡ Some bytes =
    torn_both tears (nat_lt 0 (length (s.earlier k))) naming k tear (lt-ltb 0 (length (s.earlier k)) touched) ∙ entry in
    image_at sector tears s naming i within
    ∙ ap (λ (m : ℕ). named_byte sector tears s naming m i) at.0
    ∙ ap (λ (torn : Option (List ℕ)). byte_by torn (i % sector) (listed s k (picked naming.pick naming.newest k (suc (length (s.earlier k)))) i)) here
    ∙ ap (λ (m : ℕ). get_or bytes m 0) at.1

picks_none : (newest : Bool) (k n : ℕ) → picked [] newest k (suc n) ≡ cond newest n 0
picks_none newest k n =
    let past : nat_lt k 0 ≡ false = grind (arith, nat_tests) in
    ap (λ (b : Bool). cond b (0 % suc n) (cond newest (suc n - 1) 0)) past ∙ ap (λ (m : ℕ). cond newest m 0) (omega arith)

-- without entries each sector has its newest or its oldest value
pub value_at : (sector : ℕ) (tears : Bool) (s : FileState) (newest : Bool) (len : Option ℕ) (k j : ℕ) → j < sector → k * sector + j < named_len len s.least s.len s.greatest
    → get_or (image_of sector tears s (record { pick = []; torn = []; newest = newest; len = len })) (k * sector + j) 0 ≡ listed s k (cond newest (length (s.earlier k)) 0) (k * sector + j)
value_at sector tears s newest len k j lt within =
    let naming : Naming = record { pick = []; torn = []; newest = newest; len = len } in
    let i : ℕ = k * sector + j in
    let at = place sector k j lt in
    image_at sector tears s naming i within
    ∙ ap (λ (m : ℕ). named_byte sector tears s naming m i) at.0
    ∙ ap (λ (torn : Option (List ℕ)). byte_by torn (i % sector) (listed s k (picked [] newest k (suc (length (s.earlier k)))) i)) (torn_none (tears && nat_lt 0 (length (s.earlier k))) k)
    ∙ ap (λ (n : ℕ). listed s k n i) (picks_none newest k (length (s.earlier k)))

-- a file whose sector k has bytes other than those of a value doesn't show that
pub shows_not : (sector k : ℕ) (v : Value) (value bytes image : List ℕ) → length bytes ≡ length value → length value ≤ sector → k * sector + length value ≤ length image
    → ((j : ℕ) → j < length value → get_or value j 0 ≡ v (k * sector + j)) → ((j : ℕ) → j < length bytes → get_or image (k * sector + j) 0 ≡ get_or bytes j 0) → bytes ≢ value → ¬ Shows sector k v image
shows_not sector k v value bytes image long short within is has other shows =
    other (ext_get_or 0 bytes value long (λ (j : ℕ) (lt : j < length bytes).
    let at = place sector k j (omega arith) in
    sym (has j lt) ∙ shows (k * sector + j) at.0 (omega arith) ∙ sym (is j (omega arith))))

-- a choice with a torn sector leaves a torn file
pub torn_file : (f : DiskState) (naming : Naming) (k n : ℕ) (new old bytes out : List ℕ) → 0 < f.sector → IsSound f.sector f.db → IsTearing f k
    → IsValue f.sector f.db k (length (f.db.earlier k)) new → IsValue f.sector f.db k 0 old → length bytes ≡ length new → bytes ≢ new → bytes ≢ old
    → last_torn naming.torn k ≡ Some bytes → naming.len ≡ Some n → sector_end f.sector f.db k ≤ n
    → out ≡ image_of f.sector f.tears f.db naming → IsImage f.sector f.tears f.db out → IsTornFile f out
torn_file f naming k n new old bytes out positive sound tearing is_new is_old long not_new not_old entry len enough is image =
    let s = f.db in
    let sector = f.sector in
    let start : k * sector < s.greatest = (let meets = sound.touched k tearing.1 in omega (arith, (inside sector k meets.0 positive meets.3).0, meets.2)) in
    let end : sector_end sector s k ≤ named_len naming.len s.least s.len s.greatest = subst (λ (o : Option ℕ). sector_end sector s k ≤ named_len o s.least s.len s.greatest) (sym len) (omega arith) in
    let size : length out ≡ named_len naming.len s.least s.len s.greatest = ap (λ (l : List ℕ). length l) is ∙ image_len sector f.tears s naming in
    let has : (j : ℕ) → j < length bytes → get_or out (k * sector + j) 0 ≡ get_or bytes j 0 = λ j lt.
    ap (λ (l : List ℕ). get_or l (k * sector + j) 0) is
    ∙ torn_bytes_at sector f.tears s naming k bytes tearing.0 tearing.1 entry j (omega (arith, is_new.long)) (omega (arith, is_new.long)) in
    record {
      image = image;
      sector = k;
      torn = record {
        touched = tearing.1;
        not_new = shows_not sector k s.present new bytes out long (omega (arith, is_new.long)) (omega (arith, is_new.long))
            (λ j lt. is_new.each j lt ∙ ap (λ (v : Value). v (k * sector + j)) (get_or_past (s.earlier k) (length (s.earlier k)) s.present (omega arith))) has not_new;
        not_old = shows_not sector k (listed s k 0) old bytes out (omega (arith, is_new.long, is_old.long)) (omega (arith, is_old.long)) (omega (arith, is_old.long)) is_old.each has not_old;
      };
    }

-- a value, cut out of a file
pub value_is : (sector : ℕ) (tears : Bool) (s : FileState) (newest : Bool) (k from to : ℕ) (image bytes : List ℕ) → 0 < sector → s.least ≤ s.greatest
    → image ≡ image_of sector tears s (record { pick = []; torn = []; newest = newest; len = Some s.greatest }) → from ≡ min (k * sector) (length image) → to ≡ min (from + sector) (length image)
    → bytes ≡ take (to - from) (drop from image) → IsValue sector s k (cond newest (length (s.earlier k)) 0) bytes
value_is sector tears s newest k from to image bytes positive order is starts ends cut =
    let naming : Naming = record { pick = []; torn = []; newest = newest; len = Some s.greatest } in
    let whole : length image ≡ s.greatest = ap (λ (l : List ℕ). length l) is ∙ image_len sector tears s naming ∙ (let e : named_len (Some s.greatest) s.least s.len s.greatest ≡ s.greatest = omega arith in e) in
    let size : length bytes ≡ min (to - from) (length image - from) =
    ap (λ (l : List ℕ). length l) cut ∙ length-take (to - from) (drop from image) ∙ ap (λ (m : ℕ). min (to - from) m) (length-drop from image) in
    record {
      long = omega arith;
      each = λ j less.
          let there : from ≡ k * sector = omega arith in
          ap (λ (l : List ℕ). get_or l j 0) cut ∙ get_or-take (to - from) (drop from image) j 0 (omega arith) ∙ get_or-drop from image j 0
          ∙ ap (λ (m : ℕ). get_or image (m + j) 0) there ∙ ap (λ (l : List ℕ). get_or l (k * sector + j) 0) is
          ∙ value_at sector tears s newest (Some s.greatest) k j (omega arith) (omega arith);
    }
