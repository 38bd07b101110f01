-- The frames in which the pages of a view stand.
use Rattle.std.proofs.Common.{◌≡◌, ℕ, zero, suc, ◌+◌, ◌-◌, ◌≤◌, ◌<◌, ◌⊎◌, List, length, Option, Some, None, inl, inr, ⊎_elim, refl, sym, ap, subst, arith}
use Rattle.std.proofs.lemmas.Bool.{cases_lt, cases_eq}
use Rattle.std.proofs.Math.ListN.{get_or-eq_default}
use Rattle.sqwal.specs.Frames.{frame_at}
use Rattle.sqwal.specs.View.{IsLast}
use Rattle.sqview.specs.Laid.{place_of}
use Rattle.sqview.specs.Origins.{AreFramePlaces, IsFrameOrigin, IsFramePlace, IsRecordOrigin}
use Rattle.sqview.specs.declared.view.origin.Origin.{Origin}
use Rattle.sqview.specs.declared.view.origin.Origin.TheVariants as origins
use Rattle.sqview.proofs.place.FrameOfPlace.{frame_back}
use Rattle.cli_show_places.specs.Frames.{IsFrameOf, AreFrames}
use Rattle.cli_show_places.specs.internal.Seen.{frame_begun, frame_among, frame_told}

last_unique : (size : ℕ) (w : List ℕ) (m p i j : ℕ) → IsLast size w m p i → IsLast size w m p j → i ≡ j
last_unique size w m p i j a b = ⊎_elim (λ lt. absurd (a.last j lt b.within b.names)) (λ le. ⊎_elim (λ e. e) (λ ne. absurd (b.last i (omega arith) a.within a.names)) (cases_eq i j)) (cases_lt i j)

-- a page stands in one frame, or in none
pub frame_unique : (size : ℕ) (w : List ℕ) (m p : ℕ) (a b : Option ℕ) → IsFrameOf size w m p a → IsFrameOf size w m p b → a ≡ b
frame_unique size w m p None None x y = refl
frame_unique size w m p None (Some j) x y = absurd (x j y.first y.within y.names)
frame_unique size w m p (Some i) None x y = absurd (y i x.first x.within x.names)
frame_unique size w m p (Some i) (Some j) x y = ap Some (last_unique size w m p i j x y)

begun_some : (size at i : ℕ) → 1 ≤ i → at ≡ frame_at size i + 24 → frame_begun size at ≡ Some i
begun_some size zero i one e = absurd (omega (arith, e))
begun_some size (suc k) i one e = ap Some (frame_back size (suc k) i one e)

begun_right : (size : ℕ) (w : List ℕ) (m p at : ℕ) → IsFramePlace size w m p at → IsFrameOf size w m p (frame_begun size at)
begun_right size w m p at place = ⊎_elim
    (λ none. subst (λ n. IsFrameOf size w m p (frame_begun size n)) (sym none.0) none.1)
    (λ is. subst (λ (f : Option ℕ). IsFrameOf size w m p f) (sym (begun_some size at is.0 is.1.first is.2)) is.1)
    place

-- the frames of the places are those of the pages
pub among_right : (size : ℕ) (w : List ℕ) (m count : ℕ) (places : List ℕ) → (1 ≤ m → AreFramePlaces size w m count places) → AreFrames size w m count (frame_among m size places)
among_right size w zero count places are p one le = λ i first within. absurd (omega arith)
among_right size w (suc m) count places are zero one le = absurd (omega arith)
among_right size w (suc m) count places are (suc n) one le = begun_right size w (suc m) (suc n) (place_of places (suc n)) ((are (omega arith)).each (suc n) one le)

-- the frame of an origin
pub origin_right : (size : ℕ) (w : List ℕ) (m p : ℕ) (o : Origin) → IsFrameOrigin size w m p o → IsFrameOf size w m p (frame_told o)
origin_right size w m p origins.File is = is
origin_right size w m p (origins.Frame i) is = is
origin_right size w m p (origins.Record at) is = absurd is

-- what a view says of a page by its origin is its frame
pub told_frame : (size front count : ℕ) (places : List ℕ) (p : ℕ) (o : Origin) → 1 ≤ p → p ≤ count
    → (1 ≤ front → (w : List ℕ) × AreFramePlaces size w front count places)
    → (1 ≤ front → (w : List ℕ) → p ≤ count → AreFramePlaces size w front count places → IsFrameOrigin size w front p o)
    → (front ≡ 0 → IsRecordOrigin (place_of places p) o) → frame_told o ≡ frame_among front size places p
told_frame size zero count places p origins.File one le known frame recorded = refl
told_frame size zero count places p (origins.Frame i) one le known frame recorded = absurd (recorded refl)
told_frame size zero count places p (origins.Record at) one le known frame recorded = refl
told_frame size (suc m) count places p o one le known frame recorded =
    let log = known (omega arith) in
    frame_unique size log.0 (suc m) p (frame_told o) (frame_among (suc m) size places p)
    (origin_right size log.0 (suc m) p o (frame (omega arith) log.0 le log.1))
    (among_right size log.0 (suc m) count places (λ _. log.1) p one le)

-- a number that no page has stands in no frame
pub none_among : (size front count : ℕ) (places : List ℕ) (p : ℕ) → (1 ≤ front → length places ≡ count) → (p ≡ 0) ⊎ (count < p) → frame_among front size places p ≡ None
none_among size zero count places p long out = refl
none_among size (suc m) count places zero long out = refl
none_among size (suc m) count places (suc n) long (inl z) = absurd (omega (arith, z))
none_among size (suc m) count places (suc n) long (inr lt) =
    let all : length places ≡ count = long (omega arith) in
    let past : length places ≤ suc n - 1 = omega (arith, lt, all) in
    ap (frame_begun size) (get_or-eq_default places 0 past)
