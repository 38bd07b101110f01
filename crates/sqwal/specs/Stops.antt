-- Where a log stops, and why (own).
use Rattle.std.specs.Prelude.{◌≡◌, ◌≢◌, ◌⊎◌, ℕ, ◌-◌, ◌<◌, ◌≤◌, List, [], length}
use Rattle.sqwal.specs.Header.{named_size}
use Rattle.sqwal.specs.Frames.{frame_at, frame_end, page_of, HasSalts, HasSums, AllPass}
use Rattle.sqwal.specs.declared.scan.Why.{Why}
use Rattle.sqwal.specs.declared.scan.Why.TheVariants.{End, Cut, Salt, PageZero, Sum}

-- there is no whole header
abbrev pub StopsShort : List ℕ → Why → Type 0
StopsShort w End = w ≡ []
StopsShort w Cut = w ≢ []
StopsShort w Salt = ⊥
StopsShort w PageZero = ⊥
StopsShort w Sum = ⊥

-- frame f doesn't pass: the first of these that is true
abbrev pub StopsFor : (size : ℕ) → List ℕ → (f : ℕ) → Why → Type 0
StopsFor size w f End = length w ≡ frame_at size f
StopsFor size w f Cut = (frame_at size f < length w) × (length w < frame_end size f)
StopsFor size w f Salt = (frame_end size f ≤ length w) × (HasSalts size w f → ⊥)
StopsFor size w f PageZero = (frame_end size f ≤ length w) × HasSalts size w f × (page_of size w f ≡ 0)
StopsFor size w f Sum = (frame_end size f ≤ length w) × HasSalts size w f × (page_of size w f ≢ 0) × (HasSums size w f → ⊥)

-- the first frame of a log that isn't valid, 0 where its header isn't whole
abbrev pub IsStop : List ℕ → (f : ℕ) → Why → Type 0
IsStop w f why =
    ((length w < 32) × (f ≡ 0) × StopsShort w why)
    ⊎ ((32 ≤ length w) × (1 ≤ f) × AllPass (named_size w) w (f - 1) × StopsFor (named_size w) w f why)
