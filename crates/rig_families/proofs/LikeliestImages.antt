-- The likeliest images have numbers.
use Rattle.std.proofs.Common.{◌≡◌, inl, inr, ℕ, suc, ◌+◌, ◌-◌, ◌*◌, ◌/◌, ◌%◌, ◌<◌, ◌≤◌, false, List, length, get_or, Option, Some, None, refl, sym, ◌∙◌, ap, subst, arith}
use Rattle.std.specs.Prelude.{nat_lt}
use Rattle.std.proofs.lemmas.Bool.{cases_lt}
use Rattle.std.proofs.lemmas.Bool.Decides.{nat_tests}
use Rattle.std.proofs.lemmas.List.{get_or_default, get_or_past}
use Rattle.crashdisk.specs.Call.{DiskState}
use Rattle.crashdisk.specs.Choice.{image_of}
use Rattle.rig_play.specs.Names.{NameState}
use Rattle.rig_play.specs.Plays.{Files}
use Rattle.rig_play.specs.declared.meta.Holds.{Holds}
use Rattle.rig_images.specs.declared.image.Image.{Image}
use Rattle.rig_images.specs.declared.torn.Which.{Which}
use Rattle.rig_images.specs.declared.torn.Which.TheVariants.{Db, Wal, Journal}
use Rattle.rig_families.specs.Versions.{FileNamed, Named, IsLeftUnder, IsVersion, version_now}
use Rattle.rig_families.specs.Families.{IsLikely, IsOpen, in_version, most_sectors, numbers_in, without}
use Rattle.rig_families.specs.Members.{which_by, piece_at, IsPieceAt, IsMemberAt, member_count}
use Rattle.rig_families.specs.declared.version.Piece.{Piece}
use Rattle.rig_families.specs.declared.version.Piece.TheVariants.{Sector, Length}

-- an image of a number is one of the likeliest
pub likely_at : (s : Files) (versions : List Named) (n : ℕ) (image : Image) → IsMemberAt s versions (version_now s) n image → IsLikely s versions image
likely_at s versions n image (inl (less, is)) =
    let now = version_now s in
    inl (get_or versions n now, (n, less, get_or_default versions n (get_or versions n now) now less), is)
likely_at s versions n image (inr (past, (may, is))) = inr (record { which = which_by ((n - length versions) % 3); piece = piece_at (n - length versions); may = may; is = is })

-- the number of a file, and of a piece of it
abbrev number_of : Which → ℕ
number_of Db = 0
number_of Wal = 1
number_of Journal = 2

abbrev row_of : Piece → ℕ
row_of Length = 0
row_of (Sector k) = suc k

which_same : (w : Which) (row : ℕ) → which_by ((3 * row + number_of w) % 3) ≡ w
which_same Db row = let e : (3 * row + 0) % 3 ≡ 0 = omega arith in ap which_by e
which_same Wal row = let e : (3 * row + 1) % 3 ≡ 1 = omega arith in ap which_by e
which_same Journal row = let e : (3 * row + 2) % 3 ≡ 2 = omega arith in ap which_by e

few : (w : Which) → number_of w ≤ 2
few Db = omega arith
few Wal = omega arith
few Journal = omega arith

piece_same : (w : Which) (p : Piece) → piece_at (3 * row_of p + number_of w) ≡ p
piece_same Db Length = refl
piece_same Wal Length = refl
piece_same Journal Length = refl
piece_same w (Sector k) =
    let m : ℕ = 3 * suc k + number_of w in
    let small = few w in
    let past : nat_lt m 3 ≡ false = grind (arith, nat_tests) in
    let row : m / 3 - 1 ≡ k = omega (arith, small) in
    rw past (ap Sector row)

piece_there : (s : Files) (now : Named) (w : Which) (p : Piece) (image : Image) → IsOpen (in_version w now) p → IsVersion s (without w p now) image → IsPieceAt s now (3 * row_of p + number_of w) image
piece_there s now w p image may is =
    let m : ℕ = 3 * row_of p + number_of w in
    let which : w ≡ which_by (m % 3) = sym (which_same w (row_of p)) in
    let piece : p ≡ piece_at m = sym (piece_same w p) in
    let At : Which → Piece → Type 0 = λ v q. IsOpen (in_version v now) q × IsVersion s (without v q now) image in
    subst (λ (q : Piece). At (which_by (m % 3)) q) piece (subst (λ (v : Which). At v p) which (may, is))

-- a sector that may not be down is one that a version has a number of
within : (v : Option FileNamed) (k : ℕ) → 0 < get_or (numbers_in v) k 0 → k < length (numbers_in v)
within v k some = elim (cases_lt k (length (numbers_in v))) [
  | inl less ↦ less
  | inr past ↦ absurd (let none = get_or_past (numbers_in v) k 0 past in omega (arith, none, some))
]

row_few : (now : Named) (w : Which) (p : Piece) → IsOpen (in_version w now) p → row_of p ≤ most_sectors now
row_few now w Length may = omega arith
row_few now Db (Sector k) may = let less = within now.db k may in omega (arith, less)
row_few now Wal (Sector k) may = let less = within now.wal k may in omega (arith, less)
row_few now Journal (Sector k) may = let less = within now.journal k may in omega (arith, less)

-- each of the likeliest has a number
pub each_likely : (s : Files) (versions : List Named) (image : Image) → IsLikely s versions image → (n : ℕ) × (n < member_count versions (version_now s)) × IsMemberAt s versions (version_now s) n image
each_likely s versions image (inl (v, (n, less, at), is)) =
    let now = version_now s in
    let same : v ≡ get_or versions n now = sym at ∙ get_or_default versions n v now less in
    (n, omega (arith, less), inl (less, subst (λ (x : Named). IsVersion s x image) same is))
each_likely s versions image (inr one) =
    let now = version_now s in
    let m : ℕ = 3 * row_of one.piece + number_of one.which in
    let there : IsPieceAt s now m image = piece_there s now one.which one.piece image one.may one.is in
    let same : m ≡ length versions + m - length versions = omega arith in
    let small = few one.which in
    let row = row_few now one.which one.piece one.may in
    (length versions + m, omega (arith, small, row), inr (omega arith, subst (λ (k : ℕ). IsPieceAt s now k image) same there))

-- a version has the same bytes
same_under : (s : NameState) (holds : Holds) (v : Option FileNamed) (x y : List ℕ) → IsLeftUnder s holds v x → IsLeftUnder s holds v y → x ≡ y
same_under s holds None x y (may, is) (may', is') = is ∙ sym is'
same_under s holds (Some v) x y (f, file, is) (g, file', is') =
    let same : f ≡ g = sym file.is ∙ get_or_default s.files v.file f g file.within ∙ file'.is in
    is ∙ ap (λ (d : DiskState). image_of d.sector d.tears d.db v.naming) same ∙ sym is'

pub record HaveSame (x y : Image) : Type 0 where
  pub db : x.db.items ≡ y.db.items
  pub wal : x.wal.items ≡ y.wal.items
  pub journal : x.journal.items ≡ y.journal.items

same_version : (s : Files) (v : Named) (x y : Image) → IsVersion s v x → IsVersion s v y → HaveSame x y
same_version s v x y one other = record {
  db = same_under s.db v.epoch.db v.db x.db.items y.db.items one.db other.db;
  wal = same_under s.wal v.epoch.wal v.wal x.wal.items y.wal.items one.wal other.wal;
  journal = same_under s.journal v.epoch.journal v.journal x.journal.items y.journal.items one.journal other.journal;
}

-- one number is of one image
pub same_member : (s : Files) (versions : List Named) (now : Named) (n : ℕ) (x y : Image) → IsMemberAt s versions now n x → IsMemberAt s versions now n y → HaveSame x y
same_member s versions now n x y (inl (less, is)) (inl (less', is')) = same_version s (get_or versions n now) x y is is'
same_member s versions now n x y (inl (less, is)) (inr (past, there)) = absurd (omega (arith, less, past))
same_member s versions now n x y (inr (past, there)) (inl (less, is)) = absurd (omega (arith, less, past))
same_member s versions now n x y (inr (past, there)) (inr (past', there')) =
    same_version s (without (which_by ((n - length versions) % 3)) (piece_at (n - length versions)) now) x y there.1 there'.1
