-- One file is put there, and the others stay.
use Rattle.std.proofs.Common.{◌≡◌, ◌≢◌, ℕ, ◌%◌, Bool, true, false, ◌&&◌, List, Option, Some, refl, sym, subst}
use Rattle.std.specs.List.{Contains}
use Rattle.rig_play.specs.Plays.{Files, epochs_of}
use Rattle.rig_play.specs.declared.meta.Epoch.{Epoch}
use Rattle.rig_images.specs.Left.{MayBeLeft, MayLeave, MayLeaveIn}
use Rattle.rig_images.specs.Torn.{name_in, holds_in, bytes_in}
use Rattle.rig_images.specs.declared.image.Image.{Image}
use Rattle.rig_images.specs.declared.torn.Which.{Which}
use Rattle.rig_images.specs.declared.torn.Which.TheVariants.{Db, Wal, Journal}
use Rattle.rig_families.specs.Versions.{FileNamed, Named, IsLeftUnder, IsVersion}
use Rattle.rig_families.specs.Families.{IsOpen, in_version, without, without_piece}
use Rattle.rig_families.specs.Members.{which_by, piece_at, IsPieceAt, IsThere, IsKept}
use Rattle.rig_families.specs.internal.Puts.{IsMade, IsPieceMade, IsPut}
use Rattle.rig_families.specs.declared.version.Piece.{Piece}

-- of one file, and of the two others
each_file : (P : Which → Type 0) (w : Which) → P w → ((v : Which) → v ≢ w → P v) → (v : Which) → P v
each_file P Db is others Db = is
each_file P Db is others Wal = others Wal (λ e. absurd (cc e))
each_file P Db is others Journal = others Journal (λ e. absurd (cc e))
each_file P Wal is others Db = others Db (λ e. absurd (cc e))
each_file P Wal is others Wal = is
each_file P Wal is others Journal = others Journal (λ e. absurd (cc e))
each_file P Journal is others Db = others Db (λ e. absurd (cc e))
each_file P Journal is others Wal = others Wal (λ e. absurd (cc e))
each_file P Journal is others Journal = is

same_epoch : (w : Which) (p : Piece) (now : Named) → (without w p now).epoch ≡ now.epoch
same_epoch Db p now = refl
same_epoch Wal p now = refl
same_epoch Journal p now = refl

at_file : (w : Which) (p : Piece) (now : Named) → in_version w (without w p now) ≡ without_piece p (in_version w now)
at_file Db p now = refl
at_file Wal p now = refl
at_file Journal p now = refl

at_others : (w v : Which) (p : Piece) (now : Named) → v ≢ w → in_version v (without w p now) ≡ in_version v now
at_others Db Db p now differ = absurd (differ refl)
at_others Db Wal p now differ = refl
at_others Db Journal p now differ = refl
at_others Wal Db p now differ = refl
at_others Wal Wal p now differ = absurd (differ refl)
at_others Wal Journal p now differ = refl
at_others Journal Db p now differ = refl
at_others Journal Wal p now differ = refl
at_others Journal Journal p now differ = absurd (differ refl)

under_of : (s : Files) (v : Named) (image : Image) (w : Which) → IsVersion s v image → IsLeftUnder (name_in w s) (holds_in w v.epoch) (in_version w v) (bytes_in w image)
under_of s v image Db is = is.db
under_of s v image Wal is = is.wal
under_of s v image Journal is = is.journal

leave_of : (s : Files) (e : Epoch) (image : Image) (w : Which) → MayLeaveIn s e image → MayBeLeft (name_in w s) (holds_in w e) (bytes_in w image)
leave_of s e image Db is = is.db
leave_of s e image Wal is = is.wal
leave_of s e image Journal is = is.journal

version_of : (s : Files) (v : Named) (image : Image) → Contains (epochs_of s) v.epoch → ((w : Which) → IsThere s v w image) → IsVersion s v image × MayLeave s image
version_of s v image epoch there = (
  record { epoch = epoch; db = (there Db).0; wal = (there Wal).0; journal = (there Journal).0 },
  (v.epoch, epoch, record { db = (there Db).1; wal = (there Wal).1; journal = (there Journal).1 }),
)

-- an image that was made may be left
pub made_left : (s : Files) (v : Named) (image : Image) → IsVersion s v image → MayLeaveIn s v.epoch image → MayLeave s image
made_left s v image is left = (v.epoch, is.epoch, left)

-- all but one file is as it is now
pub kept_of : (s : Files) (now : Named) (w : Which) (p : Piece) (image : Image) → IsVersion s (without w p now) image → MayLeaveIn s (without w p now).epoch image → IsKept s now (Some w) image
kept_of s now w p image is left =
    let same = same_epoch w p now in
    let e : Epoch = (without w p now).epoch in
    let there : (v : Which) → v ≢ w → IsThere s now v image = λ v differ.
    let At : Epoch → Option FileNamed → Type 0 = λ x o. IsLeftUnder (name_in v s) (holds_in v x) o (bytes_in v image) × MayBeLeft (name_in v s) (holds_in v x) (bytes_in v image) in
    let first : At e (in_version v (without w p now)) = (under_of s (without w p now) image v is, leave_of s e image v left) in
    subst (λ (x : Epoch). At x (in_version v now)) same (subst (λ (o : Option FileNamed). At e o) (at_others w v p now differ) first) in
    (subst (λ (x : Epoch). Contains (epochs_of s) x) same is.epoch, there)

-- one file was put there, and the others were there
pub piece_one : (s : Files) (now : Named) (m : ℕ) (old new : Image) (w : Which) (p : Piece) (made : Bool) → w ≡ which_by (m % 3) → p ≡ piece_at m → IsOpen (in_version w now) p → IsKept s now (Some w) old
    → IsPut (name_in w s) (holds_in w now.epoch) (without_piece p (in_version w now)) (bytes_in w new) made → ((v : Which) → v ≢ w → bytes_in v new ≡ bytes_in v old) → IsPieceMade s now m new made
piece_one s now m old new w p made which piece may kept put others = by made put
  where
    At : Which → Piece → Image → Type 0
    At v q image = IsOpen (in_version v now) q × IsVersion s (without v q now) image

    to : (image : Image) → At w p image → IsPieceAt s now m image
    to image at = subst (λ (q : Piece). At (which_by (m % 3)) q image) piece (subst (λ (v : Which). At v p image) which at)

    from : (image : Image) → IsPieceAt s now m image → At w p image
    from image at = subst (λ (v : Which). At v p image) (sym which) (subst (λ (q : Piece). At (which_by (m % 3)) q image) (sym piece) at)

    there : IsPut (name_in w s) (holds_in w now.epoch) (without_piece p (in_version w now)) (bytes_in w new) true → (v : Which) → IsThere s (without w p now) v new
    there is v =
        let Under : Which → Epoch → Option FileNamed → List ℕ → Type 0 = λ u x o bytes. IsLeftUnder (name_in u s) (holds_in u x) o bytes × MayBeLeft (name_in u s) (holds_in u x) bytes in
        let e = sym (same_epoch w p now) in
        let one : IsThere s (without w p now) w new =
        subst (λ (x : Epoch). Under w x (in_version w (without w p now)) (bytes_in w new)) e (subst (λ (o : Option FileNamed). Under w now.epoch o (bytes_in w new)) (sym (at_file w p now)) is) in
        let rest : (u : Which) → u ≢ w → IsThere s (without w p now) u new = λ u differ.
        let now_there : Under u now.epoch (in_version u now) (bytes_in u new) =
        subst (λ (b : List ℕ). Under u now.epoch (in_version u now) b) (sym (others u differ)) (kept.1 u differ) in
        subst (λ (x : Epoch). Under u x (in_version u (without w p now)) (bytes_in u new)) e
        (subst (λ (o : Option FileNamed). Under u now.epoch o (bytes_in u new)) (sym (at_others w u p now differ)) now_there) in
        each_file (λ u. IsThere s (without w p now) u new) w one rest v

    by : (b : Bool) → IsPut (name_in w s) (holds_in w now.epoch) (without_piece p (in_version w now)) (bytes_in w new) b → IsPieceMade s now m new b
    by true is =
        let all = version_of s (without w p now) new (subst (λ (x : Epoch). Contains (epochs_of s) x) (sym (same_epoch w p now)) kept.0) (there is) in
        (to new (may, all.0), all.1)
    by false none = λ other at.
        let is = under_of s (without w p now) other w (from other at).1 in
        let here : IsLeftUnder (name_in w s) (holds_in w (without w p now).epoch) (without_piece p (in_version w now)) (bytes_in w other) =
        subst (λ (o : Option FileNamed). IsLeftUnder (name_in w s) (holds_in w (without w p now).epoch) o (bytes_in w other)) (at_file w p now) is in
        none (bytes_in w other) (subst (λ (x : Epoch). IsLeftUnder (name_in w s) (holds_in w x) (without_piece p (in_version w now)) (bytes_in w other)) (same_epoch w p now) here)

-- the others stay there
pub kept_one : (s : Files) (now : Named) (w : Which) (old new : Image) → IsKept s now (Some w) old → ((v : Which) → v ≢ w → bytes_in v new ≡ bytes_in v old) → IsKept s now (Some w) new
kept_one s now w old new kept others = (
  kept.0,
  λ v differ. subst (λ (b : List ℕ). IsLeftUnder (name_in v s) (holds_in v now.epoch) (in_version v now) b × MayBeLeft (name_in v s) (holds_in v now.epoch) b) (sym (others v differ)) (kept.1 v differ),
)

-- all files were put there
pub piece_all : (s : Files) (now : Named) (m : ℕ) (image : Image) (w : Which) (p : Piece) (made : Bool) → w ≡ which_by (m % 3) → p ≡ piece_at m → IsOpen (in_version w now) p
    → IsMade s (without w p now) image made → IsPieceMade s now m image made
piece_all s now m image w p made which piece may is = by made is
  where
    At : Which → Piece → Image → Type 0
    At v q other = IsOpen (in_version v now) q × IsVersion s (without v q now) other

    by : (b : Bool) → IsMade s (without w p now) image b → IsPieceMade s now m image b
    by true (version, left) = (
      subst (λ (q : Piece). At (which_by (m % 3)) q image) piece (subst (λ (v : Which). At v p image) which (may, version)),
      made_left s (without w p now) image version left,
    )
    by false none = λ other at. none other (subst (λ (v : Which). At v p other) (sym which) (subst (λ (q : Piece). At (which_by (m % 3)) q other) (sym piece) at)).1

-- each of the three files was put there, or one wasn't
pub made_all : (s : Files) (v : Named) (image : Image) (a b d : Bool) → Contains (epochs_of s) v.epoch → IsPut s.db v.epoch.db v.db image.db.items a
    → IsPut s.wal v.epoch.wal v.wal image.wal.items b → IsPut s.journal v.epoch.journal v.journal image.journal.items d → IsMade s v image ((a && b) && d)
made_all s v image true true true epoch x y z = (record { epoch = epoch; db = x.0; wal = y.0; journal = z.0 }, record { db = x.1; wal = y.1; journal = z.1 })
made_all s v image false b d epoch x y z = λ other is. x other.db.items is.db
made_all s v image true false d epoch x y z = λ other is. y other.wal.items is.wal
made_all s v image true true false epoch x y z = λ other is. z other.journal.items is.journal
