-- What the front of a log shows that a crash leaves.
use Rattle.walcore.proofs.Below.{AreMade, Contains, Database, IsBoundary, IsDurable, IsEra, IsFile, IsFront, IsJust, IsLog, IsOver, IsPageSize, IsUnder, IsView, List, NoChance, Unnamed, all_same, ap, arith, cases_eq, commit_same, ext_get_or, file_count, file_page, frame_end, frame_end-le, frame_end-zero, get_or, get_or-take, inl, inr, length, length-take-le, page, refl, shown, size_some, subst, sym, take, view_same, ℕ, ⊎_elim, ◌<◌, ◌∙◌, ◌≡◌, ◌≤◌, ◌⊎◌}
use Rattle.walcore.proofs.crash.OriginOfValidFrames.{known}

-- two lists with the same first numbers
pub same_front : (w e : List ℕ) (k : ℕ) → k ≤ length w → k ≤ length e → ((i : ℕ) → i < k → get_or w i 0 ≡ get_or e i 0) → take k w ≡ take k e
same_front w e k a b each =
    let lw : length (take k w) ≡ k = length-take-le k w a in
    let le : length (take k e) ≡ k = length-take-le k e b in
    ext_get_or 0 (take k w) (take k e) (lw ∙ sym le) (λ i lt. let below : i < k = omega arith in get_or-take k w i 0 below ∙ each i below ∙ sym (get_or-take k e i 0 below))

-- the boundaries of a log are those of one that goes on
pub boundary_same : (size : ℕ) (e f : List ℕ) (n i : ℕ) → take (frame_end size n) f ≡ take (frame_end size n) e → i ≤ n → IsBoundary size e i → IsBoundary size f i
boundary_same size e f n i same le is = ⊎_elim (λ z. inl z)
    (λ commit. ⊎_elim (λ z. inl z) (λ nz. inr (commit_same size e f (frame_end size n) i (sym same) (omega arith) (frame_end-le size i n le) commit)) (cases_eq i 0)) is

-- A file that is just these pages has them.
pub just_file : (size : ℕ) (d : Database) (db : List ℕ) → IsPageSize size → IsJust size d db → IsFile size db d
just_file size d db is_size just = record { count = file_count size db (length d) (omega (arith, size_some size is_size)) just.long; each = just.each }

-- What the front of such a log is.
pub record Fronts (size : ℕ) (e : List ℕ) (n : ℕ) (w : List ℕ) (m : ℕ) : Type 0 where
  pub within : m ≤ n
  pub boundary : IsBoundary size e m
  pub same : take (frame_end size m) w ≡ take (frame_end size m) e

pub fronts : (size : ℕ) (logs : List (List ℕ)) (e w : List ℕ) (n m : ℕ) → AreMade size logs → Contains logs e → IsLog size e n → NoChance logs w → take 32 w ≡ take 32 e → IsFront size w m → Fronts size e n w m
fronts size logs e w n m are in_made log chance head front = ⊎_elim
    (λ z. record { within = omega arith; boundary = inl z; same = subst (λ (k : ℕ). take (frame_end size k) w ≡ take (frame_end size k) e) (sym z) (rw (frame_end-zero size) head) })
    (λ v.
    let is = known size logs e w are in_made chance head n m log v.0.each in
    record { within = is.0; boundary = inr (commit_same size w e (frame_end size m) m is.1 v.0.first (omega arith) v.1); same = is.1 })
    front.is

-- Frames that are durable are valid in it.
pub down_front : (size : ℕ) (e w : List ℕ) (n d m : ℕ) → IsLog size e n → d ≤ n → IsBoundary size e d → IsDurable size e d w → IsFront size w m → d ≤ m
down_front size e w n d m log within boundary durable front = ⊎_elim
    (λ z. omega arith)
    (λ commit. ⊎_elim
    (λ z. omega arith)
    (λ some. front.greatest d
    (record { first = some; each = all_same size e w (frame_end size d) d (sym durable.same) (omega arith) durable.long (λ j a b. log.all j a (omega arith)) })
    (commit_same size e w (frame_end size d) d (sym durable.same) some (omega arith) commit))
    (let c : (d ≡ 0) ⊎ (1 ≤ d) = ⊎_elim (λ z. inl z) (λ nz. inr (omega arith)) (cases_eq d 0) in c))
    boundary

-- A file that a crash leaves shows with it the database after that commit.
pub view_of_image : (size : ℕ) (e : List ℕ) (n mark : ℕ) (h : List Database) (index : ℕ → ℕ) (c : ℕ) (db w : List ℕ) (m : ℕ) → IsEra size e n mark h index
    → IsBoundary size e c → c ≤ m → IsUnder size e h index c db → Fronts size e n w m → IsView size db w m (shown h index m)
view_of_image size e n mark h index c db w m era c_boundary c_within under is =
    let base : Database = shown h index 0 in
    let below_page : (p : ℕ) → 1 ≤ p → p ≤ length (shown h index m) → Unnamed size e m p → page base p ≡ file_page size db p
    = λ p a b un. under.rest p a
    (era.grows 0 m p (omega arith) is.within (inl refl) is.boundary a b (λ i x y. un i x y))
    (era.grows c m p (omega arith) is.within c_boundary is.boundary a b (λ i x y. un i (omega arith) y))
    (λ i x y. un i x (omega arith)) in
    let over : IsOver size (page base) e m (shown h index m) = era.shows m is.within is.boundary in
    let view : IsView size db e m (shown h index m) = record {
      none = λ z. ap (λ k. length (shown h index k)) z ∙ (just_file size base db era.log.header.is_size (under.untouched (omega arith))).count;
      some = λ a. ⊎_elim (λ z. absurd (omega arith)) (λ commit. era.sizes m a is.within commit) is.boundary;
      over = record {
        logged = over.logged;
        other = λ p a b un. over.other p a b un ∙ below_page p a b un;
      };
    } in
    view_same size db e w (frame_end size m) m (shown h index m) (sym is.same) (omega arith) view
