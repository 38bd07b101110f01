-- The likeliest images are taken into a sample, one after the other.
use Rattle.std.proofs.Common.{◌≡◌, inl, inr, ℕ, ◌+◌, ◌/◌, ◌<◌, ◌≤◌, Bool, true, false, nat_eq, Option, None, List, [], ◌++◌, map, sym, ◌∙◌, ap, subst, append-nil, arith}
use Rattle.std.proofs.lemmas.Bool.{cases_lt}
use Rattle.std.proofs.lemmas.List.{map-append}
use Rattle.std.proofs.lemmas.List.Elements.{All-append, Contains-append_left}
use Rattle.std.specs.HashSet.{contains}
use Rattle.std.specs.List.{All, Contains}
use Rattle.rig_families.specs.Families.{IsLikely}
use Rattle.rig_families.specs.Likeliest.{AreFamilies}
use Rattle.rig_families.specs.Versions.{Named, named_of, version_now}
use Rattle.rig_families.specs.Members.{IsKept, IsMember, IsMemberAt, member_count}
use Rattle.rig_families.specs.declared.families.Families.{Families}
use Rattle.rig_families.specs.declared.version.Version.{Version}
use Rattle.rig_families.proofs.LikeliestImages.{each_likely, likely_at, same_member}
use Rattle.rig_images.specs.Keys.{key_of}
use Rattle.rig_images.specs.Left.{MayLeave}
use Rattle.rig_images.specs.declared.image.Image.{Image}
use Rattle.rig_images.specs.declared.torn.Which.{Which}
use Rattle.rig_play.specs.Plays.{Files}
use Rattle.sqcrash.specs.Runs.{RunState}
use Rattle.sqcrash.specs.Samples.{GoesOn, IsDrawing}
use Rattle.sqcrash.specs.Surveys.{Judged}
use Rattle.sqcrash.specs.internal.Samples.{IsTaking}
use Rattle.sqcrash.specs.declared.sample.Sample.{Sample}
use Rattle.sqcrash.specs.declared.survey.Survey.{Survey}
use Rattle.sqcrash.proofs.SampledImages.{sampled_none, sampled_on}

abbrev key : Judged → ℕ
key x = key_of x.image

-- none is taken yet
pub taking_none : (versions : List Named) (run : RunState) (limit : ℕ) (s : Sample) (v : Survey) → ((q : ℕ) → contains nat_eq s.keys q ≡ false) → s.left ≡ limit
    → IsTaking versions (version_now run.files) run limit v s v 0
taking_none versions run limit s v empty all =
    let so = sampled_none (λ (x : Image). MayLeave run.files x) run limit s v empty all in
    let count = so.count in
    record {
      so = so;
      are = λ k d below. absurd (omega (arith, below, count, all));
      each = λ k image below member. absurd (omega (arith, below));
      left = omega (arith, all);
    }

-- of a number there is none
pub taking_next : (versions : List Named) (run : RunState) (limit : ℕ) (first : Survey) (s : Sample) (v : Survey) (n m : ℕ) → IsTaking versions (version_now run.files) run limit first s v n
    → ((other : Image) → ¬ IsMemberAt run.files versions (version_now run.files) n other) → m ≡ n + 1 → IsTaking versions (version_now run.files) run limit first s v m
taking_next versions run limit first s v n m is none e = record {
  so = is.so;
  are = is.are;
  each = λ k image below member. elim (cases_lt k n) [
    | inl less ↦ is.each k image less member
    | inr past ↦ absurd (none image (let same : k ≡ n = omega (arith, e, below, past) in subst (λ (i : ℕ). IsMemberAt run.files versions (version_now run.files) i image) same member))
  ];
  left = is.left;
}

-- one that goes on takes one more, or none
left_on : (run : RunState) (half : ℕ) (image : Image) (s t : Sample) (v w : Survey) → half < s.left → GoesOn run image s t v w → half ≤ t.left
left_on run half image s t v w more (inl (taken, one)) = omega (arith, more, taken.1)
left_on run half image s t v w more (inr (passed, same)) = omega (arith, more, passed.1)

all_of : (P : Image → Type 0) (image : Image) (more : List Judged) → P image → All (λ x. x.image ≡ image) more → All (λ x. P x.image) more
all_of P image more is of = λ k d below. subst P (sym (of k d below)) is

-- the image of a number is taken, unless one of its key was
pub taking_more : (versions : List Named) (run : RunState) (limit : ℕ) (first : Survey) (s t : Sample) (v w : Survey) (n m : ℕ) (image : Image)
    → IsTaking versions (version_now run.files) run limit first s v n → IsMemberAt run.files versions (version_now run.files) n image → MayLeave run.files image → limit / 2 < s.left
    → GoesOn run image s t v w → m ≡ n + 1 → IsTaking versions (version_now run.files) run limit first t w m
taking_more versions run limit first s t v w n m image is member may more on e =
    let now = version_now run.files in
    let next = sampled_on (λ (x : Image). MayLeave run.files x) run limit first s t v w image is.so may (omega (arith, more)) on in
    let judged = is.so.judged in
    let Likely : Judged → Type 0 = λ x. IsLikely run.files versions x.image in
    let likely : IsLikely run.files versions image = likely_at run.files versions n image member in
    let are : All Likely (judged ++ next.more) = All-append Likely judged next.more is.are (all_of (λ x. IsLikely run.files versions x) image next.more likely next.of) in
    let has : (q : ℕ) → Contains (map key judged) q → Contains (map key next.so.judged) q = λ q there.
    let front = Contains-append_left (map key judged) (map key next.more) q there in
    let same : map key judged ++ map key next.more ≡ map key next.so.judged = sym (map-append key judged next.more) ∙ ap (λ (l : List Judged). map key l) (sym next.longer) in
    subst (λ (l : List ℕ). Contains l q) same front in
    record {
      so = next.so;
      are = subst (λ (l : List Judged). All Likely l) (sym next.longer) are;
      each = λ k other below there. elim (cases_lt k n) [
        | inl less ↦ has (key_of other) (is.each k other less there)
        | inr past ↦
            let at : IsMemberAt run.files versions now n other = (let same : k ≡ n = omega (arith, e, below, past) in subst (λ (i : ℕ). IsMemberAt run.files versions now i other) same there) in
            let alike = same_member run.files versions now n image other member at in
            let keys : key_of image ≡ key_of other = key_alike image other alike.db alike.wal alike.journal in
            subst (λ (q : ℕ). Contains (map key next.so.judged) q) keys next.has
      ];
      left = left_on run (limit / 2) image s t v w more on;
    }
  where
    key_alike : (x y : Image) → x.db.items ≡ y.db.items → x.wal.items ≡ y.wal.items → x.journal.items ≡ y.journal.items → key_of x ≡ key_of y
    key_alike x y db wal journal = cc

-- half of the limit is taken
pub taking_enough : (versions : List Named) (run : RunState) (limit : ℕ) (first : Survey) (s : Sample) (v : Survey) (n : ℕ) → IsTaking versions (version_now run.files) run limit first s v n
    → s.left ≤ limit / 2 → IsDrawing versions run limit first s v
taking_enough versions run limit first s v n is enough =
    let left = is.left in
    let count = is.so.count in
    record {
      so = is.so;
      likeliest = record {
        likely = is.so.judged;
        drawn = [];
        first = sym (append-nil is.so.judged);
        are = is.are;
        most = omega (arith, left, count);
        all = inl (omega (arith, left, count, enough));
      };
    }

-- all are taken
pub taking_all : (versions : List Named) (run : RunState) (limit : ℕ) (first : Survey) (s : Sample) (v : Survey) (n : ℕ) → IsTaking versions (version_now run.files) run limit first s v n
    → member_count versions (version_now run.files) ≤ n → IsDrawing versions run limit first s v
taking_all versions run limit first s v n is all =
    let left = is.left in
    let count = is.so.count in
    record {
      so = is.so;
      likeliest = record {
        likely = is.so.judged;
        drawn = [];
        first = sym (append-nil is.so.judged);
        are = is.are;
        most = omega (arith, left, count);
        all = inr (λ image likely. let at = each_likely run.files versions image likely in is.each at.0 image (let less = at.1 in omega (arith, less, all)) at.2);
      };
    }

-- ---- what is made for a player's files, which are those of a run

abbrev named_all : List Version → List Named
named_all versions = map (λ v. named_of v) versions

pub member_of : (s t : Files) (versions : List Version) (f : Families) (but : Option Which) (old new : Image) (n : ℕ) (made : Bool) → s ≡ t → AreFamilies t versions f → IsKept t (version_now t) but old
    → (IsKept s (named_of f.present) but old → IsMember s (named_all f.versions.now) (named_of f.present) n new made) → IsMember t (named_all versions) (version_now t) n new made
member_of s t versions f but old new n made same are kept member =
    let there : IsMember s (named_all f.versions.now) (named_of f.present) n new made =
    member (subst (λ (x : Files). IsKept x (named_of f.present) but old) (sym same) (subst (λ (v : Named). IsKept t v but old) (sym are.present) kept)) in
    subst (λ (vs : List Version). IsMember t (named_all vs) (version_now t) n new made) are.versions
    (subst (λ (v : Named). IsMember t (named_all f.versions.now) v n new made) are.present (subst (λ (x : Files). IsMember x (named_all f.versions.now) (named_of f.present) n new made) same there))

pub kept_on : (s t : Files) (versions : List Version) (f : Families) (but then : Option Which) (old new : Image) → s ≡ t → AreFamilies t versions f → IsKept t (version_now t) but old
    → (IsKept s (named_of f.present) but old → IsKept s (named_of f.present) then new) → IsKept t (version_now t) then new
kept_on s t versions f but then old new same are kept on =
    let there : IsKept s (named_of f.present) then new =
    on (subst (λ (x : Files). IsKept x (named_of f.present) but old) (sym same) (subst (λ (v : Named). IsKept t v but old) (sym are.present) kept)) in
    subst (λ (v : Named). IsKept t v then new) are.present (subst (λ (x : Files). IsKept x (named_of f.present) then new) same there)

pub families_on : (t : Files) (versions : List Version) (f g : Families) (but : Option Which) → AreFamilies t versions f → g ≡ record f { but = but } → AreFamilies t versions g
families_on t versions f g but are is =
    record { versions = ap (λ (x : Families). x.versions.now) is ∙ are.versions; present = ap (λ (x : Families). named_of x.present) is ∙ are.present }

pub none_kept : (t : Files) (image : Image) (but : Option Which) → but ≡ None → IsKept t (version_now t) but image
none_kept t image but is = subst (λ (o : Option Which). IsKept t (version_now t) o image) (sym is) tt

pub some_made : (t : Files) (versions : List Named) (n : ℕ) (image : Image) (made : Bool) → IsMember t versions (version_now t) n image made → made ≡ true
    → IsMemberAt t versions (version_now t) n image × MayLeave t image
some_made t versions n image made member is = subst (λ (b : Bool). IsMember t versions (version_now t) n image b) is member

pub none_made : (t : Files) (versions : List Named) (n : ℕ) (image : Image) (made : Bool) → IsMember t versions (version_now t) n image made → made ≡ false
    → (other : Image) → ¬ IsMemberAt t versions (version_now t) n other
none_made t versions n image made member is = subst (λ (b : Bool). IsMember t versions (version_now t) n image b) is member
