-- Images that are drawn are taken into a sample, each once.
use Rattle.std.proofs.Common.{◌≡◌, inl, inr, ℕ, zero, suc, ◌<◌, Bool, true, false, cond, nat_eq, List, [], ◌∷◌, ◌++◌, length, get_or, map, refl, sym, ◌∙◌, ap, subst, append_assoc, append-nil, length-append, arith}
use Rattle.std.proofs.lemmas.Bool.{cases_lt, cases_eq}
use Rattle.std.proofs.lemmas.Bool.Decides.{nat_tests}
use Rattle.std.proofs.lemmas.List.Elements.{All-append, Contains-append_left, Contains-append_right}
use Rattle.std.proofs.lemmas.List.{map-append}
use Rattle.std.proofs.Math.ListN.{get_or-append}
use Rattle.std.proofs.Math.Seq.{get_or-append_seam}
use Rattle.std.specs.HashSet.{contains}
use Rattle.std.specs.List.{All, AllPairs, Contains}
use Rattle.rig_images.specs.Keys.{key_of}
use Rattle.rig_images.specs.declared.image.Image.{Image}
use Rattle.std.specs.Bool.{MatchBool}
use Rattle.rig_families.specs.Versions.{Named}
use Rattle.rig_images.specs.Left.{MayLeave}
use Rattle.rig_play.specs.Plays.{Files}
use Rattle.rig_images.specs.Torn.{MayLeaveTorn, NoneTears}
use Rattle.rig_images.specs.declared.torn.Which.{Which}
use Rattle.sqcrash.specs.Runs.{RunState}
use Rattle.sqcrash.specs.Surveys.{AreLikeliestFirst, AreSame, Judged, IsDrawnSurvey, IsSample}
use Rattle.sqcrash.specs.Samples.{Takes, TakesOne, GoesOn, IsDrawing, IsSampled}
use Rattle.sqcrash.specs.internal.Samples.{IsSampledOn}
use Rattle.sqcrash.specs.declared.sample.Sample.{Sample}
use Rattle.sqcrash.specs.declared.survey.Survey.{Survey}
use Rattle.sqcrash.proofs.TallyOfJudgedImages.{all_one, all_none, tells_more, tells_none}

-- a relation of each with each later one holds with one more at the end to which each has it
pairs_more : {X : Type 0} (R : X → X → Type 0) (xs : List X) (x : X) → AllPairs R xs → All (λ y. R y x) xs → AllPairs R (xs ++ x ∷ [])
pairs_more R xs x pairs all i j d less within = elim (cases_lt j (length xs)) [
  | inl lt ↦
      let a = get_or-append xs (x ∷ []) d i (omega arith) in
      let b = get_or-append xs (x ∷ []) d j lt in
      rw (a, b) (pairs i j d less lt)
  | inr past ↦
      let a = get_or-append xs (x ∷ []) d i (omega (arith, length-append xs (x ∷ []))) in
      let last : j ≡ length xs = omega (arith, length-append xs (x ∷ [])) in
      let b = ap (λ (k : ℕ). get_or (xs ++ x ∷ []) k d) last ∙ get_or-append_seam xs x [] d in
      rw (a, b) (all i d (omega arith))
]

-- the same files have the same key
key_same : (a b : Image) → AreSame a b → key_of a ≡ key_of b
key_same a b same = cc

true_or : (b c : Bool) → c ≡ true → cond b true c ≡ true
true_or true c e = refl
true_or false c e = e

same_key : (q : ℕ) (b : Bool) → cond (nat_eq q q) true b ≡ true
same_key q b = let e : nat_eq q q ≡ true = grind (arith, nat_tests) in ap (λ (c : Bool). cond c true b) e

-- no image is taken yet
pub sampled_none : (Left : Image → Type 0) (run : RunState) (limit : ℕ) (s : Sample) (v : Survey) → ((q : ℕ) → contains nat_eq s.keys q ≡ false) → s.left ≡ limit → IsSampled Left run limit v s v
sampled_none Left run limit s v empty all = record {
  judged = [];
  left = all_none (λ (x : Judged). Left x.image);
  differ = λ i j d less within. absurd (omega arith);
  only = λ q there. let no : false ≡ true = sym (empty q) ∙ there in absurd (cc no);
  keyed = all_none (λ (x : Judged). contains nat_eq s.keys (key_of x.image) ≡ true);
  none = λ nothing. empty;
  count = omega (arith, all);
  told = tells_none run v;
}

-- the key of an image
abbrev key : Judged → ℕ
key x = key_of x.image

-- what was among the keys is so with one more
keys_more : (judged : List Judged) (x : Judged) (q : ℕ) → Contains (map key judged) q → Contains (map key (judged ++ x ∷ [])) q
keys_more judged x q has = subst (λ (l : List ℕ). Contains l q) (sym (map-append key judged (x ∷ []))) (Contains-append_left (map key judged) (map key (x ∷ [])) q has)

keys_last : (judged : List Judged) (x : Judged) → Contains (map key (judged ++ x ∷ [])) (key x)
keys_last judged x =
    subst (λ (l : List ℕ). Contains l (key x)) (sym (map-append key judged (x ∷ []))) (Contains-append_right (map key judged) (map key (x ∷ [])) (key x) (0, omega arith, refl))

-- one more is taken and judged
pub sampled_more : (Left : Image → Type 0) (run : RunState) (limit : ℕ) (first : Survey) (s t : Sample) (v w : Survey) (image : Image)
    → (so : IsSampled Left run limit first s v) → Left image → Takes (key_of image) true s t → TakesOne run image v w → IsSampledOn Left run limit first so.judged image t w
sampled_more Left run limit first s t v w image so_far left taken one =
    let x : Judged = record { image = image; judgment = one.0; missing = one.1 } in
    let judged = so_far.judged in
    let long = length-append judged (x ∷ []) in
    let Keyed : Judged → Type 0 = λ y. contains nat_eq t.keys (key_of y.image) ≡ true in
    let other : All (λ y. ¬ AreSame y.image image) judged = λ k d below. λ same.
    let no : false ≡ true = sym taken.0 ∙ ap (λ (q : ℕ). contains nat_eq s.keys q) (sym (key_same (get_or judged k d).image image same)) ∙ so_far.keyed k d below in cc in
    let old : All Keyed judged = λ k d below. taken.2 (key_of (get_or judged k d).image) ∙ true_or (nat_eq (key_of image) (key_of (get_or judged k d).image)) _ (so_far.keyed k d below) in
    let only : (q : ℕ) → contains nat_eq t.keys q ≡ true → Contains (map key (judged ++ x ∷ [])) q = λ q there.
    which_key q (key_of image) (contains nat_eq s.keys q) (sym (taken.2 q) ∙ there) (λ e. subst (λ (k : ℕ). Contains (map key (judged ++ x ∷ [])) k) e (keys_last judged x)) (λ was. keys_more judged x q (so_far.only q was)) in
    let so : IsSampled Left run limit first t w = record {
      judged = judged ++ x ∷ [];
      left = All-append (λ (y : Judged). Left y.image) judged (x ∷ []) so_far.left (all_one (λ (y : Judged). Left y.image) x left);
      differ = pairs_more (λ (y z : Judged). ¬ AreSame y.image z.image) judged x so_far.differ other;
      only = only;
      keyed = All-append Keyed judged (x ∷ []) old (all_one Keyed x (taken.2 (key_of image) ∙ same_key (key_of image) (contains nat_eq s.keys (key_of image))));
      none = λ nothing. absurd (omega (arith, long));
      count = omega (arith, so_far.count, taken.1, long);
      told = tells_more run judged x first v w so_far.told one.2 one.3;
    } in
    record { so = so; some = omega (arith, long); more = x ∷ []; longer = refl; of = all_one (λ (y : Judged). y.image ≡ image) x refl; has = keys_last judged x }
  where
    which_key : {C : Type 0} (q k : ℕ) (b : Bool) → cond (nat_eq k q) true b ≡ true → (k ≡ q → C) → (b ≡ true → C) → C
    which_key q k b e same other = elim (cases_eq k q) [
      | inl is ↦ same is
      | inr differ ↦ other (let no : nat_eq k q ≡ false = grind (arith, nat_tests) in ap (λ (c : Bool). cond c true b) (sym no) ∙ e)
    ]

-- one is passed over
pub sampled_same : (Left : Image → Type 0) (run : RunState) (limit : ℕ) (first : Survey) (s t : Sample) (v : Survey) (image : Image)
    → (so : IsSampled Left run limit first s v) → Takes (key_of image) false s t → 0 < s.left → IsSampledOn Left run limit first so.judged image t v
sampled_same Left run limit first s t v image so_far passed more =
    let there : contains nat_eq s.keys (key_of image) ≡ true = elim passed.0 [ inl full ↦ absurd (omega arith) | inr there ↦ there ] in
    record {
      so = record {
        judged = so_far.judged;
        left = so_far.left;
        differ = so_far.differ;
        only = λ q is. so_far.only q (sym (passed.2 q) ∙ is);
        keyed = λ k d below. passed.2 (key_of (get_or so_far.judged k d).image) ∙ so_far.keyed k d below;
        none = λ nothing q. passed.2 q ∙ so_far.none nothing q;
        count = omega (arith, so_far.count, passed.1);
        told = so_far.told;
      };
      some = some (length so_far.judged) refl there;
      more = [];
      longer = sym (append-nil so_far.judged);
      of = all_none (λ (y : Judged). y.image ≡ image);
      has = so_far.only (key_of image) there;
    }
  where
    some : (n : ℕ) → length so_far.judged ≡ n → contains nat_eq s.keys (key_of image) ≡ true → 0 < length so_far.judged
    some zero e there = let no : false ≡ true = sym (so_far.none e (key_of image)) ∙ there in absurd (cc no)
    some (suc n) e there = omega arith

-- one is taken or passed over
pub sampled_on : (Left : Image → Type 0) (run : RunState) (limit : ℕ) (first : Survey) (s t : Sample) (v w : Survey) (image : Image)
    → (so : IsSampled Left run limit first s v) → Left image → 0 < s.left → GoesOn run image s t v w → IsSampledOn Left run limit first so.judged image t w
sampled_on Left run limit first s t v w image so_far left more on = elim on [
  | inl taken ↦ sampled_more Left run limit first s t v w image so_far left taken.0 taken.1
  | inr passed ↦ subst (λ (x : Survey). IsSampledOn Left run limit first so_far.judged image t x) (sym passed.1) (sampled_same Left run limit first s t v image so_far passed.0 more)
]

-- the likeliest were taken, and one behind them is taken or passed over
pub drawing_on : (versions : List Named) (run : RunState) (limit : ℕ) (first : Survey) (s t : Sample) (v w : Survey) (image : Image)
    → IsDrawing versions run limit first s v → MayLeave run.files image → 0 < s.left → GoesOn run image s t v w → (is : IsDrawing versions run limit first t w) × (0 < length is.so.judged)
drawing_on versions run limit first s t v w image is may more on =
    let next = sampled_on (λ (x : Image). MayLeave run.files x) run limit first s t v w image is.so may more on in
    let was = is.likeliest in
    let likeliest : AreLikeliestFirst run.files versions limit next.so.judged = record {
      likely = was.likely;
      drawn = was.drawn ++ next.more;
      first = next.longer ∙ ap (λ (l : List Judged). l ++ next.more) was.first ∙ append_assoc was.likely was.drawn next.more;
      are = was.are;
      most = was.most;
      all = was.all;
    } in
    (record { so = next.so; likeliest = likeliest }, next.some)

-- enough were drawn
pub sample_done : (Left : Image → Type 0) (run : RunState) (limit : ℕ) (old new : Survey) (s : Sample) (so : IsSampled Left run limit old s new) → (0 < limit → 0 < length so.judged) → IsSample Left run limit old new
sample_done Left run limit old new s so some = record { judged = so.judged; left = so.left; differ = so.differ; some = some; most = omega (arith, so.count); told = so.told }

-- the same of what the likeliest begin
pub drawing_done : (versions : List Named) (run : RunState) (limit : ℕ) (old new : Survey) (s : Sample) (is : IsDrawing versions run limit old s new) → (0 < limit → 0 < length is.so.judged) → IsDrawnSurvey versions run limit old new
drawing_done versions run limit old new s is some =
    let so = is.so in
    let count = so.count in
    record { sample = record { judged = so.judged; left = so.left; differ = so.differ; some = some; most = omega (arith, count); told = so.told }; likeliest = is.likeliest }

-- where a file was torn it can be torn again
pub still_torn : (s : Files) (w : Which) (old new : Image) (b : Bool) → MayLeaveTorn s w old → MatchBool b (MayLeaveTorn s w new) (NoneTears s w) → MayLeaveTorn s w new
still_torn s w old new true was is = is
still_torn s w old new false was none = absurd (none was.0 was.1 was.2 was.3)
