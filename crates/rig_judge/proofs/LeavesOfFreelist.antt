-- The leaves among the pages of a freelist.
use Rattle.std.proofs.Common.{◌≡◌, ◌≢◌, ℕ, zero, suc, ◌-◌, ◌<◌, List, [], ◌∷◌, ◌++◌, length, flat_map, refl, sym, ◌∙◌, ap, subst, inl, inr, arith}
use Rattle.sqval.specs.Database.{Database, page}
use Rattle.sqpage.specs.Lists.{each_from}
use Rattle.sqpage.specs.Freelist.{IsFreelist, free_pages, leaf_count_in, leaf_in, leaves_in, pages_under}
use Rattle.sqpage.proofs.chain.WalkOverFreelist.{no_pages}
use Rattle.rig_judge.specs.Leaves.{AreLeaves}
use Rattle.rig_judge.specs.internal.Leaves.{leaves_of}

-- the leaves of a trunk that came before are leaves
pub leaves_skip : (d : Database) (xs ys : List ℕ) → leaves_of d (length xs) (xs ++ ys) ≡ xs ++ leaves_of d 0 ys
leaves_skip d [] ys = refl
leaves_skip d (x ∷ xs) ys = ap (λ l. x ∷ l) (leaves_skip d xs ys)

length_each : (i k : ℕ) (f : ℕ → ℕ) → length (each_from i k f) ≡ k
length_each i zero f = refl
length_each i (suc k) f = ap suc (length_each (suc i) k f)

-- the leaves among trunks with their leaves
pub leaves_of_under : (d : Database) (trunks : List ℕ) → leaves_of d 0 (pages_under d trunks) ≡ flat_map (λ t. leaves_in (page d t)) trunks
leaves_of_under d [] = refl
leaves_of_under d (t ∷ trunks) =
    let b = page d t in
    let e : length (leaves_in b) ≡ leaf_count_in b = length_each 0 (leaf_count_in b) (leaf_in b) in
    let P : ℕ → Type 0 = λ n. leaves_of d n (leaves_in b ++ pages_under d trunks) ≡ leaves_in b ++ leaves_of d 0 (pages_under d trunks) in
    subst P e (leaves_skip d (leaves_in b) (pages_under d trunks)) ∙ ap (λ l. leaves_in b ++ l) (leaves_of_under d trunks)

-- one page further
pub leaf_step : (d : Database) (left p : ℕ) (pages : List ℕ) → 0 < left → leaves_of d left (p ∷ pages) ≡ p ∷ leaves_of d (left - 1) pages
leaf_step d zero p pages h = absurd (omega arith)
leaf_step d (suc left) p pages h = let e : suc left - 1 ≡ left = omega arith in ap (λ n. p ∷ leaves_of d n pages) (sym e)

pub trunk_step : (d : Database) (left p : ℕ) (pages : List ℕ) → left ≡ 0 → leaves_of d left (p ∷ pages) ≡ leaves_of d (leaf_count_in (page d p)) pages
trunk_step d left p pages h = ap (λ n. leaves_of d n (p ∷ pages)) h

-- the leaves of a sound freelist
pub leaves_are : (d : Database) (pages leaves : List ℕ) → IsFreelist d pages → length pages ≡ free_pages d → leaves ≡ leaves_of d 0 pages → AreLeaves d leaves
leaves_are d pages leaves f count e =
    let r = f.1 in
    inl (r.trunks, record { last = f.0; linked = r.linked; sound = r.sound; count = ap length (sym r.taken_are) ∙ count }, e ∙ ap (leaves_of d 0) r.taken_are ∙ leaves_of_under d r.trunks)

-- none where it isn't sound
pub no_leaves : (d : Database) (leaves : List ℕ) → ((pages : List ℕ) → IsFreelist d pages → length pages ≢ free_pages d) → leaves ≡ [] → AreLeaves d leaves
no_leaves d leaves none e =
    inr (λ trunks t. none (pages_under d trunks) (t.last, record { trunks = trunks; linked = t.linked; sound = t.sound; taken_are = refl }) t.count, e)

-- those of a database of no pages
pub leaves_of_nothing : (leaves : List ℕ) → leaves ≡ [] → AreLeaves [] leaves
leaves_of_nothing leaves e = let f = no_pages [] [] refl refl in leaves_are [] [] leaves f.0 f.1 e
