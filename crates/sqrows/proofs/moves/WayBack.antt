-- What a cursor's moves leave, backwards: what is left behind a move was left before it.
use Rattle.std.proofs.Common.{◌≡◌, ℕ, suc, ◌+◌, ◌-◌, ◌<◌, ◌≤◌, Bool, true, List, [], ◌∷◌, ◌++◌, length, take, reverse, refl, sym, ap, ◌∙◌, subst, arith, append_assoc, append-nil}
use Rattle.std.proofs.lemmas.List.{length-reverse}
use Rattle.sqval.specs.Database.{Database, page}
use Rattle.sqpage.specs.Freelist.{IsPage, usable_size}
use Rattle.sqpage.specs.Header.{byte}
use Rattle.sqpage.specs.Lists.{each_from}
use Rattle.sqpage.specs.Page.{Page, code_of, head_at, is_table, cell_count, pointers_end_in}
use Rattle.sqcheck.specs.Places.{page_as, HasKind, IsCellAt}
use Rattle.sqrows.specs.declared.level.Level.{Level}
use Rattle.sqrows.specs.declared.cells.Cells.{Cells}
use Rattle.sqrows.specs.declared.level.Step.TheVariants.{Cell as OwnCell, Child}
use Rattle.sqrows.specs.Trees.{Entry, entry_of, IsTree, IsChild, step_count, step_of, Along, Lists}
use Rattle.sqrows.specs.Cursor.{page_of, steps_of, steps_left, Left, IsOver, IsLeft, Moves}
use Rattle.sqrows.specs.internal.Opening.{IsOpened}
use Rattle.sqrows.proofs.moves.StepsOfPage.{one_step, no_step}
use Rattle.sqrows.proofs.moves.LevelsOfTree.{behind}
use Rattle.sqrows.proofs.moves.MovesOfCursor.{page_opened, reverse_snoc}

-- along the page of another level
moved_back : (B : (p k : ℕ) → List Entry → Type 0) (l l' : Level) (k : ℕ) (xs : List Entry) → page_of l' ≡ page_of l → l'.index ≡ suc l.index
    → Along B (page_of l') (steps_left l') k xs → Along B (page_of l) (behind l) k xs
moved_back B l l' k xs e i along =
    subst (λ j. Along B (page_of l) (each_from j (steps_of l - j) (step_of l.kind)) k xs) i
    (subst (λ (b : Page). Along B b (each_from l'.index (step_count b.kind (cell_count b) - l'.index) (step_of b.kind)) k xs) e along)

opened_back : (B : (p k : ℕ) → List Entry → Type 0) (l : Level) (b : Page) (k : ℕ) (xs : List Entry) → page_of l ≡ b → l.index ≡ 0
    → Along B (page_of l) (steps_left l) k xs → Along B b (each_from 0 (step_count b.kind (cell_count b)) (step_of b.kind)) k xs
opened_back B l b k xs e i along =
    let first : Along B (page_of l) (each_from 0 (steps_of l - 0) (step_of l.kind)) k xs =
    subst (λ j. Along B (page_of l) (each_from j (steps_of l - j) (step_of l.kind)) k xs) i along in
    let same : steps_of l - 0 ≡ steps_of l = omega arith in
    subst (λ (b : Page). Along B b (each_from 0 (step_count b.kind (cell_count b)) (step_of b.kind)) k xs) e
    (subst (λ n. Along B (page_of l) (each_from 0 n (step_of l.kind)) k xs) same first)

-- The tree of an opened page, along which these are left.
opened_lists : (d : Database) (table : Bool) (levels p usable k : ℕ) (l : Level) (xs : List Entry) → IsPage d p → IsOpened (page d p) usable p l → usable ≡ usable_size d → is_table l.kind ≡ table
    → Along (Lists d table levels) (page_of l) (steps_left l) k xs → Lists d table (suc levels) p (suc k) xs
opened_lists d table levels p usable k l xs is o u same along =
    let typed : HasKind d l.kind p = subst (λ (n : ℕ). byte (take n (page d p)) (head_at p) ≡ code_of l.kind) u o.typed in
    let page_is : page_of l ≡ page_as d l.kind p = page_opened d p usable l.kind l o u typed in
    let pointers : pointers_end_in l.kind (page_as d l.kind p).used p ≤ usable_size d =
    subst (λ (n : ℕ). pointers_end_in l.kind (page_as d l.kind p).used p ≤ n) (o.usable_is ∙ u)
    (subst (λ (n : ℕ). pointers_end_in l.kind (page_as d l.kind p).used n ≤ l.usable) o.numbered
    (subst (λ (b : Page). pointers_end_in l.kind b.used l.number ≤ l.usable) page_is l.pointers)) in
    (l.kind, k, is, typed, same, pointers, refl, opened_back (Lists d table levels) l (page_as d l.kind p) k xs page_is o.first along)

-- Down to a child.
pub came_down : (d : Database) (old new : Cells) (l : Level) (i p : ℕ) → old.top.index < steps_of old.top → step_of old.top.kind old.top.index ≡ Child i → IsChild (page_of old.top) i p → IsPage d p
    → length old.above.items < 19 → IsOpened (page d p) old.usable p new.top → is_table new.top.kind ≡ old.table → 0 < old.allowed
    → page_of l ≡ page_of old.top → l.index ≡ suc old.top.index → new.above.items ≡ old.above.items ++ l ∷ [] → new.table ≡ old.table → new.usable ≡ old.usable → new.allowed ≡ old.allowed - 1
    → (xs : List Entry) → IsLeft d new xs → IsLeft d old xs
came_down d old new l i p lt step child is shallow o same few page_is index items table usable allowed xs left =
    let ls : List Level = reverse old.above.items in
    let levels : reverse new.above.items ≡ l ∷ ls = ap (λ z. reverse z) items ∙ reverse_snoc old.above.items l in
    let all : Left d old.table (new.top ∷ l ∷ ls) left.pages xs =
    subst (λ z. Left d old.table (new.top ∷ z) left.pages xs) levels (subst (λ t. Left d t (new.top ∷ reverse new.above.items) left.pages xs) table left.along) in
    let up = all.5 in
    let deep : suc (19 - suc (length ls)) ≡ 19 - length ls = let n = length-reverse old.above.items in omega (arith, n, shallow) in
    let lists : Lists d old.table (19 - length ls) p (suc all.0) all.2 =
    subst (λ z. Lists d old.table z p (suc all.0) all.2) deep
    (opened_lists d old.table (19 - suc (length ls)) p old.usable all.0 new.top all.2 is o (sym usable ∙ left.usable) same all.4) in
    let on : Along (Lists d old.table (19 - length ls)) (page_of old.top) (behind old.top) up.0 up.2 = moved_back (Lists d old.table (19 - length ls)) old.top l up.0 up.2 page_is index up.4 in
    let along : Along (Lists d old.table (19 - length ls)) (page_of old.top) (Child i ∷ behind old.top) (suc all.0 + up.0) (all.2 ++ up.2) = (p, suc all.0, up.0, all.2, up.2, child, lists, on, refl, refl) in
    let steps : steps_left old.top ≡ Child i ∷ behind old.top = one_step (step_of old.top.kind) old.top.index (steps_of old.top) lt ∙ ap (λ s. s ∷ behind old.top) step in
    record {
      pages = suc left.pages;
      within = let w = left.within in omega (arith, w, few, allowed);
      usable = sym usable ∙ left.usable;
      along = (
        suc all.0 + up.0,
        up.1,
        all.2 ++ up.2,
        up.3,
        subst (λ s. Along (Lists d old.table (19 - length ls)) (page_of old.top) s (suc all.0 + up.0) (all.2 ++ up.2)) (sym steps) along,
        up.5,
        let a = all.6 in let b = up.6 in omega (arith, a, b),
        all.7 ∙ ap (λ z. all.2 ++ z) up.7 ∙ sym (append_assoc all.2 up.2 up.3),
      );
    }

-- No step is left at a level.
done : (d : Database) (table : Bool) (ls : List Level) (l : Level) (k : ℕ) (xs : List Entry) → steps_of l ≤ l.index → Left d table ls k xs → Left d table (l ∷ ls) k xs
done d table ls l k xs le left =
    let along : Along (Lists d table (19 - length ls)) (page_of l) (steps_left l) 0 [] =
    subst (λ s. Along (Lists d table (19 - length ls)) (page_of l) s 0 []) (sym (no_step (step_of l.kind) l.index (steps_of l) le)) (refl, refl) in
    (0, k, [], xs, along, left, omega arith, refl)

-- Up to the level above.
pub came_up : (d : Database) (old new : Cells) → steps_of old.top ≤ old.top.index → old.above.items ≡ new.above.items ++ new.top ∷ [] → new.table ≡ old.table → new.usable ≡ old.usable → new.allowed ≡ old.allowed
    → (xs : List Entry) → IsLeft d new xs → IsLeft d old xs
came_up d old new le items table usable allowed xs left =
    let levels : reverse old.above.items ≡ new.top ∷ reverse new.above.items = ap (λ z. reverse z) items ∙ reverse_snoc new.above.items new.top in
    let up : Left d old.table (reverse old.above.items) left.pages xs =
    subst (λ z. Left d old.table z left.pages xs) (sym levels) (subst (λ t. Left d t (new.top ∷ reverse new.above.items) left.pages xs) table left.along) in
    record {
      pages = left.pages;
      within = let w = left.within in omega (arith, w, allowed);
      usable = sym usable ∙ left.usable;
      along = done d old.table (reverse old.above.items) old.top left.pages xs le up;
    }

pub all_given : (d : Database) (old : Cells) → steps_of old.top ≤ old.top.index → old.above.items ≡ [] → IsOver d old → (xs : List Entry) → xs ≡ [] → IsLeft d old xs
all_given d old le items over xs none =
    let levels : reverse old.above.items ≡ [] = ap (λ z. reverse z) items in
    let up : Left d old.table (reverse old.above.items) 0 xs = subst (λ z. Left d old.table z 0 xs) (sym levels) (refl, none) in
    record { pages = 0; within = omega arith; usable = over; along = done d old.table (reverse old.above.items) old.top 0 xs le up }

-- The cell that came next.
pub moved_from : (d : Database) (old new : Cells) (i : ℕ) → old.top.index < steps_of old.top → step_of old.top.kind old.top.index ≡ OwnCell i
    → page_of new.top ≡ page_of old.top → new.top.index ≡ suc old.top.index → new.at ≡ i → new.above.items ≡ old.above.items → new.table ≡ old.table → new.usable ≡ old.usable → new.allowed ≡ old.allowed
    → (xs : List Entry) → Moves d true xs new → IsLeft d old xs
moved_from d old new i lt step same index at items table usable allowed xs move =
    let ls : List Level = reverse old.above.items in
    let left = move.4 in
    let is = move.3 in
    let all : Left d old.table (new.top ∷ ls) left.pages move.1 =
    subst (λ (z : List Level). Left d old.table (new.top ∷ reverse z) left.pages move.1) items (subst (λ t. Left d t (new.top ∷ reverse new.above.items) left.pages move.1) table left.along) in
    let on = moved_back (Lists d old.table (19 - length ls)) old.top new.top all.0 all.2 same index all.4 in
    let cell : IsCellAt (page_of old.top) i is.cell = subst (λ j. IsCellAt (page_of old.top) j is.cell) at (subst (λ (b : Page). IsCellAt b new.at is.cell) same is.is) in
    let along : Along (Lists d old.table (19 - length ls)) (page_of old.top) (OwnCell i ∷ behind old.top) all.0 (entry_of i is.cell ∷ all.2) = (is.cell, all.2, cell, refl, on) in
    let steps : steps_left old.top ≡ OwnCell i ∷ behind old.top = one_step (step_of old.top.kind) old.top.index (steps_of old.top) lt ∙ ap (λ s. s ∷ behind old.top) step in
    let first : move.0 ≡ entry_of i is.cell = is.entry ∙ ap (λ j. entry_of j is.cell) at in
    let are : xs ≡ (entry_of i is.cell ∷ all.2) ++ all.3 = move.2 ∙ ap (λ e. e ∷ move.1) first ∙ ap (λ z. entry_of i is.cell ∷ z) all.7 in
    record {
      pages = left.pages;
      within = let w = left.within in omega (arith, w, allowed);
      usable = sym usable ∙ left.usable;
      along = (
        all.0,
        all.1,
        entry_of i is.cell ∷ all.2,
        all.3,
        subst (λ s. Along (Lists d old.table (19 - length ls)) (page_of old.top) s all.0 (entry_of i is.cell ∷ all.2)) (sym steps) along,
        all.5,
        all.6,
        are,
      );
    }

-- Back at the root.
pub tree_of : (d : Database) (root : ℕ) (cells : Cells) → IsPage d root → IsOpened (page d root) cells.usable root cells.top → 480 ≤ cells.usable → cells.above.items ≡ [] → cells.table ≡ is_table cells.top.kind → suc cells.allowed ≡ length d
    → (xs : List Entry) → IsLeft d cells xs → IsTree d root xs
tree_of d root cells is o least none table allowed xs left =
    let all : Left d cells.table (cells.top ∷ []) left.pages xs = subst (λ (z : List Level). Left d cells.table (cells.top ∷ reverse z) left.pages xs) none left.along in
    let rest : xs ≡ all.2 = all.7 ∙ ap (λ z. all.2 ++ z) all.5.1 ∙ append-nil all.2 in
    let count : all.0 ≡ left.pages = let a = all.6 in let b = all.5.0 in omega (arith, a, b) in
    record {
      table = cells.table;
      pages = suc left.pages;
      room = let u = left.usable in omega (arith, least, u);
      within = let w = left.within in omega (arith, w, allowed);
      lists = opened_lists d cells.table 19 root cells.usable left.pages cells.top xs is o left.usable (sym table)
          (subst (λ z. Along (Lists d cells.table 19) (page_of cells.top) (steps_left cells.top) left.pages z) (sym rest) (subst (λ n. Along (Lists d cells.table 19) (page_of cells.top) (steps_left cells.top) n all.2) count all.4));
    }
