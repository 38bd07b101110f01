-- What is left along the levels of a cursor.
use Rattle.std.proofs.Common.{◌≡◌, ℕ, zero, suc, ◌+◌, ◌-◌, ◌<◌, ◌≤◌, Bool, List, ◌∷◌, ◌++◌, length, refl, sym, ap, ◌∙◌, subst, arith, append_assoc}
use Rattle.sqval.specs.Database.{Database}
use Rattle.sqpage.specs.declared.cell.Cell.{Cell}
use Rattle.sqpage.specs.declared.kind.Kind.{Kind}
use Rattle.sqpage.specs.Freelist.{IsPage, usable_size}
use Rattle.sqpage.specs.Lists.{each_from}
use Rattle.sqpage.specs.Page.{is_table, cell_count, pointers_end_in}
use Rattle.sqcheck.specs.Places.{page_as, HasKind, IsCellAt}
use Rattle.sqrows.specs.declared.level.Level.{Level}
use Rattle.sqrows.specs.declared.level.Step.{Step}
use Rattle.sqrows.specs.declared.level.Step.TheVariants.{Cell as OwnCell, Child}
use Rattle.sqrows.specs.Trees.{Entry, entry_of, IsChild, step_count, step_of, Along, Lists}
use Rattle.sqrows.specs.Cursor.{page_of, steps_of, Left}
use Rattle.sqrows.proofs.moves.StepsOfPage.{one_step, no_step}

-- the steps behind the next one
abbrev pub behind : Level → List Step
behind l = each_from (suc l.index) (steps_of l - suc l.index) (step_of l.kind)

-- Where child i comes next: its page, what is left below it, and what behind it.
pub record Below (d : Database) (table : Bool) (ls : List Level) (l : Level) (i k : ℕ) (xs : List Entry) : Type 0 where
  pub p : ℕ
  pub kind : Kind
  pub down : ℕ
  pub on : ℕ
  pub up : ℕ
  pub first : List Entry
  pub next : List Entry
  pub more : List Entry
  pub child : IsChild (page_of l) i p
  pub shallow : length ls < 19
  pub page : IsPage d p
  pub typed : HasKind d kind p
  pub same : is_table kind ≡ table
  pub pointers : pointers_end_in kind (page_as d kind p).used p ≤ usable_size d
  pub along_down : Along (Lists d table (19 - suc (length ls))) (page_as d kind p) (each_from 0 (step_count kind (cell_count (page_as d kind p))) (step_of kind)) down first
  pub along_on : Along (Lists d table (19 - length ls)) (page_of l) (behind l) on next
  pub left_up : Left d table ls up more
  pub count : k ≡ suc (down + (on + up))
  pub are : xs ≡ first ++ (next ++ more)

module _ (d : Database) (table : Bool) (ls : List Level) (l : Level) (i k : ℕ) (xs : List Entry) where
  from_child : (on up : ℕ) (next more : List Entry) (p n : ℕ) (first : List Entry) (levels : ℕ) → levels ≡ 19 - length ls
      → IsChild (page_of l) i p → Lists d table levels p n first → Along (Lists d table (19 - length ls)) (page_of l) (behind l) on next
      → Left d table ls up more → k ≡ (n + on) + up → xs ≡ (first ++ next) ++ more → Below d table ls l i k xs
  from_child on up next more p n first zero e child lists along left count are = absurd lists
  from_child on up next more p n first (suc levels) e child lists along left count are =
      let below : ℕ = lists.1 in
      let shallow : length ls < 19 = omega (arith, e) in
      let deep : levels ≡ 19 - suc (length ls) = omega (arith, e) in
      let n_is : n ≡ suc below = lists.6 in
      record {
        p = p;
        kind = lists.0;
        down = below;
        on = on;
        up = up;
        first = first;
        next = next;
        more = more;
        child = child;
        shallow = shallow;
        page = lists.2;
        typed = lists.3;
        same = lists.4;
        pointers = lists.5;
        along_down = subst (λ z. Along (Lists d table z) (page_as d lists.0 p) (each_from 0 (step_count lists.0 (cell_count (page_as d lists.0 p))) (step_of lists.0)) below first) deep lists.7;
        along_on = along;
        left_up = left;
        count = omega (arith, count, n_is);
        are = are ∙ append_assoc first next more;
      }

  pub below : l.index < steps_of l → step_of l.kind l.index ≡ Child i → Left d table (l ∷ ls) k xs → Below d table ls l i k xs
  below lt step left =
      let n : ℕ = left.0 in
      let along = subst (λ s. Along (Lists d table (19 - length ls)) (page_of l) s left.0 left.2)
      (one_step (step_of l.kind) l.index (steps_of l) lt ∙ ap (λ s. s ∷ behind l) step) left.4 in
      from_child along.2 left.1 along.4 left.3 along.0 along.1 along.3 (19 - length ls) refl along.5 along.6 along.7 left.5
      (let a = left.6 in let b = along.8 in omega (arith, a, b)) (left.7 ∙ ap (λ z. z ++ left.3) along.9)

  -- Where cell i comes next, it is the first one.
  pub record First : Type 0 where
    pub cell : Cell
    pub rest : List Entry
    pub is : IsCellAt (page_of l) i cell
    pub are : xs ≡ entry_of i cell ∷ rest
    pub on : ℕ
    pub up : ℕ
    pub next : List Entry
    pub more : List Entry
    pub along_on : Along (Lists d table (19 - length ls)) (page_of l) (behind l) on next
    pub left_up : Left d table ls up more
    pub count : k ≡ on + up
    pub rest_are : rest ≡ next ++ more

  pub first_cell : l.index < steps_of l → step_of l.kind l.index ≡ OwnCell i → Left d table (l ∷ ls) k xs → First
  first_cell lt step left =
      let along = subst (λ s. Along (Lists d table (19 - length ls)) (page_of l) s left.0 left.2)
      (one_step (step_of l.kind) l.index (steps_of l) lt ∙ ap (λ s. s ∷ behind l) step) left.4 in
      record {
        cell = along.0;
        rest = along.1 ++ left.3;
        is = along.2;
        are = left.7 ∙ ap (λ z. z ++ left.3) along.3;
        on = left.0;
        up = left.1;
        next = along.1;
        more = left.3;
        along_on = along.4;
        left_up = left.5;
        count = left.6;
        rest_are = refl;
      }

  -- Where no step is left, what is left is that of the levels above.
  pub above : steps_of l ≤ l.index → Left d table (l ∷ ls) k xs → Left d table ls k xs
  above le left =
      let along = subst (λ s. Along (Lists d table (19 - length ls)) (page_of l) s left.0 left.2) (no_step (step_of l.kind) l.index (steps_of l) le) left.4 in
      let n : left.0 ≡ 0 = along.0 in
      let count : k ≡ left.0 + left.1 = left.6 in
      let k_is : left.1 ≡ k = omega (arith, n, count) in
      let xs_is : left.3 ≡ xs = sym (left.7 ∙ ap (λ z. z ++ left.3) along.1) in
      subst (λ z. Left d table ls z xs) k_is (subst (λ z. Left d table ls left.1 z) xs_is left.5)
