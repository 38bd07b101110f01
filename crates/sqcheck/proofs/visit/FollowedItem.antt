-- An item is followed.
use Rattle.sqcheck.proofs.Between.{AddsItem, Bool, Database, Enters, Follows, InPageAs, IsNoNode, IsSchemaLeaf, IsSoundAs, IsSoundPage, IsSoundWith, Item, Knows, KnowsAt, LeadsOn, List, Marks, Opens, Option, Passes, Pushes, PutsAside, Task, TopLeads, Tree, Uses, Visits, Walk, ap, free_leaf, inr, link, node, node_in, page, reverse, role_of, subst, sym, take, trunk, usable_size, used_in, ℕ, ℤ, ◌∙◌, ◌∷◌, ◌≡◌}
use Rattle.sqcheck.specs.Places.{Role}
use Rattle.sqcheck.specs.declared.item.Task.TheVariants as tasks

unpassed : (d : Database) (root p : ℕ) (task : Task) (further : Type 0) → IsNoNode task → LeadsOn d root p task further → further
unpassed d root p tasks.Trunk further h f = f
unpassed d root p tasks.Leaf further h f = f
unpassed d root p (tasks.Link o n first) further h f = f
unpassed d root p (tasks.Node level low high) further h f = absurd h

no_rows : (d : Database) (tree : Tree) (p : ℕ) (task : Task) → IsNoNode task → ¬ IsSchemaLeaf d p (role_of tree task)
no_rows d tree p tasks.Trunk h f = f
no_rows d tree p tasks.Leaf h f = f
no_rows d tree p (tasks.Link o n first) h f = f
no_rows d tree p (tasks.Node level low high) h f = h

-- one that is no page of a tree
knows_other : (d : Database) (root : ℕ) (it : Item) (task : Task) (known : Option ℕ) (old new : List Item) → it.task ≡ task → IsNoNode task → Knows d root known (it ∷ reverse old)
    → (TopLeads d root (reverse old) → TopLeads d root (reverse new)) → Knows d root known (reverse new)
knows_other d root it task known old new e none k leads = record {
  level = k.level;
  leads = λ is. leads (unpassed d root it.page it.task (TopLeads d root (reverse old)) (subst IsNoNode (sym e) none) (k.leads is));
}

-- what is known where a page of a tree comes next
pub knows_at : (d : Database) (root : ℕ) (it : Item) (known : Option ℕ) (level : ℕ) (low high : Option ℤ) (old : List Item) → it.task ≡ tasks.Node level low high → Knows d root known (it ∷ reverse old) → KnowsAt d root known it.page level
knows_at d root it known level low high old e k = record {
  level_of = k.level;
  leads = λ is. subst (λ t. LeadsOn d root it.page t (TopLeads d root (reverse old))) e (k.leads is);
}

pub used_read : (d : Database) (p usable : ℕ) (bytes : List ℕ) → bytes ≡ page d p → usable ≡ usable_size d → used_in d p ≡ take usable bytes
used_read d p usable bytes e u = ap (λ n. take n (page d p)) (sym u) ∙ ap (take usable) (sym e)

pub node_followed : (d : Database) (tree : Tree) (it : Item) (level : ℕ) (low high : Option ℤ) (uses new_uses : Uses) (old new : Walk) → it.task ≡ tasks.Node level low high → Marks uses.marks.items new_uses.marks.items it.page
    → AddsItem uses.counts new_uses.counts it → Enters d tree it.page (node_in tree level low high) old new → Follows d tree it uses new_uses old new
node_followed d tree it level low high uses new_uses old new e m adds enters = record {
  visits = record {
    marked = m;
    sound = subst (λ t. IsSoundAs d it.page (role_of tree t)) (sym e) enters.sound;
    pushes = subst (λ t. Pushes tree (InPageAs d it.page (role_of tree t)) old.stack.items new.stack.items) (sym e) enters.pushes;
  };
  counted = adds;
  aside = subst (λ t. PutsAside d it.page (role_of tree t) old.rows.items new.rows.items) (sym e) enters.aside;
  knows = enters.knows;
}

-- An item that is no page of a tree was followed.
pub other_followed : (d : Database) (tree : Tree) (it : Item) (task : Task) (uses new_uses : Uses) (old new : Walk) → it.task ≡ task → IsNoNode task → Visits d tree it uses.marks.items new_uses.marks.items old.stack.items new.stack.items
    → AddsItem uses.counts new_uses.counts it → new.rows.items ≡ old.rows.items → new.leaf_level ≡ old.leaf_level → (TopLeads d tree.root (reverse old.stack.items) → TopLeads d tree.root (reverse new.stack.items))
    → Knows d tree.root old.leaf_level (it ∷ reverse old.stack.items) → Follows d tree it uses new_uses old new
other_followed d tree it task uses new_uses old new e none visits adds rows level leads k = record {
  visits = visits;
  counted = adds;
  aside = inr (no_rows d tree it.page it.task (subst IsNoNode (sym e) none), rows);
  knows = subst (λ n. Knows d tree.root n (reverse new.stack.items)) (sym level) (knows_other d tree.root it task old.leaf_level old.stack.items new.stack.items e none k leads);
}

-- what is sound is so but for the level of leaves
page_sound : (d : Database) (p : ℕ) (role : Role) → IsSoundAs d p role → IsSoundWith (IsSoundPage d) d p role
page_sound d p trunk h = h
page_sound d p free_leaf h = h
page_sound d p (link owner needed) h = h
page_sound d p (node x) h = h.page

-- The same, whatever is known of the level of leaves.
pub node_passed : (d : Database) (tree : Tree) (it : Item) (level : ℕ) (low high : Option ℤ) (old new : Walk) → it.task ≡ tasks.Node level low high → Opens d tree it.page (node_in tree level low high) old new → Passes d tree it old new
node_passed d tree it level low high old new e opens = record {
  sound = subst (λ t. IsSoundWith (IsSoundPage d) d it.page (role_of tree t)) (sym e) opens.sound;
  pushes = subst (λ t. Pushes tree (InPageAs d it.page (role_of tree t)) old.stack.items new.stack.items) (sym e) opens.pushes;
  aside = subst (λ t. PutsAside d it.page (role_of tree t) old.rows.items new.rows.items) (sym e) opens.aside;
}

pub other_passed : (d : Database) (tree : Tree) (it : Item) (task : Task) (marks new_marks : List Bool) (old new : Walk) → it.task ≡ task → IsNoNode task → Visits d tree it marks new_marks old.stack.items new.stack.items
    → new.rows.items ≡ old.rows.items → Passes d tree it old new
other_passed d tree it task marks new_marks old new e none visits rows = record {
  sound = page_sound d it.page (role_of tree it.task) visits.sound;
  pushes = visits.pushes;
  aside = inr (no_rows d tree it.page it.task (subst IsNoNode (sym e) none), rows);
}
