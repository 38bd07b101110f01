-- Items that aren't followed, by the level that leaves are to be on.
use Rattle.sqcheck.proofs.Words.{Bool, Database, Fault, FollowRefusedBy, Item, List, Node, NodeRefusedBy, PageWrongBy, Task, Tree, inl, inr, node_in, role_of, ℕ}
use Rattle.sqpage.specs.declared.fault.Fault.TheVariants as faults
use Rattle.sqcheck.specs.declared.item.Task.TheVariants as tasks

-- What is wrong where leaves are to be on one level is so where they are to be on another that this one is.
node_by : (A B : ℕ → Type 0) (d : Database) (fault : Fault) (p : ℕ) (x : Node) → ((on : ℕ) → A on → B on) → NodeRefusedBy A d fault p x → NodeRefusedBy B d fault p x
node_by A B d faults.Depth p x f (inl deep) = inl deep
node_by A B d faults.Depth p x f (inr off) = inr (off.0, off.1, off.2, off.3, f off.3 off.4, off.5)
node_by A B d faults.Kind p x f h = h
node_by A B d faults.CellOutside p x f h = h
node_by A B d faults.Overlap p x f h = h
node_by A B d faults.Freeblock p x f h = h
node_by A B d faults.Fragments p x f h = h
node_by A B d faults.KeyOrder p x f h = h
node_by A B d faults.SchemaRecord p x f h = h
node_by A B d _ p x f h = absurd h

wrong_by : (A B : (tree on : ℕ) → Type 0) (d : Database) (tree : Tree) (p : ℕ) (task : Task) (fault : Fault) → ((on : ℕ) → A tree.root on → B tree.root on) → PageWrongBy A d p (role_of tree task) fault → PageWrongBy B d p (role_of tree task) fault
wrong_by A B d tree p tasks.Trunk fault f h = h
wrong_by A B d tree p tasks.Leaf fault f h = h
wrong_by A B d tree p (tasks.Link o n first) fault f h = h
wrong_by A B d tree p (tasks.Node level low high) fault f h = node_by (A tree.root) (B tree.root) d fault p (node_in tree level low high) f h

pub refused_by : (A B : (tree on : ℕ) → Type 0) (d : Database) (tree : Tree) (it : Item) (marks : List Bool) (fault : Fault) (at : ℕ) → ((on : ℕ) → A tree.root on → B tree.root on)
    → FollowRefusedBy A d tree it marks fault at → FollowRefusedBy B d tree it marks fault at
refused_by A B d tree it marks fault at f (inl h) = inl h
refused_by A B d tree it marks fault at f (inr (inl h)) = inr (inl (h.0, h.1, wrong_by A B d tree it.page it.task fault f h.2))
refused_by A B d tree it marks fault at f (inr (inr h)) = inr (inr h)
