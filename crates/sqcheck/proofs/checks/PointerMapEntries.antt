-- The entries of pointer maps.
use Rattle.sqcheck.proofs.Words.{Database, EntryPlace, EntrySays, IsEntryOf, IsEntryPlace, IsIn, Item, ap, arith, byte, group_map, group_start, length, map_low, one_group, page, subst, sym, usable_size, word, ℕ, ◌*◌, ◌+◌, ◌-◌, ◌<◌, ◌∙◌, ◌≡◌, ◌≤◌}

stands_near : (size usable p : ℕ) (a : EntryPlace) → (is : IsEntryPlace size usable p a) → IsIn usable p is.group
stands_near size usable p a is = record {
  low = (let low : group_start usable is.group ≤ a.map = subst (λ n. group_start usable is.group ≤ n) (sym is.map_is) (map_low size usable is.group) in let behind : a.map < p = is.behind in let r : group_start usable is.group ≤ p = omega arith in r);
  high = is.within;
}

-- A page has one entry.
pub entry_once : (size usable p : ℕ) (a b : EntryPlace) → IsEntryPlace size usable p a → IsEntryPlace size usable p b → (a.map ≡ b.map) × (a.at ≡ b.at)
entry_once size usable p a b x y =
    let same : a.map ≡ b.map = x.map_is ∙ ap (group_map size usable) (one_group usable x.group y.group p (stands_near size usable p a x) (stands_near size usable p b y)) ∙ sym y.map_is in
    (same, x.at_is ∙ ap (λ m. 5 * (p - m - 1)) same ∙ sym y.at_is)

pub same_entry : (d : Database) (it : Item) (a b : EntryPlace) → (a.map ≡ b.map) × (a.at ≡ b.at) → EntrySays d a it → EntrySays d b it
same_entry d it a b e h = (
  sym (ap (λ m. byte (page d m) a.at) e.0 ∙ ap (byte (page d b.map)) e.1) ∙ h.0,
  sym (ap (λ m. word (page d m) (a.at + 1)) e.0 ∙ ap (λ n. word (page d b.map) (n + 1)) e.1) ∙ h.1,
)

-- The entry of an item's page, by numbers that are those of the database.
pub entry_by : (d : Database) (it : Item) (size usable : ℕ) (entry : EntryPlace) → length (page d 1) ≡ size → usable_size d ≡ usable → IsEntryOf d it entry → IsEntryPlace size usable it.page entry
entry_by d it size usable entry long used is = subst (λ u. IsEntryPlace size u it.page entry) used (subst (λ n. IsEntryPlace n (usable_size d) it.page entry) long is)

pub entry_back : (d : Database) (it : Item) (size usable : ℕ) (entry : EntryPlace) → length (page d 1) ≡ size → usable_size d ≡ usable → IsEntryPlace size usable it.page entry → IsEntryOf d it entry
entry_back d it size usable entry long used is = subst (λ n. IsEntryPlace n (usable_size d) it.page entry) (sym long) (subst (λ u. IsEntryPlace size u it.page entry) (sym used) is)
