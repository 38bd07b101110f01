-- A step of a survey: the place that comes next is followed, or not.
use Rattle.sqcheck.proofs.Facts.{AddsItem, Apart, AreFound, ArePutDown, Bool, Chart, Charts, CheckError, ComesNext, Database, Every, FollowRefusedBy, HasFound, In, InPageAs, IsFaultOf, IsFound, IsItemFound, IsItemOf, IsJudged, IsLevelFound, IsPage, IsPutDown, IsRoleIn, IsRoleOf, IsSchemaLeaf, IsSoundPage, IsWhole, IsWithin, IsWrongAt, Item, KeepsWalk, LevelAfter, LinkFits, List, Mapped, Marks, Match, None, Option, Passes, PutsAside, PutsRole, Role, Some, Spot, StandsIn, TellsFound, Tour, Tree, Uses, Walk, [], ap, append-nil, append_assoc, every_weaker, false, fits_under, in_right, inl, inr, is_marked, leads, leads_back, leaves_kept, leaves_more, length, length_marked, level_found, mapped_left, mapped_taken, mapped_told, match_append, named_too, names_down, now_marked, numbers, places, popped_top, refl, refusal_found, refusal_of, reverse, role_at, role_in, role_of, same_uses, stands_in, subst, sym, tells_one, through, true, whole, ℕ, ◌++◌, ◌<◌, ◌∙◌, ◌∷◌, ◌≡◌, ◌≢◌, ◌≤◌, ◌⊎◌}
use Rattle.sqpage.specs.declared.fault.Fault.TheVariants as faults

-- A page that is marked now is one, and is marked.
pub within_marked : (old new : List Bool) (p : ℕ) → Marks old new p → (0 < p) × (p ≤ length new) × (is_marked new p ≡ true)
within_marked old new p m = (m.above, subst (λ n. p ≤ n) (sym (length_marked old new p m)) m.within, now_marked old new p m)

module _ (maps : Bool) (d : Database) (size : ℕ) (first : Chart) (bars : List Bool) (counted late : Bool) (rest : List Spot) (tree : Tree) (it : Item) (uses : Uses) (old : Walk) (chart : Chart) (n : ComesNext maps d size first bars counted late rest tree it uses old chart) where
  abbrev s : Spot
  s = n.spot

  abbrev pub item_found : IsItemFound d tree it
  item_found = (s, n.mapped.tour.waiting.0, n.is)

  -- It was followed.
  pub step_on : (new : Uses) (walk : Walk) (now : Chart) (role : Role) → Marks uses.marks.items new.marks.items it.page → AddsItem uses.counts new.counts it → IsRoleOf d it.page (role_of tree it.task) role → Passes d tree it old walk
      → LevelAfter d it old.leaf_level walk.leaf_level → Charts chart.roles.items it.page role now.roles.items → TellsFound maps d size chart.faults.items now.faults.items → AreFound maps d size first bars counted late rest tree new walk now
  step_on new walk now role marks adds is_role passes level put tells =
      let at = n.is.page in
      let here : IsPage d it.page = (marks.above, subst (λ m. it.page ≤ m) n.mapped.tour.sized marks.within) in
      let is_whole : IsWhole d s = whole d tree it here item_found old walk passes in
      let under = passes.pushes.spots in
      let only : Every (StandsIn d s) under = every_weaker (InPageAs d it.page (role_of tree it.task)) (StandsIn d s) (leads d tree it here item_found old walk passes) under passes.pushes.only in
      let found : Every (IsFound d) under = every_weaker (StandsIn d s) (IsFound d) (λ t h. stands_in item_found.1 is_whole h) under only in
      let fits : Every (LinkFits d) under = every_weaker (StandsIn d s) (LinkFits d) (λ t h. fits_under (IsSoundPage d) d s t is_whole.sound_as h) under only in
      let marked : Marks uses.marks.items new.marks.items s.page = subst (Marks uses.marks.items new.marks.items) at marks in
      let has_role : IsRoleIn d s.page s.role role = subst (λ r. IsRoleIn d s.page r role) (sym n.is.role) (subst (λ p. IsRoleIn d p (role_of tree it.task) role) at (role_in d it.page (role_of tree it.task) role is_role)) in
      let set : Charts chart.roles.items s.page role now.roles.items = subst (λ p. Charts chart.roles.items p role now.roles.items) at put in
      let aside : PutsAside d s.page s.role old.rows.items walk.rows.items = subst (λ r. PutsAside d s.page r old.rows.items walk.rows.items) (sym n.is.role) (subst (λ p. PutsAside d p (role_of tree it.task) old.rows.items walk.rows.items) at passes.aside) in
      let kept : (p : ℕ) → In p old.rows.items → In p walk.rows.items = λ p i. elim aside [
        | inl leaf ↦ subst (In p) (sym leaf.1) (Rattle.sqpage.proofs.chain.ListsByRecursion.in_left p old.rows.items (s.page ∷ []) i)
        | inr same ↦ subst (In p) (sym same.1) i
      ] in
      let in_rows : IsSchemaLeaf d s.page s.role → In s.page walk.rows.items = λ leaf. elim aside [
        | inl k ↦ subst (In s.page) (sym k.1) (in_right s.page old.rows.items (s.page ∷ []) (inl refl))
        | inr k ↦ absurd (k.0 leaf)
      ] in
      let told = chart.faults.items in
      let m = n.mapped in
      let ps = n.pending ++ rest in
      let done : Mapped maps d size first bars counted late (n.visited ++ s ∷ []) (under ++ ps) new walk.rows.items now.roles.items told =
      mapped_taken maps d size first bars counted late n.visited s ps uses old.rows.items chart.roles.items told m new under walk.rows.items role now.roles.items tree it n.is marked adds only passes.pushes.distinct found fits has_role set
      (leaves_more maps d size first bars counted late n.visited s ps uses old.rows.items chart.roles.items told m new under walk.rows.items role now.roles.items tree it n.is marked adds only passes.pushes.distinct found fits has_role set is_whole aside)
      kept
      (inl (through maps d size first bars counted late n.visited s ps uses old.rows.items chart.roles.items told m new under walk.rows.items role now.roles.items tree it n.is marked adds only passes.pushes.distinct found fits has_role set
      is_whole (λ t h. passes.pushes.all t (leads_back d tree it here item_found old walk passes t h)) in_rows)) in
      record {
        visited = n.visited ++ s ∷ [];
        pending = under ++ n.pending;
        match = subst (λ l. Match tree l (under ++ n.pending)) (sym passes.pushes.pushed) (match_append tree passes.pushes.items (reverse old.stack.items) under n.pending passes.pushes.match n.match);
        level = level_found maps d size tree it item_found old.leaf_level walk.leaf_level level n.level;
        mapped = subst (λ l. Mapped maps d size first bars counted late (n.visited ++ s ∷ []) l new walk.rows.items now.roles.items now.faults.items) (sym (append_assoc under n.pending rest))
            (mapped_told maps d size first bars counted late (n.visited ++ s ∷ []) (under ++ ps) new walk.rows.items now.roles.items told now.faults.items tells done);
      }

  module _ (new : Uses) (walk : Walk) (e : CheckError) (mid : List CheckError) (some : e.fault ≢ faults.NoMemory) (row : e.fault ≢ faults.SchemaRecord) (refused : FollowRefusedBy (IsPutDown old.leaf_level) d tree it uses.marks.items e.fault e.page) (down : ArePutDown chart.faults.items (e ∷ []) mid) (keeps : KeepsWalk old walk) (level : LevelAfter d it old.leaf_level walk.leaf_level) where
    wrong : IsWrongAt d s e ⊎ (((is_marked uses.marks.items s.page ≡ true) ⊎ ¬ IsPage d s.page) × IsFaultOf d s e)
    wrong = refusal_of maps d size tree it item_found old.leaf_level uses.marks.items e n.mapped.tour.sized n.level some row refused

    tells : TellsFound maps d size chart.faults.items mid
    tells = tells_one maps d size e chart.faults.items mid down
        (refusal_found maps d size tree it item_found old.leaf_level uses.marks.items e.fault e.page n.mapped.tour.sized n.mapped.tour.fits.0 (named_too maps d size first bars counted late n.visited s (n.pending ++ rest) uses old.rows.items chart.roles.items chart.faults.items n.mapped) n.level some refused)

    told : Mapped maps d size first bars counted late n.visited (s ∷ (n.pending ++ rest)) uses old.rows.items chart.roles.items mid
    told = mapped_told maps d size first bars counted late n.visited (s ∷ (n.pending ++ rest)) uses old.rows.items chart.roles.items chart.faults.items mid tells n.mapped

    abbrev Now : List Spot → Uses → List ℕ → Chart → Type 0
    Now visited uses rows now = Mapped maps d size first bars counted late visited (n.pending ++ rest) uses rows now.roles.items now.faults.items

    stands : (visited : List Spot) (now : Chart) → Now visited new old.rows.items now → AreFound maps d size first bars counted late rest tree new walk now
    stands visited now m = record {
      visited = visited;
      pending = n.pending;
      match = subst (λ l. Match tree (reverse l) n.pending) (sym keeps.stack) n.match;
      level = level_found maps d size tree it item_found old.leaf_level walk.leaf_level level n.level;
      mapped = subst (λ l. Now visited new l now) (sym keeps.rows) m;
    }

    -- Its page wasn't taken.
    pub step_left : (now : Chart) → new.marks.items ≡ uses.marks.items → new.counts ≡ uses.counts → now.roles.items ≡ chart.roles.items → now.faults.items ≡ mid → AreFound maps d size first bars counted late rest tree new walk now
    step_left now marks counts roles faults_are =
        let is : IsFaultOf d s e = elim wrong [ inl w ↦ inl w | inr k ↦ k.1 ] in
        let left = mapped_left maps d size first bars counted late n.visited s (n.pending ++ rest) uses old.rows.items chart.roles.items mid told (names_down (IsFaultOf d s) e chart.faults.items mid down is) in
        let with_uses : Mapped maps d size first bars counted late n.visited (n.pending ++ rest) new old.rows.items chart.roles.items mid = same_uses maps d size first bars counted late n.visited (n.pending ++ rest) uses new old.rows.items chart.roles.items mid marks counts left in
        stands n.visited now (subst (λ l. Mapped maps d size first bars counted late n.visited (n.pending ++ rest) new old.rows.items now.roles.items l) (sym faults_are)
        (subst (λ l. Mapped maps d size first bars counted late n.visited (n.pending ++ rest) new old.rows.items l mid) (sym roles) with_uses))

    -- It was, and isn't as its role wants it.
    pub step_wrong : (now : Chart) → Marks uses.marks.items new.marks.items it.page → AddsItem uses.counts new.counts it → PutsRole d it.page (role_of tree it.task) chart.roles.items now.roles.items → TellsFound maps d size mid now.faults.items
        → AreFound maps d size first bars counted late rest tree new walk now
    step_wrong now marks adds (role, is_role, put) more =
        let at = n.is.page in
        let marked : Marks uses.marks.items new.marks.items s.page = subst (Marks uses.marks.items new.marks.items) at marks in
        let here : IsPage d s.page = (marked.above, subst (λ m. s.page ≤ m) n.mapped.tour.sized marked.within) in
        let is : IsWrongAt d s e = elim wrong [
          | inl w ↦ w
          | inr k ↦ elim k.0 [ inl taken ↦ absurd (let was = marked.was in let both : false ≡ true = sym was ∙ taken in cc) | inr none ↦ absurd (none here) ]
        ] in
        let has_role : IsRoleIn d s.page s.role role = subst (λ r. IsRoleIn d s.page r role) (sym n.is.role) (subst (λ p. IsRoleIn d p (role_of tree it.task) role) at is_role) in
        let set : Charts chart.roles.items s.page role now.roles.items = subst (λ p. Charts chart.roles.items p role now.roles.items) at put in
        let ps = n.pending ++ rest in
        let kept = leaves_kept maps d size first bars counted late n.visited s ps uses old.rows.items chart.roles.items mid told new [] old.rows.items role now.roles.items tree it n.is marked adds tt tt tt tt has_role set in
        let done : Mapped maps d size first bars counted late (n.visited ++ s ∷ []) ps new old.rows.items now.roles.items mid =
        mapped_taken maps d size first bars counted late n.visited s ps uses old.rows.items chart.roles.items mid told new [] old.rows.items role now.roles.items tree it n.is marked adds tt tt tt tt has_role set kept (λ p i. i)
        (inr (names_down (IsWrongAt d s) e chart.faults.items mid down is)) in
        stands (n.visited ++ s ∷ []) now (mapped_told maps d size first bars counted late (n.visited ++ s ∷ []) ps new old.rows.items now.roles.items mid now.faults.items more done)

-- The top of the stack comes next.
pub next_of : (maps : Bool) (d : Database) (size : ℕ) (first : Chart) (bars : List Bool) (counted late : Bool) (rest : List Spot) (tree : Tree) (it : Item) (uses : Uses) (walk popped : Walk) (chart : Chart) → walk.stack.items ≡ popped.stack.items ++ it ∷ []
    → popped.rows.items ≡ walk.rows.items → popped.leaf_level ≡ walk.leaf_level → AreFound maps d size first bars counted late rest tree uses walk chart → ComesNext maps d size first bars counted late rest tree it uses popped chart
next_of maps d size first bars counted late rest tree it uses walk popped chart stack rows level h =
    let top = popped_top tree walk.stack.items popped.stack.items it h.pending h.match stack in
    record {
      visited = h.visited;
      spot = top.spot;
      pending = top.others;
      is = top.is;
      match = top.match;
      level = subst (IsLevelFound d tree.root) (sym level) h.level;
      mapped = subst (λ l. Mapped maps d size first bars counted late h.visited (l ++ rest) uses popped.rows.items chart.roles.items chart.faults.items) top.are
          (subst (λ l. Mapped maps d size first bars counted late h.visited (h.pending ++ rest) uses l chart.roles.items chart.faults.items) (sym rows) h.mapped);
    }

-- Nothing is on the stack but the item of the next place.
pub pushed_next : (maps : Bool) (d : Database) (size : ℕ) (first : Chart) (bars : List Bool) (counted late : Bool) (rest : List Spot) (s : Spot) (tree : Tree) (it : Item) (uses : Uses) (old new : Walk) (chart : Chart) → IsItemOf tree it s → new.stack.items ≡ it ∷ []
    → new.rows.items ≡ old.rows.items → new.leaf_level ≡ None → HasFound maps d size first bars counted late (s ∷ rest) uses old chart → AreFound maps d size first bars counted late rest tree uses new chart
pushed_next maps d size first bars counted late rest s tree it uses old new chart is stack rows level h = record {
  visited = h.visited;
  pending = s ∷ [];
  match = subst (λ l. Match tree (reverse l) (s ∷ [])) (sym stack) (is, tt);
  level = λ on e. absurd (let both : ◌≡◌ {A = Option ℕ} None (Some on) = sym level ∙ e in cc);
  mapped = subst (λ l. Mapped maps d size first bars counted late h.visited (s ∷ rest) uses l chart.roles.items chart.faults.items) (sym rows) h.mapped;
}

-- Nothing is on the stack.
pub all_followed : (maps : Bool) (d : Database) (size : ℕ) (first : Chart) (bars : List Bool) (counted late : Bool) (rest : List Spot) (tree : Tree) (uses : Uses) (walk : Walk) (chart : Chart) → walk.stack.items ≡ []
    → AreFound maps d size first bars counted late rest tree uses walk chart → HasFound maps d size first bars counted late rest uses walk chart
all_followed maps d size first bars counted late rest tree uses walk chart none h = go h.pending (subst (λ l. Match tree (reverse l) h.pending) none h.match) h.mapped
  where
    go : (pending : List Spot) → Match tree [] pending → Mapped maps d size first bars counted late h.visited (pending ++ rest) uses walk.rows.items chart.roles.items chart.faults.items → HasFound maps d size first bars counted late rest uses walk chart
    go [] m k = record { visited = h.visited; mapped = k }
    go (s ∷ ss) m k = absurd m
