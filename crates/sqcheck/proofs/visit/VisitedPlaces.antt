-- What a visitor is told of.
use Rattle.sqcheck.proofs.Words.{Bool, Database, Every, HasRole, IsItemOf, IsReached, IsRoleOf, Item, List, Role, Spot, Task, TellsOf, Told, Tree, Uses, Visit, Visited, VisitsMore, Walk, Walking, WalksOn, [], ap, append_assoc, map, numbers, refl, role_of, subst, sym, ℕ, ◌++◌, ◌∷◌, ◌≡◌}

-- the role of an item's page
pub role_by : (d : Database) (tree : Tree) (it : Item) (task : Task) (role : Role) → it.task ≡ task → IsRoleOf d it.page (role_of tree task) role → IsRoleOf d it.page (role_of tree it.task) role
role_by d tree it task role e is = subst (λ t. IsRoleOf d it.page (role_of tree t) role) (sym e) is

module _ {A : Type 0} (saw : A → ℕ → Role → A → Type 0) (d : Database) where
  pub tells_append : (a b c : A) (xs ys : List Spot) → TellsOf saw d a xs b → TellsOf saw d b ys c → TellsOf saw d a (xs ++ ys) c
  tells_append a b c [] ys h k = subst (λ z. TellsOf saw d z ys c) h k
  tells_append a b c (x ∷ xs) ys (next, role, is, step, h) k = (next, role, is, step, tells_append next b c xs ys h k)

  -- A place more is visited.
  pub walks_more : (late : Bool) (tree : Tree) (visited rest more : List Spot) (uses : Uses) (walk : Walk) (it : Item) (s : Spot) (role : Role) (a b c : A) → IsItemOf tree it s → IsRoleOf d it.page (role_of tree it.task) role → saw b it.page role c
      → TellsOf saw d a more b → Walking d late tree ((visited ++ more) ++ s ∷ []) rest uses walk → WalksOn saw d late tree visited rest uses walk a c
  walks_more late tree visited rest more uses walk it s role a b c is has step told w = (
    more ++ s ∷ [],
    subst (λ l. Walking d late tree l rest uses walk) (append_assoc visited more (s ∷ [])) w,
    tells_append a b c more (s ∷ []) told (
      c,
      role,
      subst (λ r. IsRoleOf d s.page r role) (sym is.role) (subst (λ p. IsRoleOf d p (role_of tree it.task) role) is.page has),
      subst (λ p. saw b p role c) is.page step,
      refl,
    ),
  )

  -- More are visited, and then still more.
  pub visits_more : (late : Bool) (visited rest more : List Spot) (uses : Uses) (walk : Walk) (a b c : A) → TellsOf saw d a more b → VisitsMore saw d late (visited ++ more) rest uses walk b c → VisitsMore saw d late visited rest uses walk a c
  visits_more late visited rest more uses walk a b c told (again, w, tells) = (
    more ++ again,
    subst (λ l. Visited d late l rest uses walk) (append_assoc visited more again) w,
    tells_append a b c more again told tells,
  )

  -- The visits of these places.
  pub record Visits (spots : List Spot) (old new : A) : Type 0 where
    pub visits : List Visit
    pub told : Told saw old visits new
    pub pages : map (λ v. v.page) visits ≡ numbers spots
    pub roles : Every (λ v. HasRole d v.page v.role) visits

  pub visits_of : (spots : List Spot) (old new : A) → Every (IsReached d) spots → TellsOf saw d old spots new → Visits spots old new
  visits_of [] old new reached h = record { visits = []; told = h; pages = refl; roles = tt }
  visits_of (s ∷ spots) old new reached (next, role, is, step, h) =
      let more = visits_of spots next new reached.1 h in
      record {
        visits = record { page = s.page; role = role } ∷ more.visits;
        told = (next, step, more.told);
        pages = ap (λ l. s.page ∷ l) more.pages;
        roles = ((s, reached.0, refl, is), more.roles);
      }
