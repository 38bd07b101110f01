-- A disk that is new with a base fits where a world begins.
use Rattle.walcore.proofs.Between.{AreMade, Bool, Database, DiskState, FitsAlone, IsFront, IsHeld, IsImage, IsJust, IsNew, IsPageSize, IsSectorSize, List, MayBeRead, ShowsWhole, [], ap, arith, beginning, false, get_or, inl, just_file, just_shows, length, named_size, none_front, read_cases, refl, settled_one, sound_new, subst, suc, sym, true, wal_log, zero, ℕ, ⊎_elim, ◌<◌, ◌∙◌, ◌∷◌, ◌≡◌, ◌≤◌}

pub held_at : (size : ℕ) (base : Database) → IsHeld size base → (i : ℕ) → i < 1 → IsHeld size (get_or (base ∷ []) i [])
held_at size base held zero lt = held
held_at size base held (suc i) lt = absurd (omega arith)

pub made_nothing : (size : ℕ) → AreMade size []
made_nothing size = record {
  each = λ e is. absurd (let i = is.1 in omega arith);
  new_salts = λ i j l m. absurd (omega arith);
}

module _ (size sector : ℕ) (torn : Bool) (base : Database) (bytes : List ℕ) (s : DiskState) (pages : IsPageSize size) (held : IsHeld size base) (just : IsJust size base bytes) (is : IsNew sector torn bytes s) where
  empty : (w : List ℕ) → MayBeRead wal_log s w → w ≡ []
  empty w may = ⊎_elim (λ image. settled_one s.log [] is.log s.sector false w image) (λ left. settled_one s.log [] is.log s.sector true w left.1) (read_cases wal_log s w may)

  shows : (db w : List ℕ) → MayBeRead wal_log s w → IsImage s.sector s.tears s.db db → ShowsWhole wal_log size db w base
  shows db w may image =
      let whole : IsJust size base db = subst (λ (x : List ℕ). IsJust size base x) (sym (settled_one s.db bytes is.db s.sector s.tears db image)) just in
      just_shows size db w base whole (just_file size base db pages whole) (subst (λ (x : List ℕ). IsFront (named_size x) x 0) (sym (empty w may)) (none_front size))

  pub base_fits : IsSectorSize sector → (torn ≡ true → sector ≤ size) → FitsAlone (beginning size base) s
  base_fits sectors whole = record {
    count = refl;
    disk = record {
      suits = record {
        sound = sound_new sector torn bytes s (omega (arith, just.long, held.few)) is;
        sectors = subst IsSectorSize (sym is.sector) sectors;
        pages = pages;
        whole = λ tears. let le : sector ≤ size = whole (sym is.tears ∙ tears.0) in omega (arith, le, tears.1, is.sector);
      };
      floor = omega arith;
      held = held_at size base held;
      made = made_nothing size;
      left = inl (
        λ w may chance. (0, omega arith, omega arith, λ db image. shows db w may image),
        λ w may header. let whole = header.whole in let long = ap length (empty w may) in absurd (omega (arith, whole, long)),
      );
      present = λ opened. absurd (cc opened);
    };
  }
