-- The two ends of a check.
use Rattle.sqcheck.proofs.Below.{Bool, Database, DbHeader, Every, Fault, HasHeaderOf, HasMagic, HasSoundHeader, HeaderFault, IsAutoVacuum, IsReached, IsSound, KnowsMaps, List, StandsBy, StandsNow, StandsWith, UnlessUnread, [], ap, arith, byte, either, eq-eqb, eqb, eqb-true, false, inl, inr, length, not, page, refl, subst, sym, true, usable_size, ℕ, ⊎_elim, ◌-◌, ◌<◌, ◌∙◌, ◌∷◌, ◌≡◌, ◌≢◌}
use Rattle.sqpage.specs.declared.fault.Fault.TheVariants as faults

-- A source of no pages has no header.
pub no_magic : (d : Database) → length d ≡ 0 → ¬ HasMagic (page d 1)
unfolding page
no_magic [] e h = cc
no_magic (b ∷ d) e h = absurd (omega (arith, e))

pub header_sound : (maps : Bool) (d : Database) (h : DbHeader) (size of : ℕ) → size ≡ of → HasHeaderOf maps h size (page d 1) → HasSoundHeader maps d of
header_sound maps d h size of e is = record { magic = is.magic; page_size = is.page_size ∙ e; fractions = is.fractions; room = is.room; plain = is.plain; incremental = is.incremental }

-- What is wrong with the header stands at page 1.
pub header_stands : (maps : Bool) (d : Database) (size of : ℕ) (fault : Fault) → size ≡ of → HeaderFault maps fault size (page d 1) → StandsWith maps d of fault 1
header_stands maps d size of faults.Magic e h = record { stands = (refl, h); judged = λ auto. inr refl }
header_stands maps d size of faults.PageSize e h = record { stands = (refl, inr (λ same. h.1 (same ∙ sym e))); judged = λ auto. inr refl }
header_stands maps d size of faults.Fraction e h = record { stands = (refl, h.2); judged = λ auto. inr refl }
header_stands maps d size of faults.Reserved e h = record { stands = (refl, h.3); judged = λ auto. inr refl }
header_stands maps d size of faults.AutoVacuum e h = record { stands = (refl, h.4, h.5); judged = λ auto. inr refl }
header_stands maps d size of faults.PointerMap e h = record { stands = (h.4, inr (refl, h.5, λ auto. auto h.6)); judged = λ auto. inl h.4 }
header_stands maps d size of _ e h = absurd h

-- A sound header of auto-vacuum is one where pointer maps are asked for.
pub maps_asked : (maps : Bool) (d : Database) (size : ℕ) → HasSoundHeader maps d size → IsAutoVacuum d → maps ≡ true
maps_asked maps d size h auto = ⊎_elim (λ yes. yes) (λ no. absurd (auto (h.plain no))) (either maps)

-- A fault of a page stands behind a sound header.
pub page_stands : (given : Type 0) (maps : Bool) (d : Database) (size : ℕ) (fault : Fault) (p : ℕ) → length (page d 1) ≡ size → HasSoundHeader maps d size → StandsNow given d fault p → UnlessUnread given fault (StandsWith maps d size fault p)
page_stands given maps d size fault p long header h =
    (h.0, λ read. record { stands = h.1 read maps size long (maps_asked maps d size header); judged = λ auto. inl (maps_asked maps d size header auto) })

-- Memory may run out behind the header.
pub memory_now : (given : Type 0) (d : Database) (fault : Fault) (p : ℕ) → fault ≡ faults.NoMemory → StandsNow given d fault p
memory_now given d fault p e = (
  λ is. absurd (let both : ◌≡◌ {A = Fault} faults.NoMemory faults.Source = sym e ∙ is in cc),
  λ read maps size same asked. subst (λ f. StandsBy (IsReached d) (IsSound d) maps d size f p) (sym e) tt,
)

-- A fault that stands isn't that a page couldn't be read.
pub stands_read : (given : Type 0) (maps : Bool) (d : Database) (size : ℕ) (fault : Fault) (p : ℕ) → StandsWith maps d size fault p → UnlessUnread given fault (StandsWith maps d size fault p)
stands_read given maps d size fault p h = (λ is. absurd ((subst (λ f. StandsWith maps d size f p) is h).stands), λ read. h)

-- Memory may always run out.
pub memory_stands : (maps : Bool) (d : Database) (size p : ℕ) → StandsWith maps d size faults.NoMemory p
memory_stands maps d size p = record { stands = tt; judged = λ auto. inr refl }

-- What the header says of pointer maps.
pub knows_maps : (judged : Type 0) (maps : Bool) (d : Database) (h : DbHeader) (size : ℕ) → length (page d 1) ≡ size → HasHeaderOf maps h size (page d 1) → KnowsMaps d judged (not (eqb h.largest_root 0)) size h.reserved
knows_maps judged maps d h size long is = record {
  long = long;
  usable = ap (λ n. n - byte (page d 1) 20) long ∙ ap (λ n. size - n) (sym is.reserved);
  auto = λ used zero'. absurd (let both : false ≡ true = sym (ap not (eq-eqb h.largest_root 0 (is.largest_root ∙ zero'))) ∙ used in cc);
  plain = λ was unused. sym is.largest_root ∙ ⊎_elim (λ yes. eqb-true h.largest_root 0 yes) (λ no. absurd (let both : true ≡ false = sym (ap not no) ∙ unused in cc)) (either (eqb h.largest_root 0));
}

-- Maps are used only where they are asked for.
pub maps_used : (maps : Bool) (b : List ℕ) (h : DbHeader) (size : ℕ) → HasHeaderOf maps h size b → not (eqb h.largest_root 0) ≡ true → maps ≡ true
maps_used maps b h size is used = ⊎_elim (λ yes. yes)
    (λ no. absurd (let none : h.largest_root ≡ 0 = is.largest_root ∙ is.plain no in let both : false ≡ true = sym (ap not (eq-eqb h.largest_root 0 none)) ∙ used in cc)) (either maps)

-- With auto-vacuum there are pointer maps.
pub maps_all : (maps : Bool) (d : Database) (h : DbHeader) (size : ℕ) → HasHeaderOf maps h size (page d 1) → IsAutoVacuum d → not (eqb h.largest_root 0) ≡ true
maps_all maps d h size is auto = ⊎_elim (λ e. absurd (auto (sym is.largest_root ∙ eqb-true h.largest_root 0 e))) (λ e. ap not e) (either (eqb h.largest_root 0))

-- The first page is as long as all are.
pub first_sized : (d : Database) (size n : ℕ) → n ≡ length d → n ≢ 0 → Every (λ b. length b ≡ size) d → length (page d 1) ≡ size
unfolding page
first_sized [] size n e ne h = absurd (ne e)
first_sized (b ∷ d) size n e ne h = h.0

-- Without a page no byte is used.
pub none_used : (d : Database) → length d ≡ 0 → usable_size d < 480
unfolding page
none_used [] e = omega arith
none_used (b ∷ d) e = absurd (omega (arith, e))
