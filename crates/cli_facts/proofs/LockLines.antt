-- Lines of /proc/locks that may name a file.
use Rattle.std.proofs.Common.{◌≡◌, ◌⊎◌, inl, inr, ⊎_elim, List, ℕ, subst, sym, ◌∙◌}
use Rattle.std.specs.Prelude.{Bool, true, false, IsTrue, codes, ◌↔◌}
use Rattle.std.specs.Str.Iter.{HasSubslice}
use Rattle.cli_facts.specs.Locks.{NamesFile, inode_text, place_text}
use Rattle.cli_facts.specs.declared.locks.Identity.{Identity}

module _ (line place inode : List ℕ) (file : Identity) (p : place ≡ place_text file) (i : inode ≡ inode_text file) where
  abbrev Has : List ℕ → Type 0
  Has text = HasSubslice line text

  -- a line that names the file
  pub by_place : HasSubslice line place → IsTrue true ↔ NamesFile line file
  by_place named = (λ _. inl (subst Has p named), λ _. cc)

  -- a line that has the file's number, but doesn't name the file
  pub by_number : (¬ HasSubslice line place) → HasSubslice line inode → (r : Bool)
      → (IsTrue r ↔ ((file.major ≡ 0) ⊎ HasSubslice line (codes " 00:"))) → IsTrue r ↔ NamesFile line file
  by_number not_named numbered r unnumbered = (
    (λ t. inr (subst Has i numbered, unnumbered.0 t)),
    (λ lock. ⊎_elim (λ named. absurd (not_named (subst Has (sym p) named))) (λ n. unnumbered.1 n.1) lock),
  )

  -- a line that has neither
  pub by_nothing : (¬ HasSubslice line place) → (r : Bool) → (IsTrue r ↔ HasSubslice line inode) → r ≡ false → IsTrue r ↔ NamesFile line file
  by_nothing not_named r numbered f = (
    (λ t. absurd (let g : true ≡ false = sym t ∙ f in cc)),
    (λ lock. ⊎_elim (λ named. absurd (not_named (subst Has (sym p) named))) (λ n. numbered.1 (subst Has (sym i) n.0)) lock),
  )
