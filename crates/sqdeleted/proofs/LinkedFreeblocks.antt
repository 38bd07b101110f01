-- Freeblocks, one behind the other.
use Rattle.std.proofs.Common.{◌≡◌, ◌∙◌, ◌↔◌, ◌⊎◌, ℕ, ◌+◌, ◌≤◌, List, [], ◌∷◌, ◌++◌, Option, Some, None, inl, inr, sym, ap, subst, arith}
use Rattle.sqpage.specs.Header.{half}
use Rattle.sqpage.specs.Layout.{Span, IsFreeblock}
use Rattle.sqdeleted.specs.Deleted.{AreLinked, IsLinked}

-- of one begin there is one freeblock
same_block : (used : List ℕ) (least : ℕ) (a b : Span) → IsFreeblock used least a → IsFreeblock used least b → a.start ≡ b.start → a ≡ b
same_block used least a b f g e = two a.start b.start a.size b.size e (f.size ∙ ap (λ (s : ℕ). half used (s + 2)) e ∙ sym g.size)
  where
    two : (s t m n : ℕ) → s ≡ t → m ≡ n → ◌≡◌ {A = Span} (record { start = s; size = m }) (record { start = t; size = n })
    two s t m n p q = cc

behind_by : (before : List Span) (used : List ℕ) (least at : ℕ) (block : Span) → AreLinked used least at (before ++ block ∷ []) → least ≤ block.start
behind_by [] used least at block h = h.1.after
behind_by (b ∷ bs) used least at block h =
    let more : b.start + b.size ≤ block.start = behind_by bs used (b.start + b.size) (half used b.start) block h.2 in
    let here : least ≤ b.start = h.1.after in
    omega (arith, more, here)

-- each lies at `least` or later
pub linked_behind : (used : List ℕ) (least at : ℕ) (block : Span) → IsLinked used least at block → least ≤ block.start
linked_behind used least at block l = behind_by l.0 used least at block l.1

least_by : (before : List Span) (used : List ℕ) (least at : ℕ) (block : Span) → AreLinked used least at (before ++ block ∷ []) → least ≤ at
least_by [] used least at block h = subst (λ (s : ℕ). least ≤ s) h.0 h.1.after
least_by (b ∷ bs) used least at block h = subst (λ (s : ℕ). least ≤ s) h.0 h.1.after

-- and so does the first one
pub linked_least : (used : List ℕ) (least at : ℕ) (block : Span) → IsLinked used least at block → least ≤ at
linked_least used least at block l = least_by l.0 used least at block l.1

none_by : (before : List Span) (used : List ℕ) (least at : ℕ) (block : Span) → ((b : Span) → b.start ≡ at → ¬ IsFreeblock used least b) → ¬ AreLinked used least at (before ++ block ∷ [])
none_by [] used least at block none h = none block h.0 h.1
none_by (b ∷ bs) used least at block none h = none b h.0 h.1

-- where none is sound, there is none
pub none_linked : (used : List ℕ) (least at : ℕ) (block : Span) → ((b : Span) → b.start ≡ at → ¬ IsFreeblock used least b) → ¬ IsLinked used least at block
none_linked used least at block none l = none_by l.0 used least at block none l.1

-- The freeblocks from a sound one on are that one and those that it leads to.
module _ (used : List ℕ) (least at : ℕ) (first : Span) (starts : first.start ≡ at) (is : IsFreeblock used least first) where
  cases_by : (before : List Span) (block : Span) → AreLinked used least at (before ++ block ∷ []) → (block ≡ first) ⊎ IsLinked used (first.start + first.size) (half used first.start) block
  cases_by [] block h = inl (same_block used least block first h.1 is (h.0 ∙ sym starts))
  cases_by (b ∷ bs) block h =
      let same : b ≡ first = same_block used least b first h.1 is (h.0 ∙ sym starts) in
      inr (bs, subst (λ (s : Span). AreLinked used (s.start + s.size) (half used s.start) (bs ++ block ∷ [])) same h.2)

  pub linked_cases : (block : Span) → IsLinked used least at block → (block ≡ first) ⊎ IsLinked used (first.start + first.size) (half used first.start) block
  linked_cases block l = cases_by l.0 block l.1

  pub linked_first : IsLinked used least at first
  linked_first = ([], (starts, is, tt))

  pub linked_more : (block : Span) → IsLinked used (first.start + first.size) (half used first.start) block → IsLinked used least at block
  linked_more block l = (first ∷ l.0, (starts, is, l.1))

-- none that has this begin is sound
pub no_block : (used : List ℕ) (least at : ℕ) (found : Option ℕ) → found ≡ None → ((size : ℕ) → (found ≡ Some size) ↔ IsFreeblock used least (record { start = at; size = size }))
    → (block : Span) → block.start ≡ at → ¬ IsFreeblock used least block
no_block used least at found none finds block e is =
    let here : IsFreeblock used least (record { start = at; size = block.size }) = subst (λ (s : ℕ). IsFreeblock used least (record { start = s; size = block.size })) e is in
    let some : found ≡ Some block.size = (finds block.size).1 here in
    absurd (cc)
