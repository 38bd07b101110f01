-- Pages of chains that are taken one after the other.
use Rattle.sqcheck.proofs.Below.{Apart, Bool, Cell, Database, Every, KeepsTaken, Leads, List, Overflow, Role, TakesChain, TakesPage, [], apart_snoc, arith, every_append, every_in, every_weaker, false, is_taken, length, links, refl, role_at, true, ℕ, ◌++◌, ◌+◌, ◌∷◌, ◌≡◌, ◌≤◌}

-- These pages were taken so far.
pub record Taking (roles : List Role) (owner : ℕ) (old new : List Bool) (pages : List ℕ) : Type 0 where
  pub charted : Every (λ p. role_at roles p ≡ Overflow owner) pages
  pub were : Every (λ p. is_taken old p ≡ false) pages
  pub are : Every (λ p. is_taken new p ≡ true) pages
  pub distinct : Apart pages
  pub kept : KeepsTaken old new

pub taking_none : (roles : List Role) (owner : ℕ) (old : List Bool) → Taking roles owner old old []
taking_none roles owner old = record { charted = tt; were = tt; are = tt; distinct = tt; kept = λ p h. h }

-- and one more
pub taking_more : (roles : List Role) (owner : ℕ) (old mid new : List Bool) (pages : List ℕ) (p : ℕ) → Taking roles owner old mid pages → TakesPage roles owner mid new p → Taking roles owner old new (pages ++ p ∷ [])
taking_more roles owner old mid new pages p t is = record {
  charted = every_append (λ p. role_at roles p ≡ Overflow owner) pages (p ∷ []) t.charted (is.charted, tt);
  were = every_append (λ p. is_taken old p ≡ false) pages (p ∷ []) t.were (was (is_taken old p) refl, tt);
  are = every_append (λ p. is_taken new p ≡ true) pages (p ∷ []) (every_weaker (λ p. is_taken mid p ≡ true) (λ p. is_taken new p ≡ true) (λ q h. is.kept q h) pages t.are) (is.is, tt);
  distinct = apart_snoc pages p t.distinct (λ i. let h = every_in (λ p. is_taken mid p ≡ true) p pages t.are i in let n = is.was in cc);
  kept = λ q h. is.kept q (t.kept q h);
}
  where
    was : (b : Bool) → is_taken old p ≡ b → is_taken old p ≡ false
    was false e = e
    was true e = absurd (let h = t.kept p e in let n = is.was in cc)

-- The whole chain was.
pub chain_taken : (d : Database) (roles : List Role) (cell : Cell) (old new : List Bool) (pages : List ℕ) (left last next : ℕ) → Taking roles cell.page old new pages → length pages + left ≡ links cell → left ≤ 0
    → Leads d cell.page cell.overflow pages last next → TakesChain d roles cell old new
chain_taken d roles cell old new pages left last next t count none leads = record {
  pages = pages;
  last = last;
  next = next;
  leads = leads;
  enough = omega (arith, count, none);
  charted = t.charted;
  were = t.were;
  are = t.are;
  distinct = t.distinct;
  kept = t.kept;
}
