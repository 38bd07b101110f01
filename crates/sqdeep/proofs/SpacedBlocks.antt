-- The walk over the freeblocks of a page.
use Rattle.std.proofs.Common.{◌≡◌, ◌≢◌, ◌⊎◌, ◌∙◌, ℕ, suc, ◌+◌, ◌<◌, ◌≤◌, List, [], ◌∷◌, length, add-one, sym, ap, subst, inl, inr, arith}
use Rattle.sqpage.specs.Header.{half}
use Rattle.sqpage.specs.Layout.{Span, AreFreeblocks, HasFreeblocks}
use Rattle.sqpage.specs.Page.{Page, head_at, content_start_in}
use Rattle.sqdeep.specs.Pages.{AreSpaced}

-- Some blocks are left, the first one at this place, and all are spaced just where these are, from `least` on.
pub record Going (used : List ℕ) (start least at : ℕ) (blocks : List Span) : Type 0 where
  pub from : ℕ
  pub rest : List Span
  pub are : AreFreeblocks used from at rest
  pub back : AreSpaced least rest → AreSpaced start blocks
  pub on : AreSpaced start blocks → AreSpaced least rest

pub begin : (used : List ℕ) (start at from : ℕ) (blocks : List Span) → AreFreeblocks used from at blocks → Going used start start at blocks
begin used start at from blocks are = record { from = from; rest = blocks; are = are; back = λ h. h; on = λ h. h }

pub further : (used : List ℕ) (start least at next : ℕ) (blocks : List Span) → Going used start least at blocks → at ≢ 0 → least ≤ at → next ≡ at + half used (at + 2) + 4 → Going used start next (half used at) blocks
further used start least at next blocks g some le e = go g.rest g.are g.back g.on
  where
    go : (rest : List Span) → AreFreeblocks used g.from at rest → (AreSpaced least rest → AreSpaced start blocks) → (AreSpaced start blocks → AreSpaced least rest) → Going used start next (half used at) blocks
    go [] are back on = absurd (some are)
    go (block ∷ more) are back on =
        let begins : block.start ≡ at = are.1 in
        let size : block.size ≡ half used (at + 2) = are.2.size ∙ ap (λ n. half used (n + 2)) begins in
        let same : block.start + block.size + 4 ≡ next = omega (arith, begins, size, e) in
        record {
          from = suc at;
          rest = more;
          are = are.3;
          back = λ h. back (omega (arith, le, begins), subst (λ n. AreSpaced n more) (sym same) h);
          on = λ h. subst (λ n. AreSpaced n more) same (on h).1;
        }

-- None is left.
pub all_spaced : (used : List ℕ) (start least at : ℕ) (blocks : List Span) → Going used start least at blocks → at ≡ 0 → AreSpaced start blocks
all_spaced used start least at blocks g none = go g.rest g.are g.back
  where
    go : (rest : List Span) → AreFreeblocks used g.from at rest → (AreSpaced least rest → AreSpaced start blocks) → AreSpaced start blocks
    go [] are back = back tt
    go (block ∷ more) are back = absurd (are.0 none)

-- The next one is too close.
pub too_close : (used : List ℕ) (start least at : ℕ) (blocks : List Span) → Going used start least at blocks → at ≢ 0 → (at < least) ⊎ (length used < at + 4) → ¬ AreSpaced start blocks
too_close used start least at blocks g some short = go g.rest g.are g.on short
  where
    go : (rest : List Span) → AreFreeblocks used g.from at rest → (AreSpaced start blocks → AreSpaced least rest) → (at < least) ⊎ (length used < at + 4) → ¬ AreSpaced start blocks
    go [] are on h = absurd (some are)
    go (block ∷ more) are on (inl less) = λ spaced. let begins = are.1 in let le = (on spaced).0 in omega (arith, less, begins, le)
    go (block ∷ more) are on (inr past) = λ spaced. let begins = are.1 in let within = are.2.within in let enough = are.2.enough in omega (arith, past, begins, within, enough)

-- The blocks of a page, as the walk over its bytes sees them.
pub blocks_read : (b : Page) (used : List ℕ) (number head first : ℕ) (blocks : List Span) → used ≡ b.used → number ≡ b.number → head ≡ head_at number → first ≡ half used (head + 1) → HasFreeblocks b blocks → AreFreeblocks used (content_start_in b.used b.number) first blocks
blocks_read b used number head first blocks u n h f has =
    let place : half b.used (head_at b.number + 1) ≡ first = sym (f ∙ ap (λ k. half used (k + 1)) (h ∙ ap head_at n) ∙ ap (λ l. half l (head_at b.number + 1)) u) in
    subst (λ k. AreFreeblocks used (content_start_in b.used b.number) k blocks) place (subst (λ l. AreFreeblocks l (content_start_in b.used b.number) (half b.used (head_at b.number + 1)) blocks) (sym u) has)

-- and where they begin
pub start_read : (b : Page) (used : List ℕ) (number start : ℕ) → used ≡ b.used → number ≡ b.number → start ≡ content_start_in used number → start + 1 ≡ suc (content_start_in b.used b.number)
start_read b used number start u n s = add-one start ∙ ap suc (s ∙ ap (λ l. content_start_in l number) u ∙ ap (content_start_in b.used) n)
