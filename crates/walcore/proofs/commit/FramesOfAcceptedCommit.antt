-- The pages of a commit that isn't refused make a log longer and a database.
use Rattle.walcore.proofs.Below.{All, AreBytes, AreCommitted, Bor, Database, IsFaultless, List, Pages, [], above_some, ap, arith, get_or, get_or-map, is_some, length, lent, lent_length, number_once, subst, suc, sym, true≢false, ℕ, ◌<◌, ◌==◌, ◌^◌, ◌∙◌, ◌≡◌, ◌≤◌}
use Rattle.walcore.proofs.log.ExistenceOfExtendedLog.{AreFrames, size_fits}

pub are_committed : (old : Database) (size : ℕ) (pages : Pages) (count : ℕ) → IsFaultless (length old) size pages count → AreCommitted size old pages count
are_committed old size pages count granted = record {
  some = granted.some;
  once = number_once (length old) size pages count granted;
  filled = λ p a b none. true≢false (sym (above_some (length old) size pages count granted p a b) ∙ ap is_some none);
  above_zero = granted.sized;
  few = granted.bytes;
}

pub are_frames : (old_size size : ℕ) (pages : List (ℕ × Bor (List ℕ))) (count : ℕ) → IsFaultless old_size size (lent pages) count → All (λ x. AreBytes x.1.now) pages → count < 2 ^ 32 → AreFrames size (lent pages) count
are_frames old_size size pages count granted bytes fits = record {
  each = λ k lt.
      let within : k < length pages = omega (arith, lent_length pages) in
      let d : ℕ × Bor (List ℕ) = (0, record { ref_ptr = (0, 0); now = [] }) in
      let at : get_or {A = ℕ × List ℕ} (lent pages) k (0, []) ≡ ((get_or pages k d).0, (get_or pages k d).1.now) = get_or-map (λ p. (p.0, p.1.now)) pages k d (0, []) within in
      record {
        some = let page : 1 ≤ (get_or {A = ℕ × List ℕ} (lent pages) k (0, [])).0 = granted.above_zero k lt in omega arith;
        page_fits = omega (arith, granted.within k lt, fits);
        size_fits = size_fits (suc k == length (lent pages)) count fits;
        full = granted.full k lt;
        bytes = subst (λ (p : ℕ × List ℕ). AreBytes p.1) (sym at) (bytes k d within);
      };
}
