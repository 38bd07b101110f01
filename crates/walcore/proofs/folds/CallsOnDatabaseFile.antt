-- Calls that fill the database file: pages are written, and a length set.
use Rattle.walcore.proofs.Words.{Change, Db, DiskState, HasCalls, KeepsLog, Later, Log, MayFillWithin, MayFoldWithin, calls_wider, inl, set_len, subst, sym, sync, write, ℕ, ◌*◌, ◌≡◌, ◌≤◌}
use Rattle.recovery.specs.Copying.{MayFill}

-- what is asked for where pages are copied
pub fill_may : (most size : ℕ) (change : Change) → MayFill most size change → MayFillWithin most size change
fill_may most size (write Db at bytes) is = is
fill_may most size (set_len Db n) is = is
fill_may most size (sync Db) is = tt
fill_may most size (write Log at bytes) is = absurd is
fill_may most size (set_len Log n) is = absurd is
fill_may most size (sync Log) is = absurd is

-- calls that leave the log alone, and fill the file by whole pages, may be those of a fold
pub filled_later : (limit long size count : ℕ) (a b : DiskState) → long ≡ size → count * size ≤ limit → KeepsLog a b → ((bytes : ℕ) → count * long ≤ bytes → HasCalls (MayFillWithin bytes long) a b) → Later (MayFoldWithin limit size) a b
filled_later limit long size count a b is within keeps calls = record {
  sector = keeps.sector;
  tears = keeps.tears;
  refused = keeps.refused;
  sound = keeps.sound;
  calls = calls_wider (λ change may. inl may) a b (subst (λ (n : ℕ). HasCalls (MayFillWithin limit n) a b) is (calls limit (subst (λ (n : ℕ). count * n ≤ limit) (sym is) within)));
}
