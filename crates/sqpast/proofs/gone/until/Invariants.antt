use Rattle.std.proofs.Common.{◌≡◌, ◌-◌, ◌≤◌, ◌<◌, ℕ, length, get_or}
use Rattle.sqval.specs.Database.{file_pages}
use Rattle.sqpast.specs.internal.Chains.{AreChains, IsUntil, IsTail}
use Rattle.sqpast.proofs.gone.until.Given as goal

abbrev pub invariant-loop-done : goal.invariant-loop-done
invariant-loop-done g l =
    let w = g.F.FileBytes.bytes l.fn.log in
    let file = g.F.FileBytes.bytes l.fn.db in
    record {
      right : g.F.FileBytes.reads_right l.fn.db × g.F.FileBytes.reads_right l.fn.log → g.F.FileBytes.reads_right l.db × g.F.FileBytes.reads_right l.log;
      gives : g.F.FileBytes.gives_bytes l.fn.db × g.F.FileBytes.gives_bytes l.fn.log → g.F.FileBytes.gives_bytes l.db × g.F.FileBytes.gives_bytes l.log;
      same_db : g.F.FileBytes.bytes l.db ≡ file;
      same_log : g.F.FileBytes.bytes l.log ≡ w;
      room : length l.page ≡ l.chains.page_size;
      long : length l.list.items ≡ length l.chains.first.items;
      done : g.F.FileBytes.reads_right l.fn.db × g.F.FileBytes.reads_right l.fn.log → (front : ℕ) → AreChains w front (length l.chains.first.items) l.chains
          → l.fn.long ≡ file_pages l.chains.page_size file
          → ((p : ℕ) → l.fn.long - l.done < p → p ≤ length l.list.items → IsUntil l.chains.page_size w front file p (get_or l.list.items (p - 1) 0))
          × IsTail l.chains.page_size w front file l.chains.least (l.fn.long - l.done) l.tail;
    }
