use Rattle.sqcheck.proofs.Between.{KeepsPages, Leads, List, Taking, length, links, ℕ, ◌+◌, ◌<◌, ◌≡◌, ◌≤◌}
use Rattle.sqcheck.proofs.chains.Chains.takes.Given as goal

abbrev pub invariant-links : goal.invariant-links
invariant-links g l =
    let d = g.S.PageSource.pages l.fn.source in
    record {
      pages : List ℕ;
      taking : Taking l.roles l.cell.page l.fn.self.taken.items l.self.taken.items pages;
      count : length pages + l.left ≡ links l.cell;
      room : length l.bytes ≡ length l.fn.bytes;
      kept : KeepsPages g.S.PageSource.pages g.S.PageSource.size g.S.PageSource.reads_right g.S.PageSource.gives_pages l.fn.source l.source;
      at : ℕ;
      linked : g.S.PageSource.reads_right l.fn.source → Leads d l.cell.page l.cell.overflow pages at l.next;
    }

abbrev pub decreases-links : goal.decreases-links
decreases-links g l = l.left
