use Rattle.std.proofs.Common.{◌≡◌, ◌<◌, ◌^◌, ℕ, List, sym, subst, arith}
use Rattle.sqval.specs.PageSize.{IsPageSize}
use Rattle.sqjournal.specs.Header.{header_bytes, IsFirstHeader, Names}
use Rattle.sqjournal.specs.declared.header.JournalHeader.{JournalHeader}
use Rattle.sqjournal.proofs.journal.WordsOfHeader.{written, written_first, written_names}
use Rattle.sqjournal.proofs.header.JournalHeader.write.Goals as goal

pub returns-clause-first : goal.returns-clause-first
returns-clause-first c =
    let h : JournalHeader = c.args.self.now in
    let bytes : c.put_word-5.new.bytes ≡ header_bytes h =
    written c.args.out.now c.copy_from_slice.new.self _ _ _ _ _ h c.get.result c.told-out c.copy_from_slice.ensures.after c.get.ensures.value c.put_word.ensures c.put_word-2.ensures c.put_word-3.ensures c.put_word-4.ensures c.put_word-5.ensures in
    let page_size : h.page_size < 2 ^ 32 = omega (arith, c.get.ensures.value) in
    subst IsFirstHeader (sym bytes) (written_first h (omega arith) page_size c.requires (subst IsPageSize c.get.ensures.value c.get.ensures.valid))

pub returns-clause-names : goal.returns-clause-names
returns-clause-names c =
    let h : JournalHeader = c.args.self.now in
    let bytes : c.put_word-5.new.bytes ≡ header_bytes h =
    written c.args.out.now c.copy_from_slice.new.self _ _ _ _ _ h c.get.result c.told-out c.copy_from_slice.ensures.after c.get.ensures.value c.put_word.ensures c.put_word-2.ensures c.put_word-3.ensures c.put_word-4.ensures c.put_word-5.ensures in
    let page_size : h.page_size < 2 ^ 32 = omega (arith, c.get.ensures.value) in
    subst (λ (w : List ℕ). Names w h) (sym bytes) (written_names h (omega arith) (omega arith) (omega arith) (omega arith) page_size)
