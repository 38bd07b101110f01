use Rattle.std.proofs.Common.{List, ℕ, [], ◌∷◌, get_or, ap, ◌∙◌, sym, subst, arith}
use Rattle.sqval.specs.PageSize.{IsPageSize}
use Rattle.sqpage.proofs.file.WrittenHeader.{laid, first_words, last_words, written, same_header}
use Rattle.sqpage.proofs.header.DbHeader.write.Goals as goal

pub returns-clause-written : goal.returns-clause-written
unfolding laid first_words last_words
returns-clause-written c =
    let h = c.args.self.now in
    written h c.name_of_size.result _ _ _ _ c.copy_from_slice.ensures.after
    (c.copy_from_slice-2.ensures.after ∙ ap (λ (b : List ℕ). get_or b 0 0 ∷ get_or b 1 0 ∷ h.write_version ∷ h.read_version ∷ h.reserved ∷ 64 ∷ 32 ∷ 32 ∷ []) c.to_be_bytes.ensures)
    c.write_words.ensures.written c.write_words-2.ensures.written
    (omega arith) (sym c.get.ensures.value ∙ c.name_of_size.ensures) (subst IsPageSize c.get.ensures.value c.get.ensures.valid) c.requires
    c.write_words.ensures.fits c.write_words-2.ensures.fits

pub returns-clause-reads_back : goal.returns-clause-reads_back
returns-clause-reads_back c = λ header is. same_header header c.args.self.now _ is (returns-clause-written c)
