use Rattle.std.proofs.Common.{◌≡◌, ◌∙◌, List, [], ◌∷◌, length, arith, refl, sym}
use Rattle.std.proofs.lemmas.Grind.{common_steps}
use Rattle.sqval.specs.Database.{Database, page}
use Rattle.sqval.proofs.page.FilePages.{size_some}
use Rattle.sqdeep.specs.declared.text.Encoding.TheVariants.{Utf8}
use Rattle.sqdeep.specs.Records.{encoding_of}
use Rattle.cli_show_salvage.proofs.salvage.encoding_of.Goals as goal

-- a database without pages names no encoding but UTF-8
no_encoding : (d : Database) → length d ≡ 0 → Utf8 ≡ encoding_of d
unfolding page
no_encoding [] none = refl
no_encoding (p ∷ d) none = absurd (omega arith)

pub returns-then-count-eq0-clause-ok : goal.returns-then-count-eq0-clause-ok
returns-then-count-eq0-clause-ok g c = λ right. no_encoding (g.S.PageSource.pages c.args.source.now) (sym c.count.ensures ∙ c.if-count-eq0.true)

pub encoding_in-requires : goal.encoding_in-requires
encoding_in-requires g c = grind (arith, common_steps, size_some c.get-size.result c.get-size.ensures.valid)
