-- What is printed of a recovery (own).
use Rattle.std.specs.Prelude.{ℕ, List, [], ◌∷◌, ◌++◌, codes}
use Rattle.std.specs.Fmt.{decimal}
use Rattle.cli_words.specs.declared.requests.Style.{Style}
use Rattle.cli_words.specs.declared.requests.Style.TheVariants.{Lines, Json}
use Rattle.cli_facts.specs.declared.outcome.Outcome.{Outcome}
use Rattle.cli_facts.specs.declared.outcome.Outcome.TheVariants.{Nothing, NoFront, Folded, RolledBack}
use Rattle.cli_text.specs.Facts.{number_text, object_text, word_text}

-- what it did, as a line or as an object
abbrev pub outcome_text : Style → Outcome → List ℕ
outcome_text Lines Nothing = codes "nothing to recover\n"
outcome_text Lines NoFront = codes "wal: front 0\n"
outcome_text Lines (Folded frames pages) = codes "wal: front " ++ (decimal frames ++ (codes ", " ++ (decimal pages ++ codes " pages\n")))
outcome_text Lines (RolledBack records pages) = codes "journal: " ++ (decimal records ++ (codes " records, " ++ (decimal pages ++ codes " pages\n")))
outcome_text Json Nothing = object_text Json (word_text Json (codes "recover") (codes "nothing") ∷ [])
outcome_text Json NoFront = object_text Json (word_text Json (codes "recover") (codes "wal") ∷ number_text Json (codes "front") 0 ∷ [])
outcome_text Json (Folded frames pages) = object_text Json (
    word_text Json (codes "recover") (codes "wal")
    ∷ number_text Json (codes "front") frames
    ∷ number_text Json (codes "pages") pages ∷ [])
outcome_text Json (RolledBack records pages) = object_text Json (
    word_text Json (codes "recover") (codes "journal")
    ∷ number_text Json (codes "records") records
    ∷ number_text Json (codes "pages") pages ∷ [])
