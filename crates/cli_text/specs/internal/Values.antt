-- The values of facts in their style (own).
use Rattle.std.specs.Prelude.{ℕ, List}
use Rattle.cli_words.specs.declared.requests.Style.{Style}
use Rattle.cli_words.specs.declared.requests.Style.TheVariants.{Lines, Json}
use Rattle.cli_text.specs.Facts.{quoted}

-- a text as the value of a fact
abbrev pub value_text : Style → (text : List ℕ) → List ℕ
value_text Lines text = text
value_text Json text = quoted text
