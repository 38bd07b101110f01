-- How facts are printed: on a line, or as a JSON object (own).
use Rattle.std.specs.Prelude.{ℕ, ◌-◌, Bool, false, if◌then◌else◌, List, [], ◌∷◌, ◌++◌, length, map, replicate, codes}
use Rattle.std.specs.List.{flat_map}
use Rattle.std.specs.Fmt.{decimal, signed_decimal, digits}
use Rattle.cli_words.specs.declared.requests.Style.{Style}
use Rattle.cli_words.specs.declared.requests.Style.TheVariants.{Lines, Json}
use Rattle.cli_text.specs.declared.fact.Fact.{Fact}
use Rattle.cli_text.specs.declared.fact.Fact.TheVariants.{Number, Signed, Text, Salts}

-- a number in hex, with zeros before it up to so many digits
abbrev pub hex_padded : (least : ℕ) → ℕ → List ℕ
hex_padded least n = replicate (least - length (digits 16 false n)) 48 ++ digits 16 false n

-- a number of 32 bits as eight hex digits
abbrev pub hex_word : ℕ → List ℕ
hex_word n = hex_padded 8 n

-- a text in quotes
abbrev pub quoted : List ℕ → List ℕ
quoted text = codes "\"" ++ (text ++ codes "\"")

-- a word in its style, and what stands behind it
abbrev pub pair_text : Style → (word value : List ℕ) → List ℕ
pair_text Lines word value = word ++ (codes " " ++ value)
pair_text Json word value = quoted word ++ (codes ":" ++ value)

-- a number behind its word
abbrev pub number_text : Style → (word : List ℕ) → ℕ → List ℕ
number_text style word n = pair_text style word (decimal n)

-- a text behind its word
abbrev pub word_text : Style → (word text : List ℕ) → List ℕ
word_text Lines word text = pair_text Lines word text
word_text Json word text = pair_text Json word (quoted text)

-- two salts behind their word
abbrev pub salts_text : Style → (word : List ℕ) → (first second : ℕ) → List ℕ
salts_text Lines word first second = pair_text Lines word (hex_word first ++ (codes " " ++ hex_word second))
salts_text Json word first second =
    pair_text Json word (codes "[" ++ (quoted (hex_word first) ++ (codes "," ++ (quoted (hex_word second) ++ codes "]"))))

-- a fact
abbrev pub fact_text : Style → Fact → List ℕ
fact_text style (Number word n) = number_text style word.now n
fact_text style (Signed word z) = pair_text style word.now (signed_decimal z)
fact_text style (Text word text) = word_text style word.now text.now
fact_text style (Salts word first second) = salts_text style word.now first second

-- what a line or an object begins with
abbrev pub opening : Style → List ℕ
opening Lines = []
opening Json = codes "{"

-- what stands between two of its parts
abbrev pub between : Style → List ℕ
between Lines = codes " "
between Json = codes ","

-- what it ends with
abbrev pub closing : Style → List ℕ
closing Lines = codes "\n"
closing Json = codes "}\n"

-- texts one behind the other, each after this mark
abbrev pub behind : (mark : List ℕ) → List (List ℕ) → List ℕ
behind mark texts = flat_map (λ text. mark ++ text) texts

-- texts with this mark between each two
abbrev pub joined : (mark : List ℕ) → List (List ℕ) → List ℕ
joined mark [] = []
joined mark (text ∷ texts) = text ++ behind mark texts

-- parts of a line or of an object, as a whole
abbrev pub object_text : Style → (parts : List (List ℕ)) → List ℕ
object_text style parts = opening style ++ (joined (between style) parts ++ closing style)

-- facts, as a line or as an object
abbrev pub facts_text : Style → List Fact → List ℕ
facts_text style facts = object_text style (map (fact_text style) facts)

-- what stands before a part, which is the first one or not
abbrev pub separator : (mark : List ℕ) → (is_first : Bool) → List ℕ
separator mark is_first = if is_first then [] else mark
