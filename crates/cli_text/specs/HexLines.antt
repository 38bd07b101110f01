-- How bytes are printed: each as two hex digits (own).
use Rattle.std.specs.Prelude.{ℕ, ◌*◌, List, ◌++◌, length, codes}
use Rattle.std.specs.Fmt.{decimal}
use Rattle.std.specs.Fork.{slice_chunk}
use Rattle.std.specs.Int.{div_ceil}
use Rattle.std.specs.List.{flat_map, range_with_len}
use Rattle.hex.specs.Hex.{encode_lower}
use Rattle.cli_words.specs.declared.requests.Style.{Style}
use Rattle.cli_words.specs.declared.requests.Style.TheVariants.{Lines, Json}
use Rattle.cli_text.specs.Facts.{hex_padded}

-- what stands behind hex at the end of a line
abbrev pub hex_end_text : Style → List ℕ
hex_end_text Lines = codes "\n"
hex_end_text Json = codes "\"}\n"

-- the place of bytes in their page, and what stands before them
abbrev pub place_text : Style → (at : ℕ) → List ℕ
place_text Lines at = hex_padded 4 at ++ codes " "
place_text Json at = codes "{\"at\":" ++ (decimal at ++ codes ",\"bytes\":\"")

-- bytes at their place
abbrev pub bytes_line : Style → (at : ℕ) → List ℕ → List ℕ
bytes_line style at bytes = place_text style at ++ (encode_lower bytes ++ hex_end_text style)

-- a page, 16 bytes a line
abbrev pub bytes_text : Style → (page : List ℕ) → List ℕ
bytes_text style page =
    flat_map (λ k. bytes_line style (k * 16) (slice_chunk page 16 k)) (range_with_len 0 (div_ceil (length page) 16))
