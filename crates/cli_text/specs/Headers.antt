-- How a database's header is printed (fileformat2, 1.3).
use Rattle.std.specs.Prelude.{ℕ, ◌-◌, List, [], ◌∷◌, ◌++◌, length, map, replicate, codes}
use Rattle.std.specs.Fmt.{decimal}
use Rattle.std.specs.List.{flat_map}
use Rattle.sqpage.specs.declared.header.DbHeader.{DbHeader}
use Rattle.cli_words.specs.declared.requests.Style.{Style}
use Rattle.cli_words.specs.declared.requests.Style.TheVariants.{Lines, Json}
use Rattle.cli_text.specs.Facts.{joined, number_text, object_text}

-- the fields, by their names
unfoldable pub header_fields : DbHeader → List (List ℕ × ℕ)
header_fields h =
    (codes "page size", h.page_size)
    ∷ (codes "write version", h.write_version)
    ∷ (codes "read version", h.read_version)
    ∷ (codes "reserved", h.reserved)
    ∷ (codes "change counter", h.change_counter)
    ∷ (codes "size in pages", h.size_in_pages)
    ∷ (codes "first trunk", h.first_trunk)
    ∷ (codes "free pages", h.free_pages)
    ∷ (codes "schema cookie", h.schema_cookie)
    ∷ (codes "schema format", h.schema_format)
    ∷ (codes "cache size", h.cache_size)
    ∷ (codes "largest root", h.largest_root)
    ∷ (codes "text encoding", h.text_encoding)
    ∷ (codes "user version", h.user_version)
    ∷ (codes "incremental vacuum", h.incremental_vacuum)
    ∷ (codes "application id", h.application_id)
    ∷ (codes "version valid for", h.version_valid_for)
    ∷ (codes "writer version", h.writer_version) ∷ []

-- a field on a line of its own, its value behind 20 columns
abbrev pub field_line : (name : List ℕ) → ℕ → List ℕ
field_line name value = name ++ (replicate (20 - length name) 32 ++ (decimal value ++ codes "\n"))

-- the fields of a header, and how many pages there are
abbrev pub header_text : Style → DbHeader → (pages : ℕ) → List ℕ
header_text Lines h pages = flat_map (λ f. field_line f.0 f.1) (header_fields h ++ (codes "pages", pages) ∷ [])
header_text Json h pages = object_text Json (map (λ f. number_text Json f.0 f.1) (header_fields h ++ (codes "pages", pages) ∷ []))

-- the fields of a header as members of an object, each on a line
abbrev pub members_text : DbHeader → List ℕ
members_text h = joined (codes ",\n") (map (λ f. number_text Json f.0 f.1) (header_fields h))
