-- What is written as a header.
use Rattle.std.proofs.Common.{◌≡◌, ℕ, ◌+◌, ◌<◌, ◌≤◌, ◌^◌, List, [], ◌∷◌, ◌++◌, get_or, flat_map, replicate, refl, sym, ap, subst, ◌∙◌}
use Rattle.byteorder.specs.Endian.{big_number, big_bytes}
use Rattle.byteorder.specs.Numbers.{big_number-reads_back}
use Rattle.sqval.specs.PageSize.{IsPageSize}
use Rattle.sqpage.specs.declared.header.DbHeader.{DbHeader}
use Rattle.sqpage.specs.Header.{IsHeader, magic, size_named_by}
use borrow.Rule.Slice.PartMut.{put_mid, post_of}

make : (a b c d e f g h i j k l m n o p q r : ℕ) → DbHeader
make a b c d e f g h i j k l m n o p q r = record { page_size = a; write_version = b; read_version = c; reserved = d; change_counter = e; size_in_pages = f; first_trunk = g; free_pages = h; schema_cookie = i; schema_format = j; cache_size = k; largest_root = l; text_encoding = m; user_version = n; incremental_vacuum = o; application_id = p; version_valid_for = q; writer_version = r }

made : (h : DbHeader) → h ≡ make h.page_size h.write_version h.read_version h.reserved h.change_counter h.size_in_pages h.first_trunk h.free_pages h.schema_cookie h.schema_format h.cache_size h.largest_root h.text_encoding h.user_version h.incremental_vacuum h.application_id h.version_valid_for h.writer_version
unfolding make
made h = refl

-- The bytes determine the header.
pub same_header : (h k : DbHeader) (b : List ℕ) → IsHeader h b → IsHeader k b → h ≡ k
same_header h k b x y =
    let left = made h in
    let right = made k in
    let e1 : h.page_size ≡ k.page_size = x.page_size ∙ sym y.page_size in
    let e2 : h.write_version ≡ k.write_version = x.write_version ∙ sym y.write_version in
    let e3 : h.read_version ≡ k.read_version = x.read_version ∙ sym y.read_version in
    let e4 : h.reserved ≡ k.reserved = x.reserved ∙ sym y.reserved in
    let e5 : h.change_counter ≡ k.change_counter = x.change_counter ∙ sym y.change_counter in
    let e6 : h.size_in_pages ≡ k.size_in_pages = x.size_in_pages ∙ sym y.size_in_pages in
    let e7 : h.first_trunk ≡ k.first_trunk = x.first_trunk ∙ sym y.first_trunk in
    let e8 : h.free_pages ≡ k.free_pages = x.free_pages ∙ sym y.free_pages in
    let e9 : h.schema_cookie ≡ k.schema_cookie = x.schema_cookie ∙ sym y.schema_cookie in
    let e10 : h.schema_format ≡ k.schema_format = x.schema_format ∙ sym y.schema_format in
    let e11 : h.cache_size ≡ k.cache_size = x.cache_size ∙ sym y.cache_size in
    let e12 : h.largest_root ≡ k.largest_root = x.largest_root ∙ sym y.largest_root in
    let e13 : h.text_encoding ≡ k.text_encoding = x.text_encoding ∙ sym y.text_encoding in
    let e14 : h.user_version ≡ k.user_version = x.user_version ∙ sym y.user_version in
    let e15 : h.incremental_vacuum ≡ k.incremental_vacuum = x.incremental_vacuum ∙ sym y.incremental_vacuum in
    let e16 : h.application_id ≡ k.application_id = x.application_id ∙ sym y.application_id in
    let e17 : h.version_valid_for ≡ k.version_valid_for = x.version_valid_for ∙ sym y.version_valid_for in
    let e18 : h.writer_version ≡ k.writer_version = x.writer_version ∙ sym y.writer_version in
    cc

-- a number of four bytes reads back
word_back : (n : ℕ) → n < 2 ^ 32 → n ≡ big_number 4 (big_bytes 4 n ++ [])
word_back n h = sym (big_number-reads_back 4 n [] h)

half_back : (n : ℕ) → n < 2 ^ 16 → big_number 2 (big_bytes 2 n ++ []) ≡ n
half_back n h = big_number-reads_back 2 n [] h

unfoldable pub first_words : DbHeader → List ℕ
first_words h = h.change_counter ∷ h.size_in_pages ∷ h.first_trunk ∷ h.free_pages ∷ h.schema_cookie ∷ h.schema_format ∷ h.cache_size ∷ h.largest_root ∷ h.text_encoding ∷ h.user_version ∷ h.incremental_vacuum ∷ h.application_id ∷ []

unfoldable pub last_words : DbHeader → List ℕ
last_words h = h.version_valid_for ∷ h.writer_version ∷ []

abbrev pub Fit : List ℕ → Type 0
Fit ws = (i : ℕ) → get_or ws i 0 < 2 ^ 32

-- 100 zeros with these parts written into them
unfoldable pub laid : (m f w v : List ℕ) → List ℕ
laid m f w v = put_mid 92 8 (put_mid 24 48 (put_mid 16 8 (m ++ post_of 0 16 (replicate 100 0)) f) w) v

front : DbHeader → ℕ → List ℕ
front h n = big_bytes 2 n ++ h.write_version ∷ h.read_version ∷ h.reserved ∷ 64 ∷ 32 ∷ 32 ∷ []

abbrev pub words : List ℕ → List ℕ
words = flat_map (big_bytes 4)

concrete : (h : DbHeader) (n : ℕ) → List ℕ
concrete h n = laid magic (front h n) (words (first_words h)) (words (last_words h))

is_header : (h : DbHeader) (n : ℕ) → n < 2 ^ 16 → h.page_size ≡ size_named_by n → IsPageSize h.page_size → 480 + h.reserved ≤ h.page_size
    → Fit (first_words h) → Fit (last_words h) → IsHeader h (concrete h n)
unfolding concrete laid front first_words last_words
is_header h n small named sized room fits more =
    let e : size_named_by (big_number 2 (big_bytes 2 n ++ [])) ≡ h.page_size = ap size_named_by (half_back n small) ∙ sym named in record {
      magic = refl;
      page_size = sym e;
      sized = subst IsPageSize (sym e) sized;
      write_version = refl;
      read_version = refl;
      reserved = refl;
      room = subst (λ s. 480 + h.reserved ≤ s) (sym e) room;
      fractions = refl;
      change_counter = word_back h.change_counter (fits 0);
      size_in_pages = word_back h.size_in_pages (fits 1);
      first_trunk = word_back h.first_trunk (fits 2);
      free_pages = word_back h.free_pages (fits 3);
      schema_cookie = word_back h.schema_cookie (fits 4);
      schema_format = word_back h.schema_format (fits 5);
      cache_size = word_back h.cache_size (fits 6);
      largest_root = word_back h.largest_root (fits 7);
      text_encoding = word_back h.text_encoding (fits 8);
      user_version = word_back h.user_version (fits 9);
      incremental_vacuum = word_back h.incremental_vacuum (fits 10);
      application_id = word_back h.application_id (fits 11);
      version_valid_for = word_back h.version_valid_for (more 0);
      writer_version = word_back h.writer_version (more 1);
    }

-- What is written is the header.
pub written : (h : DbHeader) (n : ℕ) (m f w v : List ℕ) → m ≡ magic → f ≡ big_bytes 2 n ++ h.write_version ∷ h.read_version ∷ h.reserved ∷ 64 ∷ 32 ∷ 32 ∷ []
    → w ≡ words (first_words h) → v ≡ words (last_words h)
    → n < 2 ^ 16 → h.page_size ≡ size_named_by n → IsPageSize h.page_size → 480 + h.reserved ≤ h.page_size → Fit (first_words h) → Fit (last_words h) → IsHeader h (laid m f w v)
unfolding concrete front
written h n m f w v em ef ew ev small named sized room fits more = subst (IsHeader h) (sym (ap (λ m. laid m f w v) em ∙ ap (λ f. laid magic f w v) ef ∙ ap (λ w. laid magic (front h n) w v) ew ∙ ap (λ v. laid magic (front h n) (words (first_words h)) v) ev)) (is_header h n small named sized room fits more)
