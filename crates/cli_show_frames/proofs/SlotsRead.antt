-- A slot and a header of a log that were read.
use Rattle.std.proofs.Common.{◌≡◌, ◌∙◌, ℕ, ◌+◌, ◌-◌, ◌*◌, ◌^◌, ◌<◌, ◌≤◌, ◌++◌, List, length, take, drop, inr, true, false, refl, sym, ap, subst, arith, length-append}
use Rattle.std.proofs.lemmas.List.{drop-drop, drop-take, length-take, length-take-le, take-take}
use Rattle.byteorder.specs.Endian.{big_number}
use Rattle.sqval.specs.Bytes.{part}
use Rattle.sqval.specs.PageSize.{IsPageSize}
use Rattle.sqwal.specs.Frames.{content_of, frame_at, frame_end, page_of}
use Rattle.sqwal.specs.Header.{HeaderRefused, IsHeader}
use Rattle.sqwal.specs.declared.error.WalFormatError.{WalFormatError}
use Rattle.sqwal.specs.declared.error.WalFormatError.TheVariants.{NotAWal, PageSize, HeaderSum, UnknownVersion, TooLong, NoMemory}
use Rattle.sqwal.proofs.log.DependenceOnPrefix.{frame_at-end, header_same}
use Rattle.sqpage.specs.Freelist.{usable_size}
use Rattle.sqview.specs.Laid.{part_or_zeros}
use Rattle.sqview.specs.Shapes.{Shape}
use Rattle.sqview.proofs.file.FileHeads.{part_is}
use Rattle.cli_row_text.specs.declared.form.Form.{Form}
use Rattle.cli_show_deleted.specs.Images.{IsTextOfImage}
use Rattle.cli_show_frames.specs.Frames.{IsUsedOf}
use Rattle.cli_show_frames.specs.internal.Seen.{IsSlotText, ShowsSlot, pages_in}

-- two answers that exclude each other
pub never : false ≡ true → ⊥
never e = cc

frame_place : (size i : ℕ) → frame_at size i ≡ 32 + (i - 1) * (24 + size)
unfolding frame_at
frame_place size i = refl

pub slot_end : (size i : ℕ) → 32 + i * (24 + size) ≡ frame_end size i
unfolding frame_end
slot_end size i = refl

-- what was read of a slot is what stands there
pub slot_read : (size named i place n : ℕ) (w out : List ℕ) → 1 ≤ i → length w < 2 ^ 64 → frame_end size i ≤ length w → named ≡ size → n ≡ 24 + size
    → (32 + (i - 1) * (24 + named) < 2 ^ 64 → place ≡ 32 + (i - 1) * (24 + named)) → out ≡ part_or_zeros n place w → out ≡ part w (frame_at size i) (24 + size)
slot_read size named i place n w out one small within is long told read =
    let end : frame_at size i + 24 + size ≡ frame_end size i = frame_at-end size i one in
    let same : 32 + (i - 1) * (24 + named) ≡ frame_at size i = ap (λ (k : ℕ). 32 + (i - 1) * (24 + k)) is ∙ sym (frame_place size i) in
    let here : place ≡ frame_at size i = told (omega (arith, same, end, within, small)) ∙ same in
    read ∙ ap (λ (k : ℕ). part_or_zeros k place w) long ∙ ap (λ (k : ℕ). part_or_zeros (24 + size) k w) here
    ∙ part_is (24 + size) (frame_at size i) w (omega (arith, end, within))

pub page_read : (size i : ℕ) (w out : List ℕ) → out ≡ part w (frame_at size i) (24 + size) → big_number 4 (take 4 out) ≡ page_of size w i
page_read size i w out is = ap (λ (l : List ℕ). big_number 4 (take 4 l)) is ∙ ap (big_number 4) (take-take 4 (24 + size) (drop (frame_at size i) w) (omega arith))

pub content_read : (size i : ℕ) (w out : List ℕ) → out ≡ part w (frame_at size i) (24 + size) → drop 24 out ≡ content_of size w i
content_read size i w out is =
    ap (drop 24) is ∙ drop-take 24 size (drop (frame_at size i) w) ∙ ap (take size) (drop-drop 24 (frame_at size i) w)

-- the text of an image is that of its slot
pub slot_text : (form : Form) (s : Shape) (i number : ℕ) (used shown t : List ℕ) → ¬ ShowsSlot s i → number ≡ page_of s.page_size s.log i → IsUsedOf (pages_in s) number shown
    → used ≡ take (usable_size (pages_in s)) (content_of s.page_size s.log i) → IsTextOfImage form i number used shown t → IsSlotText form s i t
slot_text form s i number used shown t none names is same text =
    let d = pages_in s in
    let named = page_of s.page_size s.log i in
    let here : IsTextOfImage form i number (take (usable_size d) (content_of s.page_size s.log i)) shown t = subst (λ (u : List ℕ). IsTextOfImage form i number u shown t) same text in
    let there : IsTextOfImage form i named (take (usable_size d) (content_of s.page_size s.log i)) shown t =
    subst (λ (n : ℕ). IsTextOfImage form i n (take (usable_size d) (content_of s.page_size s.log i)) shown t) names here in
    inr (none, (shown, subst (λ (n : ℕ). IsUsedOf d n shown) names is, there))

-- what is used of a frame
pub image_used : (usable n : ℕ) (frame content : List ℕ) → drop 24 frame ≡ content → usable ≡ n → take (24 + usable - 24) (drop 24 frame) ≡ take n content
image_used usable n frame content is same =
    let many : 24 + usable - 24 ≡ usable = omega arith in
    ap (λ (k : ℕ). take k (drop 24 frame)) many ∙ ap (λ (l : List ℕ). take usable l) is ∙ ap (λ (k : ℕ). take k content) same

-- a header that was read is the log's
module _ (w head : List ℕ) (long : 32 ≤ length w) (read : head ≡ part_or_zeros 32 0 w) where
  head_part : head ≡ take 32 w
  head_part = read ∙ part_is 32 0 w (omega (arith, long))

  head_long : 32 ≤ length head
  head_long = let many : length (take 32 w) ≡ 32 = length-take-le 32 w long in omega (arith, ap length head_part, many)

  fronts : take 32 head ≡ take 32 w
  fronts = ap (take 32) head_part ∙ take-take 32 32 w (omega arith)

  pub header_there : (size : ℕ) → IsHeader size head → IsHeader size w
  header_there size is = header_same size head w 32 fronts (omega arith) long is

  pub header_here : (size : ℕ) → IsHeader size w → IsHeader size head
  header_here size is = header_same size w head 32 (sym fronts) (omega arith) head_long is

pub refused_none : (size : ℕ) (w : List ℕ) (error : WalFormatError) → HeaderRefused w error → ¬ IsHeader size w
refused_none size w NotAWal refused header = refused header.magic
refused_none size w PageSize refused header = refused.1 (subst (λ (n : ℕ). IsPageSize n) (sym header.named) header.is_size)
refused_none size w HeaderSum refused header = refused.2 header.sums
refused_none size w UnknownVersion refused header = refused.3 header.version
refused_none size w TooLong refused header = refused
refused_none size w NoMemory refused header = refused

-- what was read over a buffer has its length
pub as_long : (size n : ℕ) (out old : List ℕ) → n ≡ size → length out ≡ size → length (take n (out ++ drop (length out) old)) ≡ size
as_long size n out old many long = omega (arith, length-take n (out ++ drop (length out) old), length-append out (drop (length out) old), many, long)
