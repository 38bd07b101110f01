-- What is kept for places is no more than the log has room for.
use Rattle.std.proofs.Common.{◌≡◌, ℕ, ◌+◌, ◌*◌, ◌/◌, ◌<◌, ◌≤◌, List, length, arith}
use Rattle.std.proofs.Math.Nat.{mul-add}
use Rattle.std.proofs.lemmas.Nat.{le-div}
use Rattle.sqval.proofs.page.FilePages.{size_some}
use Rattle.sqwal.specs.Frames.{frame_end, IsValidFrame, Passes}
use Rattle.sqview.specs.Places.{most_kept}

pub kept_few : (size long n kept : ℕ) → 0 < size → n * size ≤ long → kept ≤ 262144 + 17 * n → kept ≤ 262144 + 17 * (long / size)
kept_few size long n kept some fits le = let most : n ≤ long / size = le-div n long size some fits in omega arith

pub frames_kept : (size : ℕ) (w : List ℕ) (m kept : ℕ) → IsValidFrame size w m → kept ≤ 262144 + 17 * m → kept ≤ most_kept size w
unfolding frame_end
frames_kept size w m kept valid le =
    let last : Passes size w m = valid.each m valid.first (omega arith) in
    let whole : 32 + m * (24 + size) ≤ length w = last.whole in
    let split : m * (24 + size) ≡ m * 24 + m * size = mul-add m 24 size in
    kept_few size (length w) m kept (omega (arith, size_some size last.header.is_size)) (omega (arith, whole, split)) le
