-- Where the payload of an entry lies that isn't in it.
use Rattle.std.proofs.Common.{◌≡◌, ◌<◌, ◌^◌, ◌∙◌, ℕ, List, take, drop, ap, w32}
use Rattle.std.specs.Int.{from_le_bytes, to_le_bytes}
use Rattle.std.proofs.lemmas.Nat.{from_le_bytes-to_le_bytes_4}
use Rattle.sqindex.specs.internal.Bodies.{start_in, size_in}

pub start_back : (body : List ℕ) (start : ℕ) → start < 2 ^ 32 → take 4 body ≡ to_le_bytes w32 start → start_in body ≡ start
unfolding start_in
start_back body start fits e = ap (from_le_bytes w32) e ∙ from_le_bytes-to_le_bytes_4 start fits

pub size_back : (body : List ℕ) (size : ℕ) → size < 2 ^ 32 → take 4 (drop 4 body) ≡ to_le_bytes w32 size → size_in body ≡ size
unfolding size_in
size_back body size fits e = ap (from_le_bytes w32) e ∙ from_le_bytes-to_le_bytes_4 size fits

pub start_is : (body : List ℕ) (start : ℕ) → start ≡ from_le_bytes w32 (take 4 body) → start ≡ start_in body
unfolding start_in
start_is body start e = e

pub size_is : (body : List ℕ) (size : ℕ) → size ≡ from_le_bytes w32 (take 4 (drop 4 body)) → size ≡ size_in body
unfolding size_in
size_is body size e = e
