-- The names of statuses, and how a name is written for C (own).
use Rattle.std.specs.Prelude.{ℕ, ◌-◌, ◌==◌, if◌then◌else◌, List, ◌++◌, length, replicate, codes}

-- a name of less than 24 bytes, and zeros behind it up to the 24th
abbrev pub padded : List ℕ → List ℕ
padded name = name ++ replicate (24 - length name) 0

-- the name of a status by its number
abbrev pub status_name : ℕ → List ℕ
status_name n =
    (if n == 0 then codes "ok" else
    (if n == 1 then codes "damaged" else
    (if n == 2 then codes "two logs" else
    (if n == 3 then codes "too large" else
    (if n == 4 then codes "auto-vacuum" else
    (if n == 5 then codes "not a database" else
    (if n == 6 then codes "no memory" else
    (if n == 7 then codes "no such page" else
    (if n == 8 then codes "wrong size" else
    (if n == 9 then codes "no room" else
    (if n == 10 then codes "no such commit" else
    (if n == 11 then codes "magic" else
    (if n == 12 then codes "page size" else
    (if n == 13 then codes "checksum" else
    (if n == 14 then codes "unknown log version" else
    (if n == 15 then codes "super-journal" else
    (if n == 16 then codes "page sizes differ" else
    (if n == 17 then codes "not there" else
    (if n == 18 then codes "not readable" else
    (if n == 19 then codes "folder" else
    (if n == 20 then codes "not a file" else
    (if n == 21 then codes "in use" else
    (if n == 22 then codes "no locks" else
    (if n == 23 then codes "file failed" else
    (if n == 24 then codes "unknown options" else
    (if n == 25 then codes "misuse" else
    (if n == 26 then codes "not writable" else
    (if n == 27 then codes "already there" else
    (if n == 28 then codes "disk full" else
    (if n == 29 then codes "shared process" else
    (if n == 30 then codes "commit overwritten" else
    (if n == 31 then codes "not judged" else
    codes "?"))))))))))))))))))))))))))))))))
