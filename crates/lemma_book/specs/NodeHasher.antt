-- What the hash of a node reads of the bytes that are written to it.
use Rattle.std.specs.Prelude.{ℕ, ◌+◌, ◌*◌, ◌==◌, List, length, slice_index, if◌then◌else◌}

-- four bytes write a number, the lowest first; of any others the first byte counts
unfoldable pub number_in : List ℕ → ℕ
number_in bytes =
    if length bytes == 0 then 0
    else (if length bytes == 4
    then slice_index bytes 0 + slice_index bytes 1 * 256 + slice_index bytes 2 * 65536 + slice_index bytes 3 * 16777216
    else slice_index bytes 0)
