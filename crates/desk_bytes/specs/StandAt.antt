-- What private functions tell of bytes, by the definitions of Encoding.antt; no public contract
-- cites it.
use Rattle.std.specs.Prelude.{Bool, List, ℕ, length}
use Rattle.bigendian.specs.BigEndian.{bytes_at}
use Rattle.desk_bytes.specs.Encoding.{same_bytes}

-- the bytes bs stand in s from a place on
abbrev pub stand_at : List ℕ → ℕ → List ℕ → Bool
stand_at s at bs = same_bytes (bytes_at s at (length bs)) bs
