-- Numbers of 32 bits among bytes, low byte first.
use Rattle.std.specs.Prelude.{ℕ, ◌+◌, ◌*◌, ◌/◌, ◌%◌, List, slice_index, slice_set}

-- the number in the four bytes from p
unfoldable pub word_at : List ℕ → ℕ → ℕ
word_at bs p = slice_index bs p + slice_index bs (p + 1) * 256 + slice_index bs (p + 2) * 65536 + slice_index bs (p + 3) * 16777216

-- the bytes with a number written into the four from p
unfoldable pub with_word : List ℕ → ℕ → ℕ → List ℕ
with_word bs p n = slice_set (slice_set (slice_set (slice_set bs p (n % 256)) (p + 1) (n / 256 % 256)) (p + 2) (n / 65536 % 256)) (p + 3) (n / 16777216 % 256)
