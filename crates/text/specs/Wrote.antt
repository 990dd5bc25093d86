-- What it is to write a text into a lent slice. Assumes nothing.
use Rattle.text.specs.declared.writers.Writer.{Writer}
use Rattle.std.specs.Prelude.{◌≡◌, ℕ, ◌+◌, ◌-◌, min, max, List, ◌++◌, length, take, drop}

-- what a writer leaves: the slice that it was lent, and the next place to write at
pub record Written : Type 0 where
  pub bytes : List ℕ
  pub next : ℕ

abbrev pub written : (bytes : List ℕ) (next : ℕ) → Written
written bytes n = record { bytes = bytes; next = n }

-- The text stands in the slice from place `at` on, as much of it as there is room for, and all else stays; then the next place. Past the end nothing
-- changes.
unfoldable pub writing : (old : List ℕ) (at : ℕ) (text : List ℕ) → Written
writing old at text =
    written (take at old ++ (take (length old - at) text ++ drop (at + length text) old)) (max at (min (at + length text) (length old)))

-- so for the contracts of writers: `out` and `r` are what writing gives
abbrev pub Wrote : (old : List ℕ) (at : ℕ) (text out : List ℕ) (r : ℕ) → Type 0
Wrote old at text out r = written out r ≡ writing old at text

-- ---- a writer, which has a slice lent to it, and the next place

-- what it is once it wrote a text: it has the same slice, which is left as writing leaves it, with the next place
abbrev pub wrote : Writer → (text : List ℕ) → Writer
wrote w text = record w { out = record w.out { now = (writing w.out.now w.at text).bytes }; at = (writing w.out.now w.at text).next }
