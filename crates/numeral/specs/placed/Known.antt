-- What is known of a field that is taken, because its line was judged before; and the digits that are taken. Document 01, "Lines".
-- Assumes nothing.
use Rattle.std.specs.Prelude.{◌≡◌, ℕ, ◌+◌, ◌<◌, ◌≤◌, true, List, length, drop, slice_index_or}
use Rattle.base.specs.Seek.{seek}
use Rattle.paper.specs.Read.{Field, value}
use Rattle.paper.specs.Bytes.{space, field_of}
use Rattle.paper.specs.Numerals.{digits_on}
use Rattle.paper.specs.ItemLine.{is_value}
use Rattle.numeral.specs.field.Digits.{front}
use Rattle.numeral.specs.declared.field.Run.{Run}

-- the field of the line s that begins at `at` says a value, and the line goes on behind it
pub record There {A : Type 0} (read : List ℕ → Field A) (s : List ℕ) (at : ℕ) : Type 0 where
  pub says : is_value (read (field_of (drop at s))) ≡ true
  pub on : at + seek space (drop at s) < length s

-- the digits of s from `at` on are no more than a word can hold, and a byte below all digits follows them
pub record Stops (s : List ℕ) (at : ℕ) : Type 0 where
  pub few : length (front (drop at s)) ≤ 19
  pub inside : at + length (front (drop at s)) < length s
  pub low : slice_index_or s (at + length (front (drop at s))) 0 < 48

-- r has their number, and the place behind them
pub record Ran (s : List ℕ) (at : ℕ) (r : Run) : Type 0 where
  pub end : r.end ≡ at + length (front (drop at s))
  pub number : digits_on 0 (front (drop at s)) ≡ value r.value
