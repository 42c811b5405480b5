-- The word that places a text. Document 01, "The batch"; docs/ROWS.md. Assumes nothing.
use Rattle.std.specs.Prelude.{ℕ, ◌+◌, ◌<◌, eqb}
use Rattle.base.specs.Pick.{pick}
use Rattle.text.specs.declared.span.Span.{Span}
use Rattle.text.specs.declared.span.Spans.{Spans}

-- the place in the file of a text of the line that starts at `start`; that of an empty one is 0
abbrev pub place_word : ℕ → Span → ℕ
place_word start p = pick (eqb p.len 0) 0 (start + p.at)

-- the texts of a line that starts at `start` lie at places that a word can hold
pub record Reached (start : ℕ) (f : Spans) : Type 0 where
  pub first : start + f.part1.at < 18446744073709551616
  pub second : start + f.part2.at < 18446744073709551616
  pub third : start + f.part3.at < 18446744073709551616
  pub fourth : start + f.part4.at < 18446744073709551616
  pub named : start + f.name.at < 18446744073709551616
