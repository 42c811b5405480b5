-- The bytes of a line at a place. Assumes nothing.
use Rattle.std.specs.Prelude.{ℕ, ◌+◌, ◌≤◌, List, [], ◌∷◌, length, take, drop}
use Rattle.paper.specs.Texts.{Piece, piece, Texts}
use Rattle.text.specs.declared.span.Span.{Span}
use Rattle.text.specs.declared.span.Spans.{Spans}

-- the bytes of the line s at a place
abbrev pub piece_at : List ℕ → Span → Piece
piece_at s p = piece p.at (take p.len (drop p.at s))

-- four parts, a name and the count of those that were cut
abbrev pub texts_at : List ℕ → Spans → Texts ℕ
texts_at s f =
    record {
      parts = piece_at s f.part1 ∷ piece_at s f.part2 ∷ piece_at s f.part3 ∷ piece_at s f.part4 ∷ [];
      name = piece_at s f.name;
      warnings = f.warnings;
    }

-- a place and its length lie within the line
abbrev pub Within : List ℕ → Span → Type 0
Within s p = p.at + p.len ≤ length s

-- So each length is that of its bytes.
pub record Held (s : List ℕ) (f : Spans) : Type 0 where
  pub first : Within s f.part1
  pub second : Within s f.part2
  pub third : Within s f.part3
  pub fourth : Within s f.part4
  pub named : Within s f.name
