-- Findings as bytes: a sentence each, or eight words each. Document 02, W-205. Assumes nothing.
use Rattle.std.specs.Prelude.{ℕ, List, [], ◌∷◌, ◌++◌}
use Rattle.base.specs.Pick.{pick}
use Rattle.paper.specs.Words.{words_bytes}
use Rattle.why.specs.declared.Finding.{Finding}
use Rattle.sentences.specs.Sentences.{sentence}
use Rattle.listing.specs.declared.Telling.{Telling}

-- number, cause, line, byte, length found, field, least and most allowed
unfoldable pub entry : Finding → List ℕ
entry x =
    words_bytes (x.number ∷ x.cause ∷ x.line ∷ x.byte ∷ x.length ∷ x.field ∷ x.least ∷ x.most ∷ [])

-- a finding of the file f, in words or as numbers
unfoldable pub spelled : Telling → List ℕ → Finding → List ℕ
spelled t f x = pick t.words (sentence t.sheet t.today f x) (entry x)

-- .. one after the other
unfoldable pub listed : Telling → List ℕ → List Finding → List ℕ
listed t f [] = []
listed t f (x ∷ xs) = spelled t f x ++ listed t f xs
