-- What a table of numbers and their words stands for. Assumes nothing.
use Rattle.std.specs.Prelude.{ℕ, List, [], ◌∷◌}
use Rattle.std.specs.Borrow.{Bor}
use Rattle.sentences.specs.Phrases.{Phrase}

abbrev pub phrases_of : List (ℕ × Bor (List ℕ)) → List Phrase
phrases_of [] = []
phrases_of (p ∷ ps) = record { number = p.0; words = p.1.now } ∷ phrases_of ps
