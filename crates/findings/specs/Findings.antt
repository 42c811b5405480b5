-- What is found in a file: of a refused one its first fault, of an accepted one every warning, in file order. Document 02, W-205. Assumes nothing.
use Rattle.std.specs.Prelude.{ℕ, true, false, List, [], ◌∷◌}
use Rattle.sheet.specs.declared.Sheet.{Sheet}
use Rattle.paper.specs.Judge.{Answer, Refused, Accepted, judge}
use Rattle.why.specs.declared.Finding.{Finding}
use Rattle.why.specs.Finding.{found_in}
use Rattle.why.specs.Warned.{warned_in}
use Rattle.listing.specs.declared.Telling.{Telling}

-- by what the file is judged to be
unfoldable pub findings_of : Sheet → ℕ → List ℕ → Answer → List Finding
findings_of sh today f (Refused n l p) = found_in sh today f ∷ []
findings_of sh today f (Accepted h b w) = warned_in sh today f

-- the file f on a sheet, on a day
unfoldable pub findings : Sheet → ℕ → List ℕ → List Finding
findings sh today f = findings_of sh today f (judge sh today f)

-- findings are told in words, or as numbers
abbrev pub in_words : Sheet → ℕ → Telling
in_words sh today = record { words = true; sheet = sh; today = today }

abbrev pub in_numbers : Sheet → ℕ → Telling
in_numbers sh today = record { words = false; sheet = sh; today = today }
