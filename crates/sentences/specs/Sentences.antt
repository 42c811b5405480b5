-- What is found in a file, in sentences. Document 02, W-205. Assumes nothing.
use Rattle.std.specs.Prelude.{ℕ, false, List, [], ◌∷◌, ◌++◌, eqb, length, take, drop}
use Rattle.base.specs.Pick.{pick}
use Rattle.sheet.specs.declared.Sheet.{Sheet}
use Rattle.paper.specs.Bytes.{bytes}
use Rattle.paper.specs.Numerals.{decimal}
use Rattle.why.specs.declared.Finding.{Finding}
use Rattle.sentences.specs.Phrases.{said, fields, rules}
use Rattle.sentences.specs.Quoted.{quoted_or}
use Rattle.sentences.specs.Allowed.{dated, allowed}

-- `Line L, byte B, FIELD: `
unfoldable pub place_words : ℕ → ℕ → ℕ → List ℕ
place_words line byte field =
    bytes "Line " ++ (decimal line ++ (bytes ", byte " ++ (decimal byte ++ (bytes ", " ++ (said fields field ++ bytes ": ")))))

-- the bytes that were found in the file f; where it ended early, so it is said
unfoldable pub found_words : List ℕ → ℕ → ℕ → ℕ → List ℕ
found_words f number byte len =
    pick (pick (eqb number 3) (eqb byte (length f)) false) (bytes "the end of the file") (quoted_or (take len (drop byte f)))

-- `; allowed: ALLOWED.` and LF
unfoldable pub allowed_words : Sheet → ℕ → Finding → List ℕ
allowed_words sh today x =
    bytes "; allowed: " ++ (allowed sh today x.cause x.field x.least x.most ++ (46 ∷ 10 ∷ []))

-- a refusal: `RULE (N); found FOUND; allowed: ALLOWED.` and LF
unfoldable pub refusal_words : Sheet → ℕ → List ℕ → Finding → List ℕ
refusal_words sh today f x =
    said rules x.number ++ (bytes " (" ++ (decimal x.number ++ (bytes "); found "
    ++ (found_words f x.number x.byte x.length ++ allowed_words sh today x))))

-- what is warned of
unfoldable pub warning : ℕ → ℕ → ℕ → List ℕ
warning cause a b =
    pick (eqb cause 1010) (bytes "the total is not the sum of the items, " ++ decimal a)
    (pick (eqb cause 1011) (bytes "the day is before " ++ dated a)
    (pick (eqb cause 1014) (bytes "priority " ++ (decimal a ++ (bytes " is read as " ++ decimal b)))
    (bytes "cut to " ++ (decimal b ++ bytes " bytes"))))

-- a warning: `WARNING; found FOUND.` and LF
unfoldable pub warning_words : List ℕ → Finding → List ℕ
warning_words f x =
    warning x.cause x.least x.most ++ (bytes "; found " ++ (found_words f x.number x.byte x.length ++ (46 ∷ 10 ∷ [])))

-- a finding in a sentence; number 0 is a warning
unfoldable pub sentence : Sheet → ℕ → List ℕ → Finding → List ℕ
sentence sh today f x =
    place_words x.line x.byte x.field ++ pick (eqb x.number 0) (warning_words f x) (refusal_words sh today f x)
