-- Bytes with a meaning. Document 01, "The batch" and "Lines". Assumes nothing.
use Rattle.std.specs.Prelude.{ℕ, Bool, true, false, not, List, [], ◌∷◌, eqb, ltb, leb, drop}
use Prim.Native.Char.{code}
use Prim.Native.String.{String, [] as ε, ◌∷◌ as ◌·◌}
use Rattle.base.specs.Pick.{pick}
use Rattle.base.specs.Seek.{seek, before}

-- a text of ASCII letters as bytes
abbrev pub bytes : String → List ℕ
bytes ε = []
bytes (c · s) = code c ∷ bytes s

-- "The batch": a text byte is 32 to 255 except 127
unfoldable pub is_text : ℕ → Bool
is_text x = pick (ltb x 32) false (pick (eqb x 127) false (leb x 255))

-- neither `#` nor `~`
unfoldable pub is_clean : ℕ → Bool
is_clean x = pick (eqb x 35) false (not (eqb x 126))

-- an ASCII digit
unfoldable pub is_digit : ℕ → Bool
is_digit x = pick (ltb x 48) false (leb x 57)

-- a space, between fields ("Lines"); like the next three, a text of one byte
abbrev pub space : List ℕ
space = 32 ∷ []

-- `-`, between prefix and base ("Accounts")
abbrev pub dash : List ℕ
dash = 45 ∷ []

-- `,`, before the haléř ("Lines", amounts)
abbrev pub comma : List ℕ
comma = 44 ∷ []

-- `|`, between parts ("Lines", tail)
abbrev pub bar : List ℕ
bar = 124 ∷ []

-- `AV:`, before a message ("Lines", tail)
abbrev pub av : List ℕ
av = 65 ∷ 86 ∷ 58 ∷ []

-- `NP:`, before a name at a text's start
abbrev pub np : List ℕ
np = 78 ∷ 80 ∷ 58 ∷ []

-- ` NP:`, before a name behind a message
abbrev pub mark : List ℕ
mark = 32 ∷ np

-- "Lines": a field runs to the next space or the line's end
abbrev pub field_of : List ℕ → List ℕ
field_of s = before space s

-- "Lines": what is left of the line behind a field; it begins with that space, or is nothing
abbrev pub rest_of : List ℕ → List ℕ
rest_of s = drop (seek space s) s

-- an empty list
unfoldable pub null : {A : Type 0} → List A → Bool
null [] = true
null (x ∷ s) = false
