-- Texts: a message of up to four parts and a name. Document 01, "The batch", "Lines", tail, and "Canonical spelling", and document 02, W-201.
-- Assumes nothing.
use Rattle.std.specs.Prelude.{ℕ, zero, suc, ◌+◌, Bool, true, false, not, List, [], ◌∷◌, ◌++◌, map, eqb, ltb, length, take, drop}
use Rattle.base.specs.Pick.{pick}
use Rattle.base.specs.Seek.{all, starts, seek, before}
use Rattle.sheet.specs.declared.Style.{Style}
use Rattle.paper.specs.Read.{Field, value, fault}
use Rattle.paper.specs.Warnings.{Warning, long_part, long_name, Notice, notice}
use Rattle.paper.specs.Bytes.{is_text, is_clean, bar, av, np, mark, null}

-- What the style of a sheet asks of a text:
--   flag     K    S    C    E    P    what it asks
--   av       yes  no   yes  yes  yes  a text has a byte or more, the first not a space, and its message begins `AV:`; else it is a message as it stands
--   may      no   no   yes  no   no   .. but `AV:` may be missing
--   names    no   no   yes  no   no   a name may follow the message
--   cuts     no   no   yes  no   no   what is longer than 35 bytes is cut, with a warning; else it is refused
--   clean    no   no   no   no   yes  no part holds `#` or `~`
--   most     4    1    4    4    4    so many parts at most

-- a piece of a line: where it begins, and its bytes
pub record Piece : Type 0 where
  pub place : ℕ
  pub bytes : List ℕ

-- a piece of these two
abbrev pub piece : ℕ → List ℕ → Piece
piece at s = record { place = at; bytes = s }

-- four parts and a name, and what is warned of: a list, or its count
pub record Texts (W : Type 0) : Type 0 where
  pub parts : List Piece
  pub name : Piece
  pub warnings : W

-- with what is warned of listed, from left to right
abbrev pub Noted : Type 0
Noted = Texts (List Notice)

-- ---- reading

-- what stands behind each `|` of s, which begins at `at`
unfoldable pub others : ℕ → List ℕ → List Piece
others at [] = []
others at (x ∷ s) = pick (eqb x 124) (piece (at + 1) (before bar s) ∷ others (at + 1) s) (others (at + 1) s)

-- a message's parts: what stands before the first `|`, and behind each
abbrev pub divide : ℕ → List ℕ → List Piece
divide at s = piece at (before bar s) ∷ others at s

-- A part or a name has at most 35 bytes: longer ones are cut, and each is warned of. An empty one has the place 0.
unfoldable pub cut : Piece → Piece
cut p = pick (null p.bytes) (piece 0 []) (piece p.place (take 35 p.bytes))

-- a warning of its kind for a piece that is cut, at its first byte
unfoldable pub over : Warning → Piece → List Notice
over w p = pick (ltb 35 (length p.bytes)) (notice w p.place ∷ []) []

-- .. for each of several parts
unfoldable pub overs : List Piece → List Notice
overs [] = []
overs (p ∷ ps) = over long_part p ++ overs ps

-- .. for all parts and a name
abbrev pub cuts : List Piece → Piece → List Notice
cuts ps n = overs ps ++ over long_name n

-- n parts, the missing ones empty
unfoldable pub pad : ℕ → List Piece → List Piece
pad zero ps = []
pad (suc n) [] = piece 0 [] ∷ pad n []
pad (suc n) (p ∷ ps) = p ∷ pad n ps

-- a text has a byte or more, and the first is not a space
unfoldable pub opens : List ℕ → Bool
opens [] = false
opens (x ∷ t) = not (eqb x 32)

module _ (y : Style) where
  -- the sheet takes the bytes of a part
  unfoldable pub taken : List ℕ → Bool
  taken p = pick y.clean (all is_clean p) true

  -- .. of each of several parts
  unfoldable pub parts_taken : List Piece → Bool
  parts_taken [] = true
  parts_taken (p ∷ ps) = pick (taken p.bytes) (parts_taken ps) false

  -- Parts and name as found: 14 for more parts than the sheet takes, and for one too long where it is not cut.
  unfoldable pub fitted : List Piece → Piece → Field Noted
  fitted ps n =
      pick (ltb y.most (length ps)) (fault 14)
      (pick (pick y.cuts true (null (cuts ps n)))
      (value (record { parts = pad 4 (map cut ps); name = cut n; warnings = cuts ps n }))
      (fault 14))

  -- .. and 14 for a part with a byte that the sheet does not take
  unfoldable pub finish : List Piece → Piece → Field Noted
  finish ps n = pick (parts_taken ps) (fitted ps n) (fault 14)

  -- where the message ends: before its first ` NP:`, where names are
  unfoldable pub message_end : List ℕ → ℕ
  message_end m = pick y.names (seek mark m) (length m)

  -- a message without its `AV:`, and the name behind its ` NP:`
  unfoldable pub message : ℕ → List ℕ → Field Noted
  message at m = finish (divide at (take (message_end m) m)) (piece (at + (message_end m + 4)) (drop (message_end m + 4) m))

  -- C: a name alone begins after `NP:` at the text's start. A message begins after `AV:`, which on C may be missing; 14 elsewhere.
  unfoldable pub marked : ℕ → List ℕ → Field Noted
  marked at t =
      pick (pick y.names (starts np t) false) (finish (piece at [] ∷ []) (piece (at + 3) (drop 3 t)))
      (pick (starts av t) (message (at + 3) (drop 3 t))
      (pick y.may (message at t) (fault 14)))

  -- A text that begins at `at` of its line. First 4: a byte that is no text byte; off S a text that is empty or begins with a space.
  unfoldable pub read_text : ℕ → List ℕ → Field Noted
  read_text at t =
      pick (all is_text t)
      (pick y.av (pick (opens t) (marked at t) (fault 4)) (message at t))
      (fault 4)

-- ---- what a batch may hold, and what a sheet can carry

-- the text does not hold the pattern
unfoldable pub lacks : List ℕ → List ℕ → Bool
lacks ps s = eqb (seek ps s) (length s)

-- "The batch": a name has 0 to 35 text bytes
unfoldable pub name_proper : List ℕ → Bool
name_proper n = pick (ltb 35 (length n)) false (all is_text n)

-- "The batch": so has a part, and it holds no `|`
unfoldable pub part_proper : List ℕ → Bool
part_proper p = pick (name_proper p) (lacks bar p) false

-- no ` NP:` where names are, for it would come back as a name, and no byte that the sheet does not take
unfoldable pub words_carried : Style → List ℕ → Bool
words_carried y p = pick (pick y.names (lacks mark p) true) (taken y p) false

-- part i, from 0 on: empty where the sheet takes fewer parts
unfoldable pub part_carried : Style → ℕ → List ℕ → Bool
part_carried y i p = pick (pick (ltb i y.most) true (null p)) (words_carried y p) false

-- a name only where names are
unfoldable pub name_carried : Style → List ℕ → Bool
name_carried y n = pick y.names true (null n)

-- all parts are as "The batch" says
unfoldable pub parts_proper : List (List ℕ) → Bool
parts_proper [] = true
parts_proper (p ∷ ps) = pick (part_proper p) (parts_proper ps) false

-- all parts are carried, the first being part i
unfoldable pub parts_carried : Style → ℕ → List (List ℕ) → Bool
parts_carried y i [] = true
parts_carried y i (p ∷ ps) = pick (part_carried y i p) (parts_carried y (suc i) ps) false

-- ---- canonical spelling

-- the parts up to the last one not empty
unfoldable pub keep : List ℕ → List (List ℕ) → List (List ℕ)
keep [] [] = []
keep [] (q ∷ qs) = [] ∷ q ∷ qs
keep (x ∷ p) qs = (x ∷ p) ∷ qs

-- .. of a whole list
unfoldable pub trim : List (List ℕ) → List (List ℕ)
trim [] = []
trim (p ∷ ps) = keep p (trim ps)

-- a part, and each further one behind a `|`
unfoldable pub join_on : List ℕ → List (List ℕ) → List ℕ
join_on p [] = p
join_on p (q ∷ qs) = p ++ (124 ∷ join_on q qs)

-- all parts, or nothing where there are none
unfoldable pub joined : List (List ℕ) → List ℕ
joined [] = []
joined (p ∷ ps) = join_on p ps

-- ` NP:` and a name that is not empty
unfoldable pub spell_name : List ℕ → List ℕ
spell_name [] = []
spell_name (x ∷ n) = mark ++ (x ∷ n)

-- `AV:` and the parts, then the name; or `NP:` and the name alone where all parts are empty
unfoldable pub spell_marked : List (List ℕ) → List ℕ → List ℕ
spell_marked [] n = np ++ n
spell_marked (p ∷ ps) n = av ++ (join_on p ps ++ spell_name n)

-- S has its part as it stands
unfoldable pub spell_text : Style → List (List ℕ) → List ℕ → List ℕ
spell_text y parts n = pick y.av (spell_marked (trim parts) n) (joined (trim parts))

-- all parts and the name are empty: then K, C, E and P have no text
unfoldable pub no_text : List (List ℕ) → List ℕ → Bool
no_text parts n = pick (null (trim parts)) (null n) false
