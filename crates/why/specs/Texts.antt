-- The rules of a text: its bytes, its start, its parts, their length and their bytes. Document 01, "Lines", tail, and "Numbers returned", 14;
-- document 02, W-201. Assumes nothing.
use Rattle.std.specs.Prelude.{ℕ, ◌+◌, Bool, true, false, List, [], ◌∷◌, leb, length, take, drop}
use Rattle.base.specs.Pick.{pick}
use Rattle.base.specs.Seek.{all, starts}
use Rattle.sheet.specs.declared.Style.{Style}
use Rattle.paper.specs.Bytes.{is_text, bar, av, np, null}
use Rattle.paper.specs.Texts.{Piece, piece, divide, cuts, opens, taken, parts_taken, message_end, lacks}
use Rattle.why.specs.Rule.{Rule, rule, within}

-- a text without its `AV:`
unfoldable pub unmarked : List ℕ → List ℕ
unmarked t = pick (starts av t) (drop 3 t) t

module _ (y : Style) where
  -- text bytes; off S one or more, the first not a space
  unfoldable pub is_message : List ℕ → Bool
  is_message t = pick (all is_text t) (pick y.av (opens t) true) false

  -- is it a name alone, behind `NP:` at its start (C)?
  unfoldable pub is_name : List ℕ → Bool
  is_name t = pick y.names (starts np t) false

  -- it begins `AV:`, where that must be
  unfoldable pub begins : List ℕ → Bool
  begins t = pick (is_name t) true (pick (starts av t) true y.may)

  -- its parts
  unfoldable pub parts_of : List ℕ → List Piece
  parts_of t = pick (is_name t) (piece 0 [] ∷ []) (divide 0 (take (message_end y (unmarked t)) (unmarked t)))

  -- its name
  unfoldable pub name_of : List ℕ → Piece
  name_of t = pick (is_name t) (piece 0 (drop 3 t)) (piece 0 (drop (message_end y (unmarked t) + 4) (unmarked t)))

  -- no part, and no name, has more than 35 bytes, where longer ones are not cut
  unfoldable pub are_short : List ℕ → Bool
  are_short t = pick y.cuts true (null (cuts (parts_of t) (name_of t)))

  -- no more parts than the sheet takes
  unfoldable pub are_few : List ℕ → Bool
  are_few t = leb (length (parts_of t)) y.most

  -- no part holds a byte that the sheet does not take
  unfoldable pub are_taken : List ℕ → Bool
  are_taken t = parts_taken y (parts_of t)

  -- a text that is one part is not too long, where longer ones are not cut
  unfoldable pub is_short : List ℕ → Bool
  is_short t = pick y.cuts true (leb (length t) 35)

  -- A text with marks: its start, how many parts it has, how long they are, and their bytes.
  abbrev pub marked_rules : List Rule
  marked_rules =
      within 14 140 y.most 35 begins
      ∷ within 14 141 y.most 35 are_few
      ∷ within 14 142 y.most 35 are_short
      ∷ within 14 144 y.most 35 are_taken
      ∷ []

  -- A text that is one part as it stands (S): how long it is, that it holds no `|`, and its bytes.
  abbrev pub plain_rules : List Rule
  plain_rules =
      within 14 142 y.most 35 is_short
      ∷ within 14 143 y.most 35 (lacks bar)
      ∷ within 14 144 y.most 35 (taken y)
      ∷ []

  -- "First 4", and then by the style
  abbrev pub text_rules : List Rule
  text_rules = rule 4 40 is_message ∷ pick y.av marked_rules plain_rules
