-- What the beginning of a text says of its message. Assumes nothing.
use Rattle.std.specs.Prelude.{◌≡◌, List, [], ◌∷◌, ℕ, ◌+◌, ◌≤◌, length, drop, Result, Ok, Err}
use Rattle.base.specs.Pick.{pick}
use Rattle.refusal.specs.declared.Refusal.{Refusal}
use Rattle.refusal.specs.Numbers.{number_of}
use Rattle.sheet.specs.declared.Style.{Style}
use Rattle.paper.specs.Read.{Field, fault}
use Rattle.paper.specs.Texts.{piece, Noted, opens, finish, message, marked}
use Rattle.text.specs.declared.Begun.{Begun}
use Rattle.text.specs.declared.Begun.TheVariants as begun

-- a text that has text bytes alone
abbrev pub of_text : Style → ℕ → List ℕ → Field Noted
of_text y at t = pick y.av (pick (opens t) (marked y at t) (fault 4)) (message y at t)

-- what the text of the line s that begins at `from` then is
abbrev pub meant : Style → List ℕ → ℕ → Result Begun Refusal → Field Noted
meant y s from (Ok (begun.Message at)) = message y at (drop at s)
meant y s from (Ok begun.Name) = finish y (piece from [] ∷ []) (piece (from + 3) (drop (from + 3) s))
meant y s from (Err r) = fault (number_of r)

-- what is read next begins within the line
abbrev pub Room : List ℕ → ℕ → Result Begun Refusal → Type 0
Room s from (Ok (begun.Message at)) = at ≤ length s
Room s from (Ok begun.Name) = from + 3 ≤ length s
Room s from (Err r) = Unit

-- both: the beginning r stands for x
pub record Begins (y : Style) (s : List ℕ) (from : ℕ) (r : Result Begun Refusal) (x : Field Noted) : Type 0 where
  pub means : meant y s from r ≡ x
  pub room : Room s from r
