-- What the answer of the tail's reader stands for. Document 01, "Lines", tail. Assumes nothing.
use Rattle.std.specs.Prelude.{ℕ, ◌≤◌, Bool, List, length, drop, Option, Some, None, Result, Ok, Err}
use Rattle.base.specs.Pick.{pick}
use Rattle.refusal.specs.declared.Flaw.{Flaw}
use Rattle.refusal.specs.Numbers.{number_of}
use Rattle.sheet.specs.declared.Style.{Style}
use Rattle.paper.specs.Texts.{Noted, read_text}
use Rattle.paper.specs.Entries.{Counted, no, to_end}
use Rattle.paper.specs.ItemLine.{no_texts, fixed_tail, open_tail}
use Rattle.itemline.specs.declared.tail.Tail.{Tail}

-- the tail of a sheet with these two parameters, before the rest of the reading (k)
unfoldable pub tail_of : Style → Bool → Bool → (ℕ → Noted → Counted) → ℕ → List ℕ → Counted
tail_of y fixed bare k at s = pick fixed (fixed_tail y k at s) (open_tail y k bare at s)

-- the reading goes on with no text, or with the text of the line s from its place on
abbrev pub told_text : Style → List ℕ → Option ℕ → (Noted → Counted) → Counted
told_text y s None k = k no_texts
told_text y s (Some from) k = to_end (read_text y from) from (drop from s) λ texts. k texts

-- The reading goes on with the symbol, and with no text or the one that begins there; or it is refused.
abbrev pub told : Style → List ℕ → Result Tail Flaw → (ℕ → Noted → Counted) → Counted
told y s (Ok t) k = told_text y s t.text (k t.specific)
told y s (Err x) k = no (number_of x.0) x.1

-- a text begins in the line, or with its end
abbrev pub TextInside : List ℕ → Option ℕ → Type 0
TextInside s None = Unit
TextInside s (Some from) = from ≤ length s

-- .. where a tail has one
abbrev pub Inside : List ℕ → Result Tail Flaw → Type 0
Inside s (Ok t) = TextInside s t.text
Inside s (Err x) = Unit
