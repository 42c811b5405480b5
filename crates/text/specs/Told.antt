-- What an answer of the reader stands for. Assumes nothing.
use Rattle.std.specs.Prelude.{◌≡◌, ℕ, List, length, Result, Ok, Err}
use Rattle.refusal.specs.declared.Refusal.{Refusal}
use Rattle.refusal.specs.Numbers.{number_of}
use Rattle.paper.specs.Read.{Field, value, fault}
use Rattle.paper.specs.Texts.{Texts, Noted}
use Rattle.text.specs.span.Held.{texts_at, Held}
use Rattle.text.specs.declared.span.Spans.{Spans}

-- texts whose warnings are counted, as the code does
abbrev pub count_texts : Noted → Texts ℕ
count_texts x = record { parts = x.parts; name = x.name; warnings = length x.warnings }

-- .. where they were read
unfoldable pub count_text : Field Noted → Field (Texts ℕ)
count_text (value x) = value (count_texts x)
count_text (fault n) = fault n

-- The texts at their places in the line s, with the count of warnings; or the refusal's number.
abbrev pub told : List ℕ → Result Spans Refusal → Field (Texts ℕ)
told s (Ok f) = value (texts_at s f)
told s (Err r) = fault (number_of r)

-- Each place lies within the line.
abbrev pub Inside : List ℕ → Result Spans Refusal → Type 0
Inside s (Ok f) = Held s f
Inside s (Err r) = Unit

-- both: the answer r stands for x
pub record Tells (s : List ℕ) (r : Result Spans Refusal) (x : Field Noted) : Type 0 where
  pub says : told s r ≡ count_text x
  pub inside : Inside s r
