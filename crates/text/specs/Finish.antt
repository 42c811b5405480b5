-- How the parts and the name of a text are judged, in the order of the code. Assumes nothing.
use Rattle.std.specs.Prelude.{ℕ, ◌+◌, ◌-◌, List, eqb, leb, length, drop, Result, Ok, Err}
use Rattle.refusal.specs.declared.Refusal.{Refusal}
use Rattle.refusal.specs.declared.Refusal.TheVariants.{BadText}
use Rattle.base.specs.Pick.{pick}
use Rattle.sheet.specs.declared.Style.{Style}
use Rattle.paper.specs.Texts.{others, taken}
use Rattle.text.specs.declared.span.Span.{Span}
use Rattle.text.specs.declared.span.Spans.{Spans}
use Rattle.text.specs.span.Places.{span, one_at, four_from}

-- cut where the sheet cuts, else refused
unfoldable pub judged : Style → Spans → Result Spans Refusal
judged y f = pick y.cuts (Ok f) (pick (eqb f.warnings 0) (Ok f) (Err BadText))

-- one part and a name
unfoldable pub fitted_one : Style → ℕ → ℕ → ℕ → ℕ → Result Spans Refusal
fitted_one y from size at len = pick (eqb y.most 0) (Err BadText) (judged y (one_at from size at len))

-- where a name stands in a line of n bytes whose message ends at e
unfoldable pub name_at : ℕ → ℕ → Span
name_at e n = pick (leb (n - e) 4) (span 0 0) (span (e + 4) (n - e - 4))

-- the message's parts from `from` to the end of m, and a name, whatever their bytes
unfoldable pub fitted_at : Style → List ℕ → ℕ → ℕ → ℕ → Result Spans Refusal
fitted_at y m from at len =
    pick (leb y.most (length (others from (drop from m)))) (Err BadText) (judged y (four_from m from at len))

-- .. where the sheet takes the message's bytes
unfoldable pub finish_at : Style → List ℕ → ℕ → ℕ → ℕ → Result Spans Refusal
finish_at y m from at len = pick (taken y (drop from m)) (fitted_at y m from at len) (Err BadText)
