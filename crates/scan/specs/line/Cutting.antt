-- A line cut off a file, and bytes that end no line. Document 01, "Lines". Assumes nothing.
use Rattle.std.specs.Prelude.{ℕ, ◌-◌, ◌≤◌, ◌<◌, ◌≡◌, Bool, false, not, List, ◌∷◌, eqb, length, take, drop}
use Rattle.base.specs.Pick.{pick}
use Rattle.paper.specs.Lines.{line, lines_from}
use Rattle.scan.specs.declared.line.Cut.{Cut}

-- a byte that ends no line: neither LF nor CR
unfoldable pub is_plain : ℕ → Bool
is_plain b = pick (eqb b 10) false (not (eqb b 13))

-- r cuts the line that starts at `at` off the file f: its bytes go up to `stop`, and the lines from `next` on are the others
pub record Cuts (f : List ℕ) (at : ℕ) (r : Cut) : Type 0 where
  pub lines : lines_from f at ≡ line at (take (r.stop - at) (drop at f)) ∷ lines_from f r.next
  pub ahead : at < r.next
  pub from : at ≤ r.stop
  pub to : r.stop ≤ r.next
  pub inside : r.next ≤ length f
