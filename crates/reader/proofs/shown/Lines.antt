-- Where the total of a group that lawful lines leave open stands, and where a first fault stands: in the line of its number. Assumes nothing.
use mathlib.Core.List.{List, [], ◌∷◌, ◌++◌}
use Prim.Native.Nat.{ℕ, suc, ◌+◌}
use native.Mathlib.Omega.{arith}
use lib.ListN.{length}
use Rattle.sheet.specs.declared.Sheet.{Sheet}
use Rattle.paper.specs.Lines.{Line, line}
use Rattle.paper.specs.Judge.{rev_on, Answer, Refused, Accepted, State, at_first, at_file, at_group, at_item, stop, context_of}
use Rattle.paper.specs.FirstFault.{Lawful, nothing, header, opens, begins, more, closes, finishes, Broken, ends_first, ends_none, ends_file, ends_group, not-due, full, in_line, total}
use Rattle.exact.proofs.named.Named.{named-got}
use Rattle.exact.proofs.named.Lines.{any-named}
use Rattle.exact.proofs.named.Main.{line-inside}
use Rattle.reader.specs.Named.{nth}
use Rattle.reader.specs.shown.Holding.{Holds}
use Rattle.reader.proofs.shown.Numbers.{Among, here, there, holds-behind, holds-among}

-- an open group's total stands in a line that was read
abbrev pub Kept : List Line → State → Type 0
Kept ts at_first = Unit {0}
Kept ts (at_file x) = Unit {0}
Kept ts (at_group x) = Unit {0}
Kept ts (at_item x) = Among ts x.head.line x.head.byte
Kept ts (stop a) = Unit {0}

module _ (sh : Sheet) (today : ℕ) where
  pub lawful-kept : {ts : List Line} {st : State} → Lawful sh today ts st → Kept ts st
  lawful-kept nothing = tt
  lawful-kept (header l q) = tt
  lawful-kept (opens l few q) = tt
  lawful-kept (begins {t = t} {x = x} {p = p} l q) =
      here {t = t} {p = t.start + p.total} (omega arith, omega (arith, named-got (rw q at (any-named sh today (context_of (at_group x)) t.bytes))))
  lawful-kept (more l free q) = there (lawful-kept l)
  lawful-kept (closes l some q good) = tt
  lawful-kept (finishes l some q) = tt

-- the answer names a place in the line of its number: these lines, last one first, those after them, and the end of a file of that size
abbrev Placed : ℕ → List Line → List Line → Answer → Type 0
Placed size before after (Refused n l p) = Holds (nth l (rev_on before (after ++ (line size [] ∷ [])))) p
Placed size before after (Accepted h b w) = Unit {0}

module _ (sh : Sheet) (today size : ℕ) where
  pub broken-placed : (before : List Line) {st : State} {after : List Line} {a : Answer} → Kept before st
      → Broken sh today size (suc (length before)) st after a → Placed size before after a
  broken-placed before k ends_first = holds-behind before (line size []) [] size (omega arith, omega arith)
  broken-placed before k (ends_none _) = holds-behind before (line size []) [] size (omega arith, omega arith)
  broken-placed before k ends_file = holds-behind before (line size []) [] size (omega arith, omega arith)
  broken-placed before k ends_group = holds-behind before (line size []) [] size (omega arith, omega arith)
  broken-placed before k (not-due {t = t} d) = holds-behind before t _ t.start (omega arith, omega arith)
  broken-placed before k (full {t = t} d f) = holds-behind before t _ t.start (omega arith, omega arith)
  broken-placed before k (in_line {st = st} {t = t} {n = n} {off = off} d f q) =
      holds-behind before t _ (t.start + off) (omega arith, omega (arith, line-inside sh today (context_of st) t.bytes n off q))
  broken-placed before k (total some q e) = holds-among k _
