-- Which numbers a refusal may have, and where it may point. Assumes nothing.
use mathlib.Core.Path.{◌≡◌}
use mathlib.Core.List.{List}
use Prim.Native.Nat.{ℕ, suc, ◌+◌, ◌≤◌}
use native.Mathlib.Omega.{arith}
use lib.ListN.{length}
use Rattle.sheet.specs.declared.Sheet.{Sheet}
use Rattle.paper.specs.Entries.{no}
use Rattle.paper.specs.Lines.{Line, lines_of}
use Rattle.paper.specs.Spells.{Context, read_line}
use Rattle.paper.specs.Judge.{Answer, Refused, Accepted, State, context_of, judge}
use Rattle.paper.specs.FirstFault.{Broken, ends_first, ends_none, ends_file, ends_group, not-due, full, in_line, total}
use Rattle.paper.proofs.Lists.{length-rev}
use Rattle.exact.proofs.faults.Main.{refused}
use Rattle.exact.specs.named.Numbers.{Own, Judged}
use Rattle.exact.proofs.named.Named.{named-no}
use Rattle.exact.proofs.named.Lines.{any-named}
use Rattle.exact.proofs.named.Places.{Within, split-within, lines-within, Kept, lawful-kept}

-- ---- one line: its own refusal is one of 4 to 9 and 11 to 14, and its offset lies in the line

module _ (sh : Sheet) (today : ℕ) (c : Context) (s : List ℕ) (n off : ℕ) (e : read_line sh today c s ≡ no n off) where
  pub line-named : Own n
  line-named = (named-no (rw e at (any-named sh today c s))).0

  pub line-inside : off ≤ length s
  line-inside = (named-no (rw e at (any-named sh today c s))).1

-- ---- a file of `size` bytes and so many lines

abbrev Placed : ℕ → ℕ → Answer → Type 0
Placed size lines (Refused n l p) = Judged n × (1 ≤ l) × (l ≤ suc lines) × (p ≤ size)
Placed size lines (Accepted h b w) = Unit {0}

module _ (sh : Sheet) (today size : ℕ) where
  -- a fault in the lines ts, behind m others
  broken-placed : {m : ℕ} {st : State} {ts : List Line} {a : Answer} → Broken sh today size (suc m) st ts a → Kept size m st → Within size ts
      → Placed size (m + length ts) a
  broken-placed ends_first k w = ((omega arith, omega arith), omega arith, omega arith, omega arith)
  broken-placed (ends_none _) k w = ((omega arith, omega arith), omega arith, omega arith, omega arith)
  broken-placed ends_file k w = ((omega arith, omega arith), omega arith, omega arith, omega arith)
  broken-placed ends_group k w = ((omega arith, omega arith), omega arith, omega arith, omega arith)
  broken-placed (not-due d) k (h, w) = ((omega arith, omega arith), omega arith, omega arith, omega (arith, h))
  broken-placed (full d f) k (h, w) = ((omega arith, omega arith), omega arith, omega arith, omega (arith, h))
  broken-placed (in_line {st = st} {t = t} {n = n} {off = off} d f q) k (h, w) =
      let o = line-named sh today (context_of st) t.bytes n off q in
      let i = line-inside sh today (context_of st) t.bytes n off q in
      ((omega (arith, o.0), omega (arith, o.1)), omega arith, omega arith, omega (arith, h, i))
  broken-placed (total some q e) (one, less, inside) (h, w) =
      ((omega arith, omega arith), one, omega (arith, less), inside)

module _ (sh : Sheet) (today : ℕ) (f : List ℕ) (n l p : ℕ) (e : judge sh today f ≡ Refused n l p) where
  placed : Placed (length f) (length (lines_of 0 f)) (Refused n l p)
  placed =
      let o = (refused sh today f n l p).0 e in
      let s = split-within (length f) o.before o.after (rw o.split at (lines-within f)) in
      rw (o.split, length-rev o.before o.after)
      (broken-placed sh today (length f) o.broken (lawful-kept sh today (length f) o.lawful s.0) s.1)

  -- a refusal of a whole file is one of 3 to 15,
  pub judge-named : Judged n
  judge-named = placed.0

  -- at a place inside the file,
  pub judge-placed : (1 ≤ l) × (p ≤ length f)
  judge-placed = (placed.1, placed.3)

  -- in one of its lines or behind the last.
  pub judge-lined : l ≤ suc (length (lines_of 0 f))
  judge-lined = placed.2
