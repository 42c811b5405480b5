-- The list of a file's warnings never goes back. Assumes nothing.
use mathlib.Core.Path.{◌≡◌, refl}
use mathlib.Core.List.{List, [], ◌∷◌, ◌++◌, map}
use Prim.Native.Nat.{ℕ, suc, ◌+◌, ◌≤◌}
use native.Mathlib.Omega.{arith}
use lib.Dec.{eqb}
use lib.ListN.{length}
use Rattle.base.proofs.Cases.{either}
use Rattle.sheet.specs.declared.Sheet.{Sheet}
use Rattle.paper.specs.Warnings.{Warning, past_day, low_priority, long_part, long_name, Notice}
use Rattle.paper.specs.Accounts.{is_nobody}
use Rattle.paper.specs.Lines.{Line, lines_of}
use Rattle.paper.specs.Entries.{Entry, head, file, group, item, close_group, close_file, Places, saying, Listed, got, no, on_entry, on_group}
use Rattle.paper.specs.Spells.{Context, for_item}
use Rattle.paper.specs.Judge.{State, at_first, context_of, step}
use Rattle.exact.proofs.named.Places.{InRow, lines-row}
use Rattle.why.specs.declared.Finding.{Finding}
use Rattle.why.specs.Warned.{on_listed, warned, noticed, ahead, differing, total_warned, line_warned, warned_on, warned_in, Onward, done, next}
use Rattle.why.proofs.Order.{Ascends, none, more, Placed, placed, unread, line-placed}

-- findings that never go back from one place, and end before another
data Goes (m c : ℕ) : ℕ → ℕ → List Finding → Type 0 where
  stays : {l b : ℕ} → l ≤ m → b ≤ c → Goes m c l b []
  goes : {l b : ℕ} {x : Finding} {xs : List Finding} → l ≤ x.line → b ≤ x.byte → Goes m c x.line x.byte xs → Goes m c l b (x ∷ xs)

onward-from : {l b : ℕ} {xs : List Finding} (k a : ℕ) → k ≤ l → a ≤ b → Onward l b xs → Onward k a xs
onward-from k a h i done = done
onward-from k a h i (next {x = x} p q o) = next {l = k} {b = a} {x = x} (omega arith) (omega arith) o

onward-on : {m c l b : ℕ} {xs ys : List Finding} → Goes m c l b xs → Onward m c ys → Onward l b (xs ++ ys)
onward-on {l = l} {b = b} (stays h i) o = onward-from l b h i o
onward-on (goes h i g) o = next h i (onward-on g o)

goes-on : {m c n d l b : ℕ} {xs ys : List Finding} → Goes n d l b xs → Goes m c n d ys → Goes m c l b (xs ++ ys)
goes-on {l = l} {b = b} (stays h i) g = goes-from l b h i g
  where
    goes-from : {m c n d : ℕ} {xs : List Finding} (k a : ℕ) → k ≤ n → a ≤ d → Goes m c n d xs → Goes m c k a xs
    goes-from k a h i (stays p q) = stays {l = k} {b = a} (omega arith) (omega arith)
    goes-from k a h i (goes {x = x} p q g) = goes {l = k} {b = a} {x = x} (omega arith) (omega arith) g
goes-on (goes h i f) g = goes h i (goes-on f g)

module _ (sh : Sheet) (today : ℕ) where
  -- ---- one line

  module _ (k : ℕ) (t : Line) where
    -- a warning stands in its line, at its offset
    warned-line : (p : Places) (w : Warning) (off : ℕ) → (warned sh today k t.start t.bytes p w off).line ≡ k
    unfolding warned
    warned-line p past_day off = refl
    warned-line p low_priority off = refl
    warned-line p long_part off = refl
    warned-line p long_name off = refl

    warned-byte : (p : Places) (w : Warning) (off : ℕ) → (warned sh today k t.start t.bytes p w off).byte ≡ t.start + off
    unfolding warned
    warned-byte p past_day off = refl
    warned-byte p low_priority off = refl
    warned-byte p long_part off = refl
    warned-byte p long_name off = refl

    notices-go : (p : Places) (hi lo : ℕ) (ns : List Notice) → Ascends hi lo ns → Goes k (t.start + hi) k (t.start + lo) (map (noticed sh today k t p) ns)
    notices-go p hi lo ns (none h) = stays {l = k} {b = t.start + lo} (omega arith) (omega arith)
    notices-go p hi lo ns (more {n = n} {ns = rest} h a) =
        let l = warned-line p n.warning n.offset in
        let b = warned-byte p n.warning n.offset in
        goes {l = k} {b = t.start + lo} {x = noticed sh today k t p n} {xs = map (noticed sh today k t p) rest} (omega (arith, l)) (omega (arith, b)) (rw (l, b) (notices-go p hi n.offset rest a))

    -- a total that differs stands before what the line itself warns of
    no-total : (lo off : ℕ) → lo ≤ t.start → Goes k (t.start + off) k lo []
    no-total lo off h = stays {l = k} {b = lo} (omega arith) (omega arith)

    differing-goes : (lo off total exact : ℕ) → lo ≤ t.start → Goes k (t.start + off) k lo (differing k t off total exact)
    unfolding differing
    differing-goes lo off total exact h =
        either (Goes k (t.start + off) k lo) (eqb total exact) (λ _. no-total lo off h)
        (λ _. goes {l = k} {b = lo} (omega arith) (omega arith) (stays {l = k} {b = t.start + off} (omega arith) (omega arith)))

    total-goes : (ts : List Line) (kind lo : ℕ) (e : Entry) (ns : List Notice) (p : Places) → lo ≤ t.start
        → Goes k (t.start + p.total) k lo (total_warned sh today k t ts kind (saying e ns p))
    unfolding total_warned on_group on_entry
    total-goes ts kind lo (head x) ns p h = no-total lo p.total h
    total-goes ts kind lo (file n m) ns p h = no-total lo p.total h
    total-goes ts kind lo (group payer total date) ns p h = differing-goes lo p.total total (ahead sh today (for_item kind date (is_nobody payer)) ts) h
    total-goes ts kind lo (item x) ns p h = no-total lo p.total h
    total-goes ts kind lo close_group ns p h = no-total lo p.total h
    total-goes ts kind lo close_file ns p h = no-total lo p.total h

    listed-goes : (ts : List Line) (kind lo : ℕ) (r : Listed) → lo ≤ t.start → Placed t.bytes r
        → Goes k (t.start + length t.bytes) k lo
        (on_listed r (λ x. total_warned sh today k t ts kind x ++ map (noticed sh today k t x.places) x.warnings) [])
    unfolding on_listed
    listed-goes ts kind lo (got x) h (placed a) =
        goes-on (total-goes ts kind lo x.entry x.warnings x.places h) (notices-go x.places (length t.bytes) x.places.total x.warnings a)
    listed-goes ts kind lo (no n off) h unread = stays {l = k} {b = lo} (omega arith) (omega arith)

    line-goes : (ts : List Line) (c : Context) (lo : ℕ) → lo ≤ t.start → Goes k (t.start + length t.bytes) k lo (line_warned sh today k t ts c)
    unfolding line_warned
    line-goes ts c lo h = listed-goes ts c.kind lo _ h (line-placed t.bytes sh today c)

  -- ---- the whole file

  lines-go : (size : ℕ) (ts : List Line) (k lo : ℕ) (st : State) → InRow size lo ts → Onward k lo (warned_on sh today k ts st)
  unfolding warned_on
  lines-go size [] k lo st r = done
  lines-go size (t ∷ ts) k lo st (from, within, row) =
      onward-on (line-goes k t ts (context_of st) lo from)
      (onward-from k (t.start + length t.bytes) (omega arith) (omega arith) (lines-go size ts (suc k) (t.start + length t.bytes) (step sh today k t st) row))

  pub never_back : (f : List ℕ) → Onward 1 0 (warned_in sh today f)
  unfolding warned_in
  never_back f = lines-go (length f) (lines_of 0 f) 1 0 at_first (lines-row f)
