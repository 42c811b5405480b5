-- A file's lines and what is due, line by line: what lines say fits, and what fits is said by its canonical lines. Assumes nothing.
use mathlib.Core.Path.{◌≡◌, refl}
use mathlib.Core.Bool.{true}
use mathlib.Core.List.{List, [], ◌∷◌}
use Prim.Native.Nat.{ℕ, ◌+◌, ◌≤◌}
use native.Mathlib.Omega.{arith}
use lib.ListN.{length}
use borrow.Author.Tests.{eq-eqb}
use Rattle.base.proofs.Cases.{pick_true}
use Rattle.sheet.specs.declared.Sheet.{Sheet}
use Rattle.sheet.proofs.Laws.{Sane}
use Rattle.paper.specs.Lines.{Line, lines_of}
use Rattle.paper.specs.Terms.{day_here}
use Rattle.paper.specs.Entries.{Entry, head, file, group, item, close_group, close_file}
use Rattle.paper.specs.Spells.{Context, Due, Reads, differs, SaysEntry, Each}
use Rattle.paper.specs.Canonical.{spell, text_of}
use Rattle.scan.proofs.line.Lines.{line_first}
use Rattle.roundtrip.specs.linesound.Fits.{GroupFits, Fits, warnings}
use Rattle.roundtrip.proofs.linesound.Main.{line-sound}
use Rattle.roundtrip.proofs.lineback.Main.{line-back, line_plain}
use Rattle.roundtrip.specs.whole.Carries.{Exactly}

-- each entry has P in its context
abbrev pub Every : (Context → Entry → Type 0) → List Due → Type 0
Every P [] = Unit {0}
Every P (d ∷ ds) = P d.context d.entry × Every P ds

module _ (sh : Sheet) (today : ℕ) where
  -- an entry that a line says fits; but a group's line may give another total
  abbrev pub Told : Context → Entry → Type 0
  Told c (group payer exact date) = (total : ℕ) × GroupFits sh today (day_here sh c.kind) payer total date
  Told c (head h) = Fits sh today c (head h)
  Told c (file kind number) = Fits sh today c (file kind number)
  Told c (item x) = Fits sh today c (item x)
  Told c close_group = Fits sh today c close_group
  Told c close_file = Fits sh today c close_file

  -- how many warnings the canonical lines give
  unfoldable pub warned : List Due → ℕ
  warned [] = 0
  warned (d ∷ ds) = warnings sh today (day_here sh d.context.kind) d.entry + warned ds

  -- ---- what lines say

  module _ (sane : Sane sh) where
    says-told : (s : List ℕ) (c : Context) (e : Entry) (w : ℕ) → SaysEntry sh today s c e w → Told c e × (warnings sh today (day_here sh c.kind) e ≤ w)
    says-told s c (group payer exact date) w (total, v, (p, r), same, i) =
        let (f, u) = line-sound sh sane today c s (group payer total date) v p r in
        ((total, f), omega arith)
    says-told s c (head h) w (p, r) = ((line-sound sh sane today c s (head h) w p r).0, omega arith)
    says-told s c (file kind number) w (p, r) = ((line-sound sh sane today c s (file kind number) w p r).0, omega arith)
    says-told s c (item x) w (p, r) = ((line-sound sh sane today c s (item x) w p r).0, omega arith)
    says-told s c close_group w (p, r) = ((line-sound sh sane today c s close_group w p r).0, omega arith)
    says-told s c close_file w (p, r) = ((line-sound sh sane today c s close_file w p r).0, omega arith)

    -- what each line says fits, and no lines give fewer warnings than the canonical ones
    pub each-told : (ts : List Line) (ds : List Due) (w : ℕ) → Each sh today ts ds w → Every Told ds × (warned ds ≤ w)
    unfolding warned
    each-told [] [] w e = (tt, omega arith)
    each-told [] (d ∷ ds) w e = absurd e
    each-told (t ∷ ts) [] w e = absurd e
    each-told (t ∷ ts) (d ∷ ds) w (v, u, q, e, i) =
        let (f, a) = says-told t.bytes d.context d.entry v q in
        let (g, b) = each-told ts ds u e in
        ((f, g), omega arith)

  -- where a total that differs is refused, each line says its entry exactly
  strictly : sh.strict ≡ true → (s : List ℕ) (c : Context) (e : Entry) (w : ℕ) → SaysEntry sh today s c e w → (v : ℕ) × Reads sh today s c e v
  strictly on s c (group payer exact date) w (total, v, r, same, i) = (v, rw (same on) at r)
  strictly on s c (head h) w r = (w, r)
  strictly on s c (file kind number) w r = (w, r)
  strictly on s c (item x) w r = (w, r)
  strictly on s c close_group w r = (w, r)
  strictly on s c close_file w r = (w, r)

  pub each-exactly : sh.strict ≡ true → (ts : List Line) (ds : List Due) (w : ℕ) → Each sh today ts ds w → Exactly sh today ts ds
  each-exactly on [] [] w e = tt
  each-exactly on [] (d ∷ ds) w e = absurd e
  each-exactly on (t ∷ ts) [] w e = absurd e
  each-exactly on (t ∷ ts) (d ∷ ds) w (v, u, q, e, i) =
      (strictly on t.bytes d.context d.entry v q, each-exactly on ts ds u e)

  -- ---- what canonical lines say

  same_total : (n : ℕ) → differs n n ≡ 0
  unfolding differs
  same_total n = pick_true _ _ (eq-eqb n n refl)

  module _ (sane : Sane sh) where
    fits-says : (c : Context) (e : Entry) → Fits sh today c e → SaysEntry sh today (spell sh e) c e (warnings sh today (day_here sh c.kind) e)
    fits-says c (group payer exact date) f =
        (exact, _, line-back sh today c sane (group payer exact date) f, λ _. refl, omega (arith, same_total exact))
    fits-says c (head h) f = line-back sh today c sane (head h) f
    fits-says c (file kind number) f = line-back sh today c sane (file kind number) f
    fits-says c (item x) f = line-back sh today c sane (item x) f
    fits-says c close_group f = line-back sh today c sane close_group f
    fits-says c close_file f = line-back sh today c sane close_file f

    pub lines-back : (i : ℕ) (ds : List Due) → Every (Fits sh today) ds → Each sh today (lines_of i (text_of sh ds)) ds (warned ds)
    unfolding text_of lines_of warned
    lines-back i [] f = refl
    lines-back i (d ∷ ds) (f, g) =
        rw (line_first i (spell sh d.entry) (text_of sh ds) (line_plain sh today d.context sane d.entry f))
        (_, _, fits-says d.context d.entry f, lines-back (i + length (spell sh d.entry) + 2) ds g, refl)
