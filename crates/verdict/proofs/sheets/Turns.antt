-- The turns over the known sheets, of which k are done: their lines stand there, or their bits are set. Assumes nothing.
use Rattle.std.proofs.Common.{Option, Some, None}
use mathlib.Core.Path.{◌≡◌, refl, ap, ◌∙◌}
use mathlib.Core.Bool.{Bool, true}
use mathlib.Core.List.{List, ◌∷◌, ◌++◌}
use Prim.Native.Nat.{ℕ, ◌+◌, ◌-◌, ◌*◌, ◌^◌, ◌≤◌, ◌<◌}
use native.Mathlib.Nat.{pow-suc}
use native.Mathlib.Numerals.{add-one}
use native.Mathlib.Omega.{arith}
use lib.Dec.{eqb}
use lib.ListN.{length}
use lib.Pow.{pow-lt}
use borrow.Author.Tests.{ne_eqb}
use Rattle.base.specs.Pick.{pick}
use Rattle.base.proofs.Cases.{either}
use Rattle.sheet.specs.declared.Sheet.{Sheet}
use Rattle.sheet.specs.Sheets.{sheet_of}
use Rattle.paper.specs.Bytes.{bytes}
use Rattle.paper.specs.Days.{real_day}
use Rattle.paper.specs.Judge.{Answer, Refused, Accepted, judge}
use Rattle.paper.specs.Reading.{read_with}
use Rattle.tally.specs.Short.{brief}
use Rattle.tally.proofs.Short.{tally-is}
use Rattle.exact.proofs.named.Main.{judge-named}
use Rattle.numeral.specs.counted.Counted.{Counted}
use Rattle.numeral.proofs.counted.Laws.{counted-nothing, ◌counted-then◌}
use Rattle.why.specs.Finding.{accepts}
use Rattle.verdict.specs.declared.Verdict.{Verdict}
use Rattle.verdict.specs.Told.{verdict_of}
use Rattle.verdict.specs.Sheets.{verdict_words, sheet_line, lines_on, sheet_lines, accepting_on, accepting}
use Rattle.verdict.proofs.Laws.{in_brief, day-verdict}
use Rattle.verdict.proofs.sheets.Following.{left, many, many-few, left-all, left-none, left-next, next-number, next-few, next_known, turn-less}

-- the sheet of the number k + 1 has the verdict v
module _ (today : ℕ) (f : List ℕ) (k : ℕ) (r : Option Sheet) (g : r ≡ sheet_of (k + 1)) (sh : Sheet) (e : r ≡ Some sh) (v : Verdict) where
  whose : v ≡ verdict_of (read_with (sheet_of (k + 1)) today f (length f)) → v ≡ verdict_of (read_with (Some sh) today f (length f))
  whose h = h ∙ rw (next_known k r g sh e)

-- ---- lines

-- k lines were put from `at` on, and the place behind them is e: whoever puts the others there has put them all
pub record Said (today : ℕ) (f o : List ℕ) (at k : ℕ) (o1 : List ℕ) (e : ℕ) : Type 0 where
  pub few : k ≤ many
  pub long : length o1 ≡ length o
  pub all : (o2 : List ℕ) (r : ℕ) → Counted o1 e (lines_on today f (left k)) o2 r → Counted o at (sheet_lines today f) o2 r

module _ (today : ℕ) (f o : List ℕ) (at : ℕ) where
  pub said-none : Said today f o at 0 o at
  unfolding sheet_lines
  said-none = record { few = omega arith; long = refl; all = λ o2 r w. rw left-all at w }

  pub said-next : (k : ℕ) (o1 : List ℕ) (e : ℕ) → Said today f o at k o1 e → k + 1 < 2 ^ 64
  said-next k o1 e s = omega (arith, s.few, many-few)

  module _ (k : ℕ) (o1 : List ℕ) (e : ℕ) (s : Said today f o at k o1 e) (r : Option Sheet) (g : r ≡ sheet_of (k + 1)) where
    pub said_all : r ≡ None → Counted o at (sheet_lines today f) o1 e
    unfolding lines_on
    said_all z = s.all o1 e (rw (left-none k r g z) counted-nothing)

    module _ (sh : Sheet) (z : r ≡ Some sh) where
      pub said_more : (v : Verdict) → v ≡ verdict_of (read_with (sheet_of (k + 1)) today f (length f)) → (o2 : List ℕ) (e2 : ℕ)
          → Counted o1 e (bytes "Sheet " ++ (sh.letter ∷ verdict_words v)) o2 e2 → Said today f o at (k + 1) o2 e2
      unfolding lines_on sheet_line
      said_more v h o2 e2 w =
          record {
            few = omega (arith, next-few k r g sh z);
            long = w.long ∙ s.long;
            all = λ o3 e3 u. s.all o3 e3 (rw (left-next k r g sh z, ← whose today f k r g sh z v h) (w counted-then u));
          }

-- ---- bits

-- of k sheets those that accept the file are set, and those of the others are all that is missing; `bit` is the next
pub record Marks (today : ℕ) (f : List ℕ) (set bit k : ℕ) : Type 0 where
  pub few : k ≤ many
  pub power : bit ≡ 2 ^ k
  pub below : set < bit
  pub all : set + accepting_on today f (left k) ≡ accepting today f

-- a verdict has the number 0 exactly if the file is accepted
judged-accepts : (sh : Sheet) (today : ℕ) (f : List ℕ) (a : Answer) → judge sh today f ≡ a → eqb (in_brief (brief a)).number 0 ≡ accepts a
unfolding brief accepts
judged-accepts sh today f (Refused n l p) e = ne_eqb n 0 (λ z. omega (arith, (judge-named sh today f n l p e).0))
judged-accepts sh today f (Accepted h b w) e = refl

pub verdict-accepts : (sh : Sheet) (today : ℕ) (f : List ℕ) → real_day today ≡ true
    → eqb (verdict_of (read_with (Some sh) today f (length f))).number 0 ≡ accepts (judge sh today f)
verdict-accepts sh today f real =
    ap (λ (v : Verdict). eqb v.number 0) (day-verdict sh today f real ∙ ap in_brief (tally-is sh today f)) ∙ judged-accepts sh today f (judge sh today f) refl

module _ (today : ℕ) (f : List ℕ) where
  pub marks-none : Marks today f 0 1 0
  unfolding accepting
  marks-none = record { few = omega arith; power = refl; below = omega arith; all = rw left-all (omega arith) }

  module _ (set bit k : ℕ) (m : Marks today f set bit k) where
    pub marks-next : k + 1 < 2 ^ 64
    marks-next = omega (arith, m.few, many-few)

    module _ (r : Option Sheet) (g : r ≡ sheet_of (k + 1)) where
      pub marks-all : r ≡ None → set ≡ accepting today f
      unfolding accepting_on
      marks-all z = let t = rw (left-none k r g z) at m.all in omega (arith, t)

      module _ (sh : Sheet) (z : r ≡ Some sh) where
        bit-low : bit < 2 ^ 63
        bit-low = rw m.power (pow-lt {i = k} {j = 63} (omega (arith, next-few k r g sh z, many-few)))

        pub bit-fits : bit * 2 < 2 ^ 64
        bit-fits = omega (arith, bit-low)

        module _ (v : Verdict) (h : v ≡ verdict_of (read_with (sheet_of (k + 1)) today f (length f))) (x : ℕ) (is : x ≡ pick (eqb v.number 0) bit 0) where
          mark-most : x ≤ bit
          mark-most = rw is (either (λ (n : ℕ). n ≤ bit) (eqb v.number 0) (λ _. omega arith) (λ _. omega arith))

          pub marks-fit : set + x < 2 ^ 64
          marks-fit = omega (arith, mark-most, m.below, bit-low)

          -- the bit of the sheet, by its number and the judge's answer
          mark-is : real_day today ≡ true → x ≡ pick (accepts (judge sh today f)) (2 ^ (sh.number - 1)) 0
          mark-is real =
              let yes : eqb v.number 0 ≡ accepts (judge sh today f) =
              ap (λ (u : Verdict). eqb u.number 0) (whose today f k r g sh z v h) ∙ verdict-accepts sh today f real in
              let place : k ≡ sh.number - 1 = omega (arith, next-number k r g sh z) in
              is ∙ ap (λ (b : Bool). pick b bit 0) yes ∙ ap (λ (n : ℕ). pick (accepts (judge sh today f)) n 0) (m.power ∙ ap (λ (n : ℕ). 2 ^ n) place)

          pub marks-more : real_day today ≡ true → Marks today f (set + x) (bit * 2) (k + 1)
          unfolding accepting_on
          marks-more real =
              let t = rw (left-next k r g sh z) at m.all in
              record {
                few = omega (arith, next-few k r g sh z);
                power = rw (add-one, pow-suc, m.power);
                below = omega (arith, mark-most, m.below);
                all = omega (arith, t, mark-is real);
              }

pub ruleset lines = (said-none, said-next, said_all, said_more, turn-less)

pub ruleset marks = (marks-none, marks-next, marks-all, bit-fits, marks-fit, marks-more, turn-less)
