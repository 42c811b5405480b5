-- How explaining ends: the text put or not, 2 and 1. Assumes nothing.
use Rattle.std.proofs.Common.{Result, Option, Some, None}
use mathlib.Core.Path.{◌≡◌, sym, ◌∙◌}
use mathlib.Core.Bool.{Bool, true, false}
use mathlib.Core.List.{List}
use Prim.Native.Nat.{ℕ, ◌-◌, ◌^◌, ◌≤◌, ◌<◌}
use native.Mathlib.Omega.{arith}
use lib.ListN.{length, take, drop}
use lib.Seq.{take-append_seam}
use borrow.Author.Tests.{lt-ltb, le-ltb}
use Rattle.base.specs.Pick.{pick}
use Rattle.sheet.specs.declared.Sheet.{Sheet}
use Rattle.sheet.specs.Sheets.{sheet_of}
use Rattle.sheet.proofs.Laws.{sheet-sane}
use Rattle.paper.specs.Days.{real_day}
use Rattle.paper.specs.Writing.{drafted, written_in, output_after}
use Rattle.numeral.specs.counted.Counted.{Counted}
use Rattle.numeral.proofs.counted.Laws.{counted-wrote}
use Rattle.why.specs.declared.Finding.{Finding}
use Rattle.tracing.specs.declared.file.Tallied.{Tallied}
use Rattle.tracing.specs.file.Comes.{Comes}
use Rattle.verdict.specs.Sheets.{sheet_lines}
use Rattle.findings.specs.Findings.{in_words}
use Rattle.findings.proofs.Exits.{put_front}
use Rattle.explain.specs.Explanation.{text_on, explanation_with, explanation}
use Rattle.explain.specs.Parts.{text_in}
use Rattle.explain.specs.Told.{TextAnswer, text_answer}
use Rattle.explain.proofs.Text.{text-is}
use Rattle.explain.proofs.Lengths.{lines-short, text-low}

-- ---- the output o, and o1 afterwards; n is the length of the text s

module _ (o s : List ℕ) (n : ℕ) (long : n ≡ length s) where
  -- 16, with the bytes needed, and the output as it was
  pub short-answer : length o < n → record { number = 16; bytes = n } ≡ text_answer (written_in (length o) (drafted s))
  unfolding written_in pick
  short-answer h = rw (← long, lt-ltb (length o) n h)

  pub short-output : length o < n → o ≡ output_after o (drafted s)
  unfolding output_after pick
  short-output h = rw (← long, lt-ltb (length o) n h)

  -- 0, with the bytes written, and the text in front
  pub full-answer : n ≤ length o → record { number = 0; bytes = n } ≡ text_answer (written_in (length o) (drafted s))
  unfolding written_in pick
  full-answer h = rw (← long, le-ltb (length o) n h)

  pub full-output : n ≤ length o → length s < 2 ^ 64 → (o1 : List ℕ) (r : ℕ) → Counted o 0 s o1 r → o1 ≡ output_after o (drafted s)
  unfolding output_after pick
  full-output h low o1 r w =
      (counted-wrote w (omega (arith, low)) (omega arith)).left ∙ put_front o s ∙ rw (← long, le-ltb (length o) n h)

pub ruleset outputs = (short-answer, short-output, full-answer, full-output, text-low)

-- ---- the sheets' lines, put aside in 1,024 bytes: n is the place behind them

module _ (today : ℕ) (f o o1 : List ℕ) (n : ℕ) (w : Counted o 0 (sheet_lines today f) o1 n) (room : length o ≡ 1024) where
  aside-long : n ≡ length (sheet_lines today f)
  aside-long = omega (arith, w.next (omega (arith, lines-short today f)))

  pub aside-few : n ≤ length o1
  aside-few = omega (arith, aside-long, lines-short today f, w.long)

  pub aside-lines : take (n - 0) (drop 0 o1) ≡ sheet_lines today f
  aside-lines =
      let kept = (counted-wrote w (omega (arith, lines-short today f)) (omega (arith, lines-short today f))).left ∙ put_front o (sheet_lines today f) in
      let e : n - 0 ≡ length (sheet_lines today f) = omega (arith, aside-long) in
      rw (e, kept) (take-append_seam (sheet_lines today f) _)

  pub aside-short : length (take (n - 0) (drop 0 o1)) ≤ 1024
  aside-short = rw aside-lines (omega (arith, lines-short today f))

  -- the text with them is the file's
  module _ (sh : Sheet) (s : Result Tallied Finding) (comes : Comes sh today f s) where
    pub aside-answer : (l : List ℕ) (a : TextAnswer) → a ≡ text_answer (written_in (length l) (drafted (text_in (in_words sh today) f s (take (n - 0) (drop 0 o1)))))
        → a ≡ text_answer (written_in (length l) (drafted (text_on sh today f)))
    aside-answer l a e = e ∙ rw (aside-lines, text-is sh today f s comes)

    pub aside-output : (l l1 : List ℕ) → l1 ≡ output_after l (drafted (text_in (in_words sh today) f s (take (n - 0) (drop 0 o1)))) → l1 ≡ output_after l (drafted (text_on sh today f))
    aside-output l l1 e = e ∙ rw (aside-lines, text-is sh today f s comes)

pub ruleset asides = (aside-few, aside-short, aside-answer, aside-output)

-- ---- 2: t says whether today is a day

module _ (sh : Sheet) (today : ℕ) (f l l1 : List ℕ) (a : TextAnswer) (t : Bool) (g : t ≡ real_day today) where
  pub real-known : t ≡ true → real_day today ≡ true
  real-known e = sym g ∙ e

  pub that-day : t ≡ true → a ≡ text_answer (written_in (length l) (drafted (text_on sh today f))) → a ≡ text_answer (written_in (length l) (explanation_with (Some sh) today f))
  unfolding explanation_with pick
  that-day e h = h ∙ rw (← g, e)

  pub output-that-day : t ≡ true → l1 ≡ output_after l (drafted (text_on sh today f)) → l1 ≡ output_after l (explanation_with (Some sh) today f)
  unfolding explanation_with pick
  output-that-day e h = h ∙ rw (← g, e)

  pub no_day : t ≡ false → a ≡ record { number = 2; bytes = 0 } → a ≡ text_answer (written_in (length l) (explanation_with (Some sh) today f))
  unfolding explanation_with written_in pick
  no_day e h = h ∙ rw (← g, e)

  pub output-no-day : t ≡ false → l1 ≡ l → l1 ≡ output_after l (explanation_with (Some sh) today f)
  unfolding explanation_with output_after pick
  output-no-day e h = h ∙ rw (← g, e)

pub ruleset on-days = (real-known, that-day, output-that-day, no_day, output-no-day)

-- ---- 1: r is the sheet that the number names

module _ (r : Option Sheet) (n : ℕ) (g : r ≡ sheet_of n) where
  pub sheet-known : (sh : Sheet) → r ≡ Some sh → sheet_of n ≡ Some sh
  sheet-known sh e = sym g ∙ e

  module _ (today : ℕ) (f l l1 : List ℕ) (a : TextAnswer) where
    pub on-sheet : (sh : Sheet) → r ≡ Some sh → a ≡ text_answer (written_in (length l) (explanation_with (Some sh) today f)) → a ≡ text_answer (written_in (length l) (explanation n today f))
    unfolding explanation
    on-sheet sh e h = h ∙ rw (← g, e)

    pub output-on-sheet : (sh : Sheet) → r ≡ Some sh → l1 ≡ output_after l (explanation_with (Some sh) today f) → l1 ≡ output_after l (explanation n today f)
    unfolding explanation
    output-on-sheet sh e h = h ∙ rw (← g, e)

    pub no_sheet : r ≡ None → a ≡ record { number = 1; bytes = 0 } → a ≡ text_answer (written_in (length l) (explanation n today f))
    unfolding explanation explanation_with written_in
    no_sheet e h = h ∙ rw (← g, e)

    pub output-no-sheet : r ≡ None → l1 ≡ l → l1 ≡ output_after l (explanation n today f)
    unfolding explanation explanation_with output_after
    output-no-sheet e h = h ∙ rw (← g, e)

pub ruleset on-sheets = (sheet-sane, sheet-known, on-sheet, output-on-sheet, no_sheet, output-no-sheet)
