-- How long the text is: of a refused file at most 2,048 bytes, and of any file no more than 64 bits can count. Assumes nothing.
use Rattle.std.proofs.Common.{Err, Result, Ok}
use mathlib.Core.Path.{◌≡◌, refl, sym, subst}
use mathlib.Core.Bool.{true}
use mathlib.Core.List.{List, ◌++◌}
use Prim.Native.Nat.{ℕ, ◌*◌, ◌^◌, ◌≤◌, ◌<◌}
use native.Mathlib.Omega.{arith}
use lib.ListN.{length, length-append}
use Rattle.sheet.specs.declared.Sheet.{Sheet}
use Rattle.sheet.specs.Sheets.{sheets}
use Rattle.paper.specs.Bytes.{bytes}
use Rattle.paper.specs.Numerals.{decimal}
use Rattle.paper.specs.Judge.{Refused, judge}
use Rattle.numeral.specs.counted.Counted.{Counted}
use Rattle.spelling.proofs.linelen.Lengths.{decimal-twenty}
use Rattle.listing.specs.declared.Telling.{Telling}
use Rattle.listing.specs.Listed.{listed}
use Rattle.why.specs.declared.Finding.{Finding}
use Rattle.tracing.specs.declared.file.Tallied.{Tallied}
use Rattle.tracing.specs.file.Comes.{Comes}
use Rattle.verdict.specs.Sheets.{sheet_lines}
use Rattle.verdict.proofs.sheets.Saying.{sheet-lines-short}
use Rattle.findings.specs.Findings.{findings_of, findings, in_words}
use Rattle.findings.proofs.Lengths.{words_long}
use Rattle.findings.proofs.outcome.Comes.{outcome-count}
use Rattle.findings.specs.outcome.Counts.{count_in}
use Rattle.explain.specs.Explanation.{refused_heading, counts_words, accepted_heading, heading, text_on}
use Rattle.explain.specs.Parts.{heading_in, text_in}

-- five sheets, at most 97 bytes a line
pub lines-short : (today : ℕ) (f : List ℕ) → length (sheet_lines today f) ≤ 1000
lines-short today f = let n : length sheets ≡ 5 = refl in omega (arith, sheet-lines-short today f, n)

refused-short : (letter : ℕ) → length (refused_heading letter) ≤ 20
unfolding refused_heading
refused-short letter = omega arith

accepted-short : (letter rows warnings : ℕ) → length (accepted_heading letter rows warnings) ≤ 80
unfolding accepted_heading counts_words
accepted-short letter rows warnings =
    omega
    (arith, decimal-twenty rows, decimal-twenty warnings, length-append (decimal rows) (bytes ", warnings " ++ (decimal warnings ++ bytes ".\n")), length-append (decimal warnings) (bytes ".\n"))

heading-short : (letter : ℕ) (s : Result Tallied Finding) → length (heading_in letter s) ≤ 80
heading-short letter (Err x) = omega (arith, refused-short letter)
heading-short letter (Ok p) = accepted-short letter p.rows p.warnings

count_low : (sh : Sheet) (today : ℕ) (f : List ℕ) (s : Result Tallied Finding) → Comes sh today f s → count_in s ≤ 799992001
count_low sh today f (Err x) c = omega arith
count_low sh today f (Ok p) c = c.warnings_low

telling-is : (u : Telling) → u.words ≡ true → u ≡ in_words u.sheet u.today
telling-is u e = rw (← e)

module _ (t : Telling) (f : List ℕ) (s : Result Tallied Finding) (comes : Comes t.sheet t.today f s) (words : t.words ≡ true) (lines : List ℕ) (few : length lines ≤ 1024) where
  listed-low : length (listed t f (findings t.sheet t.today f)) ≤ 1024 * 799992001
  listed-low =
      let is : t ≡ in_words t.sheet t.today = telling-is t words in
      let low : length (findings t.sheet t.today f) ≤ 799992001 = omega (arith, count_low t.sheet t.today f s comes, outcome-count t.sheet t.today f s comes) in
      subst (λ (u : Telling). length (listed u f (findings t.sheet t.today f)) ≤ 1024 * 799992001) (sym is)
      (omega (arith, words_long t.sheet t.today f (findings t.sheet t.today f), low))

  pub text-low : length (text_in t f s lines) < 2 ^ 64
  text-low =
      omega (
        arith,
        heading-short t.sheet.letter s,
        listed-low,
        few,
        length-append (heading_in t.sheet.letter s) (listed t f (findings t.sheet t.today f) ++ lines),
        length-append (listed t f (findings t.sheet t.today f)) lines,
      )

  -- text_len
  pub text-counted : {o o1 : List ℕ} {r : ℕ} → Counted o 0 (text_in t f s lines) o1 r → r ≡ length (text_in t f s lines)
  text-counted w = omega (arith, w.next (omega (arith, text-low)))

-- ABO_EXPLAIN_BYTES: the text of a refused file, whatever the file is
pub refused-text : (sh : Sheet) (today : ℕ) (f : List ℕ) (n l p : ℕ) → judge sh today f ≡ Refused n l p → length (text_on sh today f) ≤ 2048
unfolding text_on heading findings findings_of
refused-text sh today f n l p e =
    let s = listed (in_words sh today) f (findings sh today f) in
    let one : length (findings sh today f) ≡ 1 = rw e in
    let head : length (heading sh.letter (judge sh today f)) ≤ 20 = rw e (refused-short sh.letter) in
    omega (
      arith,
      head,
      words_long sh today f (findings sh today f),
      one,
      lines-short today f,
      length-append (heading sh.letter (judge sh today f)) (s ++ sheet_lines today f),
      length-append s (sheet_lines today f),
    )
