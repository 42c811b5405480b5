-- The text by its parts, put one after the other. Assumes nothing.
use Rattle.std.proofs.Common.{Err, Result, Ok}
use mathlib.Core.Path.{◌≡◌, refl}
use mathlib.Core.List.{List, [], ◌∷◌, ◌++◌}
use Prim.Native.Nat.{ℕ}
use Rattle.sheet.specs.declared.Sheet.{Sheet}
use Rattle.paper.specs.Bytes.{bytes}
use Rattle.paper.specs.Numerals.{decimal}
use Rattle.paper.specs.Judge.{judge}
use Rattle.numeral.specs.counted.Counted.{Counted}
use Rattle.numeral.proofs.counted.Laws.{◌counted-then◌}
use Rattle.why.specs.declared.Finding.{Finding}
use Rattle.listing.specs.declared.Telling.{Telling}
use Rattle.listing.specs.Listed.{listed}
use Rattle.tracing.specs.declared.file.Tallied.{Tallied}
use Rattle.tracing.specs.file.Comes.{Comes}
use Rattle.verdict.specs.Sheets.{sheet_lines}
use Rattle.findings.specs.Findings.{findings, in_words}
use Rattle.explain.specs.Explanation.{refused_heading, counts_words, accepted_heading, heading, text_on}
use Rattle.explain.specs.Parts.{heading_in, text_in}

module _ {o o1 o2 o3 : List ℕ} {at b c r : ℕ} where
  pub then-refused : (letter : ℕ) → Counted o at (bytes "Refused on sheet ") o1 b → Counted o1 b (letter ∷ []) o2 c → Counted o2 c (bytes ".\n") o3 r
      → Counted o at (refused_heading letter) o3 r
  unfolding refused_heading
  then-refused letter u v w = u counted-then v counted-then w

  -- put_text
  pub then-text : (t : Telling) (f lines : List ℕ) (s : Result Tallied Finding) → Counted o at (heading_in t.sheet.letter s) o1 b
      → Counted o1 b (listed t f (findings t.sheet t.today f)) o2 c → Counted o2 c lines o3 r → Counted o at (text_in t f s lines) o3 r
  then-text t f lines s u v w = u counted-then v counted-then w

counts-is : (rows warnings : ℕ) → counts_words rows warnings ≡ (bytes ", rows " ++ decimal rows) ++ ((bytes ", warnings " ++ decimal warnings) ++ bytes ".\n")
unfolding counts_words
counts-is rows warnings = refl

module _ {o o1 o2 o3 : List ℕ} {at b c r : ℕ} (rows warnings : ℕ) where
  pub then-counts : Counted o at (bytes ", rows " ++ decimal rows) o1 b → Counted o1 b (bytes ", warnings " ++ decimal warnings) o2 c → Counted o2 c (bytes ".\n") o3 r
      → Counted o at (counts_words rows warnings) o3 r
  then-counts u v w = rw (counts-is rows warnings) (u counted-then v counted-then w)

  pub then-accepted : (letter : ℕ) → Counted o at (bytes "Accepted on sheet ") o1 b → Counted o1 b (letter ∷ []) o2 c → Counted o2 c (counts_words rows warnings) o3 r
      → Counted o at (accepted_heading letter rows warnings) o3 r
  unfolding accepted_heading
  then-accepted letter u v w = u counted-then v counted-then w

-- s was found to be this
module _ {o o1 : List ℕ} {at r : ℕ} (letter : ℕ) (s : Result Tallied Finding) where
  pub heading-found : (x : Finding) → s ≡ Err x → Counted o at (refused_heading letter) o1 r → Counted o at (heading_in letter s) o1 r
  heading-found x e w = rw e w

  pub heading-passed : (p : Tallied) → s ≡ Ok p → Counted o at (accepted_heading letter p.rows p.warnings) o1 r → Counted o at (heading_in letter s) o1 r
  heading-passed p e w = rw e w

pub ruleset headings = (heading-found, heading-passed)

-- ---- the text of the file

module _ (sh : Sheet) (today : ℕ) (f : List ℕ) where
  heading-is : (s : Result Tallied Finding) → Comes sh today f s → heading_in sh.letter s ≡ heading sh.letter (judge sh today f)
  unfolding heading
  heading-is (Err x) (is, judged) = rw judged
  heading-is (Ok p) c = rw (c.judged, c.counted)

  pub text-is : (s : Result Tallied Finding) → Comes sh today f s → text_in (in_words sh today) f s (sheet_lines today f) ≡ text_on sh today f
  unfolding text_on
  text-is s c = rw (heading-is s c)
