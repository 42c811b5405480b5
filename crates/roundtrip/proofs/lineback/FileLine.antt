-- The canonical line of an account file is read as its kind and number. Assumes nothing.
use mathlib.Core.Path.{◌≡◌, refl, sym, ◌∙◌}
use mathlib.Core.Bool.{true}
use Prim.Native.Nat.{ℕ, ◌^◌, ◌<◌, ◌≤◌}
use native.Mathlib.Omega.{arith}
use lib.Dec.{eqb, ltb}
use borrow.Author.Tests.{leb-true, eq-eqb}
use Rattle.base.specs.Pick.{pick}
use Rattle.base.specs.Seek.{starts, Free}
use Rattle.base.proofs.Cases.{either, pick_true}
use Rattle.base.proofs.Seek.{never}
use Rattle.sheet.specs.declared.Sheet.{Sheet}
use Rattle.sheet.specs.Sheets.{kind_allowed, bank_allowed}
use Rattle.sheet.proofs.Laws.{Sane}
use Rattle.paper.specs.Read.{value, given}
use Rattle.paper.specs.Bytes.{space}
use Rattle.paper.specs.Numerals.{fixed}
use Rattle.paper.specs.Proper.{kind_proper}
use Rattle.paper.specs.Entries.{file, plain, file_line, kind_of, gap, line_end}
use Rattle.paper.specs.FileLine.{read_kind, read_number, read_code, read_file, spell_file}
use Rattle.numeral.proofs.Back.{fixed_back}
use Rattle.numeral.proofs.Plain.{fixed_plain}
use Rattle.roundtrip.specs.linesound.Fits.{FileFits}
use Rattle.roundtrip.proofs.lineback.Fields.{at_space, digits-field, field_back, last-back}

kind-low : (k : ℕ) → kind_proper k ≡ true → k < 10 ^ 4
unfolding kind_proper
kind-low k = either (λ b. b ≡ true → k < 10 ^ 4) (ltb k 1501) (λ _ e. never (sym e)) (λ _ e. omega (arith, leb-true k 1504 e))

kind-back : (sh : Sheet) (k : ℕ) → kind_proper k ≡ true → kind_allowed sh k ≡ true → read_kind sh (fixed 4 k) ≡ value k
unfolding read_kind given
kind-back sh k p h = rw (fixed_back 4 k (kind-low k p)) (pick_true _ _ h)

number-back : (test : ℕ → ℕ) (n : ℕ) → n < 10 ^ 6 → eqb (test n) 0 ≡ true → read_number test (fixed 6 n) ≡ value n
unfolding read_number given
number-back test n l h = rw (fixed_back 6 n l) (pick_true _ _ h)

code-back : (sh : Sheet) → sh.bank ≤ 9999 → read_code sh (fixed 4 sh.bank) ≡ value sh.bank
unfolding read_code bank_allowed given
code-back sh l =
    rw (fixed_back 4 sh.bank (omega arith))
    (pick_true _ _ (either (λ b. b ≡ true) sh.anybank (λ _. refl) (λ _. eq-eqb sh.bank sh.bank refl)))

fixed-field : (k n : ℕ) → Free space (fixed k n)
fixed-field k n = digits-field (fixed k n) (fixed_plain k n)

pub kind-file : (sh : Sheet) (k n : ℕ) → kind_of (spell_file sh k n) ≡ file_line
unfolding kind_of starts spell_file pick
kind-file sh k n = refl

pub file-back : (sh : Sheet) → Sane sh → (test : ℕ → ℕ) (k n : ℕ) → FileFits sh test k n → read_file sh test (spell_file sh k n) ≡ plain (file k n)
unfolding read_file spell_file gap line_end
file-back sh sane test k n f =
    field_back (read_kind sh) 2 (fixed 4 k) k _ _ (fixed-field 4 k) at_space (kind-back sh k f.kind-proper f.kind-allowed)
    ∙ field_back (read_number test) _ (fixed 6 n) n _ _ (fixed-field 6 n) at_space (number-back test n f.number_low f.number-allowed)
    ∙ last-back (read_code sh) _ (fixed 4 sh.bank) sh.bank _ (fixed-field 4 _) (code-back sh sane.bank_low)
