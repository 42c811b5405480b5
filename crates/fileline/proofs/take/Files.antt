-- The line that begins an account file: its kind and its number stand at their places. Assumes nothing.
use mathlib.Core.Path.{◌≡◌, refl, sym, ◌∙◌}
use mathlib.Core.Bool.{true}
use mathlib.Core.List.{List}
use Prim.Native.Nat.{ℕ, ◌*◌, ◌+◌, ◌≤◌}
use native.Mathlib.Omega.{arith}
use mir.Val.{Fits}
use mir.Syntax.{w64}
use lib.Dec.{eqb}
use lib.ListN.{length, take, drop}
use Rattle.sheet.specs.declared.Sheet.{Sheet}
use Rattle.sheet.specs.Sheets.{kind_allowed}
use Rattle.paper.specs.Read.{value}
use Rattle.paper.specs.Bytes.{field_of}
use Rattle.paper.specs.Numerals.{digits}
use Rattle.paper.specs.Entries.{file, Listed, plain, field, gap, line_end}
use Rattle.paper.specs.FileLine.{read_kind, read_number, read_code, read_file}
use Rattle.numeral.proofs.Sound.{same, digits-sound}
use Rattle.numeral.specs.field.At.{found, field_at}
use Rattle.numeral.specs.placed.Placed.{Placed}
use Rattle.numeral.proofs.placed.Placed.{placed-part, placed-front, placed-join, field-placed}
use Rattle.numeral.specs.placed.Known.{There}
use Rattle.numeral.proofs.placed.Parts.{some-value, at_value}
use Rattle.numeral.specs.placed.Said.{is_said}
use Rattle.numeral.proofs.placed.Goes.{said-as, next-goes, next-there}
use Rattle.fileline.specs.take.Any.{any_number}
use Rattle.numeral.proofs.placed.Last.{tested, known-long, known-digits, last-is}

module _ (sh : Sheet) (s : List ℕ) (h : is_said (read_file sh any_number s) ≡ true) where
  -- what follows KIND, and what follows NUMBER
  abbrev from_code : ℕ → ℕ → ℕ → List ℕ → Listed
  from_code kind number at t = field (read_code sh) at t λ bank a1 s1. line_end a1 s1 (plain (file kind number))

  abbrev from_number : ℕ → ℕ → List ℕ → Listed
  from_number kind at t = field (read_number any_number) at t λ number a1 s1. gap a1 s1 λ a2 s2. from_code kind number a2 s2

  kind-there : There (read_kind sh) s 2
  unfolding read_file
  kind-there = next-there (read_kind sh) s 2 from_number h

  kind-some : (k : ℕ) × (read_kind sh (field_of (drop 2 s)) ≡ value k)
  kind-some = some-value (read_kind sh (field_of (drop 2 s))) kind-there.says

  abbrev kind : ℕ
  kind = kind-some.0

  kind-digits : digits 4 4 (field_of (drop 2 s)) ≡ value kind
  unfolding read_kind
  kind-digits = tested (kind_allowed sh) 7 (digits 4 4 (field_of (drop 2 s))) kind kind-some.1

  kind-found : found kind 6 ≡ field_at (read_kind sh) s 2
  kind-found = at_value (read_kind sh) s 2 kind kind 6 kind-some.1 refl (omega (arith, known-long 4 (drop 2 s) kind kind-digits))

  to_number : read_file sh any_number s ≡ from_number kind 7 (drop 7 s)
  unfolding read_file
  to_number = next-goes (read_kind sh) s 2 from_number h kind 6 kind-found

  said-number : is_said (from_number kind 7 (drop 7 s)) ≡ true
  said-number = said-as _ _ h to_number

  number-there : There (read_number any_number) s 7
  number-there = next-there (read_number any_number) s 7 (from_code kind) said-number

  number-some : (n : ℕ) × (read_number any_number (field_of (drop 7 s)) ≡ value n)
  number-some = some-value (read_number any_number (field_of (drop 7 s))) number-there.says

  abbrev number : ℕ
  number = number-some.0

  number_digits : digits 6 6 (field_of (drop 7 s)) ≡ value number
  unfolding read_number
  number_digits = tested (λ n. eqb (any_number n) 0) 0 (digits 6 6 (field_of (drop 7 s))) number number-some.1

  number-found : found number 13 ≡ field_at (read_number any_number) s 7
  number-found = at_value (read_number any_number) s 7 number number 13 number-some.1 refl (omega (arith, known-long 6 (drop 7 s) number number_digits))

  to-code : from_number kind 7 (drop 7 s) ≡ from_code kind number 14 (drop 14 s)
  to-code = next-goes (read_number any_number) s 7 (from_code kind) said-number number 13 number-found

  said-code : is_said (from_code kind number 14 (drop 14 s)) ≡ true
  said-code = said-as _ _ said-number to-code

  says : from_code kind number 14 (drop 14 s) ≡ plain (file kind number)
  says = last-is (read_code sh) s 14 (λ bank. plain (file kind number)) said-code

  -- ---- at their places

  kind-inside : 2 ≤ length s
  kind-inside = omega (arith, kind-there.on)

  pub kind-placed : Placed 4 s 2
  kind-placed = rw (known-long 4 (drop 2 s) kind kind-digits) at (field-placed 4 4 s 2 kind kind-inside kind-digits)

  number-placed : Placed 6 s 7
  number-placed = rw (known-long 6 (drop 7 s) number number_digits) at (field-placed 6 6 s 7 number (omega (arith, number-there.on)) number_digits)

  pub number-first : Placed 4 s 7
  number-first = placed-front 4 6 s 7 (omega arith) number-placed

  pub number-second : Placed 2 s 11
  number-second = placed-part 2 4 6 s 7 (omega arith) number-placed

  pub file-is : (a b c : ℕ) → digits 4 4 (take 4 (drop 2 s)) ≡ value a → digits 4 4 (take 4 (drop 7 s)) ≡ value b → digits 2 2 (take 2 (drop 11 s)) ≡ value c
      → plain (file a (b * 100 + c)) ≡ read_file sh any_number s
  file-is a b c x y z =
      let k : a ≡ kind = same a kind (sym x ∙ known-digits 4 (drop 2 s) kind kind-digits) in
      let n : b * 100 + c ≡ number = same (b * 100 + c) number (sym (placed-join 4 2 s 7 b c y z) ∙ known-digits 6 (drop 7 s) number number_digits) in
      rw (k, n) (sym (to_number ∙ (to-code ∙ says)))

module _ (w : List ℕ) (b : ℕ) (g : digits 4 4 w ≡ value b) where
  pub first_fits : Fits w64 (b * 100)
  first_fits = omega (arith, digits-sound 4 4 w b g)

  pub both-fit : (u : List ℕ) (c : ℕ) → digits 2 2 u ≡ value c → Fits w64 (b * 100 + c)
  both-fit u c e = omega (arith, digits-sound 4 4 w b g, digits-sound 2 2 u c e)

pub ruleset files = (kind-placed, number-first, number-second, file-is, first_fits, both-fit)
