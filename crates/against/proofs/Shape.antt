-- The line of an account file, read with any test of its number: the test decides one thing alone. Assumes nothing.
use mathlib.Core.Path.{◌≡◌, refl, ◌∙◌}
use mathlib.Core.List.{List, [], ◌∷◌}
use Prim.Native.Nat.{ℕ, ◌+◌, ◌-◌, ◌*◌}
use native.Mathlib.Omega.{arith}
use lib.Dec.{eqb}
use lib.ListN.{drop}
use Rattle.base.specs.Pick.{pick}
use Rattle.base.specs.Seek.{seek}
use Rattle.base.proofs.Cases.{either}
use Rattle.sheet.specs.declared.Sheet.{Sheet}
use Rattle.paper.specs.Read.{Field, value, fault, given}
use Rattle.paper.specs.Bytes.{space, field_of, rest_of}
use Rattle.paper.specs.Numerals.{digits, digits_on}
use Rattle.paper.specs.Entries.{file, Listed, plain, no, on_field, field, gap, line_end}
use Rattle.paper.specs.FileLine.{read_kind, read_number, read_code, read_file}
use Rattle.tally.proofs.Abs.{map-pick}

-- The line is refused before its number; or its number n stands at `off`, and is refused there with what the test gives it, if it gives anything, and
-- else the line is read, or refused behind it. Nothing but the test refuses with 9.
pub data Shape (sh : Sheet) (s : List ℕ) : Type 0 where
  early : {c off : ℕ} → (c ≡ 9 → ⊥) → ((test : ℕ → ℕ) → read_file sh test s ≡ no c off) → Shape sh s
  whole : (n off kind : ℕ) → ((test : ℕ → ℕ) → read_file sh test s ≡ pick (eqb (test n) 0) (plain (file kind n)) (no (test n) off)) → Shape sh s
  late : (n off c at : ℕ) → (c ≡ 9 → ⊥) → ((test : ℕ → ℕ) → read_file sh test s ≡ pick (eqb (test n) 0) (no c at) (no (test n) off)) → Shape sh s

-- ---- fields that are not refused with 9

data NotNine : Field ℕ → Type 0 where
  is-value : {v : ℕ} → NotNine (value v)
  is_fault : {c : ℕ} → (c ≡ 9 → ⊥) → NotNine (fault c)

given-on : {x : Field ℕ} {k : ℕ → Field ℕ} → NotNine x → ((v : ℕ) → NotNine (k v)) → NotNine (given x k)
unfolding given
given-on (is-value {v = v}) p = p v
given-on (is_fault e) p = is_fault e

other4 : ◌≡◌ {A = ℕ} 4 9 → ⊥
other4 e = omega arith

four : NotNine (fault 4)
four = is_fault other4

digits-on : (v : ℕ) (s : List ℕ) → NotNine (digits_on v s)
unfolding digits_on
digits-on v [] = is-value
digits-on v (x ∷ s) = either NotNine _ (λ _. digits-on (v * 10 + (x - 48)) s) (λ _. four)

digits-read : (least most : ℕ) (s : List ℕ) → NotNine (digits least most s)
unfolding digits
digits-read least most s = either NotNine _ (λ _. four) (λ _. either NotNine _ (λ _. four) (λ _. digits-on 0 s))

kind-read : (sh : Sheet) (s : List ℕ) → NotNine (read_kind sh s)
unfolding read_kind
kind-read sh s = given-on (digits-read 4 4 s) λ k. either NotNine _ (λ _. is-value) (λ _. is_fault (λ e. omega arith))

code_read : (sh : Sheet) (s : List ℕ) → NotNine (read_code sh s)
unfolding read_code
code_read sh s = given-on (digits-read 4 4 s) λ b. either NotNine _ (λ _. is-value) (λ _. is_fault (λ e. omega arith))

-- ---- behind the number, no test is asked

abbrev behind : Sheet → ℕ → ℕ → ℕ → List ℕ → Listed
behind sh kind n a3 s3 = gap a3 s3 λ a4 s4. field (read_code sh) a4 s4 λ bank a5 s5. line_end a5 s5 (plain (file kind n))

data Ends (kind n : ℕ) : Listed → Type 0 where
  well : Ends kind n (plain (file kind n))
  badly : {c at : ℕ} → (c ≡ 9 → ⊥) → Ends kind n (no c at)

module _ (kind n : ℕ) where
  field-ends : (at : ℕ) {x : Field ℕ} {k : ℕ → Listed} → NotNine x → ((v : ℕ) → Ends kind n (k v)) → Ends kind n (on_field at x k)
  unfolding on_field
  field-ends at (is-value {v = v}) h = h v
  field-ends at (is_fault e) h = badly e

  line-ends : (at : ℕ) (s : List ℕ) → Ends kind n (line_end at s (plain (file kind n)))
  unfolding line_end
  line-ends at [] = well
  line-ends at (x ∷ s) = badly other4

  behind-ends : (sh : Sheet) (a3 : ℕ) (s3 : List ℕ) → Ends kind n (behind sh kind n a3 s3)
  unfolding gap field
  behind-ends sh a3 [] = badly other4
  behind-ends sh a3 (x ∷ s4) = field-ends (a3 + 1) (code_read sh (field_of s4)) λ bank. line-ends _ _

-- ---- the line from the left: what is left of it to be read, whatever the test

module _ (sh : Sheet) (s : List ℕ) where
  ends-shape : (kind n off : ℕ) {r : Listed} → Ends kind n r
      → ((test : ℕ → ℕ) → read_file sh test s ≡ pick (eqb (test n) 0) r (no (test n) off)) → Shape sh s
  ends-shape kind n off well h = whole n off kind h
  ends-shape kind n off (badly {c = c} {at = at} e) h = late n off c at e h

  number-shape : (kind off : ℕ) {x : Field ℕ} (k : ℕ → Listed) → NotNine x → ((n : ℕ) → Ends kind n (k n))
      → ((test : ℕ → ℕ) → read_file sh test s ≡ on_field off (given x λ n. pick (eqb (test n) 0) (value n) (fault (test n))) k) → Shape sh s
  unfolding on_field given
  number-shape kind off k (is-value {v = n}) ends h =
      ends-shape kind n off (ends n) λ test. h test ∙ map-pick (λ x. on_field off x k) (eqb (test n) 0) (value n) (fault (test n))
  number-shape kind off k (is_fault e) ends h = early e h

  gap-shape : (kind a1 : ℕ) (s1 : List ℕ)
      → ((test : ℕ → ℕ) → read_file sh test s ≡ gap a1 s1 λ a2 s2. field (read_number test) a2 s2 λ n a3 s3. behind sh kind n a3 s3) → Shape sh s
  unfolding gap field read_number
  gap-shape kind a1 [] h = early other4 h
  gap-shape kind a1 (x ∷ s2) h =
      number-shape kind (a1 + 1) (λ n. behind sh kind n (a1 + 1 + seek space s2) (rest_of s2)) (digits-read 6 6 (field_of s2))
      (λ n. behind-ends kind n sh (a1 + 1 + seek space s2) (rest_of s2)) h

  kind-shape : {x : Field ℕ} (a1 : ℕ) (s1 : List ℕ) → NotNine x
      → ((test : ℕ → ℕ)
      → read_file sh test s ≡ on_field 2 x λ kind. gap a1 s1 λ a2 s2. field (read_number test) a2 s2 λ n a3 s3. behind sh kind n a3 s3)
      → Shape sh s
  unfolding on_field
  kind-shape a1 s1 (is-value {v = kind}) h = gap-shape kind a1 s1 h
  kind-shape a1 s1 (is_fault e) h = early e h

pub shape : (sh : Sheet) (s : List ℕ) → Shape sh s
unfolding read_file field
shape sh s = kind-shape sh s (2 + seek space (drop 2 s)) (rest_of (drop 2 s)) (kind-read sh (field_of (drop 2 s))) (λ test. refl)
