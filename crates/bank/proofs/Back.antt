-- The bank field's canonical spelling is read back with no warning, and consists of digits. Assumes nothing.
use mathlib.Core.Path.{◌≡◌, refl, ap, ◌∙◌}
use mathlib.Core.Bool.{Bool, true, false}
use Prim.Native.Nat.{ℕ, ◌+◌, ◌*◌, ◌/◌, ◌%◌, ◌^◌, ◌≤◌, ◌<◌}
use native.Mathlib.Omega.{arith}
use lib.Dec.{eqb}
use borrow.Author.Tests.{le-ltb, ne_eqb, eqb-true}
use Rattle.base.specs.Pick.{pick}
use Rattle.base.specs.Seek.{all}
use Rattle.base.proofs.Cases.{either, by-eq}
use Rattle.paper.specs.Read.{value, given}
use Rattle.paper.specs.Bytes.{is_digit}
use Rattle.paper.specs.Numerals.{fixed}
use Rattle.paper.specs.BankField.{ninth, read_bank, bank_proper, priority_proper, priority_carried, spell_bank}
use Rattle.numeral.proofs.Plain.{fixed_plain}
use Rattle.bank.proofs.Range.{bank-some, bank-most, priority-some, priority-most}
use Rattle.bank.proofs.Spelled.{short, long}
use Rattle.numeral.proofs.Back.{fixed-within}

-- the ninth digit as it is spelled: none, or the priority
ninth-none : (ranked : Bool) (b c : ℕ) → ninth ranked 0 b c ≡ value (record { bank = b; constant = c; priority = 5; warnings = 0 })
unfolding ninth pick
ninth-none true b c = refl
ninth-none false b c = refl

ninth-some : (p b c : ℕ) → 3 ≤ p → ninth true p b c ≡ value (record { bank = b; constant = c; priority = p; warnings = 0 })
unfolding ninth pick
ninth-some p b c h = simp (le-ltb p 3 h, le-ltb p 1 (omega arith))

-- digits that spell d, b and c
reads : (ranked : Bool) (k d b c : ℕ) → 8 ≤ k → k ≤ 10 → d * 100000000 + (b * 10000 + c) < 10 ^ k → d ≤ 9 → 1 ≤ b → b ≤ 9999 → c < 10 ^ 4
    → read_bank ranked (fixed k (d * 100000000 + (b * 10000 + c))) ≡ ninth ranked d b c
unfolding read_bank given pick
reads ranked k d b c l m h e f g i =
    let n : ℕ = d * 100000000 + (b * 10000 + c) in
    let eb : n / 10000 % 10000 ≡ b = omega arith in
    let ed : n / 100000000 ≡ d = omega arith in
    let ec : n % 10000 ≡ c = omega arith in
    rw (fixed-within 8 10 k n l m h, eb, ed, ec) (simp (ne_eqb b 0 (λ z. absurd (omega arith)), le-ltb 999999999 n (omega arith)))

-- a priority that is not 5 is carried only where the field holds it
carried-ranked : (ranked : Bool) (p : ℕ) → priority_carried ranked p ≡ true → (p ≡ 5 → ⊥) → ranked ≡ true
unfolding priority_carried pick
carried-ranked true p h n = refl
carried-ranked false p h n = absurd (n (eqb-true p 5 h))

pub bank-back : (ranked : Bool) (b c p : ℕ) → bank_proper b ≡ true → c < 10 ^ 4 → priority_proper p ≡ true → priority_carried ranked p ≡ true
    → read_bank ranked (spell_bank b c p) ≡ value (record { bank = b; constant = c; priority = p; warnings = 0 })
bank-back ranked b c p hb hc hp hr =
    let lo : 1 ≤ b = bank-some b hb in
    let hi : b ≤ 9999 = bank-most b hb in
    by-eq p 5
    (λ e.
    let z : b * 10000 + c ≡ 0 * 100000000 + (b * 10000 + c) = omega arith in
    rw (short p e b c, e) (ap (λ (n : ℕ). read_bank ranked (fixed 8 n)) z ∙ reads ranked 8 0 b c (omega arith) (omega arith) (omega arith) (omega arith) lo hi hc ∙ ninth-none ranked b c))
    (λ n.
    let t : ranked ≡ true = carried-ranked ranked p hr n in
    let l : 3 ≤ p = priority-some p hp in
    let m : p ≤ 9 = priority-most p hp in
    rw (t, long p n b c) (reads true 10 p b c (omega arith) (omega arith) (omega arith) m lo hi hc ∙ ninth-some p b c l))

-- it consists of digits
pub spell-bank-plain : (b c p : ℕ) → all is_digit (spell_bank b c p) ≡ true
unfolding spell_bank
spell-bank-plain b c p = either (λ s. all is_digit s ≡ true) (eqb p 5) (λ e. fixed_plain 8 _) (λ e. fixed_plain 10 _)
