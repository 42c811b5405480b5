-- Fields of a record that were read: what their bytes say fits its digits. Assumes nothing.
use mathlib.Core.Path.{◌≡◌, refl, sym}
use mathlib.Core.Bool.{Bool, true}
use mathlib.Core.List.{List, [], ◌∷◌}
use Prim.Native.Nat.{ℕ, ◌+◌, ◌-◌, ◌≤◌}
use native.Mathlib.Omega.{arith}
use lib.ListN.{length, length-drop, drop}
use lib.Seq.{length-take-le}
use Rattle.paper.specs.Read.{Field, value, fault}
use Rattle.paper.specs.Numerals.{digits}
use Rattle.paper.specs.Accounts.{Account}
use Rattle.paper.specs.Entries.{Said, got, no, on_field}
use Rattle.numeral.proofs.Sound.{digits-sound}
use Rattle.numeral.proofs.given.Given.{value-fault, passed}
use Rattle.internal.proofs.Parts.{accepted-by}
use Rattle.internal.proofs.Laws.{sound}
use Rattle.turnover.proofs.Laws.{read-fourteen}
use Rattle.gpc.specs.Parts.{slice}
use Rattle.gpc.specs.Internal.{read_internal}
use Rattle.gpc.specs.Signed.{Signed, signed, Fourteen, read_digits, read_minus, on_signed}
use Rattle.gpc.specs.Turnovers.{is_code}
use Rattle.gpc.specs.Records.{read_code}
use Rattle.gpcback.specs.Proper.{ProperAccount}

-- ---- reading that went on

pub got_same : {A : Type 0} {a b : A} → got a ≡ got b → a ≡ b
got_same e = cc

-- a refusal is nothing that was got
pub no-got : {A P : Type 0} {n at : ℕ} {b : A} → no n at ≡ got b → P
no-got e = absurd (let z : ◌≡◌ {A = ℕ} 0 1 = cc in omega arith)

-- the field had a value, with which it went on
pub on-got : {A B : Type 0} (at : ℕ) (x : Field A) (k : A → Said B) (b : B) → on_field at x k ≡ got b → (v : A) × (x ≡ value v) × (k v ≡ got b)
unfolding on_field
on-got at (value v) k b e = (v, refl, e)
on-got at (fault n) k b e = no-got e

-- ---- places

-- a slice that is whole
pub slice-length : (at n : ℕ) (s : List ℕ) → at + n ≤ length s → length (slice at n s) ≡ n
slice-length at n s h = length-take-le n (drop at s) (omega (arith, length-drop at s))

-- ---- an account

pub account-proper : (s : List ℕ) (a : Account) → read_internal s ≡ value a → ProperAccount a
account-proper s a e = let p = sound s a e in record { prefix = p.0; base = p.1 }

-- ---- a number

pub digits_value : (k : ℕ) (s : List ℕ) (v : ℕ) → read_digits k s ≡ value v → digits k k s ≡ value v
unfolding read_digits
digits_value k s v e = accepted-by (digits k k s) v e

-- ---- a posting code

pub code-proper : (s : List ℕ) (c : ℕ) → read_code s ≡ value c → is_code c ≡ true
unfolding read_code
code-proper [] c e = value-fault c 51 (sym e)
code-proper (x ∷ s) c e = let p = passed (is_code (x - 48)) (x - 48) c 51 e in rw (← p.1) p.0

-- ---- a number with a sign

-- the digits d and the sign behind them, c, say x
pub record SignedSaid (plus : ℕ) (d c : List ℕ) (x : Signed) : Type 0 where
  pub minus : Bool
  pub size : digits 14 14 d ≡ value x.size
  pub sign : read_minus plus c ≡ value minus
  pub both : signed minus x.size ≡ x

pub signed-fourteen : {plus : ℕ} {d c : List ℕ} {x : Signed} → SignedSaid plus d c x → Fourteen x
signed-fourteen {d = d} {x = x} h =
    rw h.both at (read-fourteen h.minus x.size (omega (arith, digits-sound 14 14 d x.size h.size)))

pub signed-got : {B : Type 0} (plus at : ℕ) (s : List ℕ) (k : Signed → Said B) (b : B) → on_signed plus at s k ≡ got b
    → (x : Signed) × SignedSaid plus (slice at 14 s) (slice (at + 14) 1 s) x × (k x ≡ got b)
unfolding on_signed signed
signed-got plus at s k b e =
    let n = on-got at (read_digits 14 (slice at 14 s)) _ b e in
    let m = on-got (at + 14) (read_minus plus (slice (at + 14) 1 s)) _ b n.2 in
    (signed m.0 n.0, record { minus = m.0; size = digits_value 14 (slice at 14 s) n.0 n.1; sign = m.1; both = refl }, m.2)
