-- One step of an answer r through a reader of a line, for `search`: s is the line, and n what a callee answered. Assumes nothing.
use Rattle.std.proofs.Common.{◌≡◌, ℕ, ◌+◌, ◌^◌, ◌<◌, ◌≤◌, Result, Ok, Err, List, length, take, drop, sym, ap, ◌∙◌, add-one, arith, length-drop, drop_of_length-le, drop-cons, drop-drop, le-ltb, lt-ltb}
use Rattle.base.specs.Seek.{seek}
use Rattle.base.proofs.Cases.{pick_true, pick-false, picks}
use Rattle.base.proofs.Seek.{seek-within}
use Rattle.base.proofs.Lists.{drop-none}
use Rattle.refusal.specs.declared.Refusal.{Refusal}
use Rattle.refusal.specs.declared.Flaw.{Flaw}
use Rattle.refusal.specs.Numbers.{number_of}
use Rattle.refusal.specs.Placed.{placed}
use Rattle.refusal.proofs.Places.{was-ok, was-err}
use Rattle.paper.specs.Read.{Field, value, fault}
use Rattle.paper.specs.Bytes.{space, field_of}
use Rattle.paper.specs.Numerals.{digits}
use Rattle.paper.specs.Entries.{Said, no, on_field, field, place, gap, line_end}
use Rattle.numeral.specs.Told as whole
use Rattle.numeral.proofs.Sound.{digits-sound}
use Rattle.numeral.specs.field.At.{At, found, missed, ending, field_at}
use Rattle.numeral.specs.declared.field.Run.{Run}
use Rattle.numeral.specs.field.Told.{told}

-- ---- a field that is read at its place

module _ {A : Type 0} (j : ℕ) where
  ending-found : (x : Field A) (v : A) (e : ℕ) → found v e ≡ ending j x → (x ≡ value v) × (e ≡ j)
  unfolding ending
  ending-found (value w) v e q = (cc, cc)
  ending-found (fault n) v e q = absurd (let z : ◌≡◌ {A = ℕ} 0 1 = cc in omega arith)

  ending-missed : (x : Field A) (n : ℕ) → missed n ≡ ending j x → x ≡ fault n
  unfolding ending
  ending-missed (value w) n q = absurd (let z : ◌≡◌ {A = ℕ} 0 1 = cc in omega arith)
  ending-missed (fault m) n q = cc

module _ {A : Type 0} (read : List ℕ → Field A) (s : List ℕ) (at : ℕ) where
  module _ (v : A) (e : ℕ) (g : found v e ≡ field_at read s at) where
    pub found-value : read (field_of (drop at s)) ≡ value v
    unfolding field_at
    found-value = (ending-found (at + seek space (drop at s)) (read (field_of (drop at s))) v e g).0

    pub found-end : e ≡ at + seek space (drop at s)
    unfolding field_at
    found-end = (ending-found (at + seek space (drop at s)) (read (field_of (drop at s))) v e g).1

    pub found_within : at ≤ length s → e ≤ length s
    found_within l = rw found-end (seek-within space s at l)

    pub found-field : {Z : Type 0} (k : A → ℕ → List ℕ → Said Z) → field read at (drop at s) k ≡ k v e (drop e s)
    unfolding field on_field
    found-field k = rw (found-value, drop-drop, ← found-end)

  module _ (n : ℕ) (g : missed n ≡ field_at read s at) where
    pub missed-fault : read (field_of (drop at s)) ≡ fault n
    unfolding field_at
    missed-fault = ending-missed (at + seek space (drop at s)) (read (field_of (drop at s))) n g

    pub missed-field : {Z : Type 0} (k : A → ℕ → List ℕ → Said Z) → field read at (drop at s) k ≡ no n at
    unfolding field on_field
    missed-field k = rw missed-fault

-- ---- the step over a field, of any answer n that tells what stands there

-- what the answer says, and what follows from it
module _ {Z : Type 0} {A : Type 0} (r : Said Z) (read : List ℕ → Field A) (s : List ℕ) (at : ℕ) (k : A → ℕ → List ℕ → Said Z) (n : At A) (g : n ≡ field_at read s at) where
  pub step-found : (v : A) (e : ℕ) → n ≡ found v e → r ≡ k v e (drop e s) → r ≡ field read at (drop at s) k
  step-found v e f q = q ∙ sym (found-field read s at v e (sym f ∙ g) k)

  pub step-missed : (c : ℕ) → n ≡ missed c → r ≡ no c at → r ≡ field read at (drop at s) k
  step-missed c f q = q ∙ sym (missed-field read s at c (sym f ∙ g) k)

module _ {Z : Type 0} (r : Said Z) (read : List ℕ → Field ℕ) (s : List ℕ) (k : ℕ → ℕ → List ℕ → Said Z) (n : Result Run Refusal) where
  module _ (at : ℕ) (g : told n ≡ field_at read s at) where
    pub step_value : (d : Run) → n ≡ Ok d → r ≡ k d.value d.end (drop d.end s) → r ≡ field read at (drop at s) k
    step_value d f q = step-found r read s at k (told n) g d.value d.end (rw f) q

    pub step-refused : (c : Refusal) → n ≡ Err c → r ≡ no (number_of c) at → r ≡ field read at (drop at s) k
    step-refused c f q = step-missed r read s at k (told n) g (number_of c) (rw f) q

  -- the same, where a refusal takes its place along
  module _ (at : ℕ) (g : told n ≡ field_at read s at) (m : Result Run Flaw) (h : m ≡ placed n at) where
    pub placed-value : (d : Run) → m ≡ Ok d → r ≡ k d.value d.end (drop d.end s) → r ≡ field read at (drop at s) k
    placed-value d f q = step_value at g d (was-ok n at d (sym h ∙ f)) q

    pub placed-refused : (x : Flaw) → m ≡ Err x → r ≡ no (number_of x.0) x.1 → r ≡ field read at (drop at s) k
    placed-refused x f q =
        let w = was-err n at x (sym h ∙ f) in
        step-refused at g x.0 w.0 (q ∙ ap (no (number_of x.0)) (sym w.1))

  -- the line's first field
  module _ (g : told n ≡ field_at read s 0) where
    pub first-value : (d : Run) → n ≡ Ok d → r ≡ k d.value d.end (drop d.end s) → r ≡ field read 0 s k
    first-value d f q = rw drop-none at (step_value 0 g d f q)

    pub first-refused : (c : Refusal) → n ≡ Err c → r ≡ no (number_of c) 0 → r ≡ field read 0 s k
    first-refused c f q = rw drop-none at (step-refused 0 g c f q)

-- the end of a number's field lies in the line
pub number-within : (read : List ℕ → Field ℕ) (s : List ℕ) (at : ℕ) (n : Result Run Refusal) → told n ≡ field_at read s at → (d : Run) → n ≡ Ok d → at ≤ length s → d.end ≤ length s
number-within read s at n g d f l = found_within read s at d.value d.end (rw f at g) l

-- and the number is one of so many digits
pub number-below : (least most : ℕ) (s : List ℕ) (at : ℕ) (n : Result Run Refusal) → told n ≡ field_at (digits least most) s at → (d : Run) → n ≡ Ok d → d.value < 10 ^ most
number-below least most s at n g d f = digits-sound least most (field_of (drop at s)) d.value (found-value (digits least most) s at d.value d.end (rw f at g))

-- ---- between fields, and behind the last

module _ {Z : Type 0} (r : Said Z) (s : List ℕ) (e : ℕ) where
  pub step-gap : e < length s → (k : ℕ → List ℕ → Said Z) → r ≡ k (e + 1) (drop (e + 1) s) → r ≡ gap e (drop e s) k
  unfolding gap
  step-gap h k q = q ∙ rw (drop-cons s e 0 h, add-one)

  pub step-no-gap : length s ≤ e → (k : ℕ → List ℕ → Said Z) → r ≡ no 4 e → r ≡ gap e (drop e s) k
  unfolding gap
  step-no-gap h k q = q ∙ rw (drop_of_length-le s h)

  pub step_end : length s ≤ e → (x : Said Z) → r ≡ x → r ≡ line_end e (drop e s) x
  unfolding line_end
  step_end h x q = q ∙ rw (drop_of_length-le s h)

  pub step-no-end : e < length s → (x : Said Z) → r ≡ no 4 e → r ≡ line_end e (drop e s) x
  unfolding line_end
  step-no-end h x q = q ∙ rw (drop-cons s e 0 h)

-- ---- a field by place, and the rest of the line: m is what a reader of the bytes answered

module _ {Z : Type 0} {A : Type 0} (r : Said Z) (at : ℕ) (x : Field A) (k : A → Said Z) where
  pub step-known : (v : A) → x ≡ value v → r ≡ k v → r ≡ on_field at x k
  unfolding on_field
  step-known v f q = q ∙ rw f

  pub step-unknown : (c : ℕ) → x ≡ fault c → r ≡ no c at → r ≡ on_field at x k
  unfolding on_field
  step-unknown c f q = q ∙ rw f

module _ {Z : Type 0} (r : Said Z) (at : ℕ) (x : Field ℕ) (k : ℕ → Said Z) (m : Result ℕ Refusal) (g : whole.told m ≡ x) where
  pub step_given : (v : ℕ) → m ≡ Ok v → r ≡ k v → r ≡ on_field at x k
  step_given v f q = step-known r at x k v (sym g ∙ rw f) q

  pub step-fault : (c : Refusal) → m ≡ Err c → r ≡ no (number_of c) at → r ≡ on_field at x k
  step-fault c f q = step-unknown r at x k (number_of c) (sym g ∙ rw f) q

module _ {Z : Type 0} {A : Type 0} (r : Said Z) (n : ℕ) (read : List ℕ → Field A) (s : List ℕ) (at : ℕ) (k : A → ℕ → List ℕ → Said Z) where
  pub step-place : at + n ≤ length s → r ≡ on_field at (read (take n (drop at s))) (λ v. k v (at + n) (drop (at + n) s)) → r ≡ place n read at (drop at s) k
  unfolding place
  step-place h q = q ∙ sym (pick-false _ _ (le-ltb (length (drop at s)) n (omega (arith, length-drop at s))) ∙ rw drop-drop)

  pub step-no-place : at ≤ length s → length s < at + n → r ≡ no 4 at → r ≡ place n read at (drop at s) k
  unfolding place
  step-no-place l h q = q ∙ sym (pick_true _ _ (lt-ltb (length (drop at s)) n (omega (arith, length-drop at s))))

pub ruleset steps = (step_value, step-refused, placed-value, placed-refused, first-value, first-refused, step-gap, step-no-gap, step_end, step-no-end, picks)
