-- What the readers answer: a date of six digits that ends its line, and the test of a due date. Assumes nothing.
use mathlib.Core.Path.{◌≡◌, refl, sym, ap, ◌∙◌}
use mathlib.Core.Bool.{Bool, true}
use mathlib.Core.List.{List, [], ◌∷◌}
use Prim.Native.Nat.{ℕ, ◌+◌, ◌-◌, ◌*◌, ◌/◌, ◌%◌, ◌≤◌, ◌<◌}
use Rattle.std.proofs.Common.{Result, Ok, Err}
use native.Mathlib.Numerals.{add-one}
use native.Mathlib.Omega.{arith}
use lib.ListN.{length, get_or, take, drop, length-drop, drop_of_length-le}
use lib.Seq.{drop-cons, take-length, drop-length}
use Rattle.base.specs.Pick.{pick}
use Rattle.base.specs.Seek.{all, seek}
use Rattle.base.proofs.Cases.{by-test}
use Rattle.base.proofs.Seek.{seek-over}
use Rattle.refusal.specs.declared.Refusal.{Refusal}
use Rattle.refusal.specs.Numbers.{number_of}
use Rattle.paper.specs.Read.{Field, value, fault, given}
use Rattle.paper.specs.Bytes.{is_digit, space, field_of}
use Rattle.paper.specs.Numerals.{digits_on, digits}
use Rattle.paper.specs.Days.{real_day, real, short_day, read_day, due_allowed, read_due}
use Rattle.numeral.proofs.Plain.{range-digit}
use Rattle.numeral.specs.Told as number
use Rattle.calendar.proofs.Reading.{other_length}
use Rattle.calendar.proofs.Sound.{day-told}
use Rattle.numeral.specs.field.At.{At, missed, ending, field_at}
use Rattle.numeral.specs.field.Digits.{Worth}
use Rattle.calendar.specs.at.Spelled.{Two, Spelled}

-- ---- `two_digits`

pub two_none : (x y : ℕ) → Two x y 100
two_none x y = record { number = λ h. absurd (omega arith) }

pub two_is : (x y a b : ℕ) → Worth x a → Worth y b → a ≤ 9 → b ≤ 9 → Two x y (a * 10 + b)
two_is x y a b u v h k =
    let p = u.digit h in
    let q = v.digit k in
    record { number = λ z. (p.0, p.1, q.0, q.1, omega (arith, p.2, q.2)) }

-- ---- `last_day`

one : (s : List ℕ) (i : ℕ) → i < length s → drop i s ≡ get_or s i 0 ∷ drop (i + 1) s
one s i l = rw (drop-cons s i 0 l, add-one)

pair : (s : List ℕ) (i : ℕ) → i + 1 < length s → drop i s ≡ get_or s i 0 ∷ get_or s (i + 1) 0 ∷ drop (i + 2) s
pair s i l =
    let z : i + 1 + 1 ≡ i + 2 = omega arith in
    one s i (omega arith) ∙ ap (λ t. get_or s i 0 ∷ t) (rw z at (one s (i + 1) l))

module _ (a b c d e f : ℕ) (ha : is_digit a ≡ true) (hb : is_digit b ≡ true) (hc : is_digit c ≡ true) (hd : is_digit d ≡ true) (he : is_digit e ≡ true) (hf : is_digit f ≡ true) where
  six-all : all is_digit (a ∷ b ∷ c ∷ d ∷ e ∷ f ∷ []) ≡ true
  unfolding all pick
  six-all = simp (ha, hb, hc, hd, he, hf)

  six-read : digits 6 6 (a ∷ b ∷ c ∷ d ∷ e ∷ f ∷ []) ≡ value ((((((0 * 10 + (a - 48)) * 10 + (b - 48)) * 10 + (c - 48)) * 10 + (d - 48)) * 10 + (e - 48)) * 10 + (f - 48))
  unfolding digits digits_on pick
  six-read = simp (ha, hb, hc, hd, he, hf)

-- the number DDMMRR as a day
turned : (k m y : ℕ) → k ≤ 99 → m ≤ 99 → y ≤ 99
    → (2000 + (k * 10000 + m * 100 + y) % 100) * 10000 + (k * 10000 + m * 100 + y) / 100 % 100 * 100 + (k * 10000 + m * 100 + y) / 10000 ≡ 20000000 + y * 10000 + m * 100 + k
turned k m y hk hm hy =
    let a : (k * 10000 + m * 100 + y) % 100 ≡ y = omega arith in
    let b : (k * 10000 + m * 100 + y) / 100 ≡ k * 100 + m = omega arith in
    let c : (k * 100 + m) % 100 ≡ m = omega arith in
    let d : (k * 10000 + m * 100 + y) / 10000 ≡ k = omega arith in
    rw (a, b, c, d) (omega arith)

pub spell-none : (t : List ℕ) → Spelled t 0
spell-none t = record { day = λ h. absurd (omega arith) }

module _ (s : List ℕ) (at : ℕ) (l : length s ≡ at + 6) where
  last-six : drop at s ≡ get_or s at 0 ∷ get_or s (at + 1) 0 ∷ get_or s (at + 2) 0 ∷ get_or s (at + 2 + 1) 0 ∷ get_or s (at + 4) 0 ∷ get_or s (at + 4 + 1) 0 ∷ []
  last-six =
      let x : at + 2 + 2 ≡ at + 4 = omega arith in
      let p = pair s at (omega arith) in
      let q = rw x at (pair s (at + 2) (omega arith)) in
      let r = pair s (at + 4) (omega arith) in
      let z : length s ≤ at + 4 + 2 = omega arith in
      let n : drop (at + 4 + 2) s ≡ [] = drop_of_length-le s z in
      rw (p, q, r, n)

  module _ (k m y : ℕ) (a : Two (get_or s at 0) (get_or s (at + 1) 0) k) (hk : k ≤ 99) (b : Two (get_or s (at + 2) 0) (get_or s (at + 2 + 1) 0) m) (hm : m ≤ 99) (c : Two (get_or s (at + 4) 0) (get_or s (at + 4 + 1) 0) y) (hy : y ≤ 99) where
    spell-all : all is_digit (drop at s) ≡ true
    spell-all =
        let p = a.number hk in
        let q = b.number hm in
        let r = c.number hy in
        rw last-six (six-all _ _ _ _ _ _ (range-digit _ p.0 p.1) (range-digit _ p.2 p.3) (range-digit _ q.0 q.1) (range-digit _ q.2 q.3) (range-digit _ r.0 r.1) (range-digit _ r.2 r.3))

    spell-read : digits 6 6 (drop at s) ≡ value (k * 10000 + m * 100 + y)
    spell-read =
        let p = a.number hk in
        let q = b.number hm in
        let r = c.number hy in
        rw last-six
        (six-read _ _ _ _ _ _ (range-digit _ p.0 p.1) (range-digit _ p.2 p.3) (range-digit _ q.0 q.1) (range-digit _ q.2 q.3) (range-digit _ r.0 r.1) (range-digit _ r.2 r.3)
        ∙ ap value (omega (arith, p.4, q.4, r.4)))

    spell-day : short_day (drop at s) ≡ real (20000000 + y * 10000 + m * 100 + k)
    unfolding short_day given
    spell-day = rw spell-read (ap real (turned k m y hk hm hy))

    pub spell-six : Spelled (drop at s) (20000000 + y * 10000 + m * 100 + k)
    spell-six = record { day = λ h. (spell-all, spell-day) }

-- ---- `if_due` and `due_at`

-- digits alone are one field
digits-field : (f : List ℕ) → all is_digit f ≡ true → seek space f ≡ length f
unfolding is_digit seek pick
digits-field f h =
    let a : all is_digit (take (length f) f) ≡ true = rw take-length h in
    seek-over is_digit 32 refl (length f) f (omega arith) a ∙ rw drop-length (omega arith)

module _ (long here early : Bool) (ahead today : ℕ) where
  -- a real day is judged as a due date
  judged : (d : ℕ) → given (real d) (λ day. pick (due_allowed here early ahead today day) (value day) (fault 11)) ≡ pick (real_day d) (pick (due_allowed here early ahead today d) (value d) (fault 11)) (fault 11)
  unfolding real given pick
  judged d = by-test (real_day d) (λ y. simp y) (λ n. simp n)

  pub spelled-due : (r : At ℕ) (s : List ℕ) (at : ℕ) → length s - at ≡ 6 → (d : ℕ) → Spelled (drop at s) d → 0 < d
      → r ≡ ending (length s) (pick (real_day d) (pick (due_allowed here early ahead today d) (value d) (fault 11)) (fault 11)) → r ≡ field_at (read_due long here early ahead today) s at
  unfolding field_at read_due
  spelled-due r s at l d w h q =
      let n : length (drop at s) ≡ 6 = omega (arith, length-drop at s) in
      let k : seek space (drop at s) ≡ length (drop at s) = digits-field (drop at s) (w.day h).0 in
      let e : at + seek space (drop at s) ≡ length s = omega arith in
      let o : field_of (drop at s) ≡ drop at s = rw k (take-length (drop at s)) in
      let g : read_day long (drop at s) ≡ real d = sym (other_length (short_day (drop at s)) (drop at s) long (λ z. omega arith) refl) ∙ (w.day h).1 in
      q ∙ rw (e, o, g, judged d)

-- the field by its bytes, up to its end e: m is what the reader of days answered
module _ (s : List ℕ) (at e : ℕ) (h : e ≡ at + seek space (drop at s)) (long : Bool) (m : Result ℕ Refusal) (g : number.told m ≡ read_day long (take (e - at) (drop at s))) where
  pub whole-real : (d : ℕ) → m ≡ Ok d → real_day d ≡ true
  whole-real d f = day-told long (take (e - at) (drop at s)) m d g f

  module _ (here early : Bool) (ahead today : ℕ) where
    whole-day : (x : Field ℕ) → number.told m ≡ x → ending e (given x (λ d. pick (due_allowed here early ahead today d) (value d) (fault 11))) ≡ field_at (read_due long here early ahead today) s at
    unfolding field_at read_due
    whole-day x q =
        let d : e - at ≡ seek space (drop at s) = omega arith in
        let z : x ≡ read_day long (field_of (drop at s)) = sym q ∙ (g ∙ rw d) in
        rw (← h, z)

    pub whole-due : (r : At ℕ) (d : ℕ) → m ≡ Ok d → r ≡ ending e (pick (due_allowed here early ahead today d) (value d) (fault 11)) → r ≡ field_at (read_due long here early ahead today) s at
    unfolding given
    whole-due r d f q = q ∙ whole-day (value d) (rw f)

    pub whole-no-due : (n : Refusal) → m ≡ Err n → missed (number_of n) ≡ field_at (read_due long here early ahead today) s at
    unfolding given ending
    whole-no-due n f = whole-day (fault (number_of n)) (rw f)

pub ruleset whole-days = (whole-due, whole-no-due)

pub ruleset spelling = (two_none, two_is, spell-none, spell-six)
