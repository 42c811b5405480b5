-- The two questions behind a call on a register: what a day's start and a number given back leave. Assumes nothing.
use Prim.Native.Nat.{ℕ, zero, suc, ◌≤◌, ◌<◌}
use mathlib.Core.Path.{◌≡◌, refl, sym, ap, subst, ◌∙◌}
use mathlib.Core.Bool.{Bool, true, false}
use mathlib.Core.List.{List}
use native.Mathlib.Omega.{arith}
use lib.Dec.{leb, ltb}
use lib.ListN.{length}
use borrow.Author.Tests.{leb-true, ltb-true, eq-eqb}
use Rattle.base.specs.Pick.{pick}
use Rattle.base.proofs.Cases.{by-test, by-eq, pick-both}
use Rattle.paper.specs.Days.{real_day}
use Rattle.register.specs.Marks.{Marks, none, without, free}
use Rattle.register.specs.Register.{Register, malformed, of, register_size, register_of, RegisterAnswer, answer, start_answer, start_after, lowest_in, free_in, is_given, give_in, lowest_answer, free_answer, give_answer, give_after}
use Rattle.register.specs.declared.AboRegister.{AboRegister}
use Rattle.register.specs.Told.{told_answer as told}
use Rattle.register.proofs.Laws as laws

-- ---- a day is started

-- t says whether the day is real, u whether there is room
started : (t u : Bool) → (pick t (pick u (answer 0 0) (answer 16 register_size)) (answer 2 0)).number ≡ 0 → (t ≡ true) × (u ≡ true)
unfolding pick
started true true e = (refl, refl)
started true false e = absurd (omega arith)
started false u e = absurd (omega arith)

module _ (d : ℕ) (lent : List ℕ) (accepted : (start_answer d lent).number ≡ 0) where
  begun : register_of (start_after d lent) ≡ of d none
  unfolding start_answer
  begun = let (real, room) = started (real_day d) (leb register_size (length lent)) accepted in laws.started lent d real (leb-true _ _ room)

  pub all-free : (free_answer (start_after d lent) ≡ answer 0 1000) × (lowest_answer (start_after d lent) ≡ answer 0 0)
  unfolding free_answer lowest_answer free_in lowest_in
  all-free = (ap free_in begun ∙ ap (answer 0) laws.none_free, ap lowest_in begun ∙ ap (answer 0) laws.none-lowest)

-- ---- a number is given back

given : (r : Register) (n : ℕ) → (give_in r n).number ≡ 0 → (d : ℕ) × (p : Marks) × (r ≡ of d p) × (is_given p n ≡ true)
unfolding give_in pick
given malformed n e = absurd (omega arith)
given (of d p) n e = by-test (is_given p n) (λ t. (d, p, refl, t)) (λ t. absurd (let z : 24 ≡ 0 = rw t at e in omega arith))

-- a free number counts
some-free : (p : Marks) (m n : ℕ) → n < m → p n ≡ false → 1 ≤ free p m
unfolding free pick
some-free p zero n l e = absurd (omega arith)
some-free p (suc m) n l e =
    by-eq n m (λ q. let here : p m ≡ false = rw q at e in rw here (omega arith)) (λ q. omega (arith, some-free p m n (omega (arith, q)) e))

taken-off : (n : ℕ) (p : Marks) → without n p n ≡ false
unfolding without pick
taken-off n p = rw (eq-eqb n n refl)

module _ (lent : List ℕ) (n : ℕ) (accepted : (give_answer lent n).number ≡ 0) where
  back : (d : ℕ) × (p : Marks) × (register_of (give_after lent n) ≡ of d (without n p)) × (n < 1000)
  unfolding give_answer is_given
  back =
      let (d, p, e, g) = given (register_of lent) n accepted in
      (d, p, laws.given lent d p n e g, ltb-true _ _ (pick-both (ltb n 1000) (p n) g).0)

  lowest-back : ((lowest_answer (give_after lent n)).number ≡ 0) × ((lowest_answer (give_after lent n)).value ≤ n)
  unfolding lowest_answer lowest_in
  lowest-back = let (d, p, e, l) = back in rw e (refl, laws.given-lowest n 1000 p l)

  free_back : ((free_answer (give_after lent n)).number ≡ 0) × (1 ≤ (free_answer (give_after lent n)).value)
  unfolding free_answer free_in
  free_back = let (d, p, e, l) = back in rw e (refl, some-free (without n p) 1000 n l (taken-off n p))

-- ---- by the calls' answers: `after` is what the first call leaves

module _ (lent after : List ℕ) (done least many : AboRegister) (x : told least ≡ lowest_answer after) (y : told many ≡ free_answer after) where
  pub start-asked : (d : ℕ) → told done ≡ start_answer d lent → after ≡ start_after d lent → done.number ≡ 0 → (told least ≡ answer 0 0) × (told many ≡ answer 0 1000)
  start-asked d e a done-0 =
      let all = all-free d lent (ap (λ (r : RegisterAnswer). r.number) (sym e) ∙ done-0) in
      (x ∙ (ap lowest_answer a ∙ all.1), y ∙ (ap free_answer a ∙ all.0))

  pub back-asked : (n : ℕ) → told done ≡ give_answer lent n → after ≡ give_after lent n → done.number ≡ 0
      → (least.number ≡ 0) × (least.value ≤ n) × (many.number ≡ 0) × (1 ≤ many.value)
  back-asked n e a done-0 =
      let given-zero = ap (λ (r : RegisterAnswer). r.number) (sym e) ∙ done-0 in
      let low = lowest-back lent n given-zero in
      let some = free_back lent n given-zero in
      let l : told least ≡ lowest_answer (give_after lent n) = x ∙ ap lowest_answer a in
      let m : told many ≡ free_answer (give_after lent n) = y ∙ ap free_answer a in (
        ap (λ (r : RegisterAnswer). r.number) l ∙ low.0,
        subst (λ (r : RegisterAnswer). r.value ≤ n) (sym l) low.1,
        ap (λ (r : RegisterAnswer). r.number) m ∙ some.0,
        subst (λ (r : RegisterAnswer). 1 ≤ r.value) (sym m) some.1,
      )
