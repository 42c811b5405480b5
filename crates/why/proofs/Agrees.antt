-- A field's reader and its rules agree: what keeps them all is taken, and what does not is refused with the number of the first that it breaks.
-- The ways in which readers and rules are made. Assumes nothing.
use mathlib.Core.Path.{◌≡◌, refl, sym, ◌∙◌}
use mathlib.Core.Bool.{Bool, true, false}
use mathlib.Core.List.{List, [], ◌∷◌, map}
use Prim.Native.Nat.{ℕ, ◌+◌, ◌-◌, ◌*◌}
use native.Mathlib.Omega.{arith}
use lib.Dec.{ltb}
use lib.ListN.{length}
use Rattle.base.specs.Pick.{pick}
use Rattle.base.specs.Seek.{all}
use Rattle.base.proofs.Cases.{by-test}
use Rattle.base.proofs.Seek.{never}
use Rattle.paper.specs.Read.{Field, value, fault, given}
use Rattle.paper.specs.Bytes.{is_digit}
use Rattle.paper.specs.Numerals.{digits_on, digits}
use Rattle.why.specs.Rule.{Rule, spared, Tested, kept, broke, first_broken}
use Rattle.why.specs.Forms.{are_digits, or_zero, spelled}

-- a field that is taken keeps its rules; one that is refused with n breaks one of that number
pub data Agrees {A : Type 0} : Field A → Tested → Type 0 where
  takes : {v : A} → Agrees (value v) kept
  refuses : {n : ℕ} {r : Rule} → r.number ≡ n → Agrees (fault n) (broke r)

-- ---- one rule, and those behind it

module _ {A : Type 0} where
  -- a test of the reader that is the rule's own
  pub next : {x : Field A} {t : Tested} (k : Bool) (r : Rule) (n : ℕ) → r.number ≡ n → (k ≡ true → Agrees x t) → Agrees (pick k x (fault n)) (pick k t (broke r))
  unfolding pick
  next true r n e h = h refl
  next false r n e h = refuses e

  -- two tests of the reader, which are one rule
  pub next_both : {x : Field A} {t : Tested} (k j : Bool) (r : Rule) (n : ℕ) → r.number ≡ n → Agrees x t
      → Agrees (pick k (pick j x (fault n)) (fault n)) (pick (pick k j false) t (broke r))
  unfolding pick
  next_both true true r n e h = h
  next_both true false r n e h = refuses e
  next_both false j r n e h = refuses e

  -- the first rule is broken
  pub breaks : (r : Rule) (rs : List Rule) (s : List ℕ) (n : ℕ) → r.number ≡ n → r.keeps s ≡ false → Agrees {A = A} (fault n) (first_broken (r ∷ rs) s)
  unfolding first_broken pick
  breaks r rs s n e f = rw f (refuses e)

  -- rules that are spared agree as they did where they are not
  pub sparing : (t : List ℕ → Bool) (rs : List Rule) (s : List ℕ) {x : Field A} → t s ≡ false → Agrees x (first_broken rs s) → Agrees x (first_broken (map (spared t) rs) s)
  unfolding first_broken pick
  sparing t [] s e h = h
  sparing t (r ∷ rs) s e h =
      by-test (r.keeps s)
      (λ f. rw (e, f) (sparing t rs s e (rw f at h)))
      (λ f. rw (e, f) (again (rw f at h)))
    where
      again : {x : Field A} → Agrees x (broke r) → Agrees x (broke (spared t r))
      again (refuses g) = refuses g

  -- .. and let all else pass
  pub spares : (t : List ℕ → Bool) (rs : List Rule) (s : List ℕ) {v : A} → t s ≡ true → Agrees (value v) (first_broken (map (spared t) rs) s)
  unfolding first_broken pick
  spares t [] s e = takes
  spares t (r ∷ rs) s e = rw e (spares t rs s e)

-- ---- digits

pub digits-on : (v : ℕ) (s : List ℕ) → all is_digit s ≡ true → (w : ℕ) × (digits_on v s ≡ value w)
unfolding digits_on all pick
digits-on v [] e = (v, refl)
digits-on v (x ∷ s) e = by-test (is_digit x) (λ d. let (w, q) = digits-on (v * 10 + (x - 48)) s (simp d at e) in (w, rw d q)) (λ d. never (sym (simp d at e)))

digits-off : (v : ℕ) (s : List ℕ) → all is_digit s ≡ false → digits_on v s ≡ fault 4
unfolding digits_on all pick
digits-off v [] e = never e
digits-off v (x ∷ s) e = by-test (is_digit x) (λ d. rw d (digits-off (v * 10 + (x - 48)) s (simp d at e))) (λ d. rw d)

-- digits of that count are read as the number that they spell, and anything else is refused with 4
pub digits_are : (a b : ℕ) (s : List ℕ) → digits a b s ≡ pick (are_digits a b s) (value (spelled s)) (fault 4)
unfolding digits are_digits or_zero pick
digits_are a b s =
    by-test (ltb (length s) a)
    (λ e. rw e)
    (λ e. by-test (ltb b (length s))
    (λ f. rw (e, f))
    (λ f. by-test (all is_digit s)
    (λ g. let (w, q) = digits-on 0 s g in rw (e, f, g, q))
    (λ g. rw (e, f, g, digits-off 0 s g))))

-- digits, and what is read behind them, by the rule of their form and those behind it
pub behind : {A : Type 0} {t : Tested} (a b : ℕ) (s : List ℕ) (k : ℕ → Field A) (r : Rule) → r.number ≡ 4 → (are_digits a b s ≡ true → Agrees (k (spelled s)) t)
    → Agrees (given (digits a b s) k) (pick (are_digits a b s) t (broke r))
unfolding given pick
behind a b s k r e h =
    by-test (are_digits a b s) (λ f. rw (digits_are a b s, f) (h f)) (λ f. rw (digits_are a b s, f) (refuses e))

-- the number that was read is the one that is spelled
pub digits-spelled : (a b : ℕ) (s : List ℕ) (v : ℕ) → digits a b s ≡ value v → v ≡ spelled s
unfolding pick
digits-spelled a b s v h =
    by-test (are_digits a b s)
    (λ e. let g : value v ≡ value (spelled s) = sym h ∙ (digits_are a b s ∙ rw e) in cc)
    (λ e. absurd (let g : value v ≡ fault 4 = sym h ∙ (digits_are a b s ∙ rw e) in let z : ◌≡◌ {A = ℕ} 0 1 = cc in omega arith))
