-- What an account is at its place, with what the code knows of its bytes. Assumes nothing.
use mathlib.Core.Path.{◌≡◌, sym, ap, ◌∙◌}
use mathlib.Core.Bool.{Bool, true, false}
use mathlib.Core.List.{List}
use Prim.Native.Nat.{ℕ, ◌+◌, ◌-◌, ◌≤◌, ◌<◌}
use native.Mathlib.Omega.{arith}
use lib.Dec.{ltb}
use lib.ListN.{length, get_or, drop}
use borrow.Author.Tests.{ltb-false, eqb-true}
use Rattle.base.specs.Pick.{pick}
use Rattle.base.specs.Seek.{seek}
use Rattle.base.proofs.Cases.{by-test}
use Rattle.base.proofs.Seek.{never}
use Rattle.paper.specs.Read.{value}
use Rattle.paper.specs.Bytes.{space, field_of, null}
use Rattle.paper.specs.Numerals.{digits}
use Rattle.paper.specs.Accounts as paper
use Rattle.paper.specs.Accounts.{ruled, read_account}
use Rattle.numeral.specs.field.At.{At, missed, ending, field_at}
use Rattle.numeral.specs.field.Digits.{run}
use Rattle.numeral.proofs.field.Number.{run_ends, run-field, run-open, number-value, number_short, number-long}
use Rattle.numeral.proofs.field.Behind.{behind-field, behind-end}
use Rattle.numeral.proofs.field.Onward.{onward, given-at}
use Rattle.account.specs.at.Parts.{undashed, dashed}
use Rattle.account.specs.Parts.{with_base}
use Rattle.account.proofs.at.Digits.{undashed-is, dashed-is}

-- a base behind its prefix
pub base-field : (r : At paper.Account) (least p : ℕ) (s : List ℕ) (at : ℕ) → r ≡ onward (field_at (digits least 10) s at) (λ b. ruled p b) → r ≡ field_at (with_base least p) s at
unfolding field_at with_base
base-field r least p s at q = q ∙ given-at (λ b. ruled p b) (digits least 10) s at

-- a base's digits end at e, and t is whether the field ends there
module _ (least p : ℕ) (s : List ℕ) (at e v : ℕ) (h : e ≡ at + length (run 10 (drop at s))) (t : Bool) (k : t ≡ null (field_of (drop e s))) where
  pub base-value : (r : At paper.Account) → t ≡ true → digits 0 10 (run 10 (drop at s)) ≡ value v → least ≤ e - at → r ≡ ending e (ruled p v) → r ≡ field_at (with_base least p) s at
  unfolding onward
  base-value r y g l q = base-field r least p s at (q ∙ ap (λ x. onward x (λ b. ruled p b)) (number-value s at least 10 e v h t k y g l))

  pub base_short : t ≡ true → e - at < least → missed 4 ≡ field_at (with_base least p) s at
  unfolding onward
  base_short y l = base-field (missed 4) least p s at (ap (λ x. onward x (λ b. ruled p b)) (number_short s at least 10 e v h t k y l))

  pub base-long : t ≡ false → missed 4 ≡ field_at (with_base least p) s at
  unfolding onward
  base-long y = base-field (missed 4) least p s at (ap (λ x. onward x (λ b. ruled p b)) (number-long s at least 10 e v h t k y))

-- what a prefix with its dash is
module _ (s : List ℕ) (at e : ℕ) (h : dashed s at e ≡ true) where
  dashed-least : 1 ≤ e - at
  unfolding dashed pick
  dashed-least = by-test (ltb (e - at) 1) (λ t. never (sym (simp t at h))) (λ t. ltb-false (e - at) 1 t)

  pub dashed-most : e - at ≤ 6
  unfolding dashed pick
  dashed-most =
      by-test (ltb (e - at) 1) (λ t. never (sym (simp t at h)))
      (λ t. by-test (ltb 6 (e - at)) (λ u. never (sym (simp (t, u) at h))) (λ u. ltb-false 6 (e - at) u))

  dashed-byte : get_or s e 0 ≡ 45
  unfolding dashed pick
  dashed-byte =
      by-test (ltb (e - at) 1) (λ t. never (sym (simp t at h)))
      (λ t. by-test (ltb 6 (e - at)) (λ u. never (sym (simp (t, u) at h))) (λ u. eqb-true (get_or s e 0) 45 (simp (t, u) at h)))

-- its first digits end at e, and t is whether the field ends there
module _ (s : List ℕ) (at e v : ℕ) (h : e ≡ at + length (run 16 (drop at s))) (g : digits 0 16 (run 16 (drop at s)) ≡ value v) where
  module _ (t : Bool) (k : t ≡ null (field_of (drop e s))) (joined : Bool) (least : ℕ) (r : At paper.Account) where
    pub digits-account : t ≡ true → r ≡ ending e (undashed joined least (e - at) v) → r ≡ field_at (read_account joined least) s at
    unfolding field_at
    digits-account y q =
        let n : e - at ≡ length (run 16 (drop at s)) = omega arith in
        q ∙ rw (run_ends s at 0 16 e v h t k y, run-field s at 0 16 e v h t k y, n) (ap (ending e) (undashed-is (run 16 (drop at s)) v g joined least))

  -- a dash follows
  module _ (t : Bool) (k : t ≡ null (field_of (drop e s))) (n : t ≡ false) (m : at ≤ length s) (u : Bool) (d : u ≡ dashed s at e) (joined : Bool) (least : ℕ) (r : At paper.Account) where
    pub dashed-account : u ≡ true → r ≡ field_at (with_base least v) s (e + 1) → r ≡ field_at (read_account joined least) s at
    unfolding field_at
    dashed-account y q =
        let l : e < length s = run-open s at 0 16 e v h t k n m in
        let w : dashed s at e ≡ true = sym d ∙ y in
        let b : get_or s e 0 ≡ 45 = dashed-byte s at e w in
        let f = behind-field s at 16 e v 45 h l b (λ z. omega arith) in
        let o = behind-end s at 16 e v 45 h l b (λ z. omega arith) in
        let i = dashed-is (run 16 (drop at s)) (field_of (drop (e + 1) s)) v g (omega (arith, dashed-least s at e w)) (omega (arith, dashed-most s at e w)) joined least in
        q ∙ rw (o, f) (ap (ending (e + 1 + seek space (drop (e + 1) s))) i)
