-- The answers of the judges of accounts, with what the code knows at each. Assumes nothing.
use mathlib.Core.Path.{◌≡◌, refl, sym, ap, ◌∙◌}
use mathlib.Core.Bool.{Bool, true, false}
use mathlib.Core.List.{List}
use Prim.Native.Nat.{ℕ, ◌+◌, ◌-◌, ◌/◌, ◌%◌, ◌≤◌, ◌<◌}
use native.Mathlib.Omega.{arith}
use Rattle.std.proofs.Common.{Result}
use lib.ListN.{length, drop}
use borrow.Author.Tests.{lt-ltb, le-ltb}
use Rattle.base.proofs.Cases.{pick_true, pick-false}
use Rattle.refusal.specs.declared.Refusal.{Refusal}
use Rattle.paper.specs.Read.{value, fault}
use Rattle.paper.specs.Bytes.{field_of, null}
use Rattle.paper.specs.Numerals.{digits}
use Rattle.paper.specs.Accounts as paper
use Rattle.paper.specs.Accounts.{account_ok, ruled, read_account}
use Rattle.numeral.proofs.Sound.{same}
use Rattle.account.specs.Doubled.{doubled, sums_ok}
use Rattle.numeral.specs.field.At.{found, missed, ending, field_at}
use Rattle.numeral.specs.field.Digits.{run}
use Rattle.account.specs.at.Parts.{undashed, dashed}
use Rattle.account.specs.Parts.{with_base}
use Rattle.account.proofs.at.Doubling.{sum-start, base-small, run_short, prefix-small, rule-by-sums}
use Rattle.account.proofs.at.Exits.{base-value, base_short, base-long, digits-account, dashed-account}
use Rattle.numeral.specs.field.Kept.{keeping, nothing}
use Rattle.numeral.specs.field.Told.{passed}
use Rattle.account.proofs.at.None.{other-account}

-- the answer m is that of a prefix with the sum p and a base with the sum b
abbrev pub Ruled : ℕ → ℕ → ℕ → Result ℕ Refusal → Type 0
Ruled p b e m = (x y : ℕ) → x < 10000000000 → p ≡ doubled 19 x → y < 10000000000 → b ≡ doubled 19 y → passed m ≡ keeping nothing (ending e (ruled x y))

-- ---- by the sums: t is whether they keep the rule

module _ (p b e : ℕ) (t : Bool) (k : t ≡ sums_ok p b) (x y : ℕ) (l : x < 10000000000) (f : p ≡ doubled 19 x) (m : y < 10000000000) (g : b ≡ doubled 19 y) where
  pub rule-kept : t ≡ true → found tt e ≡ keeping nothing (ending e (ruled x y))
  unfolding ruled keeping ending
  rule-kept h = rw (pick_true (value (paper.account x y)) (fault 5) (sym (rule-by-sums x y p b t k l f m g) ∙ h))

  pub rule-broken : t ≡ false → missed 5 ≡ keeping nothing (ending e (ruled x y))
  unfolding ruled keeping ending
  rule-broken h = rw (pick-false (value (paper.account x y)) (fault 5) (sym (rule-by-sums x y p b t k l f m g) ∙ h))

-- ---- a base from `at` on, behind a prefix x: its digits end at e, and t is whether the field ends there

module _ (least x : ℕ) (s : List ℕ) (at e v : ℕ) (h : e ≡ at + length (run 10 (drop at s))) (t : Bool) (k : t ≡ null (field_of (drop e s))) where
  pub base-judged : (m : Result ℕ Refusal) (p b : ℕ) → t ≡ true → digits 0 10 (run 10 (drop at s)) ≡ value v → b ≡ doubled 19 v → least ≤ e - at → Ruled p b e m
      → x < 10000000000 → p ≡ doubled 19 x → passed m ≡ keeping nothing (field_at (with_base least x) s at)
  base-judged m p b y g f l j c d =
      j x v c d (base-small s at e v g) f ∙ ap (keeping nothing) (base-value least x s at e v h t k (ending e (ruled x v)) y g l refl)

  pub base-too-short : t ≡ true → e - at < least → missed 4 ≡ keeping nothing (field_at (with_base least x) s at)
  unfolding keeping
  base-too-short y l = ap (keeping nothing) (base_short least x s at e v h t k y l)

  pub base-too-long : t ≡ false → missed 4 ≡ keeping nothing (field_at (with_base least x) s at)
  unfolding keeping
  base-too-long y = ap (keeping nothing) (base-long least x s at e v h t k y)

-- ---- an account: its first digits end at e, and t is whether the field ends there

module _ (s : List ℕ) (at e v : ℕ) (h : e ≡ at + length (run 16 (drop at s))) (g : digits 0 16 (run 16 (drop at s)) ≡ value v) (t : Bool) (k : t ≡ null (field_of (drop e s))) (joined : Bool) (least : ℕ) where
  -- it does, behind ten digits or fewer
  module _ (y : t ≡ true) (n : e - at ≤ 10) where
    digits-field : ending e (undashed joined least (e - at) v) ≡ field_at (read_account joined least) s at
    digits-field = digits-account s at e v h g t k joined least (ending e (undashed joined least (e - at) v)) y refl

    pub digits-short : e - at < least → missed 4 ≡ keeping nothing (field_at (read_account joined least) s at)
    unfolding keeping ending undashed
    digits-short l = rw (← digits-field) (rw (pick-false _ _ (le-ltb 10 (e - at) n), pick_true _ _ (lt-ltb (e - at) least l)))

    pub digits-judged : (m : Result ℕ Refusal) (b : ℕ) → b ≡ doubled 19 v → least ≤ e - at → Ruled 0 b e m → passed m ≡ keeping nothing (field_at (read_account joined least) s at)
    unfolding undashed
    digits-judged m b f l j =
        let u : undashed joined least (e - at) v ≡ ruled 0 v = pick-false _ _ (le-ltb 10 (e - at) n) ∙ pick-false _ _ (le-ltb (e - at) least l) in
        j 0 v (omega arith) sum-start ((run_short s at e v h g).small n) f ∙ ap (λ a. keeping nothing (ending e a)) (sym u) ∙ ap (keeping nothing) digits-field

  -- it does, behind more than ten, which are judged as m
  pub digits_long : t ≡ true → 10 < e - at → (m : Result ℕ Refusal)
      → ((v least n : ℕ) → digits 0 16 (run 16 (drop at s)) ≡ value v → 10 < n → passed m ≡ keeping nothing (ending e (undashed joined least n v)))
      → passed m ≡ keeping nothing (field_at (read_account joined least) s at)
  digits_long y l m j = j v least (e - at) g l ∙ ap (keeping nothing) (digits-account s at e v h g t k joined least (ending e (undashed joined least (e - at) v)) y refl)

  -- it does not, and no dash follows a prefix
  pub other-judged : t ≡ false → (u : Bool) → u ≡ dashed s at e → u ≡ false → missed 4 ≡ keeping nothing (field_at (read_account joined least) s at)
  unfolding keeping
  other-judged y u d n = ap (keeping nothing) (other-account s at e v h t k y u d joined least n)

  -- a dash follows, and the base is judged as m
  pub dashed-judged : t ≡ false → at ≤ length s → (u : Bool) → u ≡ dashed s at e → u ≡ true → (m : Result ℕ Refusal) (p : ℕ) → p ≡ doubled 19 v
      → ((x : ℕ) → x < 10000000000 → p ≡ doubled 19 x → passed m ≡ keeping nothing (field_at (with_base least x) s (e + 1)))
      → passed m ≡ keeping nothing (field_at (read_account joined least) s at)
  dashed-judged y a u d w m p f j =
      j v (prefix-small s at e v h g u d w) f ∙ ap (keeping nothing) (dashed-account s at e v h g t k y a u d joined least (field_at (with_base least v) s (e + 1)) w refl)

-- ---- more than ten digits: t is whether the two numbers keep the rule

module _ (v e : ℕ) (joined : Bool) (least n : ℕ) (l : 10 < n) where
  -- w is their number as it was read
  module _ (w : ℕ) (d : List ℕ) (f : digits 0 16 d ≡ value w) (g : digits 0 16 d ≡ value v) (t : Bool) (k : t ≡ account_ok (w / 10000000000) (w % 10000000000)) (j : joined ≡ true) where
    is_ok : t ≡ account_ok (v / 10000000000) (v % 10000000000)
    is_ok = let e : w ≡ v = same w v (sym f ∙ g) in rw e at k

    pub long_kept : t ≡ true → found tt e ≡ keeping nothing (ending e (undashed joined least n v))
    unfolding undashed ruled keeping ending
    long_kept y = rw (pick_true _ _ (lt-ltb 10 n l), pick_true _ _ j, pick_true _ _ (sym is_ok ∙ y))

    pub long-broken : t ≡ false → missed 5 ≡ keeping nothing (ending e (undashed joined least n v))
    unfolding undashed ruled keeping ending
    long-broken y = rw (pick_true _ _ (lt-ltb 10 n l), pick_true _ _ j, pick-false _ _ (sym is_ok ∙ y))

  pub long-refused : joined ≡ false → missed 4 ≡ keeping nothing (ending e (undashed joined least n v))
  unfolding undashed keeping ending
  long-refused j = rw (pick_true _ _ (lt-ltb 10 n l), pick-false _ _ j)

pub ruleset longs = (long_kept, long-broken, long-refused)

pub ruleset judged = (rule-kept, rule-broken, base-judged, base-too-short, base-too-long, digits-short, digits-judged, digits_long, dashed-judged, other-judged)
