-- The rules of an account and of a group's payer, by what the code asks. Assumes nothing.
use mathlib.Core.Path.{◌≡◌, refl, sym, ap, ◌∙◌}
use mathlib.Core.Bool.{Bool, true, false}
use mathlib.Core.List.{List, [], ◌∷◌, map}
use Prim.Native.Nat.{ℕ, ◌+◌, ◌-◌, ◌%◌, ◌≤◌, ◌<◌}
use native.Mathlib.Omega.{arith}
use lib.Dec.{eqb, ltb, leb}
use lib.ListN.{length, take, drop}
use borrow.Author.Tests.{eq-eqb, ne_eqb, lt-ltb, le-ltb}
use Rattle.std.proofs.Common.{Result, Ok, Err}
use Rattle.refusal.specs.declared.Refusal.{Refusal}
use Rattle.base.specs.Pick.{pick}
use Rattle.base.specs.Seek.{seek}
use Rattle.base.proofs.Cases.{by-test, pick_true, pick-false}
use Rattle.base.proofs.Lists.{rest-whole}
use Rattle.paper.specs.Bytes.{dash, null}
use Rattle.paper.specs.Numerals.{digits_on, digits}
use Rattle.paper.specs.Accounts.{rest, non_zero, only_zeros}
use Rattle.paper.proofs.Lists.{empty-null}
use Rattle.numeral.specs.Told.{told}
use Rattle.account.specs.Doubled.{doubled}
use Rattle.account.proofs.Doubled.{rest-is}
use Rattle.account.proofs.Rule.{counted}
use Rattle.account.proofs.Exits.{front, behind}
use Rattle.why.specs.Rule.{Rule, rule, spared, first_broken}
use Rattle.why.specs.Forms.{are_digits, or_zero, spelled, has_dash, is_joined, prefix_bytes, base_bytes, is_account}
use Rattle.why.specs.Fields.{prefix_ok, base_ok, base_two, account_rules, is_none, payer_rules}
use Rattle.fault.specs.field.Ruled.{Ruling, broken, ruling}
use Rattle.fault.proofs.field.Rulings.{is-broken, first-kept, first-broke, all-kept, are-digits, no-digits, spelled_is}

abbrev Digits : Bool → List Rule
Digits joined = rule 5 50 (prefix_ok joined) ∷ rule 5 51 (base_ok joined) ∷ rule 5 52 (base_two joined) ∷ []

-- ---- the rule of digits

module _ (x : Ruling) (joined : Bool) (s : List ℕ) (p b : ℕ) (f : spelled (prefix_bytes joined s) ≡ p) (g : spelled (base_bytes joined s) ≡ b) (m : ℕ) (i : m ≡ doubled 10 p) where
  prefix-is : prefix_ok joined s ≡ eqb (m % 11) 0
  unfolding prefix_ok
  prefix-is = ap (λ (a : ℕ). eqb (rest 10 a) 0) f ∙ rw (rest-is 10 p, i)

  pub rule-prefix : (m % 11 ≡ 0 → ⊥) → x ≡ Err (broken 5 50 0 0) → x ≡ ruling (first_broken (Digits joined) s)
  rule-prefix e h = first-broke x s (rule 5 50 (prefix_ok joined)) _ (prefix-is ∙ ne_eqb (m % 11) 0 e) h

  module _ (d : m % 11 ≡ 0) (n : ℕ) (j : n ≡ doubled 10 b) where
    base-is : base_ok joined s ≡ eqb (n % 11) 0
    unfolding base_ok
    base-is = ap (λ (a : ℕ). eqb (rest 10 a) 0) g ∙ rw (rest-is 10 b, j)

    passed : prefix_ok joined s ≡ true
    passed = prefix-is ∙ eq-eqb (m % 11) 0 d

    pub rule-base : (n % 11 ≡ 0 → ⊥) → x ≡ Err (broken 5 51 0 0) → x ≡ ruling (first_broken (Digits joined) s)
    rule-base e h = first-kept x s _ _ passed (first-broke x s (rule 5 51 (base_ok joined)) _ (base-is ∙ ne_eqb (n % 11) 0 e) h)

    module _ (e : n % 11 ≡ 0) where
      two_is : base_two joined s ≡ ltb 0 n
      unfolding base_two
      two_is = ap (λ (a : ℕ). leb 2 (non_zero 10 a)) g ∙ (sym (counted 10 b (rw j at e)) ∙ ap (ltb 0) (sym j))

      pub rule-two : n ≡ 0 → x ≡ Err (broken 5 52 0 0) → x ≡ ruling (first_broken (Digits joined) s)
      rule-two z h =
          first-kept x s _ _ passed
          (first-kept x s _ _ (base-is ∙ eq-eqb (n % 11) 0 e) (first-broke x s (rule 5 52 (base_two joined)) _ (two_is ∙ le-ltb 0 n (omega arith)) h))

      pub rule-kept : (n ≡ 0 → ⊥) → x ≡ Ok tt → x ≡ ruling (first_broken (Digits joined) s)
      rule-kept z h =
          first-kept x s _ _ passed
          (first-kept x s _ _ (base-is ∙ eq-eqb (n % 11) 0 e) (first-kept x s _ _ (two_is ∙ lt-ltb 0 n (positive n z)) (all-kept x s h)))
        where
          positive : (n : ℕ) → (n ≡ 0 → ⊥) → 0 < n
          positive n z = omega arith

pub ruleset rules = (is-broken, rule-prefix, rule-base, rule-two, rule-kept)

-- ---- two parts

module _ (x : Ruling) (joined : Bool) (least few : ℕ) (s p b : List ℕ) (f : prefix_bytes joined s ≡ p) (g : base_bytes joined s ≡ b)
    (q : is_account joined least s ≡ pick (are_digits 1 6 p) (are_digits few 10 b) false) (n : Result ℕ Refusal) (t : told n ≡ digits 1 6 p) where
  pub two-prefix : (m : Refusal) → n ≡ Err m → x ≡ Err (broken 4 40 0 0) → x ≡ ruling (first_broken (account_rules joined least) s)
  two-prefix m e h = first-broke x s (rule 4 40 (is_account joined least)) _ (q ∙ pick-false _ _ (no-digits n p 1 6 t m e)) h

  module _ (v : ℕ) (e : n ≡ Ok v) (k : Result ℕ Refusal) (u : told k ≡ digits few 10 b) where
    pub two-base : (m : Refusal) → k ≡ Err m → x ≡ Err (broken 4 40 0 0) → x ≡ ruling (first_broken (account_rules joined least) s)
    two-base m i h =
        first-broke x s (rule 4 40 (is_account joined least)) _ (q ∙ (pick_true _ _ (are-digits n p 1 6 t v e) ∙ no-digits k b few 10 u m i)) h

    pub two-kept : (w : ℕ) → k ≡ Ok w
        → ((j : Bool) (z : List ℕ) → spelled (prefix_bytes j z) ≡ v → spelled (base_bytes j z) ≡ w → x ≡ ruling (first_broken (rule 5 50 (prefix_ok j) ∷ rule 5 51 (base_ok j) ∷ rule 5 52 (base_two j) ∷ []) z))
        → x ≡ ruling (first_broken (account_rules joined least) s)
    two-kept w i h =
        first-kept x s _ _ (q ∙ (pick_true _ _ (are-digits n p 1 6 t v e) ∙ are-digits k b few 10 u w i))
        (h joined s (ap spelled f ∙ spelled_is n p 1 6 t v e) (ap spelled g ∙ spelled_is k b few 10 u w i))

pub ruleset twos = (is-broken, two-prefix, two-base, two-kept)

-- ---- a base alone

module _ (x : Ruling) (joined : Bool) (least : ℕ) (s : List ℕ) (o : has_dash s ≡ false) (r : is_joined joined s ≡ false) (n : Result ℕ Refusal) (t : told n ≡ digits least 10 s) where
  alone : is_account joined least s ≡ are_digits least 10 s
  unfolding is_account
  alone = pick-false _ _ o ∙ pick-false _ _ r

  no-prefix : spelled (prefix_bytes joined s) ≡ 0
  unfolding prefix_bytes or_zero digits_on
  no-prefix = ap spelled (pick-false _ _ o ∙ pick-false _ _ r)

  all-base : base_bytes joined s ≡ s
  unfolding base_bytes
  all-base = pick-false _ _ o ∙ pick-false _ _ r

  pub one-broke : (m : Refusal) → n ≡ Err m → x ≡ Err (broken 4 40 0 0) → x ≡ ruling (first_broken (account_rules joined least) s)
  one-broke m e h = first-broke x s (rule 4 40 (is_account joined least)) _ (alone ∙ no-digits n s least 10 t m e) h

  pub one_kept : (v : ℕ) → n ≡ Ok v
      → ((j : Bool) (z : List ℕ) → spelled (prefix_bytes j z) ≡ 0 → spelled (base_bytes j z) ≡ v → x ≡ ruling (first_broken (rule 5 50 (prefix_ok j) ∷ rule 5 51 (base_ok j) ∷ rule 5 52 (base_two j) ∷ []) z))
      → x ≡ ruling (first_broken (account_rules joined least) s)
  one_kept v e h =
      first-kept x s _ _ (alone ∙ are-digits n s least 10 t v e) (h joined s no-prefix (ap spelled all-base ∙ spelled_is n s least 10 t v e))

pub ruleset ones = (is-broken, one-broke, one_kept)

-- ---- where it is split

-- what the parts of an account come to, whichever they are
abbrev Comes : Ruling → ℕ → List ℕ → List ℕ → Type 0
Comes x few p b =
    (j : Bool) (l : ℕ) (z : List ℕ) → prefix_bytes j z ≡ p → base_bytes j z ≡ b → is_account j l z ≡ pick (are_digits 1 6 p) (are_digits few 10 b) false
    → x ≡ ruling (first_broken (account_rules j l) z)

module _ (s : List ℕ) (d : ℕ) (e : d ≡ 0 + seek dash s) where
  dashed : d < length s → has_dash s ≡ true
  unfolding has_dash
  dashed l = lt-ltb (seek dash s) (length s) (omega arith)

  pub undashed : length s ≤ d → has_dash s ≡ false
  unfolding has_dash
  undashed l = le-ltb (seek dash s) (length s) (omega arith)

  module _ (x : Ruling) (joined : Bool) (least : ℕ) where
    pub split-dashed : d < length s → Comes x least (take (d - 0) s) (take (length s - (d + 1)) (drop (d + 1) s)) → x ≡ ruling (first_broken (account_rules joined least) s)
    unfolding prefix_bytes base_bytes is_account
    split-dashed l h =
        let p : prefix_bytes joined s ≡ take (d - 0) s = pick_true _ _ (dashed l) ∙ sym (front s d e) in
        let b : base_bytes joined s ≡ take (length s - (d + 1)) (drop (d + 1) s) = pick_true _ _ (dashed l) ∙ sym (behind s d e) in
        h joined least s p b (pick_true _ _ (dashed l) ∙ parts p b)
      where
        parts : {u v : List ℕ} → prefix_bytes joined s ≡ u → base_bytes joined s ≡ v
            → pick (are_digits 1 6 (prefix_bytes joined s)) (are_digits least 10 (base_bytes joined s)) false ≡ pick (are_digits 1 6 u) (are_digits least 10 v) false
        parts p b = rw (← p, ← b)

    module _ (l : length s ≤ d) (o : joined ≡ true) (m : 10 < length s) where
      is-joined : is_joined joined s ≡ true
      unfolding is_joined
      is-joined = pick_true _ _ o ∙ lt-ltb 10 (length s) m

      pub split-joined : Comes x 10 (take (length s - 10 - 0) s) (take (length s - (length s - 10)) (drop (length s - 10) s)) → x ≡ ruling (first_broken (account_rules joined least) s)
      unfolding prefix_bytes base_bytes is_account
      split-joined h =
          let z : length s - 10 - 0 ≡ length s - 10 = omega arith in
          let p : prefix_bytes joined s ≡ take (length s - 10 - 0) s = pick-false _ _ (undashed l) ∙ (pick_true _ _ is-joined ∙ ap (λ (n : ℕ). take n s) (sym z)) in
          let b : base_bytes joined s ≡ take (length s - (length s - 10)) (drop (length s - 10) s)
          = pick-false _ _ (undashed l) ∙ (pick_true _ _ is-joined ∙ sym (rest-whole s (length s - 10))) in
          h joined least s p b (pick-false _ _ (undashed l) ∙ (pick_true _ _ is-joined ∙ parts p b))
        where
          parts : {u v : List ℕ} → prefix_bytes joined s ≡ u → base_bytes joined s ≡ v
              → pick (are_digits 1 6 (prefix_bytes joined s)) (are_digits 10 10 (base_bytes joined s)) false ≡ pick (are_digits 1 6 u) (are_digits 10 10 v) false
          parts p b = rw (← p, ← b)

-- ten bytes or fewer are not joined
pub not-joined : (joined : Bool) (s : List ℕ) → joined ≡ true → length s ≤ 10 → is_joined joined s ≡ false
unfolding is_joined
not-joined joined s o l = pick_true _ _ o ∙ le-ltb 10 (length s) l

-- .. nor are any where the sheet takes no joined ones
pub not_taken : (joined : Bool) (s : List ℕ) → joined ≡ false → is_joined joined s ≡ false
unfolding is_joined
not_taken joined s o = pick-false _ _ o

pub ruleset splits = (split-dashed, split-joined, undashed, not-joined, not_taken)

-- ---- a group's payer

module _ (t : List ℕ → Bool) (s : List ℕ) where
  all-spared : t s ≡ true → (rs : List Rule) → ruling (first_broken (map (spared t) rs) s) ≡ Ok tt
  unfolding first_broken ruling pick
  all-spared e [] = refl
  all-spared e (r ∷ rs) = rw e (all-spared e rs)

  none-spared : t s ≡ false → (rs : List Rule) → ruling (first_broken (map (spared t) rs) s) ≡ ruling (first_broken rs s)
  unfolding first_broken ruling pick
  none-spared e [] = refl
  none-spared e (r ∷ rs) = by-test (r.keeps s) (λ f. rw (e, f) (none-spared e rs)) (λ f. rw (e, f))

module _ (x : Ruling) (empty allzero joined : Bool) (least : ℕ) (s : List ℕ) where
  pub payer-empty : empty ≡ true → length s ≡ 0 → x ≡ Ok tt → x ≡ ruling (first_broken (payer_rules empty allzero joined least) s)
  unfolding is_none
  payer-empty o l h =
      h ∙ sym (all-spared (is_none empty allzero) s (pick_true _ _ (pick_true _ _ o ∙ (sym (empty-null s) ∙ eq-eqb (length s) 0 l))) (account_rules joined least))

  module _ (q : pick empty (null s) false ≡ false) (k : Bool) (z : k ≡ pick allzero (only_zeros s) false) where
    none_is : is_none empty allzero s ≡ k
    unfolding is_none
    none_is = pick-false _ _ q ∙ sym z

    pub payer-zeros : k ≡ true → x ≡ Ok tt → x ≡ ruling (first_broken (payer_rules empty allzero joined least) s)
    payer-zeros y h = h ∙ sym (all-spared (is_none empty allzero) s (none_is ∙ y) (account_rules joined least))

    pub payer-account : k ≡ false → x ≡ ruling (first_broken (account_rules joined least) s) → x ≡ ruling (first_broken (payer_rules empty allzero joined least) s)
    payer-account y h = h ∙ sym (none-spared (is_none empty allzero) s (none_is ∙ y) (account_rules joined least))

pub not-empty : (empty : Bool) (s : List ℕ) → empty ≡ true → (length s ≡ 0 → ⊥) → pick empty (null s) false ≡ false
not-empty empty s o l = pick_true _ _ o ∙ (sym (empty-null s) ∙ ne_eqb (length s) 0 l)

pub must-stand : (empty : Bool) (s : List ℕ) → empty ≡ false → pick empty (null s) false ≡ false
must-stand empty s o = pick-false _ _ o

pub ruleset payers = (payer-empty, payer-zeros, payer-account, not-empty, must-stand)
