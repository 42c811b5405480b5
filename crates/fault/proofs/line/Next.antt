-- A field and the space behind it, step by step, and the walk that goes on behind them. Assumes nothing.
use mathlib.Core.Path.{◌≡◌, refl, sym, ap, ◌∙◌}
use mathlib.Core.List.{List}
use Prim.Native.Nat.{ℕ, ◌+◌, ◌-◌, ◌≤◌, ◌<◌}
use native.Mathlib.Omega.{arith}
use lib.Dec.{ltb}
use lib.ListN.{length, take, drop}
use borrow.Author.Tests.{lt-ltb, le-ltb}
use Rattle.std.proofs.Common.{Result, Ok, Err, ◌⊎◌, inl, inr}
use Rattle.base.specs.Pick.{pick}
use Rattle.base.specs.Seek.{seek}
use Rattle.base.proofs.Cases.{by-lt, pick_true, pick-false}
use Rattle.sheet.specs.declared.Sheet.{Sheet}
use Rattle.paper.specs.Bytes.{space}
use Rattle.paper.specs.Spells.{Context}
use Rattle.why.specs.Rule.{first_broken}
use Rattle.why.specs.Names.{Name, field_number}
use Rattle.why.specs.Fields.{rules_of}
use Rattle.why.specs.Walk.{Walked, divider, column}
use Rattle.fault.specs.field.Ruled.{Ruling, ruling}
use Rattle.fault.specs.declared.line.Fault.{Fault}
use Rattle.fault.specs.line.Walks.{Walk, walk, stop, in_line, to_next}
use Rattle.fault.proofs.line.Steps.{column-kept, column-broke, first-kept, first-broke, gap-there, gap-missing}

-- ---- what is told of them, by what is told of the field

module _ (n at end field : ℕ) where
  by-kept : (r : Ruling) (u : Unit {0}) → in_line r at (end - at) field ≡ Ok u
      → to_next n r at end field ≡ pick (ltb end n) (Ok (end + 1)) (Err (stop 4 41 end 0 (field + 1) 0 0))
  unfolding in_line to_next
  by-kept (Ok v) u e = refl
  by-kept (Err r) u e = absurd (let z : ◌≡◌ {A = ℕ} 0 1 = cc in omega arith)

  by-broke : (r : Ruling) (y : Fault) → in_line r at (end - at) field ≡ Err y → to_next n r at end field ≡ Err y
  unfolding in_line to_next
  by-broke (Ok v) y e = absurd (let z : ◌≡◌ {A = ℕ} 0 1 = cc in omega arith)
  by-broke (Err r) y e =
      let same : stop r.number r.cause at (end - at) field r.least r.most ≡ y = cc in
      ap (λ (z : Fault). Err z) same

  module _ (x : Result ℕ Fault) (r : Ruling) (p : Walk) (g : p ≡ in_line r at (end - at) field) where
    pub next_there : (u : Unit {0}) → p ≡ Ok u → end < n → x ≡ Ok (end + 1) → x ≡ to_next n r at end field
    next_there u e h k = k ∙ sym (by-kept r u (sym g ∙ e) ∙ pick_true _ _ (lt-ltb end n h))

    pub next-missing : (u : Unit {0}) → p ≡ Ok u → n ≤ end → x ≡ Err (stop 4 41 end 0 (field + 1) 0 0) → x ≡ to_next n r at end field
    next-missing u e h k = k ∙ sym (by-kept r u (sym g ∙ e) ∙ pick-false _ _ (le-ltb end n h))

    pub next-broke : (y : Fault) → p ≡ Err y → x ≡ Err y → x ≡ to_next n r at end field
    next-broke y e k = k ∙ sym (by-broke r y (sym g ∙ e))

pub ruleset telling = (next_there, next-missing, next-broke)

-- ---- and back: where the next field begins the field kept its rules and a space follows it; else it broke one, or the line ends behind it

module _ (n at end field : ℕ) where
  next-is : (r : Ruling) (u : ℕ) → to_next n r at end field ≡ Ok u → (in_line r at (end - at) field ≡ Ok tt) × (end < n) × (u ≡ end + 1)
  unfolding in_line to_next
  next-is (Err r) u e = absurd (let z : ◌≡◌ {A = ℕ} 0 1 = cc in omega arith)
  next-is (Ok v) u e =
      by-lt end n
      (λ lt. let same : ◌≡◌ {A = Result ℕ Fault} (Ok (end + 1)) (Ok u) = sym (pick_true _ _ (lt-ltb end n lt)) ∙ e in (refl, lt, (cc)))
      (λ le. let same : ◌≡◌ {A = Result ℕ Fault} (Err (stop 4 41 end 0 (field + 1) 0 0)) (Ok u) = sym (pick-false _ _ (le-ltb end n le)) ∙ e in absurd (let z : ◌≡◌ {A = ℕ} 0 1 = cc in omega arith))

  next-not : (r : Ruling) (y : Fault) → to_next n r at end field ≡ Err y
      → (in_line r at (end - at) field ≡ Err y) ⊎ ((in_line r at (end - at) field ≡ Ok tt) × (n ≤ end) × (y ≡ stop 4 41 end 0 (field + 1) 0 0))
  unfolding in_line to_next
  next-not (Err r) y e = let same : stop r.number r.cause at (end - at) field r.least r.most ≡ y = cc in inl (ap (λ (z : Fault). Err z) same)
  next-not (Ok v) y e =
      by-lt end n
      (λ lt. let same : ◌≡◌ {A = Result ℕ Fault} (Ok (end + 1)) (Err y) = sym (pick_true _ _ (lt-ltb end n lt)) ∙ e in absurd (let z : ◌≡◌ {A = ℕ} 0 1 = cc in omega arith))
      (λ le. let same : ◌≡◌ {A = Result ℕ Fault} (Err (stop 4 41 end 0 (field + 1) 0 0)) (Err y) = sym (pick-false _ _ (le-ltb end n le)) ∙ e in inr (refl, le, (cc)))

-- ---- the walk: a field, and behind it k, which begins with the space before the next one

module _ (sh : Sheet) (today : ℕ) (c : Context) (w : List ℕ) (x : Walk) (name : Name) (r : Ruling) (p : Result ℕ Fault) where
  module _ (at end : ℕ) (k : ℕ → List ℕ → Walked) (e : end ≡ at + seek space (drop at w))
      (q : r ≡ ruling (first_broken (rules_of sh today c w name) (take (end - at) (drop at w))))
      (g : p ≡ to_next (length w) r at end (field_number name)) where
    pub onward : (u : ℕ) → p ≡ Ok u → x ≡ walk (k end (drop end w)) → x ≡ walk (column sh today c w name at (drop at w) k)
    onward u y h = column-kept sh today c w x name at end k e r q _ refl tt (next-is (length w) at end (field_number name) r u (sym g ∙ y)).0 h

    pub halted : (y : Fault) → p ≡ Err y → x ≡ Err y
        → (length w ≤ end → x ≡ Err (stop 4 41 end 0 (field_number name + 1) 0 0) → x ≡ walk (k end (drop end w)))
        → x ≡ walk (column sh today c w name at (drop at w) k)
    halted y f h missing =
        elim (next-not (length w) at end (field_number name) r y (sym g ∙ f)) [
          | inl a ↦ column-broke sh today c w x name at end k e r q _ refl y a h
          | inr b ↦ column-kept sh today c w x name at end k e r q _ refl tt b.0 (missing b.1 (h ∙ ap (λ (z : Fault). Err z) b.2))
        ]

  -- .. the first field where the line begins
  module _ (end : ℕ) (k : ℕ → List ℕ → Walked) (e : end ≡ 0 + seek space w) (q : r ≡ ruling (first_broken (rules_of sh today c w name) (take end w)))
      (g : p ≡ to_next (length w) r 0 end (field_number name)) where
    told : r ≡ ruling (first_broken (rules_of sh today c w name) (take (end - 0) w))
    told = q ∙ ap (λ (n : ℕ). ruling (first_broken (rules_of sh today c w name) (take n w))) (let z : end ≡ end - 0 = omega arith in z)

    pub onward-first : (u : ℕ) → p ≡ Ok u → x ≡ walk (k end (drop end w)) → x ≡ walk (column sh today c w name 0 w k)
    onward-first u y h = first-kept sh today c w x name end k e r told _ refl tt (next-is (length w) 0 end (field_number name) r u (sym g ∙ y)).0 h

    pub halted-first : (y : Fault) → p ≡ Err y → x ≡ Err y
        → (length w ≤ end → x ≡ Err (stop 4 41 end 0 (field_number name + 1) 0 0) → x ≡ walk (k end (drop end w)))
        → x ≡ walk (column sh today c w name 0 w k)
    halted-first y f h missing =
        elim (next-not (length w) 0 end (field_number name) r y (sym g ∙ f)) [
          | inl a ↦ first-broke sh today c w x name end k e r told _ refl y a h
          | inr b ↦ first-kept sh today c w x name end k e r told _ refl tt b.0 (missing b.1 (h ∙ ap (λ (z : Fault). Err z) b.2))
        ]

-- the space, of which it was asked
module _ (w : List ℕ) (x : Walk) (later : Name) (end : ℕ) (j : ℕ → List ℕ → Walked) (r : Ruling) (at field : ℕ) (p : Result ℕ Fault)
    (g : p ≡ to_next (length w) r at end field) where
  pub gap-passed : (u : ℕ) → p ≡ Ok u → x ≡ walk (j u (drop u w)) → x ≡ walk (divider later end (drop end w) j)
  gap-passed u y h = let f = next-is (length w) at end field r u (sym g ∙ y) in gap-there w x later end j f.1 (rw f.2 at h)

-- the next field begins in the line
pub next-in : (n at end field : ℕ) (r : Ruling) (p : Result ℕ Fault) → p ≡ to_next n r at end field → (u : ℕ) → p ≡ Ok u → u ≤ n
next-in n at end field r p g u y = let f = next-is n at end field r u (sym g ∙ y) in omega (arith, f.1, f.2)

pub ruleset walking = (onward, halted, onward-first, halted-first, gap-passed, gap-missing, next-in)
