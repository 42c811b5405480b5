-- A line's walk step by step: a field, the space behind it, the line's end. Assumes nothing.
use mathlib.Core.Path.{◌≡◌, refl, sym, ap, ◌∙◌}
use mathlib.Core.Bool.{Bool}
use mathlib.Core.List.{List}
use Prim.Native.Nat.{ℕ, suc, ◌+◌, ◌-◌, ◌≤◌, ◌<◌}
use native.Mathlib.Numerals.{add-one}
use native.Mathlib.Omega.{arith}
use lib.ListN.{length, take, drop, length-drop, drop_of_length-le}
use lib.Seq.{drop-cons, drop-drop, length-take-le}
use Rattle.std.proofs.Common.{Ok, Err}
use Rattle.base.specs.Seek.{seek}
use Rattle.base.proofs.Seek.{seek-le}
use Rattle.base.proofs.Lists.{drop-none, rest-whole}
use Rattle.sheet.specs.declared.Sheet.{Sheet}
use Rattle.paper.specs.Bytes.{space, field_of, rest_of}
use Rattle.paper.specs.Batch.{Header}
use Rattle.paper.specs.Spells.{Context, Numbers, after}
use Rattle.fileline.specs.seen.Bits.{Holds}
use Rattle.why.specs.Rule.{Tested, kept, broke, first_broken}
use Rattle.why.specs.Names.{Name, field_number}
use Rattle.why.specs.Fields.{number_rules, rules_of}
use Rattle.why.specs.Walk.{Walked, passed, on_tested, divider, ended, column, last}
use Rattle.fault.specs.field.Ruled.{Ruling, ruling}
use Rattle.fault.specs.declared.line.Fault.{Fault}
use Rattle.fault.specs.line.Walks.{Walk, walk, stop, in_line}
use Rattle.fault.specs.line.Stages.{from_code, from_number}

-- ---- a field whose rules were tested: where they are told to be kept the walk goes on, and what breaks one is the fault

module _ (name : Name) (at n : ℕ) where
  module _ (k : Walked) where
    pub on-kept : (q : Tested) (u : Unit {0}) → in_line (ruling q) at n (field_number name) ≡ Ok u → on_tested name at n q k ≡ k
    unfolding on_tested ruling in_line
    on-kept kept u e = refl
    on-kept (broke r) u e = absurd (let z : ◌≡◌ {A = ℕ} 0 1 = cc in omega arith)

    pub on-broke : (q : Tested) (y : Fault) → in_line (ruling q) at n (field_number name) ≡ Err y → walk (on_tested name at n q k) ≡ Err y
    unfolding on_tested ruling in_line walk
    on-broke kept y e = absurd (let z : ◌≡◌ {A = ℕ} 0 1 = cc in omega arith)
    on-broke (broke r) y e = e

  -- with nothing behind it
  pub on-last : (q : Tested) → in_line (ruling q) at n (field_number name) ≡ walk (on_tested name at n q passed)
  unfolding on_tested ruling in_line walk
  on-last kept = refl
  on-last (broke r) = refl

module _ (sh : Sheet) (today : ℕ) (c : Context) (w : List ℕ) (x : Walk) (name : Name) where
  -- ---- a field to the next space

  module _ (at end : ℕ) (j : ℕ → List ℕ → Walked) (e : end ≡ at + seek space (drop at w)) (r : Ruling)
      (q : r ≡ ruling (first_broken (rules_of sh today c w name) (take (end - at) (drop at w))))
      (p : Walk) (g : p ≡ in_line r at (end - at) (field_number name)) where
    size : end - at ≡ seek space (drop at w)
    size = omega arith

    bytes-are : take (end - at) (drop at w) ≡ field_of (drop at w)
    bytes-are = ap (λ (n : ℕ). take n (drop at w)) size

    count-is : length (field_of (drop at w)) ≡ end - at
    count-is = length-take-le (seek space (drop at w)) (drop at w) (seek-le space (drop at w)) ∙ sym size

    tested : r ≡ ruling (first_broken (rules_of sh today c w name) (field_of (drop at w)))
    tested = q ∙ ap (λ (s : List ℕ). ruling (first_broken (rules_of sh today c w name) s)) bytes-are

    rest-is : rest_of (drop at w) ≡ drop end w
    rest-is = drop-drop (seek space (drop at w)) at w ∙ ap (λ (n : ℕ). drop n w) (sym e)

    told : in_line (ruling (first_broken (rules_of sh today c w name) (field_of (drop at w)))) at (length (field_of (drop at w))) (field_number name) ≡ p
    told = sym (g ∙ (ap (λ (s : Ruling). in_line s at (end - at) (field_number name)) tested ∙ rw count-is))

    pub column-kept : (u : Unit {0}) → p ≡ Ok u → x ≡ walk (j end (drop end w)) → x ≡ walk (column sh today c w name at (drop at w) j)
    unfolding column
    column-kept u y h =
        h ∙ sym (ap walk (on-kept name at (length (field_of (drop at w))) (j (at + seek space (drop at w)) (rest_of (drop at w))) (first_broken (rules_of sh today c w name) (field_of (drop at w))) u (told ∙ y) ∙ rw (rest-is, ← e)))

    pub column-broke : (y : Fault) → p ≡ Err y → x ≡ Err y → x ≡ walk (column sh today c w name at (drop at w) j)
    unfolding column
    column-broke y f h =
        h ∙ sym (on-broke name at (length (field_of (drop at w))) (j (at + seek space (drop at w)) (rest_of (drop at w))) (first_broken (rules_of sh today c w name) (field_of (drop at w))) y (told ∙ f))

  -- .. that begins its line
  module _ (end : ℕ) (j : ℕ → List ℕ → Walked) (e : end ≡ 0 + seek space w) (r : Ruling) (q : r ≡ ruling (first_broken (rules_of sh today c w name) (take (end - 0) w)))
      (p : Walk) (g : p ≡ in_line r 0 (end - 0) (field_number name)) where
    from_first : end ≡ 0 + seek space (drop 0 w)
    from_first = e ∙ ap (λ (s : List ℕ). 0 + seek space s) (sym (drop-none w))

    told-first : r ≡ ruling (first_broken (rules_of sh today c w name) (take (end - 0) (drop 0 w)))
    told-first = q ∙ ap (λ (s : List ℕ). ruling (first_broken (rules_of sh today c w name) (take (end - 0) s))) (sym (drop-none w))

    same_first : walk (column sh today c w name 0 (drop 0 w) j) ≡ walk (column sh today c w name 0 w j)
    same_first = ap (λ (s : List ℕ). walk (column sh today c w name 0 s j)) (drop-none w)

    pub first-kept : (u : Unit {0}) → p ≡ Ok u → x ≡ walk (j end (drop end w)) → x ≡ walk (column sh today c w name 0 w j)
    first-kept u y h = column-kept 0 end j from_first r told-first p g u y h ∙ same_first

    pub first-broke : (y : Fault) → p ≡ Err y → x ≡ Err y → x ≡ walk (column sh today c w name 0 w j)
    first-broke y f h = column-broke 0 end j from_first r told-first p g y f h ∙ same_first

  -- ---- the rest of the line

  module _ (at : ℕ) (r : Ruling) (q : r ≡ ruling (first_broken (rules_of sh today c w name) (take (length w - at) (drop at w)))) where
    last-tested : r ≡ ruling (first_broken (rules_of sh today c w name) (drop at w))
    last-tested = q ∙ ap (λ (s : List ℕ). ruling (first_broken (rules_of sh today c w name) s)) (rest-whole w at)

    pub last-told : x ≡ in_line r at (length w - at) (field_number name) → x ≡ walk (last sh today c w name at (drop at w))
    unfolding last
    last-told h =
        h ∙ (ap (λ (s : Ruling). in_line s at (length w - at) (field_number name)) last-tested
        ∙ rw (← (length-drop at w)) (on-last name at (length (drop at w)) (first_broken (rules_of sh today c w name) (drop at w))))

-- ---- the space between two fields, and the line's end

module _ (w : List ℕ) (x : Walk) (name : Name) (at : ℕ) where
  pub gap-there : (j : ℕ → List ℕ → Walked) → at < length w → x ≡ walk (j (at + 1) (drop (at + 1) w)) → x ≡ walk (divider name at (drop at w) j)
  unfolding divider
  gap-there j l h = h ∙ sym (ap walk (rw (drop-cons w at 0 l, ← (add-one at))))

  pub gap-missing : (j : ℕ → List ℕ → Walked) → length w ≤ at → x ≡ Err (stop 4 41 at 0 (field_number name) 0 0) → x ≡ walk (divider name at (drop at w) j)
  unfolding divider walk
  gap-missing j l h = h ∙ sym (rw (drop_of_length-le w l))

  pub ended-fine : (why : ℕ) → length w ≤ at → x ≡ Ok tt → x ≡ walk (ended why name at (drop at w))
  unfolding ended walk
  ended-fine why l h = h ∙ sym (rw (drop_of_length-le w l))

  pub ended-more : (why : ℕ) → at < length w → x ≡ Err (stop 4 why at (length w - at) (field_number name) 0 0) → x ≡ walk (ended why name at (drop at w))
  unfolding ended walk
  ended-more why l h =
      let n : suc (length (drop (suc at) w)) ≡ length w - at = omega (arith, length-drop (suc at) w) in
      h ∙ sym (rw (drop-cons w at 0 l) (ap (λ (m : ℕ). Err (stop 4 why at m (field_number name) 0 0)) n))

-- a fault, by what is told of it
pub is-fault : (b d : Fault) → b ≡ d → ◌≡◌ {A = Walk} (Err b) (Err d)
is-fault b d e = ap (λ (y : Fault). Err y) e

-- a field ends inside its line
pub field_in : (w : List ℕ) (at end : ℕ) → at ≤ length w → end ≡ at + seek space (drop at w) → end ≤ length w
field_in w at end l e = omega (arith, seek-le space (drop at w), length-drop at w)

pub first-in : (w : List ℕ) (end : ℕ) → end ≡ 0 + seek space w → end ≤ length w
first-in w end e = omega (arith, seek-le space w)

pub ruleset steps = (is-fault, field_in, first-in, column-kept, column-broke, first-kept, first-broke, last-told, gap-there, gap-missing, ended-fine, ended-more)

-- an account file's number, in its context
pub number-known : (r : Ruling) (interval : Bool) (from to : ℕ) (words l z : List ℕ) (c : Context) (h : Header)
    → ((g : Header) (m : List ℕ) → Holds words m → g.from ≡ from → g.to ≡ to → r ≡ ruling (first_broken (number_rules interval (after g m)) z))
    → c.numbers ≡ after h l → Holds words l → h.from ≡ from → h.to ≡ to → r ≡ ruling (first_broken (number_rules interval c.numbers) z)
number-known r interval from to words l z c h f e k i j = f h l k i j ∙ ap (λ (n : Numbers). ruling (first_broken (number_rules interval n) z)) (sym e)

-- the walk from a field on, in any context
module _ (sh : Sheet) (today : ℕ) (c : Context) (w : List ℕ) (x : Walk) (at : ℕ) where
  pub on-code : ((t : ℕ) (d : Context) → x ≡ walk (from_code sh t d w at (drop at w))) → x ≡ walk (from_code sh today c w at (drop at w))
  on-code f = f today c

  pub on-number : (h : Header) (words l : List ℕ) (from to : ℕ)
      → ((t : ℕ) (d : Context) (g : Header) (m : List ℕ) → d.numbers ≡ after g m → Holds words m → g.from ≡ from → g.to ≡ to → x ≡ walk (from_number sh t d w at (drop at w)))
      → c.numbers ≡ after h l → Holds words l → h.from ≡ from → h.to ≡ to → x ≡ walk (from_number sh today c w at (drop at w))
  on-number h words l from to f e k i j = f today c h l e k i j

pub ruleset numbered = (number-known, on-code, on-number, steps)
