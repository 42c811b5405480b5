-- The walk of a line tells its fault truly: the ways to go over a line's fields. Assumes nothing.
use mathlib.Core.Path.{◌≡◌, refl, sym, ap, ◌∙◌}
use mathlib.Core.Bool.{Bool}
use mathlib.Core.List.{List, [], ◌∷◌}
use Prim.Native.Nat.{ℕ, zero, suc, ◌+◌, ◌<◌}
use native.Mathlib.Omega.{arith}
use lib.Dec.{ltb}
use lib.ListN.{length, take, drop, length-take}
use lib.Seq.{drop-drop, length-take-le, take-length}
use borrow.Author.Tests.{ltb-true, ltb-false}
use Rattle.base.specs.Seek.{seek}
use Rattle.base.proofs.Cases.{by-test, pick_true, pick-false}
use Rattle.base.proofs.Seek.{seek-le}
use Rattle.sheet.specs.declared.Sheet.{Sheet}
use Rattle.paper.specs.Read.{Field, value, fault}
use Rattle.paper.specs.Bytes.{space, field_of, rest_of}
use Rattle.paper.specs.Entries.{Said, no, on_field, field, place, gap, line_end}
use Rattle.paper.specs.Spells.{Context}
use Rattle.why.specs.Rule.{Rule, rule, Tested, kept, broke, first_broken}
use Rattle.why.specs.Names.{Name}
use Rattle.why.specs.Fields.{rules_of}
use Rattle.why.specs.Walk.{Walked, passed, on_tested, divider, ended, column, spot, last}
use Rattle.why.specs.Told.{Clear, keeps, divides, missing, surplus, Told, by-rule, by-form}
use Rattle.why.proofs.Agrees.{Agrees, takes, refuses}

-- as many bytes as were taken are those bytes
take-taken : (n : ℕ) (s : List ℕ) → take (length (take n s)) s ≡ take n s
take-taken zero s = refl
take-taken (suc n) [] = refl
take-taken (suc n) (x ∷ s) = ap (λ (l : List ℕ). x ∷ l) (take-taken n s)

module _ (sh : Sheet) (today : ℕ) (c : Context) (w : List ℕ) (from : ℕ) where
  abbrev Rules : Name → List Rule
  Rules = rules_of sh today c w

  -- what stands from `at` on, with nothing broken before it
  pub record Here (at : ℕ) (s : List ℕ) : Type 0 where
    pub left : drop at w ≡ s
    pub clear : Clear sh today c w from at

  module _ {A : Type 0} where
    abbrev pub Tells : Said A → Walked → Type 0
    Tells = Told sh today c w from

    -- a field of these bytes
    on : {X : Type 0} (name : Name) (at n : ℕ) (x : Field X) (q : Tested) {k : X → Said A} {j : Walked} → Agrees x q → first_broken (Rules name) (take n (drop at w)) ≡ q
        → Clear sh today c w from at → ((v : X) → x ≡ value v → Clear sh today c w from (at + n) → Tells (k v) j) → Tells (on_field at x k) (on_tested name at n q j)
    unfolding on_field on_tested
    on name at n (value v) kept takes e clear h = h v refl (keeps n name clear e)
    on name at n (value v) (broke r) a e clear h = elim a [ ]
    on name at n (fault m) kept a e clear h = elim a [ ]
    on name at n (fault m) (broke r) (refuses g) e clear h = by-rule g clear e

    -- .. of a line that is too short for it
    short : (name : Name) (at n : ℕ) (q : Tested) (j : Walked) (form : List ℕ → Bool) → q ≡ broke (rule 4 40 form) → first_broken (Rules name) (take n (drop at w)) ≡ q
        → Clear sh today c w from at → Tells (no 4 at) (on_tested name at n q j)
    unfolding on_tested
    short name at n q j form f e clear = rw f (by-rule refl clear (e ∙ f))

    -- ---- fields from left to right

    pub columns : {X : Type 0} (read : List ℕ → Field X) (name : Name) → ((t : List ℕ) → Agrees (read t) (first_broken (Rules name) t)) → (at : ℕ) (s : List ℕ)
        {k : X → ℕ → List ℕ → Said A} {j : ℕ → List ℕ → Walked} → Here at s → ((v : X) (a : ℕ) (r : List ℕ) → Here a r → Tells (k v a r) (j a r))
        → Tells (field read at s k) (column sh today c w name at s j)
    unfolding field column
    columns read name agree at s here h =
        let n : length (field_of s) ≡ seek space s = length-take-le (seek space s) s (seek-le space s) in
        let t : take (length (field_of s)) (drop at w) ≡ field_of s = rw here.left (take-taken (seek space s) s) in
        on name at (length (field_of s)) (read (field_of s)) (first_broken (Rules name) (field_of s)) (agree (field_of s)) (ap (first_broken (Rules name)) t) here.clear
        λ v _ clear. h v (at + seek space s) (rest_of s) (record { left = sym (drop-drop (seek space s) at w) ∙ ap (drop (seek space s)) here.left; clear = rw n at clear })

    -- a field of n bytes by place, whose rules want as many
    pub spots : {X : Type 0} (n : ℕ) (read : List ℕ → Field X) (name : Name) → ((t : List ℕ) → length t ≡ n → Agrees (read t) (first_broken (Rules name) t))
        → {form : List ℕ → Bool} → ((t : List ℕ) → length t < n → first_broken (Rules name) t ≡ broke (rule 4 40 form)) → (at : ℕ) (s : List ℕ)
        {k : X → ℕ → List ℕ → Said A} {j : ℕ → List ℕ → Walked} → Here at s → ((v : X) (a : ℕ) (r : List ℕ) → read (take n s) ≡ value v → a ≡ at + n → Here a r → Tells (k v a r) (j a r))
        → Tells (place n read at s k) (spot sh today c w n name at s j)
    unfolding place spot
    spots n read name agree {form} few at s here h =
        let t : take (length (take n s)) (drop at w) ≡ take n s = rw here.left (take-taken n s) in
        by-test (ltb (length s) n)
        (λ l.
        let below : length (take n s) < n = omega (arith, ltb-true (length s) n l, length-take n s) in
        rw (pick_true _ _ l)
        (short name at (length (take n s)) (first_broken (Rules name) (take n s)) _ form (few (take n s) below) (ap (first_broken (Rules name)) t) here.clear))
        (λ l.
        let long : length (take n s) ≡ n = length-take-le n s (ltb-false (length s) n l) in
        rw (pick-false _ _ l)
        (on name at (length (take n s)) (read (take n s)) (first_broken (Rules name) (take n s)) (agree (take n s) long) (ap (first_broken (Rules name)) t) here.clear
        λ v e clear. h v (at + n) (drop n s) e refl (record { left = sym (drop-drop n at w) ∙ ap (drop n) here.left; clear = rw long at clear })))

    -- the rest of the line
    pub lasts : {X : Type 0} (read : List ℕ → Field X) (name : Name) (at : ℕ) (s : List ℕ) {k : X → Said A} → Agrees (read s) (first_broken (Rules name) s) → Here at s
        → ((v : X) → Tells (k v) passed) → Tells (on_field at (read s) k) (last sh today c w name at s)
    unfolding last
    lasts read name at s agree here h =
        on name at (length s) (read s) (first_broken (Rules name) s) agree (ap (first_broken (Rules name)) (rw here.left (take-length s))) here.clear λ v _ _. h v

    pub gaps : (name : Name) (at : ℕ) (s : List ℕ) {k : ℕ → List ℕ → Said A} {j : ℕ → List ℕ → Walked} → Here at s → ((a : ℕ) (r : List ℕ) → Here a r → Tells (k a r) (j a r))
        → Tells (gap at s k) (divider name at s j)
    unfolding gap divider
    gaps name at [] here h = by-form here.clear (missing here.left)
    gaps name at (x ∷ s) here h =
        h (at + 1) s (record { left = sym (drop-drop 1 at w) ∙ ap (drop 1) here.left; clear = divides x s here.clear here.left })

    pub ends : (name : Name) (at : ℕ) (s : List ℕ) {r : Said A} → Here at s → Tells r passed → Tells (line_end at s r) (ended 42 name at s)
    unfolding line_end ended
    ends name at [] here h = h
    ends name at (x ∷ s) here h = by-form here.clear (surplus x s here.left)
