-- Where the fields and the parts of an item's line stand, for the functions that look for them. Assumes nothing.
use mathlib.Core.Path.{◌≡◌, sym, ap, ◌∙◌}
use mathlib.Core.Bool.{Bool}
use mathlib.Core.List.{List, [], ◌∷◌}
use Prim.Native.Nat.{ℕ, ◌+◌, ◌-◌, ◌≤◌, ◌<◌}
use native.Mathlib.Omega.{arith}
use lib.ListN.{length, take, drop, length-drop}
use lib.Seq.{length-take-le}
use borrow.Author.Tests.{lt-ltb, le-ltb, eq-eqb, ne_eqb}
use Rattle.base.specs.Pick.{pick}
use Rattle.base.specs.Seek.{seek}
use Rattle.base.proofs.Cases.{by-test, pick_true, pick-false}
use Rattle.base.proofs.Seek.{seek-le}
use Rattle.base.proofs.Lists.{drop-none, drop-take}
use Rattle.sheet.specs.declared.Style.{Style}
use Rattle.paper.specs.Bytes.{space, bar, mark}
use Rattle.paper.specs.Texts.{message_end}
use Rattle.why.specs.Names.{field_number}
use Rattle.why.specs.Warned.{part_name, part_from}
use Rattle.listing.specs.item.Found.{behind, bank_place}

-- ---- the bank field: e is what find_byte answered

module _ (s : List ℕ) (at e : ℕ) (g : e ≡ at + seek space (drop at s)) where
  pub behind-space : e < length s → e + 1 ≡ behind s at
  unfolding behind
  behind-space h = rw (← g) (sym (pick_true (e + 1) (length s) (lt-ltb e (length s) h)))

  pub behind-end : length s ≤ e → length s ≡ behind s at
  unfolding behind
  behind-end h = rw (← g) (sym (pick-false (e + 1) (length s) (le-ltb e (length s) h)))

pub ruleset behinds = (behind-space, behind-end)

-- bank_place: a, b and c are what its callees answered
pub bank-place : (single : Bool) (s : List ℕ) (a b c r : ℕ) → a ≡ pick single (behind s 0) 0 → b ≡ behind s a → c ≡ behind s b → r ≡ behind s c → r ≡ bank_place single s
unfolding bank_place
bank-place single s a b c r ea eb ec er = er ∙ rw (ec, eb, ea)

-- ---- a part before it is cut

-- the message ends within the line
pub message-le : (y : Style) (m : List ℕ) → message_end y m ≤ length m
unfolding message_end pick
message-le y m = by-test y.names (λ e. rw e (seek-le mark m)) (λ e. rw e (omega arith))

module _ (y : Style) (s : List ℕ) (at e : ℕ) (g : e ≡ at + message_end y (drop at s)) (h : at ≤ length s) where
  pub end-within : e ≤ length s
  end-within = omega (arith, message-le y (drop at s), length-drop at s)

  pub end-behind : at ≤ e
  end-behind = omega arith

  -- r is what find_byte answered
  rest : drop at (take e s) ≡ take (message_end y (drop at s)) (drop at s)
  rest = let z : e - at ≡ message_end y (drop at s) = omega arith in drop-take at e s ∙ ap (λ (n : ℕ). take n (drop at s)) z

  pub part-size : (r : ℕ) → r ≡ at + seek bar (drop at (take (e - 0) (drop 0 s))) → r - at ≡ length (part_from y (drop at s))
  unfolding part_from
  part-size r f =
      let u = take (message_end y (drop at s)) (drop at s) in
      let z : e - 0 ≡ e = omega arith in
      omega (arith, rw (z, drop-none s, rest) at f, length-take-le (seek bar u) u (seek-le bar u))

pub ruleset part-sizes = (end-within, end-behind, part-size)

-- ---- which part begins at a place

module _ (at a b c d : ℕ) where
  abbrev name : ℕ
  name = field_number (part_name at (a ∷ b ∷ c ∷ d ∷ []))

  pub name-first : at ≡ a → 37 ≡ name
  unfolding part_name field_number pick
  name-first e = rw (eq-eqb at a e)

  module _ (na : at ≡ a → ⊥) where
    pub name-second : at ≡ b → 38 ≡ name
    unfolding part_name field_number pick
    name-second e = rw (ne_eqb at a na, eq-eqb at b e)

    module _ (nb : at ≡ b → ⊥) where
      pub name-third : at ≡ c → 39 ≡ name
      unfolding part_name field_number pick
      name-third e = rw (ne_eqb at a na, ne_eqb at b nb, eq-eqb at c e)

      pub name-fourth : (at ≡ c → ⊥) → 40 ≡ name
      unfolding part_name field_number pick
      name-fourth nc = rw (ne_eqb at a na, ne_eqb at b nb, ne_eqb at c nc)

pub ruleset part-names = (name-first, name-second, name-third, name-fourth)
