-- One step of an answer r through the fields of a first line, for `search`. Assumes nothing.
use mathlib.Core.Path.{◌≡◌, refl, sym, ap, ◌∙◌}
use mathlib.Core.Bool.{Bool, true, false}
use mathlib.Core.List.{List}
use Prim.Native.Nat.{ℕ, ◌-◌, ◌≤◌, ◌<◌}
use native.Mathlib.Omega.{arith}
use lib.Dec.{ltb}
use lib.ListN.{length, drop, length-drop}
use Rattle.std.proofs.Common.{Result, Ok, Err}
use borrow.Author.Tests.{lt-ltb, le-ltb}
use Rattle.base.specs.Pick.{pick}
use Rattle.base.specs.Seek.{all}
use Rattle.base.proofs.Cases.{pick_true, picks}
use Rattle.base.proofs.Lists.{drop-none}
use Rattle.refusal.specs.declared.Refusal.{Refusal}
use Rattle.refusal.specs.declared.Flaw.{Flaw}
use Rattle.refusal.specs.Numbers.{number_of}
use Rattle.refusal.specs.Placed.{placed}
use Rattle.refusal.proofs.Places.{was-ok, was-err}
use Rattle.paper.specs.Read.{Field, value, fault}
use Rattle.paper.specs.Bytes.{is_text}
use Rattle.paper.specs.Days.{short_day, read_day}
use Rattle.paper.specs.Entries.{Said, no, on_field, place}
use Rattle.paper.specs.FirstLine.{text_field, read_rest, rest_length}
use Rattle.numeral.specs.Told.{told}
use Rattle.numeral.proofs.given.Steps.{steps}
use Rattle.numeral.proofs.field.Steps.{step-place, step-no-place, step_given, step-fault}
use Rattle.firstline.specs.Stages.{rest_taken}

-- a line that ends before the date does
pub step-no-date : {Z : Type 0} {A : Type 0} (r : Said Z) (read : List ℕ → Field A) (s : List ℕ) (k : A → ℕ → List ℕ → Said Z) → length s < 10 → r ≡ no 4 4 → r ≡ place 6 read 4 (drop 4 s) k
unfolding place
step-no-date r read s k h q = q ∙ sym (pick_true _ _ (lt-ltb (length (drop 4 s)) 6 (omega (arith, length-drop 4 s))))

-- a number: m is what its reader answered, p the same with its place
module _ {Z : Type 0} (r : Said Z) (at : ℕ) (k : ℕ → Said Z) (m : Result ℕ Refusal) (p : Result ℕ Flaw) (h : p ≡ placed m at) where
  module _ (x : Field ℕ) (g : told m ≡ x) where
    pub step-number : (v : ℕ) → p ≡ Ok v → r ≡ k v → r ≡ on_field at x k
    step-number v f q = step_given r at x k m g v (was-ok m at v (sym h ∙ f)) q

    pub step-no-number : (y : Flaw) → p ≡ Err y → r ≡ no (number_of y.0) y.1 → r ≡ on_field at x k
    step-no-number y f q =
        let w = was-err m at y (sym h ∙ f) in
        step-fault r at x k m g y.0 w.0 (q ∙ ap (no (number_of y.0)) (sym w.1))

  -- a date of six bytes
  module _ (s : List ℕ) (g : told m ≡ read_day false s) where
    pub step-day : (v : ℕ) → p ≡ Ok v → r ≡ k v → r ≡ on_field at (short_day s) k
    unfolding read_day pick
    step-day v f q = step-number (short_day s) g v f q

    pub step-no-day : (y : Flaw) → p ≡ Err y → r ≡ no (number_of y.0) y.1 → r ≡ on_field at (short_day s) k
    unfolding read_day pick
    step-no-day y f q = step-no-number (short_day s) g y f q

-- two tests that must both pass
both : {A : Type 0} (t u : Bool) (a b : A) → pick t (pick u a b) b ≡ pick (pick t u false) a b
unfolding pick
both true u a b = refl
both false u a b = refl

pub rest-field : (short : Bool) (s : List ℕ) → read_rest short s ≡ pick (rest_taken short s) (value s) (fault 4)
unfolding read_rest text_field rest_taken
rest-field short s = both (rest_length short (length s)) (all is_text s) (value s) (fault 4)

-- text bytes: t is what the code's test answered
module _ {Z : Type 0} (r : Said Z) (at : ℕ) (s : List ℕ) (k : List ℕ → Said Z) (t : Bool) where
  module _ (g : t ≡ all is_text (drop 0 s)) where
    pub step-text : t ≡ true → r ≡ k s → r ≡ on_field at (text_field s) k
    unfolding text_field on_field pick
    step-text e q = q ∙ rw (sym (ap (all is_text) (drop-none s)) ∙ sym g ∙ e)

    pub step-no-text : t ≡ false → r ≡ no 4 at → r ≡ on_field at (text_field s) k
    unfolding text_field on_field pick
    step-no-text e q = q ∙ rw (sym (ap (all is_text) (drop-none s)) ∙ sym g ∙ e)

  module _ (short : Bool) (g : t ≡ rest_taken short s) where
    pub step-rest : t ≡ true → r ≡ k s → r ≡ on_field at (read_rest short s) k
    unfolding on_field pick
    step-rest e q = q ∙ rw (rest-field short s, ← g, e)

    pub step-no-rest : t ≡ false → r ≡ no 4 at → r ≡ on_field at (read_rest short s) k
    unfolding on_field pick
    step-no-rest e q = q ∙ rw (rest-field short s, ← g, e)

pub ruleset fields = (step-no-date, step-place, step-no-place, step-day, step-no-day, step-number, step-no-number, step-text, step-no-text, step-rest, step-no-rest)

-- ---- the interval's end by itself

module _ (ordered : Bool) (from to : ℕ) where
  pub to_below : ordered ≡ true → to < from → fault 9 ≡ pick (pick ordered (ltb to from) false) (fault 9) (value to)
  unfolding pick
  to_below e h = rw (e, lt-ltb to from h)

  pub to-above : ordered ≡ true → from ≤ to → value to ≡ pick (pick ordered (ltb to from) false) (fault 9) (value to)
  unfolding pick
  to-above e h = rw (e, le-ltb to from h)

  pub to_free : ordered ≡ false → value to ≡ pick (pick ordered (ltb to from) false) (fault 9) (value to)
  unfolding pick
  to_free e = rw e

-- ---- the rest: t is what the test of its length answered

module _ (short : Bool) (s : List ℕ) (at : ℕ) (t : Bool) (g : t ≡ rest_length short (length s - at)) where
  pub rest-on : (r : Bool) → t ≡ true → r ≡ all is_text (drop at s) → r ≡ rest_taken short (drop at s)
  unfolding rest_taken pick
  rest-on r e q = q ∙ rw (length-drop, ← g, e)

  pub rest-not : t ≡ false → false ≡ rest_taken short (drop at s)
  unfolding rest_taken pick
  rest-not e = rw (length-drop, ← g, e)

pub ruleset rests = (to_below, to-above, to_free, rest-on, rest-not, steps, picks)
