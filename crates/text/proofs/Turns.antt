-- The ways out of the functions that judge a text. Assumes nothing.
use mathlib.Core.Path.{◌≡◌, refl, sym, ap, ◌∙◌}
use mathlib.Core.Bool.{true, false}
use mathlib.Core.List.{List}
use Prim.Native.Nat.{ℕ, ◌+◌, ◌-◌, ◌≤◌, ◌<◌}
use native.Mathlib.Omega.{arith}
use lib.ListN.{length, get_or, drop, drop_of_length-le, length-drop}
use lib.Seq.{drop-cons}
use borrow.Author.Tests.{eq-eqb, ne_eqb, le-leb, lt-leb}
use Rattle.std.proofs.Common.{Result, Err}
use Rattle.refusal.specs.declared.Refusal.{Refusal}
use Rattle.refusal.specs.declared.Refusal.TheVariants.{BadText}
use Rattle.base.specs.Seek.{seek}
use Rattle.base.proofs.Cases.{by-eq, pick_true, pick-false}
use Rattle.sheet.specs.declared.Style.{Style}
use Rattle.paper.specs.Bytes.{bar, mark}
use Rattle.paper.specs.Texts.{others, opens, message_end}
use Rattle.text.specs.span.Places.{span, part_at, ended, found_at, one_at}
use Rattle.text.specs.declared.span.Part.{Part}
use Rattle.text.specs.declared.span.Spans.{Spans}
use Rattle.text.proofs.span.Turns.{part-bar, part-next, part-upto, part-near, bars-none, four-found, one_found}
use Rattle.text.proofs.span.Bars.{count-least, count-few}
use Rattle.text.specs.Finish.{judged, fitted_one, fitted_at, name_at}

-- fit_one
module _ (y : Style) (from size at len : ℕ) where
  pub one_none : y.most ≡ 0 → Err BadText ≡ fitted_one y from size at len
  unfolding fitted_one
  one_none z = sym (pick_true _ _ (eq-eqb y.most 0 z))

  pub one-judged : (y.most ≡ 0 → ⊥) → (f : Spans) (r : Result Spans Refusal) → f ≡ one_at from size at len → r ≡ judged y f → r ≡ fitted_one y from size at len
  unfolding fitted_one
  one-judged z f r ef er = er ∙ (ap (judged y) ef ∙ sym (pick-false _ _ (ne_eqb y.most 0 z)))

pub ruleset ones = (one_none, one-judged)

-- fit_parts: i, j, k and l are what barred answered
module _ (y : Style) (m : List ℕ) (from at len : ℕ) (h : from ≤ length m) (a b c d : Part) (ea : a ≡ part_at m from) (eb : b ≡ part_at m a.next)
    (ec : c ≡ part_at m b.next) (ed : d ≡ part_at m c.next) (i j k l : ℕ) (ei : i ≡ ended a) (ej : j ≡ ended b) (ek : k ≡ ended c) (el : l ≡ ended d) where
  sum : i + j + k + l ≡ ended a + ended b + ended c + ended d
  sum = rw (ei, ej, ek, el)

  pub finish-many : y.most ≤ i + j + k + l → Err BadText ≡ fitted_at y m from at len
  unfolding fitted_at
  finish-many t =
      let n = count-least m from a b c d h ea eb ec ed (i + j + k + l) sum in
      sym (pick_true _ _ (le-leb y.most (length (others from (drop from m))) (omega arith)))

  pub finished : i + j + k + l < y.most → y.most ≤ 4 → (f : Spans) (r : Result Spans Refusal) → f ≡ found_at a b c d at len → r ≡ judged y f → r ≡ fitted_at y m from at len
  unfolding fitted_at
  finished t u f r ef er =
      let n = count-few m from a b c d h ea eb ec ed (i + j + k + l) sum (omega arith) in
      er ∙ (ap (judged y) (four-found m from at len f a b c d ea eb ec ed ef) ∙ sym (pick-false _ _ (lt-leb y.most (length (others from (drop from m))) (omega arith))))

-- fit_at: e is what find_byte answered
module _ (y : Style) (m : List ℕ) (from at len e : ℕ) (g : e ≡ from + seek bar (drop from m)) (h : from ≤ length m) where
  none : length m ≤ e → length (others from (drop from m)) ≡ 0
  none l = sym (bars-none m from 0 from e (omega arith) g h l)

  pub finish-alone : length m ≤ e → (r : Result Spans Refusal) → r ≡ fitted_one y from (e - from) at len → r ≡ fitted_at y m from at len
  unfolding fitted_at fitted_one
  finish-alone l r k =
      by-eq y.most 0
      (λ z. k ∙ (pick_true _ _ (eq-eqb y.most 0 z) ∙ sym (pick_true _ _ (le-leb y.most (length (others from (drop from m))) (omega arith)))))
      (λ z. k ∙ (pick-false _ _ (ne_eqb y.most 0 z) ∙ (ap (judged y) (one_found m from at len (one_at from (e - from) at len) e g h l refl) ∙ sym (pick-false _ _ (lt-leb y.most (length (others from (drop from m))) (omega (arith, none l)))))))

pub ruleset finishes = (part-bar, part-next, part-upto, part-near, finish-many, finished, finish-alone)

-- name_at
module _ (e n rest : ℕ) (g : rest ≡ n - e) where
  pub name-none : rest ≤ 4 → span 0 0 ≡ name_at e n
  unfolding name_at
  name-none h = sym (pick_true _ _ (le-leb (n - e) 4 (omega arith)))

  pub name-some : 4 < rest → span (e + 4) (rest - 4) ≡ name_at e n
  unfolding name_at
  name-some h = rw g (sym (pick-false _ _ (lt-leb (n - e) 4 (omega arith))))

pub ruleset names = (name-none, name-some)

-- opens_at
module _ (s : List ℕ) (from : ℕ) where
  pub opens-none : length s ≤ from → false ≡ opens (drop from s)
  unfolding opens
  opens-none h = rw (drop_of_length-le s h)

  module _ (h : from < length s) where
    pub opens-space : get_or s from 0 ≡ 32 → false ≡ opens (drop from s)
    unfolding opens
    opens-space e = rw (drop-cons s from 0 h) (simp (eq-eqb _ _ e))

    pub opens-good : (get_or s from 0 ≡ 32 → ⊥) → true ≡ opens (drop from s)
    unfolding opens
    opens-good e = rw (drop-cons s from 0 h) (simp (ne_eqb _ _ e))

pub ruleset openings = (opens-none, opens-space, opens-good)

-- message_end: e is what find answered
module _ (y : Style) (s : List ℕ) (from : ℕ) where
  pub end_mark : (e : ℕ) → e ≡ from + seek mark (drop from s) → y.names ≡ true → e ≡ from + message_end y (drop from s)
  unfolding message_end
  end_mark e g n = g ∙ ap (λ (k : ℕ). from + k) (sym (pick_true _ _ n))

  pub end-line : from ≤ length s → y.names ≡ false → length s ≡ from + message_end y (drop from s)
  unfolding message_end
  end-line h n =
      let e : length s ≡ from + length (drop from s) = omega (arith, length-drop from s) in
      e ∙ ap (λ (k : ℕ). from + k) (sym (pick-false _ _ n))

pub ruleset ends = (end_mark, end-line)
