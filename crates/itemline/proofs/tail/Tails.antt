-- One step of an answer r through the tail of the line s, for `search`. Assumes nothing.
use mathlib.Core.Path.{◌≡◌, refl, sym, ap, ◌∙◌}
use mathlib.Core.Bool.{Bool, true, false}
use mathlib.Core.List.{List, [], ◌∷◌}
use Prim.Native.Nat.{ℕ, suc, ◌+◌, ◌≤◌, ◌<◌}
use native.Mathlib.Numerals.{add-one}
use native.Mathlib.Omega.{arith}
use lib.ListN.{length, drop, drop_of_length-le}
use lib.Seq.{drop-cons}
use Rattle.base.specs.Pick.{pick}
use borrow.Author.Tests.{le-ltb}
use Rattle.base.proofs.Cases.{either, pick_true, pick-false, picks}
use Rattle.std.proofs.Common.{Result, Ok, Err}
use Rattle.refusal.specs.declared.Refusal.{Refusal}
use Rattle.refusal.specs.declared.Flaw.{Flaw}
use Rattle.refusal.specs.Numbers.{number_of}
use Rattle.refusal.specs.Placed.{placed}
use Rattle.sheet.specs.declared.Style.{Style}
use Rattle.paper.specs.Read.{Field, value, fault}
use Rattle.paper.specs.Bytes.{field_of, null}
use Rattle.paper.specs.Numerals.{digits, digits_on}
use Rattle.paper.specs.Texts.{Noted, read_text}
use Rattle.paper.specs.Entries.{Counted, no, field, to_end}
use Rattle.paper.specs.ItemLine.{read_symbol, read_symbol_or_none, is_value, no_texts, after_symbol, fixed_tail, open_tail}
use Rattle.numeral.specs.field.At.{ending, field_at}
use Rattle.numeral.specs.declared.field.Run.{Run}
use Rattle.numeral.specs.field.Told.{told}
use Rattle.itemline.specs.declared.tail.Tail.{Tail}
use Rattle.itemline.specs.tail.Told.{tail_of}
use Rattle.itemline.specs.tail.Told as tail
use Rattle.numeral.proofs.field.Steps.{step_value, step-refused, placed-value, placed-refused, step-gap, step-no-gap, found-value, missed-fault, number-within}

-- ---- a symbol or none is a number of no digit or more

no_digit : (s : List ℕ) → read_symbol_or_none s ≡ digits 0 10 s
unfolding read_symbol_or_none digits null digits_on pick
no_digit [] = refl
no_digit (x ∷ s) = simp (le-ltb (suc (length s)) 1 (omega arith), le-ltb (suc (length s)) 0 (omega arith))

module _ (r : Counted) (s : List ℕ) (at : ℕ) (k : ℕ → ℕ → List ℕ → Counted) (n : Result Run Refusal) (g : told n ≡ field_at (digits 0 10) s at) where
  none-at : told n ≡ field_at read_symbol_or_none s at
  unfolding field_at
  none-at = g ∙ ap (ending _) (sym (no_digit (field_of (drop at s))))

  pub step-symbol : (d : Run) → n ≡ Ok d → r ≡ k d.value d.end (drop d.end s) → r ≡ field read_symbol_or_none at (drop at s) k
  step-symbol d f q = step_value r read_symbol_or_none s k n at none-at d f q

  pub step-no-symbol : (c : Refusal) → n ≡ Err c → r ≡ no (number_of c) at → r ≡ field read_symbol_or_none at (drop at s) k
  step-no-symbol c f q = step-refused r read_symbol_or_none s k n at none-at c f q

  -- the same, where a refusal takes its place along
  module _ (m : Result Run Flaw) (h : m ≡ placed n at) where
    pub placed-symbol : (d : Run) → m ≡ Ok d → r ≡ k d.value d.end (drop d.end s) → r ≡ field read_symbol_or_none at (drop at s) k
    placed-symbol d f q = placed-value r read_symbol_or_none s k n at none-at m h d f q

    pub placed-no-symbol : (x : Flaw) → m ≡ Err x → r ≡ no (number_of x.0) x.1 → r ≡ field read_symbol_or_none at (drop at s) k
    placed-no-symbol x f q = placed-refused r read_symbol_or_none s k n at none-at m h x f q

-- ---- is the text without a symbol?

module _ (bare : Bool) (x : Field ℕ) where
  symbol-there : (v : ℕ) → x ≡ value v → pick bare (pick (is_value x) false true) false ≡ false
  unfolding is_value pick
  symbol-there v f = rw f (either (λ t. t ≡ false) bare (λ _. refl) (λ _. refl))

  no_symbol : (c : ℕ) → bare ≡ true → x ≡ fault c → pick bare (pick (is_value x) false true) false ≡ true
  unfolding is_value pick
  no_symbol c b f = rw (b, f)

  not-bare : bare ≡ false → pick bare (pick (is_value x) false true) false ≡ false
  unfolding pick
  not-bare b = rw b

-- ---- behind a symbol, and before it

module _ (y : Style) (k : ℕ → Noted → Counted) (r : Counted) (s : List ℕ) where
  module _ (v e : ℕ) where
    pub after_none : length s ≤ e → r ≡ k v no_texts → r ≡ after_symbol y k v e (drop e s)
    unfolding after_symbol
    after_none h q = q ∙ rw (drop_of_length-le s h)

    pub after_text : e < length s → r ≡ to_end (read_text y (e + 1)) (e + 1) (drop (e + 1) s) (λ texts. k v texts) → r ≡ after_symbol y k v e (drop e s)
    unfolding after_symbol
    after_text h q = q ∙ rw (drop-cons s e 0 h, add-one)

  module _ (bare : Bool) (at : ℕ) where
    pub open_none : length s ≤ at → r ≡ k 0 no_texts → r ≡ open_tail y k bare at (drop at s)
    unfolding open_tail
    open_none h q = q ∙ rw (drop_of_length-le s h)

    module _ (h : at < length s) (n : Result Run Refusal) (g : told n ≡ field_at (digits 1 10) s (at + 1)) where
      -- the two ways on behind the space
      open-cons : open_tail y k bare at (drop at s)
          ≡ pick (pick bare (pick (is_value (read_symbol (field_of (drop (at + 1) s)))) false true) false)
          (to_end (read_text y (at + 1)) (at + 1) (drop (at + 1) s) (λ texts. k 0 texts))
          (field read_symbol (at + 1) (drop (at + 1) s) (λ v a1 s1. after_symbol y k v a1 s1))
      unfolding open_tail
      open-cons = rw (drop-cons s at 0 h, add-one)

      pub open-symbol : (d : Run) → n ≡ Ok d → r ≡ after_symbol y k d.value d.end (drop d.end s) → r ≡ open_tail y k bare at (drop at s)
      open-symbol d f q =
          step_value r read_symbol s (λ v a1 s1. after_symbol y k v a1 s1) n (at + 1) g d f q
          ∙ sym (open-cons ∙ pick-false _ _ (symbol-there bare _ d.value (found-value read_symbol s (at + 1) d.value d.end (rw f at g))))

      pub open-bare : (c : Refusal) → n ≡ Err c → bare ≡ true
          → r ≡ to_end (read_text y (at + 1)) (at + 1) (drop (at + 1) s) (λ texts. k 0 texts) → r ≡ open_tail y k bare at (drop at s)
      open-bare c f b q = q ∙ sym (open-cons ∙ pick_true _ _ (no_symbol bare _ (number_of c) b (missed-fault read_symbol s (at + 1) (number_of c) (rw f at g))))

      pub open-refused : (c : Refusal) → n ≡ Err c → bare ≡ false → r ≡ no (number_of c) (at + 1) → r ≡ open_tail y k bare at (drop at s)
      open-refused c f b q =
          step-refused r read_symbol s (λ v a1 s1. after_symbol y k v a1 s1) n (at + 1) g c f q
          ∙ sym (open-cons ∙ pick-false _ _ (not-bare bare _ b))

-- ---- the two kinds of tail: r is what the reader of the kind answered

module _ (fixed bare : Bool) (s : List ℕ) (at : ℕ) (r : Result Tail Flaw) where
  pub tail-fixed : fixed ≡ true → ((y : Style) (k : ℕ → Noted → Counted) → tail.told y s r k ≡ fixed_tail y k at (drop at s))
      → (y : Style) (k : ℕ → Noted → Counted) → tail.told y s r k ≡ tail_of y fixed bare k at (drop at s)
  unfolding tail_of
  tail-fixed h q y k = q y k ∙ sym (pick_true _ _ h)

  pub tail-open : fixed ≡ false → ((y : Style) (k : ℕ → Noted → Counted) → tail.told y s r k ≡ open_tail y k bare at (drop at s))
      → (y : Style) (k : ℕ → Noted → Counted) → tail.told y s r k ≡ tail_of y fixed bare k at (drop at s)
  unfolding tail_of
  tail-open h q y k = q y k ∙ sym (pick-false _ _ h)

pub ruleset kinds = (tail-fixed, tail-open)

pub ruleset tails = (step-symbol, step-no-symbol, placed-symbol, placed-no-symbol, step-gap, step-no-gap, after_none, after_text, open_none, open-symbol, open-bare, open-refused, number-within, picks)
