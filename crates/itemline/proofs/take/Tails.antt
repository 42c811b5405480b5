-- The tail of a line that says something: v is the number of the digits behind its space, and they end at e. Assumes nothing.
use mathlib.Core.Path.{◌≡◌, refl, sym, ◌∙◌}
use mathlib.Core.Bool.{Bool, true, false}
use mathlib.Core.List.{List}
use Prim.Native.Nat.{ℕ, ◌+◌, ◌≤◌, ◌<◌}
use native.Mathlib.Omega.{arith}
use mir.Val.{Fits}
use mir.Syntax.{w64}
use lib.ListN.{length, get_or, drop, drop_of_length-le}
use borrow.Author.Tests.{eq-eqb, ne_eqb}
use Rattle.base.proofs.Cases.{by-test, pick_true, pick-false}
use Rattle.base.proofs.Seek.{never}
use Rattle.std.proofs.Common.{Ok, Err}
use Rattle.refusal.specs.declared.Refusal.TheVariants.{BadField}
use Rattle.sheet.specs.declared.Style.{Style}
use Rattle.paper.specs.Read.{value}
use Rattle.paper.specs.Bytes.{field_of, null}
use Rattle.paper.specs.Numerals.{digits}
use Rattle.paper.specs.Texts.{Noted, read_text}
use Rattle.paper.specs.Entries.{Counted, no, field, gap, to_end}
use Rattle.paper.specs.ItemLine.{read_symbol_or_none, no_texts, after_symbol, fixed_tail, open_tail}
use Rattle.numeral.specs.field.At.{missed, field_at}
use Rattle.numeral.specs.field.Digits.{run}
use Rattle.numeral.specs.declared.field.Run.{Run}
use Rattle.numeral.proofs.field.Turns.{ends-here, ends-byte}
use Rattle.numeral.proofs.field.Number.{number-value, number_short, number-long}
use Rattle.numeral.proofs.field.Steps.{step-gap}
use Rattle.itemline.specs.tail.Told.{tail_of}
use Rattle.itemline.proofs.tail.Tails.{step-symbol, step-no-symbol, after_none, after_text, open_none, open-symbol, open-bare, open-refused}
use Rattle.numeral.specs.placed.Said.{is_said}
use Rattle.numeral.proofs.placed.Goes.{not-said, said-as, gap-inside, gap-goes}

module _ (y : Style) (fixed bare : Bool) (k : ℕ → Noted → Counted) (s : List ℕ) (at : ℕ) (h : is_said (tail_of y fixed bare k at (drop at s)) ≡ true) where
  abbrev all : Counted
  all = tail_of y fixed bare k at (drop at s)

  -- the text that begins at a place
  abbrev text : ℕ → ℕ → Counted
  text v from = to_end (read_text y from) from (drop from s) (λ texts. k v texts)

  is-fixed : fixed ≡ true → all ≡ fixed_tail y k at (drop at s)
  unfolding tail_of
  is-fixed f = pick_true _ _ f

  is_open : fixed ≡ false → all ≡ open_tail y k bare at (drop at s)
  unfolding tail_of
  is_open f = pick-false _ _ f

  short-fixed : length s ≤ at → fixed_tail y k at (drop at s) ≡ no 4 at
  unfolding fixed_tail gap
  short-fixed l = rw (drop_of_length-le s l)

  pub tail_none : length s ≤ at → (w : Counted) → w ≡ k 0 no_texts → w ≡ tail_of y fixed bare k at (drop at s)
  tail_none l w z =
      z
      ∙ by-test fixed
      (λ f. not-said 4 at all (is-fixed f ∙ short-fixed l) h)
      (λ f. open_none y k (k 0 no_texts) s bare at l refl ∙ sym (is_open f))

  module _ (b : at < length s) (v e : ℕ) (r : e ≡ at + 1 + length (run 10 (drop (at + 1) s))) (g : digits 0 10 (run 10 (drop (at + 1) s)) ≡ value v) where
    abbrev ended : Bool
    ended = null (field_of (drop e s))

    abbrev symbol : Run
    symbol = record { value = v; end = e }

    -- both spaces stand there
    module _ (f : fixed ≡ true) where
      abbrev behind : ℕ → ℕ → List ℕ → Counted
      behind specific a2 s2 = gap a2 s2 λ a3 s3. to_end (read_text y a3) a3 s3 λ texts. k specific texts

      to-symbol : all ≡ field read_symbol_or_none (at + 1) (drop (at + 1) s) (λ specific a2 s2. behind specific a2 s2)
      unfolding fixed_tail
      to-symbol =
          is-fixed f
          ∙ sym (step-gap (field read_symbol_or_none (at + 1) (drop (at + 1) s) (λ specific a2 s2. behind specific a2 s2)) s at b
          (λ a1 s1. field read_symbol_or_none a1 s1 (λ specific a2 s2. behind specific a2 s2)) refl)

      fixed-ends : ended ≡ true
      fixed-ends =
          by-test ended (λ t. t)
          (λ t. not-said 4 (at + 1) all
          (to-symbol
          ∙ sym (step-no-symbol (no 4 (at + 1)) s (at + 1) (λ specific a2 s2. behind specific a2 s2) (Err BadField) (number-long s (at + 1) 0 10 e v r ended refl t) BadField refl refl))
          h)

      to-gap : all ≡ behind v e (drop e s)
      to-gap =
          to-symbol
          ∙ sym (step-symbol (behind v e (drop e s)) s (at + 1) (λ specific a2 s2. behind specific a2 s2) (Ok symbol)
          (number-value s (at + 1) 0 10 e v r ended refl fixed-ends g (omega arith)) symbol refl refl)

      fixed-inside : e < length s
      fixed-inside = gap-inside s e (λ a3 s3. to_end (read_text y a3) a3 s3 λ texts. k v texts) (said-as _ _ h to-gap)

      fixed-is : text v (e + 1) ≡ all
      fixed-is = sym (to-gap ∙ gap-goes s e (λ a3 s3. to_end (read_text y a3) a3 s3 λ texts. k v texts) (said-as _ _ h to-gap))

    -- a symbol and a text may be missing
    module _ (f : fixed ≡ false) where
      open-value : at + 1 < e → ended ≡ true → (q : Counted) → q ≡ after_symbol y k v e (drop e s) → q ≡ all
      open-value l t q c =
          open-symbol y k q s bare at b (Ok symbol)
          (number-value s (at + 1) 1 10 e v r ended refl t g (omega arith)) symbol refl c
          ∙ sym (is_open f)

      open-not : missed 4 ≡ field_at (digits 1 10) s (at + 1) → text 0 (at + 1) ≡ all
      open-not c =
          by-test bare
          (λ t. open-bare y k (text 0 (at + 1)) s bare at b (Err BadField) c BadField refl t refl ∙ sym (is_open f))
          (λ t. not-said 4 (at + 1) all
          (is_open f ∙ sym (open-refused y k (no 4 (at + 1)) s bare at b (Err BadField) c BadField refl t refl)) h)

    module _ (l : at + 1 < e) where
      pub tail-plain : length s ≤ e → (w : Counted) → w ≡ k v no_texts → w ≡ tail_of y fixed bare k at (drop at s)
      tail-plain c w z =
          z
          ∙ by-test fixed
          (λ f. absurd (omega (arith, fixed-inside f)))
          (λ f. open-value f l (sym (ends-here s e c)) (k v no_texts) (after_none y k (k v no_texts) s v e c refl))

      module _ (c : e < length s) where
        pub tail-text : get_or s e 0 ≡ 32 → (w : Counted) → w ≡ to_end (read_text y (e + 1)) (e + 1) (drop (e + 1) s) (λ texts. k v texts) → w ≡ tail_of y fixed bare k at (drop at s)
        tail-text q w z =
            z
            ∙ by-test fixed fixed-is
            (λ f. open-value f l (sym (ends-byte s e c) ∙ eq-eqb (get_or s e 0) 32 q) (text v (e + 1))
            (after_text y k (text v (e + 1)) s v e c refl))

        pub tail-bare : (get_or s e 0 ≡ 32 → ⊥) → (w : Counted) → w ≡ to_end (read_text y (at + 1)) (at + 1) (drop (at + 1) s) (λ texts. k 0 texts) → w ≡ tail_of y fixed bare k at (drop at s)
        tail-bare q w z =
            let n : ended ≡ false = sym (ends-byte s e c) ∙ ne_eqb (get_or s e 0) 32 q in
            z
            ∙ by-test fixed (λ f. never (sym (fixed-ends f) ∙ n)) (λ f. open-not f (number-long s (at + 1) 1 10 e v r ended refl n))

    module _ (l : e ≤ at + 1) where
      pub tail-fixed : fixed ≡ true → (w : Counted) → w ≡ to_end (read_text y (e + 1)) (e + 1) (drop (e + 1) s) (λ texts. k v texts) → w ≡ tail_of y fixed bare k at (drop at s)
      tail-fixed f w z = z ∙ fixed-is f

      pub fixed-within : fixed ≡ true → e + 1 ≤ length s
      fixed-within f = omega (arith, fixed-inside f)

      pub fixed-room : fixed ≡ true → length s < 18446744073709551616 → Fits w64 (e + 1)
      fixed-room f c = omega (arith, fixed-inside f)

      pub tail-open : fixed ≡ false → (w : Counted) → w ≡ to_end (read_text y (at + 1)) (at + 1) (drop (at + 1) s) (λ texts. k 0 texts) → w ≡ tail_of y fixed bare k at (drop at s)
      tail-open f w z =
          z
          ∙ by-test ended
          (λ t. open-not f (number_short s (at + 1) 1 10 e v r ended refl t (omega arith)))
          (λ t. open-not f (number-long s (at + 1) 1 10 e v r ended refl t))

pub ruleset tails = (tail_none, tail-plain, tail-text, tail-bare, tail-fixed, tail-open, fixed-within, fixed-room, refl)
