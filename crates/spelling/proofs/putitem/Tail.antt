-- The tail of an item's line by its parts: room for each, and the tail where they are written. Assumes nothing.
use mathlib.Core.Path.{◌≡◌, sym, ap, ◌∙◌}
use mathlib.Core.Bool.{Bool, true, false}
use mathlib.Core.List.{List, [], ◌∷◌, ◌++◌}
use Prim.Native.Nat.{ℕ, ◌+◌, ◌≤◌, ◌<◌}
use native.Mathlib.Omega.{arith}
use lib.Dec.{eqb}
use lib.ListN.{length}
use borrow.Author.Tests.{eq-eqb, ne_eqb}
use Rattle.base.specs.Pick.{pick}
use Rattle.base.specs.Put.{Wrote}
use Rattle.base.proofs.Cases.{by-test, pick_true, pick-false}
use Rattle.base.proofs.Put.{◌then◌}
use Rattle.base.proofs.Seek.{never}
use Rattle.out.proofs.put.Room.{wrote_none}
use Rattle.sheet.specs.declared.Sheet.{Sheet}
use Rattle.paper.specs.Numerals.{decimal}
use Rattle.paper.specs.Texts.{spell_text, no_text}
use Rattle.paper.specs.ItemLine.{spell_tail}
use Rattle.spelling.proofs.itemlen.Tails.{between, fixed-is, lone_is, open_is}
use Rattle.spelling.proofs.putlines.Chain.{whole, part, rest, wrote_as}

-- put_symbol
module _ (hidden : Bool) (n : ℕ) where
  module _ (e : hidden ≡ true) where
    hidden-is : between hidden n ≡ 32 ∷ 32 ∷ []
    hidden-is = ap (λ (s : List ℕ). 32 ∷ (s ++ (32 ∷ []))) (pick_true [] (decimal n) e)

    pub hidden-room : (o : List ℕ) (at : ℕ) → at + length (between hidden n) ≤ length o → at + 2 ≤ length o
    hidden-room o at h = (whole {o = o} hidden-is h).room

    pub then-hidden : {o o1 : List ℕ} {at p : ℕ} → Wrote o at (32 ∷ 32 ∷ []) o1 p → Wrote o at (between hidden n) o1 p
    then-hidden w = wrote_as hidden-is w

  module _ (e : hidden ≡ false) where
    shown-is : between hidden n ≡ (32 ∷ []) ++ (decimal n ++ (32 ∷ []))
    shown-is = ap (λ (s : List ℕ). 32 ∷ (s ++ (32 ∷ []))) (pick-false [] (decimal n) e)

    module _ (o : List ℕ) (at : ℕ) where
      module _ (h : at + length (between hidden n) ≤ length o) where
        pub shown-space : at < length o
        shown-space = omega (arith, ap length shown-is)

        pub shown-number : (o1 : List ℕ) (p : ℕ) → Wrote o at (32 ∷ []) o1 p → p + length (decimal n ++ (32 ∷ [])) ≤ length o1
        shown-number o1 p w = (rest w (whole shown-is h)).room

      pub then-shown : {o1 o2 : List ℕ} {p q : ℕ} → Wrote o at (32 ∷ []) o1 p → Wrote o1 p (decimal n ++ (32 ∷ [])) o2 q → Wrote o at (between hidden n) o2 q
      then-shown w v = wrote_as shown-is (w then v)

pub ruleset symbols = (hidden-room, then-hidden, shown-space, shown-number, then-shown)

-- put_lone
module _ (n : ℕ) (o : List ℕ) (at : ℕ) where
  abbrev lone : List ℕ
  lone = pick (eqb n 0) [] (32 ∷ decimal n)

  pub lone-none : n ≡ 0 → at + length lone ≤ length o → Wrote o at lone o at
  lone-none e h = let f : lone ≡ [] = pick_true [] (32 ∷ decimal n) (eq-eqb n 0 e) in wrote_as f (wrote_none o at (omega (arith, ap length f)))

  module _ (e : n ≡ 0 → ⊥) where
    some_is : lone ≡ (32 ∷ []) ++ decimal n
    some_is = pick-false [] (32 ∷ decimal n) (ne_eqb n 0 e)

    module _ (h : at + length lone ≤ length o) where
      pub lone-space : at < length o
      lone-space = omega (arith, ap length some_is)

      pub lone-number : (o1 : List ℕ) (p : ℕ) → Wrote o at (32 ∷ []) o1 p → p + length (decimal n) ≤ length o1
      lone-number o1 p w = (rest w (whole some_is h)).room

    pub then-lone : {o1 o2 : List ℕ} {p q : ℕ} → Wrote o at (32 ∷ []) o1 p → Wrote o1 p (decimal n) o2 q → Wrote o at lone o2 q
    then-lone w v = wrote_as some_is (w then v)

pub ruleset lones = (lone-none, lone-space, lone-number, then-lone)

-- put_tail: t is what `textless` answered
module _ (sh : Sheet) (specific : ℕ) (ps : List (List ℕ)) (n o : List ℕ) (at : ℕ) (t : Bool) (f : t ≡ pick sh.fixedtail false (no_text ps n)) where
  abbrev tail : List ℕ
  tail = spell_tail sh specific ps n

  abbrev text : List ℕ
  text = spell_text sh.text ps n

  module _ (g : t ≡ true) where
    alone-is : tail ≡ pick (eqb specific 0) [] (32 ∷ decimal specific)
    alone-is =
        by-test sh.fixedtail
        (λ e. never (sym g ∙ f ∙ pick_true _ _ e))
        (λ e. lone_is sh specific ps n e t (f ∙ pick-false _ _ e) g)

    pub alone : at + length tail ≤ length o → at + length (pick (eqb specific 0) [] (32 ∷ decimal specific)) ≤ length o
    alone h = omega (arith, ap length alone-is)

    pub then-alone : {o1 : List ℕ} {p : ℕ} → Wrote o at (pick (eqb specific 0) [] (32 ∷ decimal specific)) o1 p → Wrote o at tail o1 p
    then-alone w = wrote_as alone-is w

  -- and u what `left_out` did
  module _ (g : t ≡ false) (u : Bool) (k : u ≡ pick sh.fixedtail (eqb specific 0) false) where
    text-is : tail ≡ between u specific ++ text
    text-is =
        by-test sh.fixedtail
        (λ e. rw (k ∙ pick_true _ _ e) (fixed-is sh specific ps n e))
        (λ e. rw (k ∙ pick-false _ _ e) (open_is sh specific ps n e t (f ∙ pick-false _ _ e) g))

    module _ (h : at + length tail ≤ length o) where
      pub text-symbol : at + length (between u specific) ≤ length o
      text-symbol = (part {o = o} (between u specific) _ (whole text-is h)).room

      pub text-rest : (o1 : List ℕ) (p : ℕ) → Wrote o at (between u specific) o1 p → p + length text ≤ length o1
      text-rest o1 p w = (rest w (whole text-is h)).room

    pub then-text : {o1 o2 : List ℕ} {p q : ℕ} → Wrote o at (between u specific) o1 p → Wrote o1 p text o2 q → Wrote o at tail o2 q
    then-text w v = wrote_as text-is (w then v)

pub ruleset tails = (alone, then-alone, text-symbol, text-rest, then-text)
