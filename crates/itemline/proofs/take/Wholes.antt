-- The whole item, m, put together of the fields before the tail, x, and of the tail that was taken, t. Assumes nothing.
use mathlib.Core.Path.{◌≡◌, refl, sym, ap, ◌∙◌}
use mathlib.Core.Bool.{Bool, true}
use mathlib.Core.List.{List}
use Prim.Native.Nat.{ℕ, ◌+◌, ◌≤◌}
use native.Mathlib.Omega.{arith}
use lib.ListN.{length, drop}
use Rattle.std.proofs.Common.{Option, Some, None}
use Rattle.sheet.specs.declared.Style.{Style}
use Rattle.paper.specs.Read.{value}
use Rattle.paper.specs.Accounts.{account}
use Rattle.paper.specs.BankField.{Bank}
use Rattle.paper.specs.Texts.{Texts, Noted, read_text}
use Rattle.paper.specs.Entries.{item, said, to_end}
use Rattle.paper.specs.ItemLine.{is_value, no_texts, places, item_of}
use Rattle.numeral.proofs.field.Steps.{step-known}
use Rattle.text.specs.declared.span.Spans.{Spans}
use Rattle.text.specs.span.Held.{texts_at, Held}
use Rattle.text.specs.Told.{count_texts, count_text}
use Rattle.itemline.specs.tail.Told.{told_text, TextInside, tail_of}
use Rattle.itemline.specs.declared.Fields.{Fields}
use Rattle.itemline.specs.Told.{no_spans, told, Sound}
use Rattle.itemline.specs.Walk.{item_said}
use Rattle.itemline.proofs.Steps.{read-texts, spans-few}
use Rattle.itemline.specs.declared.take.Front.{Front}
use Rattle.itemline.specs.declared.tail.Tail.{Tail}
use Rattle.numeral.specs.placed.Said.{is_said}
use Rattle.itemline.specs.take.Told.{told_tail, Inside}
use Rattle.itemline.specs.take.Made.{made, Small, with_texts}
use Rattle.numeral.proofs.placed.Goes.{said-as, on_value}

pub none-few : (f : Spans) → f ≡ no_spans → f.warnings ≤ 5
none-few f e = rw e (omega arith)

module _ (s : List ℕ) (x : Front) (v : ℕ) (f : Spans) (m : Fields) (q : m ≡ with_texts x v f) where
  -- the paper's texts z, whose warnings were counted
  says-texts : (z : Noted) → texts_at s f ≡ count_texts z → told s m ≡ made x v z
  unfolding with_texts made item_said
  says-texts z e =
      let bank : Bank = record { bank = x.bank; constant = x.constant; priority = x.priority; warnings = x.warnings } in
      let payer = account x.paid.payerprefix x.paid.payerbase in
      let payee = account x.paid.payeeprefix x.paid.payeebase in
      rw q
      (ap (λ (t : Texts ℕ). said (item (item_of payer payee x.paid.amount x.variable v bank t)) (x.warnings + t.warnings) (places t)) e)

  says_plain : f ≡ no_spans → told s m ≡ made x v no_texts
  unfolding with_texts made item_said
  says_plain e = rw (q, e)

  pub text-sound : Small x → f.warnings ≤ 5 → Held s f → Sound s m
  unfolding with_texts
  text-sound b l h = rw q (record { held = h; low = b.low; few = omega (arith, b.few) })

  pub plain-sound : Small x → f ≡ no_spans → Sound s m
  plain-sound b e =
      let h : Held s f = rw e (record { first = omega arith; second = omega arith; third = omega arith; fourth = omega arith; named = omega arith }) in
      text-sound b (none-few f e) h

-- ---- the whole, as the walk has it

module _ (y : Style) (fixed bare : Bool) (x : Front) (s : List ℕ) (at : ℕ) (t : Tail)
    (g : told_tail y s t (made x) ≡ tail_of y fixed bare (made x) at (drop at s)) where
  pub plain-is : t.text ≡ None → (f : Spans) → f ≡ no_spans → (m : Fields) → m ≡ with_texts x t.specific f → told s m ≡ tail_of y fixed bare (made x) at (drop at s)
  plain-is e f n m q = says_plain s x t.specific f m q n ∙ (ap (λ (o : Option ℕ). told_text y s o (made x t.specific)) (sym e) ∙ g)

  module _ (from : ℕ) (e : t.text ≡ Some from) where
    to-text : to_end (read_text y from) from (drop from s) (λ texts. made x t.specific texts) ≡ tail_of y fixed bare (made x) at (drop at s)
    to-text = ap (λ (o : Option ℕ). told_text y s o (made x t.specific)) (sym e) ∙ g

    pub text-value : is_said (tail_of y fixed bare (made x) at (drop at s)) ≡ true → is_value (read_text y from (drop from s)) ≡ true
    text-value h = on_value from (read_text y from (drop from s)) (λ texts. made x t.specific texts) (said-as _ _ h (sym to-text))

    module _ (f : Spans) (c : value (texts_at s f) ≡ count_text (read_text y from (drop from s))) where
      pub text-is : (m : Fields) → m ≡ with_texts x t.specific f → told s m ≡ tail_of y fixed bare (made x) at (drop at s)
      text-is m q =
          let z = read-texts y s from f c in
          says-texts s x t.specific f m q z.0 z.2
          ∙ (step-known (made x t.specific z.0) from (read_text y from (drop from s)) (λ texts. made x t.specific texts) z.0 z.1 refl ∙ to-text)

pub text-within : (s : List ℕ) (t : Tail) → Inside s t → (from : ℕ) → t.text ≡ Some from → from ≤ length s
text-within s t i from e =
    let j : TextInside s t.text = i in
    rw e at j

pub ruleset wholes = (plain-is, plain-sound, text-value, text-within, spans-few, text-is, text-sound, none-few)
