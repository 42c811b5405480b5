-- One step of an answer r over the tail of the line s, for `search`: t is what the tail's reader answered. Assumes nothing.
use mathlib.Core.Path.{◌≡◌, sym, ◌∙◌}
use mathlib.Core.Bool.{Bool}
use mathlib.Core.List.{List}
use Prim.Native.Nat.{ℕ, ◌≤◌}
use lib.ListN.{length, drop}
use Rattle.std.proofs.Common.{Option, Some, None, Result, Ok, Err, ap}
use Rattle.refusal.specs.declared.Flaw.{Flaw}
use Rattle.refusal.specs.Numbers.{number_of}
use Rattle.sheet.specs.declared.Style.{Style}
use Rattle.paper.specs.Texts.{Noted, read_text}
use Rattle.paper.specs.Entries.{Counted, no, to_end}
use Rattle.paper.specs.ItemLine.{no_texts}
use Rattle.itemline.specs.declared.tail.Tail.{Tail}
use Rattle.itemline.specs.tail.Told.{told_text, told, TextInside, Inside, tail_of}

module _ (s : List ℕ) (at : ℕ) (fixed bare : Bool) (t : Result Tail Flaw) (g : (y : Style) (k : ℕ → Noted → Counted) → told y s t k ≡ tail_of y fixed bare k at (drop at s)) where
  module _ (y : Style) (r : Counted) (k : ℕ → Noted → Counted) where
    module _ (d : Tail) (f : t ≡ Ok d) where
      go : told_text y s d.text (k d.specific) ≡ tail_of y fixed bare k at (drop at s)
      go = rw f at (g y k)

      pub step-plain : d.text ≡ None → r ≡ k d.specific no_texts → r ≡ tail_of y fixed bare k at (drop at s)
      step-plain e q = q ∙ (ap (λ (o : Option ℕ). told_text y s o (k d.specific)) (sym e) ∙ go)

      pub step-text : (from : ℕ) → d.text ≡ Some from → r ≡ to_end (read_text y from) from (drop from s) (λ texts. k d.specific texts)
          → r ≡ tail_of y fixed bare k at (drop at s)
      step-text from e q = q ∙ (ap (λ (o : Option ℕ). told_text y s o (k d.specific)) (sym e) ∙ go)

    pub step-no-tail : (x : Flaw) → t ≡ Err x → r ≡ no (number_of x.0) x.1 → r ≡ tail_of y fixed bare k at (drop at s)
    step-no-tail x f q = q ∙ (rw f at (g y k))

-- where a text begins is in the line, or its end
pub text-within : (s : List ℕ) (t : Result Tail Flaw) → Inside s t → (d : Tail) → t ≡ Ok d → (from : ℕ) → d.text ≡ Some from → from ≤ length s
text-within s t i d f from e =
    let j : TextInside s d.text = rw f at i in
    rw e at j
