-- The laws of texts, on one page. Assumes nothing.
use mathlib.Core.Path.{◌≡◌}
use mathlib.Core.Bool.{true, false}
use mathlib.Core.List.{List}
use Prim.Native.Nat.{ℕ, ◌<◌}
use Rattle.base.specs.Seek.{all}
use Rattle.sheet.specs.declared.Style.{Style}
use Rattle.paper.specs.Read.{value}
use Rattle.paper.specs.Bytes.{is_text}
use Rattle.paper.specs.Texts.{Noted, read_text, spell_text, no_text}
use Rattle.text.specs.wording.Wording.{Sendable, Sound, Back}
use Rattle.text.proofs.wording.Sound.{outcome}
use Rattle.text.proofs.wording.Back as spelled

module _ (y : Style) where
  -- what is read, a batch may hold and the sheet can carry; where nothing is cut there is no warning
  pub text-sound : (at : ℕ) (t : List ℕ) (x : Noted) → read_text y at t ≡ value x → Sound y x
  text-sound at t x e = rw e at (outcome y at t)

  module _ (some : 0 < y.most) (bare : y.av ≡ false → y.names ≡ false) (parts : List (List ℕ)) (name : List ℕ) (h : Sendable y parts name) where
    -- what the sheet can carry, reads back from its spelling, wherever that begins
    pub text-back : (y.av ≡ true → no_text parts name ≡ false) → (at : ℕ) → Back (read_text y at (spell_text y parts name)) parts name
    text-back = spelled.back y some bare parts name h

    -- the spelling has text bytes only
    pub spell-text-plain : all is_text (spell_text y parts name) ≡ true
    spell-text-plain = spelled.spell-text y some bare parts name h
