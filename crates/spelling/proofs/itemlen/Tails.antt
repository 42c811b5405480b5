-- An item's line by its parts: the front and the tail, the tail in its three forms. Assumes nothing.
use mathlib.Core.Path.{◌≡◌, refl, sym, ◌∙◌}
use mathlib.Core.Bool.{Bool, true, false}
use mathlib.Core.List.{List, [], ◌∷◌, ◌++◌, append_assoc}
use Prim.Native.Nat.{ℕ, ◌+◌, ◌-◌}
use native.Mathlib.Omega.{arith}
use lib.Dec.{eqb}
use lib.ListN.{length, take, drop, length-drop}
use lib.Seq.{length-take-le}
use Rattle.base.specs.Pick.{pick}
use Rattle.base.proofs.Cases.{pick_true, pick-false}
use Rattle.sheet.specs.declared.Sheet.{Sheet}
use Rattle.paper.specs.Accounts.{is_nobody, spell_account}
use Rattle.paper.specs.Numerals.{decimal}
use Rattle.paper.specs.GroupLine.{spell_payer}
use Rattle.paper.specs.Texts.{spell_text, no_text}
use Rattle.paper.specs.ItemLine.{spell_tail, spell_item}
use Rattle.text.specs.declared.span.Span.{Span}
use Rattle.rows.specs.declared.read.ItemRow.{ItemRow}
use Rattle.text.specs.span.Held.{Within}
use Rattle.rows.specs.read.Told.{item_of}
use Rattle.rows.proofs.read.Laws.{cut-is}
use Rattle.spelling.specs.itemlen.Front.{front}

-- the symbol between its spaces
abbrev pub between : Bool → ℕ → List ℕ
between hidden n = 32 ∷ (pick hidden [] (decimal n) ++ (32 ∷ []))

module _ (sh : Sheet) (specific : ℕ) (ps : List (List ℕ)) (n : List ℕ) where
  pub fixed-is : sh.fixedtail ≡ true → spell_tail sh specific ps n ≡ between (eqb specific 0) specific ++ spell_text sh.text ps n
  unfolding spell_tail
  fixed-is e = pick_true _ _ e ∙ simp append_assoc

  module _ (e : sh.fixedtail ≡ false) (t : Bool) (f : t ≡ no_text ps n) where
    pub lone_is : t ≡ true → spell_tail sh specific ps n ≡ pick (eqb specific 0) [] (32 ∷ decimal specific)
    unfolding spell_tail
    lone_is g = pick-false _ _ e ∙ pick_true _ _ (sym f ∙ g)

    pub open_is : t ≡ false → spell_tail sh specific ps n ≡ between false specific ++ spell_text sh.text ps n
    unfolding spell_tail pick
    open_is g = pick-false _ _ e ∙ pick-false _ _ (sym f ∙ g) ∙ simp append_assoc

-- text_of: what is cut from the lent bytes
module _ (t : List ℕ) (p : Span) (h : Within t p) where
  pub cut-long : length (take (p.at + p.len - p.at) (drop p.at t)) ≡ p.len
  cut-long = length-take-le (p.at + p.len - p.at) (drop p.at t) (omega (arith, length-drop p.at t)) ∙ omega arith

pub ruleset cuts = (cut-is, cut-long)

-- an item's payer is spelled as a group's is where his field may be missing
payer-is : (x : ItemRow) (t : List ℕ) → pick (is_nobody (item_of t x).payer) [] (spell_account (item_of t x).payer ++ (32 ∷ [])) ≡ spell_payer false (item_of t x).payer
unfolding spell_payer pick
payer-is x t = refl

pub item-is : (sh : Sheet) (t : List ℕ) (x : ItemRow) → spell_item sh (item_of t x) ≡ front x ++ spell_tail sh x.specific (item_of t x).parts (item_of t x).name
unfolding spell_item front
item-is sh t x = rw (payer-is x t) (simp append_assoc)
