-- The walk of a group's line from a field on, in any context that has what the field asks; and the turns that it takes. Assumes nothing.
use mathlib.Core.Path.{◌≡◌, sym, ap, ◌∙◌}
use mathlib.Core.Bool.{Bool, true, false}
use mathlib.Core.List.{List}
use Prim.Native.Nat.{ℕ}
use lib.Dec.{leb}
use lib.ListN.{drop}
use Rattle.base.proofs.Cases.{pick_true, pick-false}
use Rattle.sheet.specs.declared.Sheet.{Sheet}
use Rattle.paper.specs.Terms.{day_here}
use Rattle.paper.specs.GroupLine.{space_count, has_payer}
use Rattle.paper.specs.Spells.{Context}
use Rattle.why.specs.Rule.{first_broken}
use Rattle.why.specs.Fields.{due_rules}
use Rattle.why.specs.Walk.{why_total, why_group}
use Rattle.fault.specs.field.Ruled.{Ruling, ruling}
use Rattle.fault.specs.line.Walks.{Walk, walk}
use Rattle.fault.specs.line.Stages.{from_day, from_payer}

module _ (sh : Sheet) (today : ℕ) (c : Context) (w : List ℕ) (x : Walk) where
  -- ---- from a field on

  module _ (at kind : ℕ) where
    pub on-day : ((d : Context) → d.kind ≡ kind → x ≡ walk (from_day sh today d w at (drop at w))) → c.kind ≡ kind → x ≡ walk (from_day sh today c w at (drop at w))
    on-day f k = f c k

    pub on_total : ((d : Context) → d.kind ≡ kind → x ≡ walk (why_total sh today d w at (drop at w))) → c.kind ≡ kind → x ≡ walk (why_total sh today c w at (drop at w))
    on_total f k = f c k

  -- ---- with the payer's account, and without

  module _ (kind : ℕ) (k : Bool) (q : k ≡ has_payer sh.emptypayer w) where
    pub group-paid : k ≡ true → ((d : Context) → d.kind ≡ kind → x ≡ walk (from_payer sh today d w 2 (drop 2 w))) → c.kind ≡ kind → x ≡ walk (why_group sh today c w)
    unfolding why_group
    group-paid y f e = f c e ∙ sym (ap walk (pick_true _ _ (sym q ∙ y)))

    pub group-single : k ≡ false → ((d : Context) → d.kind ≡ kind → x ≡ walk (why_total sh today d w 2 (drop 2 w))) → c.kind ≡ kind → x ≡ walk (why_group sh today c w)
    unfolding why_group
    group-single y f e = f c e ∙ sym (ap walk (pick-false _ _ (sym q ∙ y)))

-- ---- what a field asks of its context

module _ (sh : Sheet) (today kind : ℕ) (r : Ruling) (z : List ℕ) (c : Context) (k : c.kind ≡ kind) where
  pub due-known : (here : Bool) → here ≡ day_here sh kind → r ≡ ruling (first_broken (due_rules sh.longdate here sh.early sh.ahead today) z)
      → r ≡ ruling (first_broken (due_rules sh.longdate (day_here sh c.kind) sh.early sh.ahead today) z)
  due-known here e h = rw (k, ← e) h

-- ---- the payer's field is there

pub three-spaces : (always : Bool) (w : List ℕ) (n : ℕ) (x : Bool) → always ≡ false → n ≡ space_count w → x ≡ leb 3 n → x ≡ has_payer always w
unfolding has_payer
three-spaces always w n x o e h = h ∙ (ap (leb 3) e ∙ sym (pick-false _ _ o))

pub always-there : (always : Bool) (w : List ℕ) (x : Bool) → always ≡ true → x ≡ true → x ≡ has_payer always w
unfolding has_payer
always-there always w x o h = h ∙ sym (pick_true _ _ o)

pub ruleset payers = (three-spaces, always-there)

pub ruleset days = (on-day)

pub ruleset totals = (on_total)

pub ruleset groups = (due-known)

pub ruleset turns = (group-paid, group-single)
