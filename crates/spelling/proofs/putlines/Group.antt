-- The line of a group by its parts: room for each, and the line where they are written. Assumes nothing.
use mathlib.Core.Path.{◌≡◌, sym, ap, ◌∙◌}
use mathlib.Core.Bool.{Bool, true, false}
use mathlib.Core.List.{List, [], ◌∷◌, ◌++◌, append_assoc}
use Prim.Native.Nat.{ℕ, ◌+◌, ◌≤◌, ◌<◌}
use native.Mathlib.Omega.{arith}
use lib.ListN.{length, length-append}
use Rattle.base.specs.Put.{Wrote}
use Rattle.base.proofs.Cases.{pick_true, pick-false}
use Rattle.base.proofs.Put.{◌then◌}
use Rattle.out.proofs.put.Room.{wrote_none}
use Rattle.calendar.proofs.Back.{spell-day-length}
use Rattle.sheet.specs.declared.Sheet.{Sheet}
use Rattle.paper.specs.Accounts.{Account, is_nobody, spell_account}
use Rattle.paper.specs.Numerals.{decimal}
use Rattle.paper.specs.Days.{spell_day}
use Rattle.paper.specs.GroupLine.{spell_payer, spell_group}
use Rattle.spelling.proofs.putlines.Chain.{whole, part, rest, wrote_as}

-- put_payer: t is what is_nobody answered
module _ (always : Bool) (a : Account) (t : Bool) (g : t ≡ is_nobody a) where
  module _ (e : t ≡ true) where
    module _ (f : always ≡ true) where
      pub empty-is : spell_payer always a ≡ 32 ∷ []
      unfolding spell_payer
      empty-is = pick_true _ _ (sym g ∙ e) ∙ pick_true _ _ f

      pub empty-room : (o : List ℕ) (at : ℕ) → at + length (spell_payer always a) ≤ length o → at < length o
      empty-room o at h = omega (arith, ap length empty-is)

      pub then-empty : {o o1 : List ℕ} {at p : ℕ} → Wrote o at (32 ∷ []) o1 p → Wrote o at (spell_payer always a) o1 p
      then-empty w = wrote_as empty-is w

    module _ (f : always ≡ false) where
      pub none_is : spell_payer always a ≡ []
      unfolding spell_payer
      none_is = pick_true _ _ (sym g ∙ e) ∙ pick-false _ _ f

      pub then-none : (o : List ℕ) (at : ℕ) → at + length (spell_payer always a) ≤ length o → Wrote o at (spell_payer always a) o at
      then-none o at h = wrote_as none_is (wrote_none o at (omega (arith, ap length none_is)))

  module _ (e : t ≡ false) where
    pub payer-is : spell_payer always a ≡ spell_account a ++ (32 ∷ [])
    unfolding spell_payer
    payer-is = pick-false _ _ (sym g ∙ e)

    pub payer-room : (o : List ℕ) (at : ℕ) → at + length (spell_payer always a) ≤ length o → at + length (spell_account a ++ (32 ∷ [])) ≤ length o
    payer-room o at h = omega (arith, ap length payer-is)

    pub then-payer : {o o1 : List ℕ} {at p : ℕ} → Wrote o at (spell_account a ++ (32 ∷ [])) o1 p → Wrote o at (spell_payer always a) o1 p
    then-payer w = wrote_as payer-is w

pub ruleset payers = (empty-room, then-empty, then-none, payer-room, then-payer)

-- day_end
pub day-first : (d : ℕ) (y : List ℕ) (at m : ℕ) → at + length (spell_day d ++ y) ≤ m → at + 6 ≤ m
day-first d y at m h = omega (arith, spell-day-length d, length-append (spell_day d) y)

-- put_group_line
module _ (sh : Sheet) (a : Account) (total date : ℕ) (o : List ℕ) (at : ℕ) where
  abbrev line : List ℕ
  line = spell_group sh a total date ++ (13 ∷ 10 ∷ [])

  group-is : line ≡ (50 ∷ 32 ∷ []) ++ (spell_payer sh.emptypayer a ++ ((decimal total ++ (32 ∷ [])) ++ (spell_day date ++ (13 ∷ 10 ∷ []))))
  unfolding spell_group
  group-is = simp append_assoc

  module _ (h : at + length line ≤ length o) where
    pub group-two : at + 2 ≤ length o
    group-two = (part {o = o} (50 ∷ 32 ∷ []) _ (whole group-is h)).room

    module _ (o1 : List ℕ) (p : ℕ) (w : Wrote o at (50 ∷ 32 ∷ []) o1 p) where
      pub group-payer : p + length (spell_payer sh.emptypayer a) ≤ length o1
      group-payer = (part (spell_payer sh.emptypayer a) _ (rest w (whole group-is h))).room

      module _ (o2 : List ℕ) (q : ℕ) (v : Wrote o1 p (spell_payer sh.emptypayer a) o2 q) where
        pub group-total : q + length (decimal total ++ (32 ∷ [])) ≤ length o2
        group-total = (part (decimal total ++ (32 ∷ [])) _ (rest v (rest w (whole group-is h)))).room

        pub group-day : (o3 : List ℕ) (r : ℕ) → Wrote o2 q (decimal total ++ (32 ∷ [])) o3 r → r + length (spell_day date ++ (13 ∷ 10 ∷ [])) ≤ length o3
        group-day o3 r u = (rest u (rest v (rest w (whole group-is h)))).room

  pub then-group : {o1 o2 o3 o4 : List ℕ} {p q r n : ℕ} → Wrote o at (50 ∷ 32 ∷ []) o1 p → Wrote o1 p (spell_payer sh.emptypayer a) o2 q
      → Wrote o2 q (decimal total ++ (32 ∷ [])) o3 r → Wrote o3 r (spell_day date ++ (13 ∷ 10 ∷ [])) o4 n → Wrote o at line o4 n
  then-group w v u t = wrote_as group-is (w then v then u then t)

pub ruleset groups = (group-two, group-payer, group-total, group-day, then-group)
