-- What the whole line gives, with and without the payer's field. Assumes nothing.
use mathlib.Core.Path.{◌≡◌, refl, sym, ap, ◌∙◌}
use mathlib.Core.Bool.{Bool, true, false}
use mathlib.Core.List.{List}
use Prim.Native.Nat.{ℕ, ◌+◌, ◌≤◌, ◌<◌}
use Rattle.std.proofs.Common.{Result, Ok, Err}
use lib.ListN.{length, drop}
use Rattle.base.specs.Pick.{pick}
use Rattle.base.proofs.Cases.{pick_true, pick-false}
use Rattle.refusal.specs.declared.Refusal.{Refusal}
use Rattle.refusal.specs.declared.Refusal.TheVariants.{BadField}
use Rattle.refusal.specs.declared.Flaw.{Flaw}
use Rattle.refusal.specs.Numbers.{number_of}
use Rattle.refusal.specs.Placed.{placed}
use Rattle.refusal.proofs.Places.{was-ok, was-err}
use Rattle.sheet.specs.declared.Sheet.{Sheet}
use Rattle.paper.specs.Read.{Field}
use Rattle.paper.specs.Accounts.{Account, nobody, is_nobody, read_payer}
use Rattle.paper.specs.Entries.{Listed, no, counted, field, gap}
use Rattle.paper.specs.GroupLine.{has_payer, total_and_date, read_group}
use Rattle.numeral.specs.field.At.{field_at}
use Rattle.numeral.specs.field.Kept.{keeping}
use Rattle.numeral.proofs.field.Steps.{found-field, step-gap, step-no-gap}
use Rattle.numeral.proofs.field.Kept.{was-found, missed-kept}
use Rattle.account.specs.declared.at.PayerEnd.{PayerEnd}
use Rattle.account.specs.at.Told.{told_payer}
use Rattle.groupline.specs.declared.GroupLine.{GroupLine}
use Rattle.groupline.specs.Told.{told, Marked, Tells}

-- b is whether the payer's field stands in the line s, and x what total and date gave
module _ (sh : Sheet) (today : ℕ) (here : Bool) (s : List ℕ) (b : Bool) (h : b ≡ has_payer sh.emptypayer s) where
  pub line-single : b ≡ false → (x : Result GroupLine Flaw) → ((payer : Account) → told payer x ≡ counted (total_and_date sh today here payer 2 (drop 2 s))) → Marked true x → Tells (read_group sh today here s) x
  unfolding read_group is_nobody pick
  line-single n x q m = record { payer = nobody; says = q nobody ∙ ap counted (sym (pick-false _ _ (sym h ∙ n))); single = m }

  -- it does, and p is what its judge answered, m the same with the field's place
  module _
      (y : b ≡ true)
      (p : Result PayerEnd Refusal)
      (g : told_payer p ≡ keeping is_nobody (field_at (read_payer sh.emptypayer sh.zeropayer sh.joined sh.basemin) s 2))
      (m : Result PayerEnd Flaw)
      (k : m ≡ placed p 2) where
    abbrev read : List ℕ → Field Account
    read = read_payer sh.emptypayer sh.zeropayer sh.joined sh.basemin

    abbrev rest : Account → ℕ → List ℕ → Listed
    rest payer a1 s1 = gap a1 s1 λ a2 s2. total_and_date sh today here payer a2 s2

    with-payer : read_group sh today here s ≡ field read 2 (drop 2 s) rest
    unfolding read_group
    with-payer = pick_true _ _ (sym h ∙ y)

    pub payer-refused : (x : Flaw) → m ≡ Err x → Tells (read_group sh today here s) (Err x)
    unfolding counted
    payer-refused x f =
        let w = was-err p 2 x (sym k ∙ f) in
        record { payer = nobody; says = ap (no (number_of x.0)) (sym w.1) ∙ ap counted (sym (with-payer ∙ missed-kept is_nobody read s 2 (number_of x.0) (rw w.0 at g) rest)); single = tt }

    -- the payer d, and where its field ends
    module _ (d : PayerEnd) (f : m ≡ Ok d) where
      there : (a : Account) × (read_group sh today here s ≡ gap d.end (drop d.end s) (λ a2 s2. total_and_date sh today here a a2 s2)) × (d.nobody ≡ is_nobody a)
      there =
          let w = was-ok p 2 d (sym k ∙ f) in
          let v = was-found is_nobody (field_at read s 2) d.nobody d.end (rw w at g) in
          (v.0, with-payer ∙ found-field read s 2 v.0 d.end v.1 rest, v.2)

      pub payer-last : length s ≤ d.end → Tells (read_group sh today here s) (Err (record { 0 = BadField; 1 = d.end }))
      unfolding counted
      payer-last l = record { payer = nobody; says = ap counted (step-no-gap (no 4 d.end) s d.end l _ refl ∙ sym there.1); single = tt }

      pub payer-first : d.end < length s → (x : Result GroupLine Flaw) → ((payer : Account) → told payer x ≡ counted (total_and_date sh today here payer (d.end + 1) (drop (d.end + 1) s)))
          → Marked d.nobody x → Tells (read_group sh today here s) x
      payer-first l x q i =
          let on = step-gap (total_and_date sh today here there.0 (d.end + 1) (drop (d.end + 1) s)) s d.end l (λ a2 s2. total_and_date sh today here there.0 a2 s2) refl in
          record { payer = there.0; says = q there.0 ∙ ap counted (on ∙ sym there.1); single = rw there.2 at i }

pub ruleset lines = (line-single, payer-refused, payer-last, payer-first)
