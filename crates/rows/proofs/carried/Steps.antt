-- The sheet's limits, the numbers that are seen, and a text where it stands, as the code finds them. Assumes nothing.
use mathlib.Core.Path.{◌≡◌, refl, sym, ap, ◌∙◌}
use mathlib.Core.Bool.{Bool, true, false, not}
use mathlib.Core.List.{List, []}
use Prim.Native.Nat.{ℕ, ◌+◌, ◌-◌}
use Rattle.std.proofs.Common.{Option, Some, None, arith}
use lib.Dec.{ltb}
use lib.ListN.{take, drop}
use borrow.Author.Tests.{eq-eqb, ne_eqb}
use Rattle.base.specs.Seek.{all, seek}
use Rattle.base.proofs.Cases.{either, pick_true, pick-false, pick_same}
use Rattle.refusal.specs.declared.Refusal.{Refusal}
use Rattle.refusal.specs.Numbers.{answered}
use Rattle.refusal.proofs.Positive.{positive}
use Rattle.sheet.specs.declared.Style.{Style}
use Rattle.sheet.specs.declared.Sheet.{Sheet}
use Rattle.sheet.specs.declared.Limits.{Limits}
use Rattle.sheet.specs.Sheets.{LimitsOf}
use Rattle.paper.specs.Bytes.{is_clean, null}
use Rattle.paper.specs.Days.{due_allowed}
use Rattle.paper.specs.Terms.{day_here}
use Rattle.paper.specs.Amounts.{amount_proper}
use Rattle.paper.specs.Texts.{lacks, taken, words_carried, part_carried, name_carried}
use Rattle.paper.specs.Batch.{Header}
use Rattle.paper.specs.FileLine.{number_fault, number_allowed}
use Rattle.paper.specs.Proper.{Verdict, wrong, check}
use Rattle.fileline.specs.seen.Bits.{Holds}
use Rattle.text.specs.declared.span.Span.{Span}
use Rattle.fileline.specs.Fault.{fault_in}
use Rattle.fileline.proofs.Set.{same-fault}
use Rattle.text.proofs.fits.Carried.{untaken}
use Rattle.rows.specs.declared.read.ItemRow.{ItemRow}
use Rattle.rows.specs.read.Told.{text_of_span}
use Rattle.rows.specs.clean.Stretches.{CleanParts}
use Rattle.rows.specs.carried.Words.{Taken}
use Rattle.text.specs.span.Held.{Within}
use Rattle.rows.proofs.read.Laws.{text-within, cut-is}
use Rattle.rows.proofs.read.Fields.{is_true, holds, lacks as without, passes, fails}

-- a test by the limits that a sheet gave is a test by the sheet's
module _ (sh : Sheet) (l : Limits) (of : LimitsOf sh l) (t : Bool) where
  pub due-limit : (here early : Bool) (kind today d : ℕ) → here ≡ day_here sh kind → t ≡ due_allowed here early l.ahead today d
      → t ≡ due_allowed (day_here sh kind) early sh.ahead today d
  due-limit here early kind today d q e = rw (of.ahead, q) at e

  pub amount-limit : (v : ℕ) → t ≡ amount_proper l.amount v → t ≡ amount_proper sh.itemmax v
  amount-limit v e = rw of.amount at e

-- the set of words stands for the list that it holds: m is the refusal that the number gets by them
module _ (interval : Bool) (from to : ℕ) (words : List ℕ) (n : ℕ) (m : Option Refusal) (e : answered m ≡ fault_in interval from to words n)
    (h : Header) (l : List ℕ) (f : h.from ≡ from) (t : h.to ≡ to) (g : Holds words l) where
  by-list : answered m ≡ number_fault interval h l n
  by-list = rw (← f, ← t) at e ∙ ap (λ (p : ℕ → ℕ). p n) (same-fault interval h words l g)

  number-free : m ≡ None → number_allowed interval h l n ≡ true
  unfolding number_allowed
  number-free z = eq-eqb _ _ (sym by-list ∙ rw z)

  number-taken : (c : Refusal) → m ≡ Some c → number_allowed interval h l n ≡ false
  unfolding number_allowed
  number-taken c z = ne_eqb _ _ (λ q. absurd (omega (arith, positive c, rw z at by-list, q)))

  module _ (k : ℕ) (v rest : Verdict) where
    pub number-passes : m ≡ None → v ≡ rest → v ≡ check k 2 (number_allowed interval h l n) rest
    number-passes z q = holds k 2 v rest _ (number-free z) q

    pub number-fails : (c : Refusal) → m ≡ Some c → v ≡ wrong k 2 → v ≡ check k 2 (number_allowed interval h l n) rest
    number-fails c z q = without k 2 v rest _ (number-taken c z) q

-- an empty part is carried
blank-carried : (y : Style) (i : ℕ) → true ≡ part_carried y i []
unfolding part_carried words_carried taken lacks all seek null
blank-carried y i = sym (pick_true _ _ (pick_same (ltb i y.most) true) ∙ pick_true _ _ (pick_same y.names true) ∙ pick_same y.clean true)

-- the part of the lent bytes that a test was given is the text
module _ (y : Style) (t : List ℕ) (p : Span) (w : Within t p) where
  pub part-here : (i : ℕ) (r : Bool) → r ≡ part_carried y i (take (p.at + p.len - p.at) (drop p.at t)) → r ≡ part_carried y i (text_of_span t p)
  part-here i r e = e ∙ ap (part_carried y i) (cut-is t p w)

  pub taken_here : taken y (text_of_span t p) ≡ true → taken y (take (p.at + p.len - p.at) (drop p.at t)) ≡ true
  taken_here e = ap (taken y) (cut-is t p w) ∙ e

  pub name-here : (r : Bool) → r ≡ name_carried y (take (p.at + p.len - p.at) (drop p.at t)) → r ≡ name_carried y (text_of_span t p)
  name-here r e = e ∙ ap (name_carried y) (cut-is t p w)

  pub part-blank : (i : ℕ) → p.len ≡ 0 → true ≡ part_carried y i (text_of_span t p)
  part-blank i e =
      let f : text_of_span t p ≡ [] = text-within t p w ∙ ap (λ (n : ℕ). take n (drop p.at t)) e in
      blank-carried y i ∙ ap (part_carried y i) (sym f)

-- on a sheet that takes neither `#` nor `~`
module _ (y : Style) (clean : y.clean ≡ true) (p : List ℕ) (r : Bool) (e : r ≡ all is_clean p) where
  pub clean-taken : r ≡ true → taken y p ≡ true
  unfolding taken
  clean-taken q = pick_true _ _ clean ∙ sym e ∙ q

  pub unclean-not : (i : ℕ) → r ≡ false → false ≡ part_carried y i p
  unfolding taken
  unclean-not i q = sym (untaken y i p (pick_true _ _ clean ∙ sym e ∙ q))

pub ruleset cleans = (clean-taken, unclean-not)

-- what a sheet takes of an item's parts: all, where it takes every byte or the parts are clean
module _ (y : Style) (t : List ℕ) (x : ItemRow) where
  pub every-taken : y.clean ≡ false → Taken y t x
  unfolding taken
  every-taken e = record { first = pick-false _ _ e; second = pick-false _ _ e; third = pick-false _ _ e; fourth = pick-false _ _ e }

  pub parts-taken : CleanParts t x → Taken y t x
  unfolding taken
  parts-taken c =
      record {
        first = either (λ r. r ≡ true) y.clean (λ _. c.first) (λ _. refl);
        second = either (λ r. r ≡ true) y.clean (λ _. c.second) (λ _. refl);
        third = either (λ r. r ≡ true) y.clean (λ _. c.third) (λ _. refl);
        fourth = either (λ r. r ≡ true) y.clean (λ _. c.fourth) (λ _. refl);
      }

  pub looked-taken : (r : Bool) → (r ≡ true → CleanParts t x) → not r ≡ false → Taken y t x
  looked-taken r h e = parts-taken (h (is_true r e))

pub ruleset takes = (every-taken, looked-taken)

pub ruleset steps = (passes, fails, number-passes, number-fails)

pub ruleset texts = (part-here, taken_here, name-here, part-blank)
