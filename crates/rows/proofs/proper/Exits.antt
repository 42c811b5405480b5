-- The ways out of the tests of texts and of a whole item. Assumes nothing.
use mathlib.Core.Path.{◌≡◌, refl, sym, ap, ◌∙◌}
use mathlib.Core.Bool.{Bool, true, false}
use mathlib.Core.List.{List, [], ◌∷◌}
use Prim.Native.Nat.{ℕ, ◌+◌, ◌-◌}
use native.Mathlib.Omega.{arith}
use lib.Dec.{leb}
use lib.ListN.{length, take, drop}
use Rattle.base.specs.Pick.{pick}
use Rattle.base.specs.Seek.{all, seek}
use Rattle.base.proofs.Cases.{pick_true, pick-false}
use Rattle.paper.specs.Bytes.{is_text}
use Rattle.paper.specs.Texts.{lacks, part_proper, name_proper}
use Rattle.paper.specs.Proper.{Verdict, check, parts_from, item_proper}
use Rattle.paper.specs.Rows.{reference_proper}
use Rattle.text.specs.declared.span.Span.{Span}
use Rattle.std.proofs.Common.{Result, Ok, Err}
use Rattle.rows.specs.declared.field.Field.{Field}
use Rattle.rows.specs.declared.read.ItemRow.{ItemRow}
use Rattle.rows.specs.read.Told.{text_of_span, item_of}
use Rattle.rows.specs.read.After.{after}
use Rattle.rows.proofs.read.Laws.{upto_is}
use Rattle.rows.specs.proper.Stages.{money_proper, symbols_proper, texts_proper, ItemTested}

-- ---- a text that lies inside what was lent, or does not

module _ (t : List ℕ) (p : Span) (l : Bool) (e : l ≡ leb (p.at + p.len) (length t)) where
  outside : l ≡ false → text_of_span t p ≡ 0 ∷ []
  unfolding text_of_span
  outside h = pick-false _ _ (sym e ∙ h)

  within : l ≡ true → text_of_span t p ≡ take (p.at + p.len - p.at) (drop p.at t)
  unfolding text_of_span
  within h = let n : p.at + p.len - p.at ≡ p.len = omega arith in rw n (pick_true _ _ (sym e ∙ h))

  pub name_out : l ≡ false → false ≡ name_proper (text_of_span t p)
  unfolding name_proper all is_text pick
  name_out h = rw (outside h)

  pub part_out : l ≡ false → false ≡ part_proper (text_of_span t p)
  unfolding part_proper pick
  part_out h = rw (← name_out h)

  here : l ≡ true → drop p.at (take (p.at + p.len - 0) (drop 0 t)) ≡ text_of_span t p
  here h = upto_is t p.at (p.at + p.len) ∙ sym (within h)

  pub name-there : l ≡ true → (r : Bool) → r ≡ name_proper (drop p.at (take (p.at + p.len - 0) (drop 0 t))) → r ≡ name_proper (text_of_span t p)
  name-there h r g = g ∙ ap name_proper (here h)

  pub part-there : l ≡ true → (r : Bool) → r ≡ part_proper (drop p.at (take (p.at + p.len - 0) (drop 0 t))) → r ≡ part_proper (text_of_span t p)
  part-there h r g = g ∙ ap part_proper (here h)

-- an empty one lies where its place does
module _ (t : List ℕ) (p : Span) (e : p.len ≡ 0) where
  blank : (b : Bool) → b ≡ leb p.at (length t) → text_of_span t p ≡ pick b [] (0 ∷ [])
  unfolding text_of_span
  blank b g = let s : p.at + p.len ≡ p.at = omega arith in rw (s, e, g)

  pub name-blank : (r : Bool) → r ≡ leb p.at (length t) → r ≡ name_proper (text_of_span t p)
  unfolding name_proper all is_text pick
  name-blank true g = rw (blank true g)
  name-blank false g = rw (blank false g)

  pub part-blank : (r : Bool) → r ≡ leb p.at (length t) → r ≡ part_proper (text_of_span t p)
  unfolding part_proper name_proper lacks seek all is_text pick
  part-blank true g = rw (blank true g)
  part-blank false g = rw (blank false g)

pub ruleset places = (name_out, part_out, name-there, part-there, name-blank, part-blank)

-- ---- the three stages of an item, and behind them its reference

-- together the three are the item's test
stages : (k : ℕ) (single : Bool) (sum : ℕ) (t : List ℕ) (x : ItemRow) (rest : Verdict)
    → money_proper k single sum x (symbols_proper k x (texts_proper k t x rest)) ≡ item_proper k single sum (item_of t x) rest
unfolding item_proper parts_from money_proper symbols_proper texts_proper
stages k single sum t x rest = refl

module _ (t : List ℕ) (x : ItemRow) (single : Bool) (sum : ℕ) where
  -- the reference's test, and all of them
  abbrev referred : ℕ → Verdict → Verdict
  referred k rest = check k 21 (reference_proper x.reference) rest

  abbrev whole : ℕ → Verdict → Verdict
  whole k rest = item_proper k single sum (item_of t x) (referred k rest)

  module _ (m : Result (Unit {0}) Field) (money : (k : ℕ) (rest : Verdict) → after k m rest ≡ money_proper k single sum x rest) where
    -- what a stage's test says is what the item's says, where those before it passed
    on-money : (k : ℕ) (rest : Verdict) → after k m (symbols_proper k x (texts_proper k t x (referred k rest))) ≡ whole k rest
    on-money k rest = money k _ ∙ stages k single sum t x (referred k rest)

    pub money-wrong : (n : Field) → m ≡ Err n → ItemTested t x single sum (Err n)
    money-wrong n h = record { same = λ k rest. rw h at (on-money k rest) }

    module _ (h : m ≡ Ok tt) (s : Result (Unit {0}) Field) (symbols : (k : ℕ) (rest : Verdict) → after k s rest ≡ symbols_proper k x rest) where
      on-symbols : (k : ℕ) (rest : Verdict) → after k s (texts_proper k t x (referred k rest)) ≡ whole k rest
      on-symbols k rest = symbols k _ ∙ rw h at (on-money k rest)

      pub symbols-wrong : (n : Field) → s ≡ Err n → ItemTested t x single sum (Err n)
      symbols-wrong n g = record { same = λ k rest. rw g at (on-symbols k rest) }

      module _ (g : s ≡ Ok tt) (l : Result (Unit {0}) Field) (texts : (k : ℕ) (rest : Verdict) → after k l rest ≡ texts_proper k t x rest) where
        on_texts : (k : ℕ) (rest : Verdict) → after k l (referred k rest) ≡ whole k rest
        on_texts k rest = texts k _ ∙ rw g at (on-symbols k rest)

        pub texts-wrong : (n : Field) → l ≡ Err n → ItemTested t x single sum (Err n)
        texts-wrong n i = record { same = λ k rest. rw i at (on_texts k rest) }

        pub reference-last : l ≡ Ok tt → (r : Result (Unit {0}) Field) → ((k : ℕ) (rest : Verdict) → after k r rest ≡ referred k rest) → ItemTested t x single sum r
        reference-last i r last = record { same = λ k rest. last k rest ∙ rw i at (on_texts k rest) }

pub ruleset stages-on = (money-wrong, symbols-wrong, texts-wrong, reference-last)
