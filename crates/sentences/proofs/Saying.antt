-- A table looked through for a number: at the row that has it, at another, and at its end. Assumes nothing.
use Rattle.std.proofs.Common.{◌≡◌, ℕ, ◌+◌, ◌<◌, ◌≤◌, Bor, List, ◌∷◌, length, get_or, drop, sym, ◌∙◌}
use Rattle.std.proofs.lemmas.List.{at_drop_more, at_drop_all}
use borrow.Author.Tests.{eq-eqb, ne_eqb}
use Rattle.base.proofs.Cases.{pick_true, pick-false}
use Rattle.numeral.specs.counted.Counted.{Counted}
use Rattle.numeral.proofs.counted.Laws.{counted-nothing}
use Rattle.sentences.specs.Phrases.{said}
use Rattle.sentences.specs.Tables.{phrases_of}

-- what a table says of n
abbrev pub in_table : ℕ → List (ℕ × Bor (List ℕ)) → List ℕ
in_table n ps = said (phrases_of ps) n

module _ (ps : List (ℕ × Bor (List ℕ))) (n i : ℕ) (far : in_table n ps ≡ in_table n (drop i ps)) where
  module _ (d : ℕ × Bor (List ℕ)) (h : i < length ps) where
    next : in_table n (drop i ps) ≡ in_table n (get_or ps i d ∷ drop (i + 1) ps)
    next = at_drop_more (in_table n) ps i d h

    pub said-later : ((get_or ps i d).0 ≡ n → ⊥) → in_table n ps ≡ in_table n (drop (i + 1) ps)
    unfolding said
    said-later e = far ∙ next ∙ pick-false _ _ (ne_eqb _ _ (λ z. e (sym z)))

    -- p is the output as it was given, and o what it was when the words were put
    pub said_here : {p o o1 : List ℕ} {at r : ℕ} → o ≡ p → (get_or ps i d).0 ≡ n → Counted o at (get_or ps i d).1.now o1 r
        → Counted p at (in_table n ps) o1 r
    unfolding said
    said_here same e w = rw (← same, far ∙ next ∙ pick_true _ _ (eq-eqb _ _ (sym e))) w

  pub said-nowhere : {p o : List ℕ} {at : ℕ} → o ≡ p → length ps ≤ i → Counted p at (in_table n ps) o at
  unfolding said
  said-nowhere same h = rw (← same, far ∙ at_drop_all (in_table n) ps i h) counted-nothing

pub ruleset saying = (said_here, said-nowhere)
