-- The walk of an item's line from each of its fields on. Document 01, "Lines". Assumes nothing.
use Rattle.std.specs.Prelude.{ℕ, List}
use Rattle.base.specs.Pick.{pick}
use Rattle.sheet.specs.declared.Sheet.{Sheet}
use Rattle.paper.specs.Spells.{Context}
use Rattle.why.specs.Names.{item_payer, payee, amount, variable_symbol, bank_field, specific_symbol, message}
use Rattle.why.specs.Walk.{Walked, divider, column, last, why_fixed, why_open, why_behind, why_payee}

module _ (sh : Sheet) (today : ℕ) (c : Context) (w : List ℕ) where
  -- each field, and what follows it
  abbrev pub from_text : ℕ → List ℕ → Walked
  from_text at s = last sh today c w message at s

  abbrev pub from_symbol : ℕ → List ℕ → Walked
  from_symbol at s = column sh today c w specific_symbol at s (why_behind sh today c w)

  abbrev pub from_fixed : ℕ → List ℕ → Walked
  from_fixed at s = column sh today c w specific_symbol at s λ a1 s1. divider message a1 s1 from_text

  abbrev pub from_tail : ℕ → List ℕ → Walked
  from_tail at s = pick sh.fixedtail (why_fixed sh today c w at s) (why_open sh today c w at s)

  abbrev pub from_bank : ℕ → List ℕ → Walked
  from_bank at s = column sh today c w bank_field at s from_tail

  abbrev pub from_variable : ℕ → List ℕ → Walked
  from_variable at s = column sh today c w variable_symbol at s λ a1 s1. divider bank_field a1 s1 from_bank

  abbrev pub from_amount : ℕ → List ℕ → Walked
  from_amount at s = column sh today c w amount at s λ a1 s1. divider variable_symbol a1 s1 from_variable

  abbrev pub from_single : ℕ → List ℕ → Walked
  from_single at s = column sh today c w item_payer at s λ a1 s1. divider payee a1 s1 (why_payee sh today c w)
