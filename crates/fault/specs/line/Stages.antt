-- The walk of a file's first line, of an account file's and of a group's, from each of its fields on. Document 01, "Lines". Assumes nothing.
use Rattle.std.specs.Prelude.{ℕ, List}
use Rattle.sheet.specs.declared.Sheet.{Sheet}
use Rattle.paper.specs.Spells.{Context}
use Rattle.why.specs.Names.{payer_bank, file_number, group_total, group_day, group_payer, client_number, creation_day, firm_name, interval_start, interval_end, rest_of_line}
use Rattle.why.specs.Walk.{Walked, divider, ended, column, spot, last, why_total}

module _ (sh : Sheet) (today : ℕ) (c : Context) (w : List ℕ) where
  -- the first line
  abbrev pub from_rest : ℕ → List ℕ → Walked
  from_rest at s = last sh today c w rest_of_line at s

  abbrev pub from_end : ℕ → List ℕ → Walked
  from_end at s = spot sh today c w 3 interval_end at s from_rest

  abbrev pub from_start : ℕ → List ℕ → Walked
  from_start at s = spot sh today c w 3 interval_start at s from_end

  abbrev pub from_client : ℕ → List ℕ → Walked
  from_client at s = spot sh today c w 10 client_number at s from_start

  abbrev pub from_name : ℕ → List ℕ → Walked
  from_name at s = spot sh today c w 20 firm_name at s from_client

  abbrev pub from_date : ℕ → List ℕ → Walked
  from_date at s = spot sh today c w 6 creation_day at s from_name

  -- an account file's line
  abbrev pub from_code : ℕ → List ℕ → Walked
  from_code at s = column sh today c w payer_bank at s (ended 42 payer_bank)

  abbrev pub from_number : ℕ → List ℕ → Walked
  from_number at s = column sh today c w file_number at s λ a1 s1. divider payer_bank a1 s1 from_code

  -- a group's line
  abbrev pub from_day : ℕ → List ℕ → Walked
  from_day at s = column sh today c w group_day at s λ a1 s1. ended 42 group_day a1 s1

  abbrev pub from_payer : ℕ → List ℕ → Walked
  from_payer at s = column sh today c w group_payer at s λ a1 s1. divider group_total a1 s1 (why_total sh today c w)
