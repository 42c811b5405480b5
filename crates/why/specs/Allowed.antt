-- Which bytes a field's own reader takes, and which keep all its rules: what was allowed. Document 02, W-205. Assumes nothing.
use Rattle.std.specs.Prelude.{ℕ, Bool, true, false, List, [], ◌∷◌, eqb, length, take, drop}
use Rattle.base.specs.Pick.{pick}
use Rattle.sheet.specs.declared.Sheet.{Sheet}
use Rattle.paper.specs.Numerals.{digits}
use Rattle.paper.specs.Days.{short_day, read_due}
use Rattle.paper.specs.Terms.{day_here, bank_due}
use Rattle.paper.specs.Accounts.{read_account, read_payer}
use Rattle.paper.specs.Amounts.{read_total, read_item_amount}
use Rattle.paper.specs.BankField.{read_due_bank}
use Rattle.paper.specs.Texts.{read_text}
use Rattle.paper.specs.FirstLine.{text_field, read_to, read_rest}
use Rattle.paper.specs.FileLine.{read_kind, read_number, read_code}
use Rattle.paper.specs.ItemLine.{is_value, read_symbol, read_symbol_or_none}
use Rattle.paper.specs.Spells.{Context, number_test}
use Rattle.why.specs.Rule.{Rule}
use Rattle.why.specs.Names.{Name, creation_day, firm_name, client_number, interval_start, interval_end, rest_of_line, file_kind, file_number, payer_bank, group_payer, group_total, group_day, item_payer, payee, amount, variable_symbol, bank_field, specific_symbol, message, first_part, second_part, third_part, fourth_part, payee_name, group_closing, file_closing, whole_line}
use Rattle.why.specs.Forms.{spelled}

-- bytes that keep all rules
unfoldable pub keeps_all : List Rule → List ℕ → Bool
keeps_all [] s = true
keeps_all (r ∷ rs) s = pick (r.keeps s) (keeps_all rs s) false

-- bytes that the field's reader takes, on a sheet, on a day, in the context of its line w: the definitions by which files are read
unfoldable pub is_taken : Sheet → ℕ → Context → List ℕ → Name → List ℕ → Bool
is_taken sh today c w creation_day s = is_value (short_day s)
is_taken sh today c w firm_name s = pick (eqb (length s) 20) (is_value (text_field s)) false
is_taken sh today c w client_number s = is_value (digits 10 10 s)
is_taken sh today c w interval_start s = is_value (digits 3 3 s)
is_taken sh today c w interval_end s = is_value (read_to sh.interval (spelled (take 3 (drop 40 w))) s)
is_taken sh today c w rest_of_line s = is_value (read_rest sh.short s)
is_taken sh today c w file_kind s = is_value (read_kind sh s)
is_taken sh today c w file_number s = is_value (read_number (number_test sh c.numbers) s)
is_taken sh today c w payer_bank s = is_value (read_code sh s)
is_taken sh today c w group_payer s = is_value (read_payer sh.emptypayer sh.zeropayer sh.joined sh.basemin s)
is_taken sh today c w group_total s = is_value (read_total sh.comma s)
is_taken sh today c w group_day s = is_value (read_due sh.longdate (day_here sh c.kind) sh.early sh.ahead today s)
is_taken sh today c w item_payer s = is_value (read_account sh.joined sh.basemin s)
is_taken sh today c w payee s = is_value (read_account sh.joined sh.basemin s)
is_taken sh today c w amount s = is_value (read_item_amount sh.comma sh.itemdigits sh.itemmax s)
is_taken sh today c w variable_symbol s = is_value (read_symbol s)
is_taken sh today c w bank_field s = is_value (read_due_bank sh.priority (bank_due sh today c.kind c.date) s)
is_taken sh today c w specific_symbol s = pick sh.fixedtail (is_value (read_symbol_or_none s)) (is_value (read_symbol s))
is_taken sh today c w message s = is_value (read_text sh.text 0 s)
is_taken sh today c w first_part s = true
is_taken sh today c w second_part s = true
is_taken sh today c w third_part s = true
is_taken sh today c w fourth_part s = true
is_taken sh today c w payee_name s = true
is_taken sh today c w group_closing s = true
is_taken sh today c w file_closing s = true
is_taken sh today c w whole_line s = true
