-- A field's bytes are taken exactly if they keep all its rules. Assumes nothing.
use mathlib.Core.Path.{◌≡◌, refl, ◌∙◌}
use mathlib.Core.Bool.{Bool, true, false}
use mathlib.Core.List.{List, [], ◌∷◌}
use Prim.Native.Nat.{ℕ}
use lib.Dec.{eqb}
use lib.ListN.{length}
use borrow.Author.Tests.{eq-eqb, ne_eqb}
use Rattle.base.specs.Pick.{pick}
use Rattle.base.specs.Seek.{all}
use Rattle.base.proofs.Cases.{by-test, by-eq}
use Rattle.sheet.specs.declared.Sheet.{Sheet}
use Rattle.sheet.proofs.Laws.{Sane}
use Rattle.paper.specs.Read.{Field}
use Rattle.paper.specs.Bytes.{is_text}
use Rattle.paper.specs.FirstLine.{text_field}
use Rattle.paper.specs.ItemLine.{is_value, read_symbol, read_symbol_or_none}
use Rattle.paper.specs.Spells.{Context}
use Rattle.why.specs.Rule.{Rule, Tested, kept, broke, first_broken}
use Rattle.why.specs.Names.{Name, creation_day, firm_name, client_number, interval_start, interval_end, rest_of_line, file_kind, file_number, payer_bank, group_payer, group_total, group_day, item_payer, payee, amount, variable_symbol, bank_field, specific_symbol, message, first_part, second_part, third_part, fourth_part, payee_name, group_closing, file_closing, whole_line}
use Rattle.why.specs.Forms.{are_text}
use Rattle.why.specs.Fields.{rules_of, name_rules, symbol_rules}
use Rattle.why.specs.Allowed.{keeps_all, is_taken}
use Rattle.why.proofs.Agrees.{Agrees, takes, refuses}
use Rattle.why.proofs.Fields.{digits-agree, kind-agrees, code-agrees, number-agrees, end-agrees, rest-agrees, day-agrees, due-agrees, account-agrees, payer-agrees, total-agrees, amount-agrees, bank-agrees}
use Rattle.why.proofs.Texts.{text-agrees}
use Rattle.why.proofs.Lines.{symbols, symbols-or-none}

-- is no rule broken?
unfoldable is_kept : Tested → Bool
is_kept kept = true
is_kept (broke r) = false

all-kept : (rs : List Rule) (s : List ℕ) → is_kept (first_broken rs s) ≡ keeps_all rs s
unfolding first_broken keeps_all is_kept pick
all-kept [] s = refl
all-kept (r ∷ rs) s = by-test (r.keeps s) (λ e. rw e (all-kept rs s)) (λ e. rw e)

agreed : {A : Type 0} {x : Field A} {q : Tested} → Agrees x q → is_value x ≡ is_kept q
unfolding is_value is_kept
agreed takes = refl
agreed (refuses e) = refl

-- where reader and rules agree, the reader takes what keeps the rules
exactly : {A : Type 0} {x : Field A} (rs : List Rule) (s : List ℕ) → Agrees x (first_broken rs s) → is_value x ≡ keeps_all rs s
exactly rs s h = agreed h ∙ all-kept rs s

-- a name, of that many bytes
names-exactly : (n : ℕ) (s : List ℕ) → pick (eqb (length s) n) (is_value (text_field s)) false ≡ keeps_all (name_rules n) s
unfolding keeps_all are_text text_field is_value pick
names-exactly n s =
    by-eq (length s) n
    (λ e. by-test (all is_text s) (λ f. rw (eq-eqb (length s) n e, f)) (λ f. rw (eq-eqb (length s) n e, f)))
    (λ e. rw (ne_eqb (length s) n e))

-- what is no field of its own has no rules
free : (s : List ℕ) → true ≡ keeps_all [] s
unfolding keeps_all
free s = refl

symbols-exactly : (f : Bool) (s : List ℕ) → pick f (is_value (read_symbol_or_none s)) (is_value (read_symbol s)) ≡ keeps_all (symbol_rules f) s
unfolding pick
symbols-exactly true s = exactly (symbol_rules true) s (symbols-or-none true refl s)
symbols-exactly false s = exactly (symbol_rules false) s (symbols false refl s)

module _ (sh : Sheet) (sane : Sane sh) (today : ℕ) (c : Context) (w : List ℕ) where
  pub allowed-true : (name : Name) (s : List ℕ) → is_taken sh today c w name s ≡ keeps_all (rules_of sh today c w name) s
  unfolding is_taken rules_of
  allowed-true creation_day s = exactly _ s (day-agrees s)
  allowed-true firm_name s = names-exactly 20 s
  allowed-true client_number s = exactly _ s (digits-agree 10 10 s)
  allowed-true interval_start s = exactly _ s (digits-agree 3 3 s)
  allowed-true interval_end s = exactly _ s (end-agrees _ _ s)
  allowed-true rest_of_line s = exactly _ s (rest-agrees _ s)
  allowed-true file_kind s = exactly _ s (kind-agrees sh s)
  allowed-true file_number s = exactly _ s (number-agrees sh c.numbers s)
  allowed-true payer_bank s = exactly _ s (code-agrees sh s)
  allowed-true group_payer s = exactly _ s (payer-agrees _ _ _ _ s)
  allowed-true group_total s = exactly _ s (total-agrees _ s)
  allowed-true group_day s = exactly _ s (due-agrees _ _ _ _ _ s)
  allowed-true item_payer s = exactly _ s (account-agrees _ _ s)
  allowed-true payee s = exactly _ s (account-agrees _ _ s)
  allowed-true amount s = exactly _ s (amount-agrees _ _ _ s)
  allowed-true variable_symbol s = exactly _ s (digits-agree 1 10 s)
  allowed-true bank_field s = exactly _ s (bank-agrees sh today c.kind c.date s sh.priority)
  allowed-true specific_symbol s = symbols-exactly sh.fixedtail s
  allowed-true message s = exactly _ s (text-agrees sh.text sane.names_av sane.part_alone 0 s)
  allowed-true first_part s = free s
  allowed-true second_part s = free s
  allowed-true third_part s = free s
  allowed-true fourth_part s = free s
  allowed-true payee_name s = free s
  allowed-true group_closing s = free s
  allowed-true file_closing s = free s
  allowed-true whole_line s = free s
