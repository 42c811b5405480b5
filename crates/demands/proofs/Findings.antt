-- What is demanded of the two calls that say what is found in a file (document 02, W-205), on one page. The contracts of the calls name
-- `list_answer` and `list_after` of abo_findings (crate findings), `explanation` of abo_explain (crate explain), whose answer and output are document 01's
-- `written_in` and `output_after`; both are of one list, `findings`. The functions that make calls are in ../src/lib.rt. Assumes nothing.
use Rattle.std.proofs.Common.{Some}
use mathlib.Core.Path.{◌≡◌, refl}
use mathlib.Core.Bool.{true}
use mathlib.Core.List.{List, [], ◌∷◌}
use mathlib.Core.Logic.{◌↔◌}
use Prim.Native.Nat.{ℕ, ◌+◌, ◌/◌, ◌%◌, ◌^◌, ◌≤◌}
use lib.ListN.{length}
use Rattle.base.specs.Pick.{pick}
use Rattle.base.specs.Seek.{all}
use Rattle.sheet.specs.declared.Sheet.{Sheet}
use Rattle.sheet.specs.Sheets.{sheet_of}
use Rattle.sheet.proofs.Laws.{sheet-sane}
use Rattle.paper.specs.Days.{real_day}
use Rattle.paper.specs.Batch.{Batch, Header}
use Rattle.paper.specs.Judge.{Refused}
use Rattle.paper.specs.Writing.{drafted}
use Rattle.paper.specs.Spells.{Context, Spells}
use Rattle.paper.specs.FirstFault.{FirstFault}
-- a field's rules, what its reader takes, and what is found: of a refused file its first fault, of an accepted one its warnings
use Rattle.why.specs.Names.{Name}
use Rattle.why.specs.Fields.{rules_of}
use Rattle.why.specs.Allowed.{keeps_all, is_taken}
use Rattle.why.specs.Finding.{found_in}
use Rattle.why.specs.Blames.{TrueOf, Names}
use Rattle.why.specs.Warned.{warned_in, Onward}
use Rattle.findings.specs.Findings.{findings, findings_of}
-- the answers of the calls
use Rattle.findings.specs.Lists.{list_answer, list_after}
use Rattle.verdict.specs.Sheets.{accepting}
use Rattle.sentences.specs.Printable.{is_printable}
use Rattle.explain.specs.Explanation.{text_on, explanation_with, explanation}
use Rattle.verdict.proofs.sheets.Every.{SpellsSome, accepted_on, line_on}
use Rattle.tell.proofs.abo_findings.Statement as findings-contract
use Rattle.tell.proofs.abo_findings.Met as findings-call
use Rattle.demands.proofs.findings_twice.Statement as findings-twice-contract
use Rattle.demands.proofs.findings_twice.Met as findings-twice-call
use Rattle.exact.proofs.Main as exact
use Rattle.exact.proofs.faults.Main as faults
use Rattle.why.proofs.Found as found
use Rattle.why.proofs.Warned as warned
use Rattle.why.proofs.Onward as onward
use Rattle.why.proofs.Allowed as allowed
use Rattle.verdict.proofs.sheets.Every as every
use Rattle.findings.proofs.Determined as determined
use Rattle.explain.proofs.Lengths as lengths
use Rattle.explain.proofs.Printable as printed

-- ---- the call meets its contract for every input, made twice it answers alike, and a refusal (1, 2, 16) changes nothing that was lent

pub abo-findings : {M : Type 1} → findings-contract.statement M
abo-findings = findings-call.met

pub findings-twice : {M : Type 1} → findings-twice-contract.statement M
findings-twice = findings-twice-call.met

pub listing-refused : (sheet today : ℕ) (f lent : List ℕ) → ((list_answer sheet today f lent).number ≡ 0 → ⊥) → list_after sheet today f lent ≡ lent
listing-refused = determined.lent-kept

-- ---- what follows speaks of a known sheet and a real day

module _ (sheet : ℕ) (sh : Sheet) (named : sheet_of sheet ≡ Some sh) (today : ℕ) (day : real_day today ≡ true) where
  -- the text is made of the findings that the list has, by one definition,
  pub one-text : (f : List ℕ) → explanation sheet today f ≡ drafted (text_on sh today f)
  unfolding explanation explanation_with pick
  one-text f = rw (named, day)

  -- of bytes 32 to 126 and LF alone, whatever the file holds.
  pub printable : (f : List ℕ) → all is_printable (text_on sh today f) ≡ true
  printable = printed.text-printable sheet sh named today

  -- ---- a refused file

  module _ (f : List ℕ) (n l p : ℕ) (first : FirstFault sh today f (Refused n l p)) where
    -- has the one finding,
    pub told-refused : findings sh today f ≡ found_in sh today f ∷ []
    unfolding findings findings_of
    told-refused = rw ((faults.refused sh today f n l p).1 first)

    -- with the refusal's number, line and byte; the rule that it names is broken by the bytes that are found there, and none is broken earlier in
    -- the testing order: neither in the lines before, nor in the fields before, nor by the field's rules before it.
    pub named-broken : TrueOf sh today f (found_in sh today f) × Names (found_in sh today f) n l p
    named-broken = found.found-true sh today (sheet-sane (sheet_of sheet) sheet refl sh named) f first

    -- Its text has at most 2,048 bytes (ABO_EXPLAIN_BYTES in include/abo.h).
    pub refused-bytes : length (text_on sh today f) ≤ 2048
    refused-bytes = lengths.refused-text sh today f n l p ((faults.refused sh today f n l p).1 first)

  -- In any field, in any context, the reader takes exactly the bytes that keep all rules listed for it: what is said to be allowed is, and nothing else.
  pub allowed-true : (c : Context) (w : List ℕ) (name : Name) (s : List ℕ) → is_taken sh today c w name s ≡ keeps_all (rules_of sh today c w name) s
  allowed-true = allowed.allowed-true sh (sheet-sane (sheet_of sheet) sheet refl sh named) today

  -- ---- an accepted file

  -- has as many findings as reading counts warnings, at places that never go back.
  pub told-warnings : (f : List ℕ) (h : Header) (b : Batch) (w : ℕ) → Spells sh today f h b w
      → (findings sh today f ≡ warned_in sh today f) × (length (warned_in sh today f) ≡ w) × Onward 1 0 (warned_in sh today f)
  unfolding findings findings_of
  told-warnings f h b w spells =
      let judged = (exact.exact sh today f h b w).1 spells in
      (rw judged, warned.as_many sh today f h b w judged, onward.never_back sh today f)

  -- ---- every sheet

  -- A sheet's line says that it accepts the file exactly if the file spells some batch on that sheet that day,
  pub every-sheet : (f : List ℕ) → ((w : ℕ) × (line_on sh today f ≡ accepted_on sh w)) ↔ SpellsSome sh today f
  every-sheet f = every.every-sheet sh today f day
  -- and so does its bit in the list.

pub every-bit : (today : ℕ) (f : List ℕ) (n : ℕ) (sh : Sheet) → sheet_of (n + 1) ≡ Some sh → accepting today f / 2 ^ n % 2 ≡ 1 ↔ SpellsSome sh today f
every-bit = every.every-bit
