-- What a call's contract says of it, said of two calls on equal bytes: equal answers, and equal bytes left. Assumes nothing.
use mathlib.Core.Path.{◌≡◌, sym, ap, ◌∙◌}
use mathlib.Core.List.{List}
use Prim.Native.Nat.{ℕ}
use lib.ListN.{length}
use Rattle.paper.specs.Reading.{read_answer, rows_after}
use Rattle.paper.specs.Writing.{Draft, written_in, output_after}
use Rattle.read.specs.declared.AboAnswer.{AboAnswer}
use Rattle.read.specs.Told.{told as told_read}
use Rattle.read.proofs.Determined as read
use Rattle.write.specs.declared.AboWritten.{AboWritten}
use Rattle.write.specs.Told.{told as told_written}
use Rattle.write.proofs.Determined as write
use Rattle.explain.specs.declared.AboText.{AboText}
use Rattle.explain.specs.Told.{told as told_text, text_answer}
use Rattle.explain.proofs.Determined as explain
use Rattle.findings.specs.declared.AboList.{AboList}
use Rattle.findings.specs.Lists.{list_answer, list_after}
use Rattle.findings.specs.Told.{told as told_list}
use Rattle.findings.proofs.Determined as listing
use Rattle.reader.specs.declared.AboLine.{AboLine}
use Rattle.reader.specs.Named.{told as told_line, line_answer}
use Rattle.reader.proofs.Determined as reader
use Rattle.gpc.specs.Answers.{statement_answer, statement_rows}
use Rattle.statement.specs.declared.reading.AboStatement.{AboStatement}
use Rattle.statement.specs.reading.Told.{told as told_statement}
use Rattle.statement.proofs.reading.Determined as statement
use Rattle.register.specs.declared.AboRegister.{AboRegister}
use Rattle.register.specs.Register.{RegisterAnswer, start_answer, start_after, give_answer, give_after}
use Rattle.register.specs.Told.{told_answer as told_register}
use Rattle.register.proofs.Determined as register
use Rattle.against.specs.Registered.{registered_answer, registered_rows, register_after}

-- ---- reading: l and m are the rows lent

pub read_alike : (sheet today : ℕ) (f l m : List ℕ) (a b : AboAnswer) → l ≡ m
    → told_read a ≡ read_answer sheet today f l → told_read b ≡ read_answer sheet today f m → a ≡ b
read_alike sheet today f l m a b e x y = read.told-one a b (x ∙ ap (λ (z : List ℕ). read_answer sheet today f z) e ∙ sym y)

pub rows_alike : (sheet today : ℕ) (f l m r q : List ℕ) → l ≡ m
    → r ≡ rows_after sheet today f l → q ≡ rows_after sheet today f m → r ≡ q
rows_alike sheet today f l m r q e x y = x ∙ ap (λ (z : List ℕ). rows_after sheet today f z) e ∙ sym y

-- ---- writing and explaining: l and m are the outputs lent, d what is to be written

pub written-alike : (d : Draft) (l m : List ℕ) (a b : AboWritten) → l ≡ m
    → told_written a ≡ written_in (length l) d → told_written b ≡ written_in (length m) d → a ≡ b
written-alike d l m a b e x y = write.told-one a b (x ∙ ap (λ (z : List ℕ). written_in (length z) d) e ∙ sym y)

pub explained-alike : (d : Draft) (l m : List ℕ) (a b : AboText) → l ≡ m
    → told_text a ≡ text_answer (written_in (length l) d) → told_text b ≡ text_answer (written_in (length m) d) → a ≡ b
explained-alike d l m a b e x y = explain.told-one a b (x ∙ ap (λ (z : List ℕ). text_answer (written_in (length z) d)) e ∙ sym y)

pub output-alike : (d : Draft) (l m o p : List ℕ) → l ≡ m → o ≡ output_after l d → p ≡ output_after m d → o ≡ p
output-alike d l m o p e x y = x ∙ ap (λ (z : List ℕ). output_after z d) e ∙ sym y

-- ---- listing: l and m are the bytes lent

pub lists-alike : (sheet today : ℕ) (f l m : List ℕ) (a b : AboList) → l ≡ m
    → told_list a ≡ list_answer sheet today f l → told_list b ≡ list_answer sheet today f m → a ≡ b
lists-alike sheet today f l m a b e x y = listing.told-one a b (x ∙ ap (λ (z : List ℕ). list_answer sheet today f z) e ∙ sym y)

pub listed-alike : (sheet today : ℕ) (f l m r q : List ℕ) → l ≡ m → r ≡ list_after sheet today f l → q ≡ list_after sheet today f m → r ≡ q
listed-alike sheet today f l m r q e x y = x ∙ ap (λ (z : List ℕ). list_after sheet today f z) e ∙ sym y

-- ---- reading statements: l and m are the rows lent

pub statements-alike : (f l m : List ℕ) (a b : AboStatement) → l ≡ m → told_statement a ≡ statement_answer f l → told_statement b ≡ statement_answer f m → a ≡ b
statements-alike f l m a b e x y = statement.told-one a b (x ∙ ap (λ (z : List ℕ). statement_answer f z) e ∙ sym y)

pub statement-rows-alike : (f l m r q : List ℕ) → l ≡ m → r ≡ statement_rows f l → q ≡ statement_rows f m → r ≡ q
statement-rows-alike f l m r q e x y = x ∙ ap (λ (z : List ℕ). statement_rows f z) e ∙ sym y

-- ---- finding a line

pub line-alike : (line : ℕ) (f : List ℕ) (a b : AboLine) → told_line a ≡ line_answer line f → told_line b ≡ line_answer line f → a ≡ b
line-alike line f a b x y = reader.told-one a b (x ∙ sym y)

-- ---- the day's numbers: l and m are the registers lent

pub start-alike : (d : ℕ) (l m : List ℕ) (a b : AboRegister) → l ≡ m → told_register a ≡ start_answer d l → told_register b ≡ start_answer d m → a ≡ b
start-alike d l m a b e x y = register.told-one a b (x ∙ ap (λ (z : List ℕ). start_answer d z) e ∙ sym y)

pub started-alike : (d : ℕ) (l m r q : List ℕ) → l ≡ m → r ≡ start_after d l → q ≡ start_after d m → r ≡ q
started-alike d l m r q e x y = x ∙ ap (λ (z : List ℕ). start_after d z) e ∙ sym y

pub asked-alike : (v : RegisterAnswer) (a b : AboRegister) → told_register a ≡ v → told_register b ≡ v → a ≡ b
asked-alike v a b x y = register.told-one a b (x ∙ sym y)

pub give-alike : (n : ℕ) (l m : List ℕ) (a b : AboRegister) → l ≡ m → told_register a ≡ give_answer l n → told_register b ≡ give_answer m n → a ≡ b
give-alike n l m a b e x y = register.told-one a b (x ∙ ap (λ (z : List ℕ). give_answer z n) e ∙ sym y)

pub given-alike : (n : ℕ) (l m r q : List ℕ) → l ≡ m → r ≡ give_after l n → q ≡ give_after m n → r ≡ q
given-alike n l m r q e x y = x ∙ ap (λ (z : List ℕ). give_after z n) e ∙ sym y

-- .. and o and p the rows
module _ (sheet today : ℕ) (f o p l m : List ℕ) where
  pub registered-alike : (a b : AboAnswer) → told_read a ≡ registered_answer sheet today f o l → told_read b ≡ registered_answer sheet today f p m → o ≡ p → l ≡ m → a ≡ b
  registered-alike a b x y e g = read.told-one a b (x ∙ (ap (λ (z : List ℕ). registered_answer sheet today f z l) e ∙ (ap (λ (z : List ℕ). registered_answer sheet today f p z) g ∙ sym y)))

  pub registered-rows-alike : (r q : List ℕ) → r ≡ registered_rows sheet today f o l → q ≡ registered_rows sheet today f p m → o ≡ p → l ≡ m → r ≡ q
  registered-rows-alike r q x y e g = x ∙ (ap (λ (z : List ℕ). registered_rows sheet today f z l) e ∙ (ap (λ (z : List ℕ). registered_rows sheet today f p z) g ∙ sym y))

  pub registers-alike : (r q : List ℕ) → r ≡ register_after sheet today f o l → q ≡ register_after sheet today f p m → o ≡ p → l ≡ m → r ≡ q
  registers-alike r q x y e g = x ∙ (ap (λ (z : List ℕ). register_after sheet today f z l) e ∙ (ap (λ (z : List ℕ). register_after sheet today f p z) g ∙ sym y))
