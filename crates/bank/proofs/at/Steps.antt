-- The bank field of the line s that is judged, for whoever reads on: n is what the judge answered. Assumes nothing.
use mathlib.Core.Path.{◌≡◌}
use mathlib.Core.Bool.{Bool, true}
use mathlib.Core.List.{List}
use Prim.Native.Nat.{ℕ, ◌≤◌}
use lib.ListN.{length, drop}
use Rattle.std.proofs.Common.{Result, Ok}
use Rattle.refusal.specs.declared.Refusal.{Refusal}
use Rattle.paper.specs.Read.{value}
use Rattle.paper.specs.Bytes.{field_of}
use Rattle.paper.specs.BankField.{Bank, read_bank, read_due_bank}
use Rattle.paper.specs.ItemLine.{is_value}
use Rattle.bank.proofs.Sound.{bank-warnings}
use Rattle.bank.proofs.Due.{due-bank}
use Rattle.numeral.specs.field.At.{found, field_at}
use Rattle.numeral.specs.field.Kept.{keeping}
use Rattle.numeral.proofs.field.Steps.{found-value}
use Rattle.numeral.proofs.field.Kept.{was-found, kept-within}
use Rattle.bank.specs.declared.at.Warned.{Warned}
use Rattle.bank.specs.at.Told.{told}
use Rattle.bank.specs.at.Warned.{warnings_of}

module _ (ranked : Bool) (due : ℕ → Bool) (s : List ℕ) (at : ℕ) (n : Result Warned Refusal) (g : told n ≡ keeping warnings_of (field_at (read_due_bank ranked due) s at)) where
  module _ (d : Warned) (q : n ≡ Ok d) where
    pub bank-within : at ≤ length s → d.end ≤ length s
    bank-within l = kept-within warnings_of (read_due_bank ranked due) s at d.warnings d.end (rw q at g) l

    -- its bank and its end
    field_found : (b : Bank) × (found b d.end ≡ field_at (read_due_bank ranked due) s at) × (d.warnings ≡ b.warnings)
    field_found = was-found warnings_of (field_at (read_due_bank ranked due) s at) d.warnings d.end (rw q at g)

    field-reads : read_bank ranked (field_of (drop at s)) ≡ value field_found.0
    field-reads = (due-bank due ranked _ field_found.0 (found-value (read_due_bank ranked due) s at field_found.0 d.end field_found.1)).0

    pub bank-says : is_value (read_bank ranked (field_of (drop at s))) ≡ true
    unfolding is_value
    bank-says = rw field-reads

    -- it warns once at most
    pub bank_low : d.warnings ≤ 1
    bank_low = rw field_found.2 (bank-warnings ranked _ field_found.0 field-reads)
