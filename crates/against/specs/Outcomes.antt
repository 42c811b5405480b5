-- What the answer of reading against a register says together with the rows that it leaves. Request W-207. Assumes nothing.
use Rattle.std.specs.Prelude.{ℕ, List}
use Rattle.paper.specs.Batch.{Batch, Header}
use Rattle.outcomes.specs.Outcomes.{Accepts}
use Rattle.against.specs.Registered.{registered_answer, registered_rows}

-- The file f is accepted against a lent register as the batch b with the header h and w warnings, in the same words as without one (`ReadsAs`).
abbrev pub RegisteredAs : ℕ → ℕ → List ℕ → List ℕ → List ℕ → Header → Batch → ℕ → Type 0
RegisteredAs sheet today f lent register h b w = Accepts f (registered_answer sheet today f lent register) (registered_rows sheet today f lent register) h b w
