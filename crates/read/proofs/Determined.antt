-- An answer of reading is known by what it tells. Assumes nothing.
use mathlib.Core.Path.{◌≡◌, ap}
use Rattle.paper.specs.Batch.{Header}
use Rattle.paper.specs.Reading.{ReadAnswer}
use Rattle.read.specs.declared.AboHeader.{AboHeader}
use Rattle.read.specs.declared.AboAnswer.{AboAnswer}
use Rattle.read.specs.Told.{told}

-- the header and the answer that tell this
abbrev header_for : Header → AboHeader
header_for h = record { date = h.date; client = h.client; from = h.from; to = h.to; name = h.name }

abbrev answer_for : ReadAnswer → AboAnswer
answer_for r =
    record {
      number = r.number;
      line = r.line;
      byte = r.byte;
      rows = r.rows;
      warnings = r.warnings;
      needed = r.needed;
      header = header_for r.header;
    }

-- two answers that tell the same are the same
pub told-one : (a b : AboAnswer) → told a ≡ told b → a ≡ b
told-one a b e = ap answer_for e
