-- What the answer that a caller is given stands for, field by field. Document 01, "Numbers returned". Assumes nothing.
use Rattle.paper.specs.Batch.{Header}
use Rattle.paper.specs.Reading.{ReadAnswer}
use Rattle.read.specs.declared.AboHeader.{AboHeader}
use Rattle.read.specs.declared.AboAnswer.{AboAnswer}

-- "The batch": creation date, name, client number, interval start and end
abbrev pub told_header : AboHeader → Header
told_header h = record { date = h.date; name = h.name; client = h.client; from = h.from; to = h.to }

-- the number returned, its line and byte, the counts of rows and warnings, the rows needed, and the header
abbrev pub told : AboAnswer → ReadAnswer
told a =
    record {
      number = a.number;
      line = a.line;
      byte = a.byte;
      rows = a.rows;
      warnings = a.warnings;
      needed = a.needed;
      header = told_header a.header;
    }
