-- What the answer that a caller is given stands for. Assumes nothing.
use Rattle.findings.specs.declared.AboList.{AboList}
use Rattle.findings.specs.Lists.{ListAnswer}

-- the same five numbers
abbrev pub told : AboList → ListAnswer
told a = record { number = a.number; refused = a.refused; count = a.count; needed = a.needed; sheets = a.sheets }
