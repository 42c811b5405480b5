-- What a number that was taken stands for. Assumes nothing.
use Rattle.std.specs.Prelude.{ℕ}
use Rattle.numeral.specs.field.At.{At, found}
use Rattle.numeral.specs.declared.field.Run.{Run}

-- it has a value, and its field's end
abbrev pub told_number : Run → At ℕ
told_number r = found r.value r.end
