-- What is kept of a field that is judged. Assumes nothing.
use Rattle.numeral.specs.field.At.{At, found, missed}

-- the field's end, and what f says of its value; or the refusal's number
unfoldable pub keeping : {A B : Type 0} → (A → B) → At A → At B
keeping f (found v e) = found (f v) e
keeping f (missed n) = missed n

-- nothing of a value
abbrev pub nothing : {A : Type 0} → A → Unit {0}
nothing v = tt
