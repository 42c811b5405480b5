-- `malformed` meets its contract: no number is marked. Assumes nothing.
use mathlib.Core.Path.{refl}
use Rattle.register.proofs.Exits.{none-sound}
use Rattle.register.proofs.malformed.Goals as goal

pub returns : goal.returns
returns c = record { laid_value = refl; sound = none-sound _ c.none.ensures }
