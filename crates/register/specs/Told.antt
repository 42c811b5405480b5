-- What a loaded register and the calls' answer stand for. Request W-207. Assumes nothing.
use Rattle.std.specs.Prelude.{◌≡◌}
use Rattle.base.specs.Pick.{pick}
use Rattle.fileline.specs.seen.Bits.{bit}
use Rattle.register.specs.declared.Loaded.{Loaded}
use Rattle.register.specs.declared.AboRegister.{AboRegister}
use Rattle.register.specs.Register.{Register, malformed, of, used, RegisterAnswer, answer}

-- its date and its numbers
abbrev pub told : Loaded → Register
told r = pick r.laid (of r.date (bit r.set.words)) malformed

-- its words hold what is marked; those of a malformed register hold nothing
abbrev pub Sound : Loaded → Type 0
Sound r = bit r.set.words ≡ used (told r)

-- the number returned and the value
abbrev pub told_answer : AboRegister → RegisterAnswer
told_answer a = answer a.number a.value
