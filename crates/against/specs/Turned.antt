-- How the answer against a register is had from two judgements: the file's own, and that where the register's numbers count as seen before. Assumes
-- nothing.
use Rattle.std.specs.Prelude.{ℕ, Bool, false, List, [], ◌∷◌, eqb}
use Rattle.base.specs.Pick.{pick}
use Rattle.paper.specs.Lines.{Line}
use Rattle.paper.specs.Entries.{head_line, kind_of}
use Rattle.paper.specs.Judge.{is}
use Rattle.tally.specs.Short.{Brief, No, Yes}
use Rattle.register.specs.Register.{Register}
use Rattle.against.specs.Against.{day_of, is_other}

-- is the first of the lines a first line whose date the register is not for?
unfoldable pub struck : Register → List Line → Bool
struck reg [] = false
struck reg (t ∷ ts) = pick (is head_line (kind_of t.bytes)) (is_other reg (day_of t.bytes)) false

-- 9 at that place?
unfoldable pub is_nine : ℕ → ℕ → Brief → Bool
is_nine l p (No n l' p') = pick (eqb n 9) (pick (eqb l l') (eqb p p') false) false
is_nine l p (Yes h r w) = false

-- a 9 that the file's own judgement does not give at that place is 22; all else stays
unfoldable pub turned : Brief → Brief → Brief
turned plain (No n l p) = pick (eqb n 9) (pick (is_nine l p plain) (No 9 l p) (No 22 l p)) (No n l p)
turned plain (Yes h r w) = Yes h r w
