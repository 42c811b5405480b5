-- A line that is not refused. Document 01, "Lines". Assumes nothing.
use Rattle.std.specs.Prelude.{Bool, true, false}
use Rattle.paper.specs.Entries.{Said, got, no}

-- does the line say something?
unfoldable pub is_said : {A : Type 0} → Said A → Bool
is_said (got x) = true
is_said (no n at) = false
