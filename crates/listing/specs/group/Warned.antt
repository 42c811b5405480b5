-- What a group's line warns of. Document 02, W-205. Assumes nothing.
use Rattle.std.specs.Prelude.{ℕ, ◌+◌, ◌-◌, Bool, List, [], ◌++◌, map, length, take, drop}
use Rattle.sheet.specs.declared.Sheet.{Sheet}
use Rattle.paper.specs.Bytes.{field_of}
use Rattle.paper.specs.Lines.{Line, line}
use Rattle.paper.specs.Entries.{on_group}
use Rattle.paper.specs.GroupLine.{read_group}
use Rattle.why.specs.declared.Finding.{Finding}
use Rattle.why.specs.Warned.{on_listed, noticed, differing}

-- what a group's line warns of, whose items sum up to `exact`: line k, the line t, its day judged here or not
unfoldable pub group_warned : Sheet → ℕ → ℕ → Line → Bool → ℕ → List Finding
group_warned sh today k t here exact =
    on_listed (read_group sh today here t.bytes)
    (λ x. on_group x.entry (λ payer total date. differing k t x.places.total total exact) [] [] ++ map (noticed sh today k t x.places) x.warnings)
    []

-- the bytes of the file f from `start` to `stop`
abbrev pub cut : List ℕ → ℕ → ℕ → List ℕ
cut f start stop = take (stop - start) (drop start f)

-- .. as a line of it
abbrev pub line_in : List ℕ → ℕ → ℕ → Line
line_in f start stop = line start (cut f start stop)

-- a warning of line k by its cause, at the field of that number and offset, and what was allowed there
unfoldable pub at_field : ℕ → Line → ℕ → ℕ → ℕ → ℕ → ℕ → Finding
at_field k t off why field a z =
    record { number = 0; cause = why; line = k; byte = t.start + off; length = length (field_of (drop off t.bytes)); field = field; least = a; most = z }
