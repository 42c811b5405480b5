-- Parts found one after another by their places, in the order of the code. Assumes nothing.
use Rattle.std.specs.Prelude.{ℕ, ◌+◌, ◌-◌, List, eqb, ltb, length, drop}
use Rattle.base.specs.Pick.{pick}
use Rattle.base.specs.Seek.{seek}
use Rattle.paper.specs.Bytes.{bar}
use Rattle.text.specs.declared.span.Span.{Span}
use Rattle.text.specs.declared.span.Part.{Part}
use Rattle.text.specs.declared.span.Spans.{Spans}

abbrev pub span : ℕ → ℕ → Span
span at len = record { at = at; len = len }

-- a part of a text of n bytes that begins at a and ends at e; the next one begins behind the `|`, or at the end if there is none
unfoldable pub part_to : ℕ → ℕ → ℕ → Part
part_to n a e = record { at = a; len = e - a; next = pick (ltb e n) (e + 1) e }

-- the part of m that begins at a
abbrev pub part_at : List ℕ → ℕ → Part
part_at m a = part_to (length m) a (a + seek bar (drop a m))

-- 1 for a part that a `|` ends
abbrev pub ended : Part → ℕ
ended p = p.next - p.at - p.len

-- cut to 35; the place of an empty text is 0
unfoldable pub placed : ℕ → ℕ → Span
placed at len = pick (eqb len 0) (span 0 0) (pick (ltb 35 len) (span at 35) (span at len))

-- 1 for a text that is cut
unfoldable pub longer : ℕ → ℕ
longer len = pick (ltb 35 len) 1 0

abbrev pub cuts_of : ℕ → ℕ → ℕ → ℕ → ℕ → ℕ
cuts_of a b c d n = longer a + longer b + longer c + longer d + longer n

-- four parts, and a name at `at`, cut
unfoldable pub found_at : Part → Part → Part → Part → ℕ → ℕ → Spans
found_at a b c d at len =
    record {
      part1 = placed a.at a.len;
      part2 = placed b.at b.len;
      part3 = placed c.at c.len;
      part4 = placed d.at d.len;
      name = placed at len;
      warnings = cuts_of a.len b.len c.len d.len len;
    }

-- one part alone, and a name at `at`, cut
unfoldable pub one_at : ℕ → ℕ → ℕ → ℕ → Spans
one_at from size at len =
    record {
      part1 = placed from size;
      part2 = span 0 0;
      part3 = span 0 0;
      part4 = span 0 0;
      name = placed at len;
      warnings = longer size + longer len;
    }

-- the parts one after another, each told where to begin by the one before
unfoldable pub four_from : List ℕ → ℕ → ℕ → ℕ → Spans
four_from m from at len = one (part_at m from)
  where
    four : Part → Part → Part → Part → Spans
    four a b c d = found_at a b c d at len

    three : Part → Part → Part → Spans
    three a b c = four a b c (part_at m c.next)

    two : Part → Part → Spans
    two a b = three a b (part_at m b.next)

    one : Part → Spans
    one a = two a (part_at m a.next)
