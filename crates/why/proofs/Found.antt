-- The finding of a refused file is of its first fault, and says it truly. Assumes nothing.
use mathlib.Core.Path.{◌≡◌, refl, sym, ap, ◌∙◌}
use mathlib.Core.Bool.{true, false}
use mathlib.Core.List.{List, ◌∷◌}
use Prim.Native.Nat.{ℕ, suc, ◌+◌}
use lib.Dec.{ltb}
use lib.ListN.{length}
use Rattle.base.specs.Pick.{pick}
use Rattle.base.proofs.Cases.{either, pick_true, pick-false}
use Rattle.sheet.specs.declared.Sheet.{Sheet}
use Rattle.sheet.proofs.Laws.{Sane}
use Rattle.paper.specs.Warnings.{Notice}
use Rattle.paper.specs.Bytes.{null}
use Rattle.paper.specs.Batch.{sum, most14}
use Rattle.paper.specs.Lines.{Line, lines_of}
use Rattle.paper.specs.Entries.{Saying, got, no, group_end, kind_of}
use Rattle.paper.specs.Spells.{Context, read_as, read_line}
use Rattle.paper.specs.Judge.{Answer, Refused, InGroup, State, at_first, at_item, context_of, is_due, is_full, items_of, step}
use Rattle.paper.specs.FirstFault.{Lawful, Broken, ends_first, ends_none, ends_file, ends_group, not-due, full, in_line, total, FirstFault}
use Rattle.paper.proofs.Passing.{counted-no, counted-said}
use Rattle.exact.proofs.Told.{told-line, kind-group-end}
use Rattle.exact.proofs.Moves.{Moves, heads, opens, begins, more, closes, finishes, moves-step}
use Rattle.exact.proofs.faults.Reached.{reached-by}
use Rattle.exact.proofs.faults.Halts.{stops}
use Rattle.why.specs.Walk.{Walked, passed, why_as, mark}
use Rattle.why.specs.Told.{Told, fine, by-rule, by-form}
use Rattle.why.specs.declared.Finding.{Finding}
use Rattle.why.specs.Finding.{halted, halting, halt_on, found_at, found_in, blame, early, not_due, too_many, at_total, total_found, on_walked}
use Rattle.why.specs.Blames.{Blames, ends_first as ended-first, ends_none as ended-none, ends_file as ended-file, ends_group as ended-group, not-due as other, full as over, in_field, in_form, total as wrong-total, TrueOf, Names}
use Rattle.why.proofs.Lines.{tells}

module _ (sh : Sheet) (today : ℕ) where
  -- ---- where judging halts

  -- a line that moves the state on is passed
  pub moves-going : (k : ℕ) (t : Line) (st new : State) → Moves sh today k t st new → halted new ≡ false
  unfolding halted
  moves-going k t st new (heads q) = refl
  moves-going k t st new (opens few q) = refl
  moves-going k t st new (begins q) = refl
  moves-going k t st new (more free q) = refl
  moves-going k t st new (closes some q good) = refl
  moves-going k t st new (finishes some q) = refl

  on : (k : ℕ) (t : Line) (st new : State) → Moves sh today k t st new → (after : List Line) → halt_on sh today k (t ∷ after) st ≡ halt_on sh today (suc k) after new
  unfolding halt_on
  on k t st new m after =
      let e : step sh today k t st ≡ new = moves-step sh today k t m in
      pick-false _ _ (ap halted e ∙ moves-going k t st new m) ∙ ap (halt_on sh today (suc k) after) e

  -- at a broken rule it halts
  here : {size k : ℕ} {rb after : List Line} {st : State} {a : Answer} → Lawful sh today rb st → Broken sh today size k st after a
      → halt_on sh today k after st ≡ halting k after st
  unfolding halt_on halted
  here l ends_first = refl
  here l (ends_none none) = refl
  here l ends_file = refl
  here l ends_group = refl
  here {size} {k} l (not-due {ts = ts} d) = pick_true _ _ (ap halted (stops sh today size k l (not-due {ts = ts} d)))
  here {size} {k} l (full {ts = ts} d f) = pick_true _ _ (ap halted (stops sh today size k l (full {ts = ts} d f)))
  here {size} {k} l (in_line {ts = ts} d f q) = pick_true _ _ (ap halted (stops sh today size k l (in_line {ts = ts} d f q)))
  here {size} {k} l (total {ts = ts} some q e) = pick_true _ _ (ap halted (stops sh today size k l (total {ts = ts} some q e)))

  pub halts_at : (f : List ℕ) {a : Answer} (o : FirstFault sh today f a) → halt_on sh today 1 (lines_of 0 f) at_first ≡ halting (suc (length o.before)) o.after o.so_far
  halts_at f o = rw o.split (reached-by sh today (halt_on sh today) on o.lawful o.after ∙ here o.lawful o.broken)

  -- ---- what is found there

  module _ (sane : Sane sh) (f : List ℕ) where
    -- a line that is refused: with its number, at its offset
    by-line : {k : ℕ} {st : State} {t : Line} {ts : List Line} {n off : ℕ} {q : Walked} (z : Finding)
        → is_due st (kind_of t.bytes) ≡ true → is_full sh st (kind_of t.bytes) ≡ false
        → Told sh today (context_of st) t.bytes (mark (kind_of t.bytes)) {A = Saying (List Notice)} (no n off) q
        → Blames sh today f k st (t ∷ ts) (on_walked q k t.start z) × Names (on_walked q k t.start z) n k (t.start + off)
    unfolding on_walked
    by-line z d g (by-rule {len = len} {name = name} m clear b) = (in_field len name d g clear b, record { number = m; line = refl; byte = refl })
    by-line z d g (by-form {name = name} clear m) = (in_form name d g clear m, record { number = refl; line = refl; byte = refl })

    -- a line that is read passes
    by-pass : {c : Context} {w : List ℕ} {from : ℕ} {x : Saying (List Notice)} {q : Walked} → Told sh today c w from (got x) q → q ≡ passed
    by-pass fine = refl

    -- a line that closes a group passes, and its total is what is found
    at-closing : (k : ℕ) (t : Line) (x : InGroup) → kind_of t.bytes ≡ group_end → null x.items ≡ false
        → why_as sh today (context_of (at_item x)) t.bytes (kind_of t.bytes) ≡ passed
        → blame sh today f k t (kind_of t.bytes) (at_item x) ≡ total_found f x (sum (items_of x))
    unfolding blame on_walked at_total is_due is_full pick
    at-closing k t x kind some w = rw w (rw (kind, some))

    total-names : (x : InGroup) (exact : ℕ) → Names (total_found f x exact) 10 x.head.line x.head.byte
    unfolding total_found
    total-names x exact =
        either (λ (z : Finding). Names z 10 x.head.line x.head.byte) (ltb most14 exact)
        (λ _. record { number = refl; line = refl; byte = refl })
        (λ _. record { number = refl; line = refl; byte = refl })

    -- what is found at a broken rule blames it, and has its number, line and byte
    pub found-there : {k : ℕ} {st : State} {after : List Line} {n l b : ℕ} → Broken sh today (length f) k st after (Refused n l b)
        → Blames sh today f k st after (found_at sh today f k after st) × Names (found_at sh today f k after st) n l b
    unfolding found_at blame read_line at_total total_found early not_due too_many
    found-there ends_first = (ended-first, record { number = refl; line = refl; byte = refl })
    found-there (ends_none none) = (ended-none none, record { number = refl; line = refl; byte = refl })
    found-there ends_file = (ended-file, record { number = refl; line = refl; byte = refl })
    found-there ends_group = (ended-group, record { number = refl; line = refl; byte = refl })
    found-there (not-due d) = rw (pick-false _ _ d) (other d, record { number = refl; line = refl; byte = refl })
    found-there (full d g) = rw (pick_true _ _ d, pick_true _ _ g) (over d g, record { number = refl; line = refl; byte = refl })
    found-there {st = st} (in_line {t = t} {n = n} {off = off} d g q) =
        rw (pick_true _ _ d, pick-false _ _ g)
        (by-line _ d g (rw (sym (counted-no (read_as sh today (context_of st) (kind_of t.bytes) t.bytes) n off (sym q))) at (tells sh sane today (context_of st) t.bytes (kind_of t.bytes))))
    found-there {k = k} (total {x = x} {t = t} some (p, q) e) =
        let kind : kind_of t.bytes ≡ group_end = kind-group-end (told-line sh today _ t.bytes _ q) in
        let (v, r) = counted-said (read_as sh today (context_of (at_item x)) (kind_of t.bytes) t.bytes) (sym q) in
        let w : why_as sh today (context_of (at_item x)) t.bytes (kind_of t.bytes) ≡ passed
        = by-pass (rw r at (tells sh sane today (context_of (at_item x)) t.bytes (kind_of t.bytes))) in
        rw (at-closing k t x kind some w) (wrong-total some (p, q) e, total-names x (sum (items_of x)))

    -- The finding of a refused file is true, and has the refusal's number, line and byte.
    pub found-true : {n l b : ℕ} → FirstFault sh today f (Refused n l b) → TrueOf sh today f (found_in sh today f) × Names (found_in sh today f) n l b
    unfolding found_in
    found-true o =
        let (blames, names) = found-there o.broken in
        rw (halts_at f o) (record { before = o.before; after = o.after; split = o.split; so_far = o.so_far; lawful = o.lawful; blames = blames }, names)
