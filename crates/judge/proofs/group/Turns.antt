-- The answers of the readers of one line of a group, with what the code knows at each. Assumes nothing.
use mathlib.Core.Path.{◌≡◌, refl, sym, ap, ◌∙◌, fun_ext}
use mathlib.Core.Bool.{Bool, true, false}
use mathlib.Core.List.{List}
use Prim.Native.Nat.{ℕ, ◌+◌, ◌-◌, ◌≤◌, ◌<◌}
use native.Mathlib.Omega.{arith}
use borrow.Author.Tests.{le-leb, lt-leb, eq-eqb, ne_eqb}
use lib.ListN.{length, take, drop, length-take, length-drop}
use mir.Syntax.{w64}
use mir.Val.{Fits}
use Rattle.std.proofs.Common.{Result, Ok, Err}
use Rattle.base.specs.Pick.{pick}
use Rattle.refusal.specs.declared.Refusal.TheVariants.{BadOrder, TooMany, BadTotal}
use Rattle.refusal.specs.declared.Flaw.{Flaw}
use Rattle.refusal.specs.Numbers.{number_of}
use Rattle.sheet.specs.declared.Sheet.{Sheet}
use Rattle.sheet.specs.declared.Limits.{Limits}
use Rattle.sheet.specs.Sheets.{LimitsOf}
use Rattle.sheet.proofs.Laws.{Sane}
use Rattle.paper.specs.Batch.{Header}
use Rattle.paper.specs.Lines.{Line}
use Rattle.paper.specs.Entries.{Entry, head, file, group, item, close_group, close_file, Places, Counted, got, said, no, counted, Kind, item_line, group_end, kind_of, on_item, on_entry}
use Rattle.paper.specs.Terms.{bank_due}
use Rattle.paper.specs.ItemLine.{read_item}
use Rattle.paper.specs.ClosingLine.{read_close}
use Rattle.paper.specs.Spells.{read_as, differs}
use Rattle.paper.specs.Judge.{total_broken}
use Rattle.paper.proofs.Passing.{counted-no}
use Rattle.paper.proofs.LineSays.{asking_number, group-end-says, item-says, refusal-in}
use Rattle.paper.proofs.Starts.{least, kind-long}
use Rattle.tally.specs.Tally.{context_of, is_due, is_full, meet, on_said, step}
use Rattle.tally.proofs.Small.{item-limits, differs-one}
use Rattle.scan.specs.declared.kind.LineKind.{LineKind}
use Rattle.scan.specs.declared.kind.LineKind.TheVariants as line
use Rattle.scan.specs.kind.Told as kinds
use Rattle.calendar.specs.declared.term.Banks.{Banks}
use Rattle.calendar.specs.term.Allows.{allows}
use Rattle.closing.specs.Told as closes
use Rattle.itemline.specs.declared.judge.Judged.{Judged}
use Rattle.itemline.specs.judge.Brief.{brief}
use Rattle.itemline.specs.judge.Told as items
use Rattle.itemline.proofs.judge.Brief.{brief-no}
use Rattle.judge.specs.declared.group.Held.{Held}
use Rattle.judge.specs.declared.group.Turn.{Turn}
use Rattle.judge.specs.declared.group.Turn.TheVariants as turn
use Rattle.judge.specs.declared.refused.Refused.{Refused}
use Rattle.judge.specs.refused.Lined.{refused, Within, lined}
use Rattle.judge.proofs.refused.Places.{was-ok, was-err}
use Rattle.judge.specs.group.Stands.{in_group, LowItem, line_in, held_more, Banked, Turns, closed_as}
use Rattle.judge.proofs.group.Steps.{not-due, no_room, by-fields}

-- a line's bytes in the file
abbrev pub cut : List ℕ → ℕ → ℕ → List ℕ
cut f at stop = take (stop - at) (drop at f)

-- the kind that was found is the kind that a reader asks for: r is what was found, v its name
pub is-kind : (s : List ℕ) (r : LineKind) → kinds.told r ≡ kind_of s → (v : LineKind) → r ≡ v → (kind : Kind) → kinds.told v ≡ kind → kind_of s ≡ kind
is-kind s r t v e kind k = sym (rw e at t) ∙ k

-- ---- places

-- a line that is known by two bytes has them
pub known-long : (s : List ℕ) (kind : Kind) → kind_of s ≡ kind → 2 ≤ least kind → 2 ≤ length s
known-long s kind e two = omega (arith, kind-long s kind e)

-- a place in the bytes from `at` to `stop` is a place in the file
pub within : (f : List ℕ) (at stop off : ℕ) → at ≤ stop → stop ≤ length f → off ≤ length (cut f at stop) → at + off ≤ stop
within f at stop off p q h = omega (arith, length-take (stop - at) (drop at f), length-drop at f)

-- a refused line's offset stays in the file
module _ (f : List ℕ) (at stop : ℕ) (p : at ≤ stop) (q : stop ≤ length f) where
  -- of a line that closes anything
  pub close-within : (sh : Sheet) → Sane sh → (kind : Kind) → kind_of (cut f at stop) ≡ kind → 2 ≤ least kind → (r : Result (Unit {0}) Flaw)
      → ((x : Entry) → closes.told x r ≡ read_close sh.near x (cut f at stop)) → Within r at stop
  close-within sh sane kind e two (Ok done) t = tt
  close-within sh sane kind e two (Err x) t =
      let u : no (number_of x.0) x.1 ≡ read_close sh.near close_group (cut f at stop) = t close_group in
      within f at stop x.1 p q (refusal-in (rw (← u) at (group-end-says sh 0 (asking_number (λ _. 0)) (cut f at stop))) (known-long (cut f at stop) kind e two))

  pub item-within : (sh : Sheet) (due : ℕ → Bool) (single : Bool) (r : Result Judged Flaw) → items.told r ≡ brief (counted (read_item sh due single (cut f at stop))) → Within r at stop
  item-within sh due single (Ok i) t = tt
  item-within sh due single (Err x) t =
      let u = counted-no (read_item sh due single (cut f at stop)) (number_of x.0) x.1 (brief-no (counted (read_item sh due single (cut f at stop))) (number_of x.0) x.1 t) in
      within f at stop x.1 p q (refusal-in (rw (← u) at (item-says sh 0 (λ _. 0) false due single (cut f at stop))) (omega arith))

-- ---- what a line says in a group

-- in a group nothing else of an item's line counts
brief-entry : (sh : Sheet) (k start : ℕ) (e : Entry) (v : ℕ) (p : Places) (h : Header) (l : List ℕ) (x : Held)
    → on_said sh k start (brief (said e v p)) (in_group h l x) ≡ on_said sh k start (said e v p) (in_group h l x)
unfolding on_said meet on_entry on_item brief
brief-entry sh k start (head a) v p h l x = refl
brief-entry sh k start (file kind number) v p h l x = refl
brief-entry sh k start (group payer total date) v p h l x = refl
brief-entry sh k start (item a) v p h l x = refl
brief-entry sh k start close_group v p h l x = refl
brief-entry sh k start close_file v p h l x = refl

by-brief : (sh : Sheet) (k start : ℕ) (r : Counted) (h : Header) (l : List ℕ) (x : Held) → on_said sh k start (brief r) (in_group h l x) ≡ on_said sh k start r (in_group h l x)
unfolding brief
by-brief sh k start (got t) h l x = brief-entry sh k start t.entry t.warnings t.places h l x
by-brief sh k start (no n off) h l x = refl

module _ (sh : Sheet) (today k : ℕ) (f : List ℕ) (at stop : ℕ) (x : Held) where
  undue : (h : Header) (l : List ℕ) (r : LineKind) → (r ≡ line.Item → ⊥) → (r ≡ line.GroupEnd → ⊥) → is_due (in_group h l x) (kinds.told r) ≡ false
  unfolding is_due pick
  undue h l line.Head i g = refl
  undue h l line.File i g = refl
  undue h l line.Group i g = refl
  undue h l line.Item i g = absurd (i refl)
  undue h l line.GroupEnd i g = absurd (g refl)
  undue h l line.FileEnd i g = refl

  -- out of turn: r is the kind that was found
  pub turn-other : (r : LineKind) → kinds.told r ≡ kind_of (cut f at stop) → (r ≡ line.Item → ⊥) → (r ≡ line.GroupEnd → ⊥)
      → Turns sh today k (line_in f at stop) x (refused BadOrder k at)
  unfolding step
  turn-other r t i g =
      record { same = λ h l. not-due sh today k (line_in f at stop) (in_group h l x) refl (kinds.told r) (sym t) (undue h l r i g) }

  -- an item
  module _ (e : kind_of (cut f at stop) ≡ item_line) where
    -- one too many of the account file
    pub turn-full-file : 99999 ≤ x.shelf.items → Turns sh today k (line_in f at stop) x (refused TooMany k at)
    unfolding step is_due is_full pick
    turn-full-file i =
        record { same = λ h l. no_room sh today k (line_in f at stop) (in_group h l x) refl item_line e refl (simp (le-leb _ _ i)) }

    -- m are the limits that the sheet gave
    module _ (i : x.shelf.items < 99999) (m : Limits) (of : LimitsOf sh m) where
      -- .. or of the file
      pub turn-full : m.items ≤ x.counts.items → Turns sh today k (line_in f at stop) x (refused TooMany k at)
      unfolding step is_due is_full pick
      turn-full j =
          let g : sh.fileitems ≤ x.counts.items = omega (arith, of.items) in
          record { same = λ h l. no_room sh today k (line_in f at stop) (in_group h l x) refl item_line e refl (simp (lt-leb _ _ i, le-leb _ _ g)) }

      module _ (j : x.counts.items < m.items) (banks : Banks) (r : Result Judged Flaw) (t : items.told r ≡ brief (counted (read_item sh (allows banks sh.bank) x.opened.single (cut f at stop))))
          (banked : Banked sh today banks x) where
        abbrev due : ℕ → Bool
        due = bank_due sh today x.shelf.kind x.opened.date

        told-due : items.told r ≡ brief (counted (read_item sh due x.opened.single (cut f at stop)))
        told-due = t ∙ ap (λ (d : ℕ → Bool). brief (counted (read_item sh d x.opened.single (cut f at stop)))) (fun_ext banked)

        judged-as : (v : Result Judged Flaw) → r ≡ v → (h : Header) (l : List ℕ) → on_said sh k at (items.told v) (in_group h l x) ≡ step sh today k (line_in f at stop) (in_group h l x)
        unfolding step is_due is_full context_of read_as pick
        judged-as v q h l =
            let g : x.counts.items < sh.fileitems = omega (arith, of.items) in
            ap (λ said. on_said sh k at said (in_group h l x)) (rw q at told-due)
            ∙ (by-brief sh k at (counted (read_item sh due x.opened.single (cut f at stop))) h l x
            ∙ by-fields sh today k (line_in f at stop) (in_group h l x) refl item_line e refl (simp (lt-leb _ _ i, lt-leb _ _ g)) _ refl)

        -- the same with the line's number and the byte in the file
        module _ (a : Result Judged Refused) (n : a ≡ lined r k at) where
          pub turn-item : (i : Judged) → a ≡ Ok i → Turns sh today k (line_in f at stop) x (Ok (turn.Item i))
          unfolding on_said meet on_entry on_item held_more
          turn-item i q = record { same = judged-as (Ok i) (was-ok k at r i (sym n ∙ q)) }

          pub turn-refused : (y : Refused) → a ≡ Err y → Turns sh today k (line_in f at stop) x (Err y)
          unfolding on_said
          turn-refused y q = let w = was-err k at r y (sym n ∙ q) in rw w.2 (record { same = judged-as (Err w.0) w.1 })

  -- a group's end
  module _ (e : kind_of (cut f at stop) ≡ group_end) where
    -- there is no item yet
    pub close-empty : x.opened.count ≡ 0 → Turns sh today k (line_in f at stop) x (refused BadOrder k at)
    unfolding step is_due pick
    close-empty z =
        record { same = λ h l. not-due sh today k (line_in f at stop) (in_group h l x) refl group_end e (simp (eq-eqb _ _ z)) }

    module _ (z : x.opened.count ≡ 0 → ⊥) (r : Result (Unit {0}) Flaw) (t : (y : Entry) → closes.told y r ≡ read_close sh.near y (cut f at stop)) where
      closed-as : (v : Result (Unit {0}) Flaw) → r ≡ v → (h : Header) (l : List ℕ) → on_said sh k at (counted (closes.told close_group v)) (in_group h l x) ≡ step sh today k (line_in f at stop) (in_group h l x)
      unfolding step is_due is_full read_as pick
      closed-as v q h l =
          by-fields sh today k (line_in f at stop) (in_group h l x) refl group_end e (simp (ne_eqb _ _ z)) refl _ (ap counted (rw q at (t close_group)))

      module _ (m : Result (Unit {0}) Refused) (n : m ≡ lined r k at) where
        pub close-closed : (u : Unit {0}) → m ≡ Ok u → Turns sh today k (line_in f at stop) x (Ok turn.Close)
        unfolding on_said meet on_entry on_item counted
        close-closed u q = record { same = closed-as (Ok u) (was-ok k at r u (sym n ∙ q)) }

        pub close-refused : (y : Refused) → m ≡ Err y → Turns sh today k (line_in f at stop) x (Err y)
        unfolding on_said counted
        close-refused y q = let w = was-err k at r y (sym n ∙ q) in rw w.2 (record { same = closed-as (Err w.0) w.1 })

-- where the banks do not count
pub any-banks : (sh : Sheet) (k : ℕ) (t : Line) (x : Held) (r : Result Turn Refused) (banks : Banks) → ((today : ℕ) → Turns sh today k t x r)
    → (today : ℕ) → Banked sh today banks x → Turns sh today k t x r
any-banks sh k t x r banks h today b = h today

-- ---- the group's end: t is whether its total is refused, d how many warnings it gives

module _ (strict : Bool) (at k : ℕ) (x : Held) (t : Bool) (e : t ≡ total_broken strict x.opened.total x.opened.sum) where
  pub end-broken : t ≡ true → refused BadTotal x.opened.line x.opened.byte ≡ closed_as strict at k x
  unfolding closed_as pick
  end-broken q = rw (← e, q)

  pub end_more : t ≡ false → (d : ℕ) → d ≡ differs x.opened.total x.opened.sum
      → Ok
      (record {
        at = at;
        line = k;
        counts = record { files = x.counts.files; items = x.counts.items; rows = x.counts.rows; warnings = x.counts.warnings + d };
        shelf = record { kind = x.shelf.kind; items = x.shelf.items; groups = x.shelf.groups + 1 };
      })
      ≡ closed_as strict at k x
  unfolding closed_as pick
  end_more q d w = rw (← e, q, w)

pub end_fits : (x : Held) → LowItem x → (d : ℕ) → d ≡ differs x.opened.total x.opened.sum → Fits w64 (x.counts.warnings + d)
end_fits x low d e = record { fits = omega (arith, (item-limits _ _ _ low).warnings, differs-one x.opened.total x.opened.sum) }

pub ruleset places = (known-long, close-within, item-within, end_fits)

pub ruleset turns = (any-banks, is-kind, turn-other, turn-full-file, turn-full, turn-item, turn-refused, close-empty, close-closed, close-refused)

pub ruleset ends = (end-broken, end_more)
