-- The ways out of the functions that put what an item's line warns of. Assumes nothing.
use mathlib.Core.Path.{◌≡◌, sym}
use mathlib.Core.Bool.{Bool, true}
use mathlib.Core.List.{List}
use Prim.Native.Nat.{ℕ, ◌+◌, ◌-◌, ◌/◌, ◌≤◌, ◌<◌}
use native.Mathlib.Omega.{arith}
use lib.ListN.{length, take, drop, length-take, length-drop}
use Rattle.base.proofs.Seek.{never}
use Rattle.std.proofs.Common.{Result, Ok, Err}
use Rattle.refusal.specs.declared.Refusal.{Refusal}
use Rattle.refusal.specs.Numbers.{number_of}
use Rattle.sheet.specs.declared.Style.{Style}
use Rattle.sheet.specs.declared.Sheet.{Sheet}
use Rattle.paper.specs.Bytes.{field_of}
use Rattle.paper.specs.Numerals.{digits}
use Rattle.paper.specs.Lines.{line}
use Rattle.paper.specs.Entries.{counted}
use Rattle.paper.specs.ItemLine.{is_value, read_item}
use Rattle.numeral.specs.counted.Counted.{Counted}
use Rattle.numeral.specs.field.At.{field_at}
use Rattle.numeral.specs.field.Told.{told}
use Rattle.numeral.specs.declared.field.Run.{Run}
use Rattle.numeral.proofs.field.Front.{field-long}
use Rattle.numeral.proofs.field.Steps.{found-value, found-end, missed-fault}
use Rattle.text.specs.declared.span.Span.{Span}
use Rattle.text.specs.span.Held.{Held}
use Rattle.itemline.specs.declared.Fields.{Fields}
use Rattle.itemline.specs.Told as item
use Rattle.itemline.specs.Walk.{any_bank}
use Rattle.why.specs.Names.{field_number}
use Rattle.why.specs.Warned.{part_name, part_from}
use Rattle.listing.specs.declared.Telling.{Telling}
use Rattle.listing.specs.Listed.{listed}
use Rattle.listing.specs.item.Warned.{item_warned}
use Rattle.listing.specs.item.Found.{bank_place, digit_warned, priority_warned, cut_warned, part_warned, name_warned, texts_warned}
use Rattle.listing.proofs.Putting.{none-put, both-put, lt-put, ge-put}
use Rattle.listing.proofs.item.Found.{spells, item-found}

pub digit-end : (w : List ℕ) (from : ℕ) (m : Result Run Refusal) → told m ≡ field_at (digits 8 10) w from → (d : Run) → m ≡ Ok d → from ≤ d.end
digit-end w from m g d q = omega (arith, found-end (digits 8 10) w from d.value d.end (rw q at g))

module _ (t : Telling) (f : List ℕ) {o : List ℕ} {at : ℕ} where
  module _ (k start : ℕ) (w : List ℕ) where
    -- ---- put_priority: m is what number_at answered

    module _ (from : ℕ) (m : Result Run Refusal) (g : told m ≡ field_at (digits 8 10) w from) where
      pub digit-put : {o1 : List ℕ} {r : ℕ} (d : Run) → m ≡ Ok d → Counted o at (listed t f (digit_warned k (start + from) (d.end - from) (d.value / 100000000))) o1 r
          → Counted o at (listed t f (priority_warned k (line start w) from)) o1 r
      unfolding priority_warned
      digit-put d q c =
          let h = rw q at g in
          let z = spells (field_of (drop from w)) d.value (found-value (digits 8 10) w from d.value d.end h) in
          let l : length (field_of (drop from w)) ≡ d.end - from = omega (arith, found-end (digits 8 10) w from d.value d.end h, field-long (drop from w)) in
          rw (z, l) c

      pub digit-none : {o1 : List ℕ} {r : ℕ} (c : Refusal) → m ≡ Err c → is_value (digits 8 10 (field_of (drop from w))) ≡ true
          → Counted o at (listed t f (priority_warned k (line start w) from)) o1 r
      unfolding is_value
      digit-none c q v = never (sym (rw (missed-fault (digits 8 10) w from (number_of c) (rw q at g)) at v))

    -- ---- put_part and put_name

    module _ (x : Span) where
      module _ (y : Style) (ps : List ℕ) where
        pub part-short : x.len < 35 → Counted o at (listed t f (part_warned y k (line start w) ps x)) o at
        unfolding part_warned
        part-short h = lt-put t f _ _ x.len 35 h (none-put t f)

        pub part-long : {o1 : List ℕ} {r : ℕ} (n m : ℕ) → 35 ≤ x.len → n ≡ length (part_from y (drop x.at w)) → m ≡ field_number (part_name x.at ps)
            → Counted o at (listed t f (cut_warned 1012 k (start + x.at) n m)) o1 r → Counted o at (listed t f (part_warned y k (line start w) ps x)) o1 r
        unfolding part_warned
        part-long n m h e i c = ge-put t f _ _ x.len 35 h (rw (e, i) at c)

      pub name-short : x.len < 35 → Counted o at (listed t f (name_warned k (line start w) x)) o at
      unfolding name_warned
      name-short h = lt-put t f _ _ x.len 35 h (none-put t f)

      pub name-long : {o1 : List ℕ} {r : ℕ} → 35 ≤ x.len → Counted o at (listed t f (cut_warned 1013 k (start + x.at) (length w - x.at) 41)) o1 r
          → Counted o at (listed t f (name_warned k (line start w) x)) o1 r
      unfolding name_warned field_number
      name-long h c = ge-put t f _ _ x.len 35 h (rw (length-drop x.at w) c)

    -- ---- put_warnings: x are the fields that were taken, b the bank field's place

    pub warnings-put : {o1 o2 : List ℕ} {r q : ℕ} (sh : Sheet) (today : ℕ) (single : Bool) (x : Fields) (b : ℕ) → sh.text.most ≤ 4 → Held w x.texts
        → item.told w x ≡ counted (read_item sh any_bank single w) → b ≡ bank_place single w
        → Counted o at (listed t f (priority_warned k (line start w) b)) o1 r → Counted o1 r (listed t f (texts_warned sh.text k (line start w) x.texts)) o2 q
        → Counted o at (listed t f (item_warned sh today k (line start w) single)) o2 q
    warnings-put sh today single x b four h g e u v = rw (item-found sh single w four today k start x h g, ← e) (both-put t f _ _ u v)

pub ruleset priorities = (digit-put, digit-none, digit-end)

pub ruleset parts = (part-short, part-long)

pub ruleset names = (name-short, name-long)

-- put_item
pub line-room : (f : List ℕ) (start stop : ℕ) → start ≤ stop → stop ≤ length f → start + length (take (stop - start) (drop start f)) ≤ length f
line-room f start stop h l = omega (arith, length-take (stop - start) (drop start f), length-drop start f)
