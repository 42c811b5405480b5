-- What a line says with one style of texts it says with a looser one, but for the words of an item. Assumes nothing.
use mathlib.Core.Path.{◌≡◌, refl, sym, ap, ◌∙◌}
use mathlib.Core.Bool.{Bool}
use mathlib.Core.List.{List, [], ◌∷◌}
use Prim.Native.Nat.{ℕ}
use native.Mathlib.Omega.{arith}
use lib.ListN.{length}
use Rattle.base.proofs.Cases.{either_way}
use Rattle.sheet.specs.declared.Sheet.{Sheet}
use Rattle.sheet.specs.declared.Style.{Style}
use Rattle.sheet.specs.Sheets.{kind_allowed, bank_allowed}
use Rattle.paper.specs.Read.{Field, value, fault}
use Rattle.paper.specs.Warnings.{Notice}
use Rattle.paper.specs.Terms.{collection, day_here, bank_due}
use Rattle.paper.specs.Accounts.{Account, nobody}
use Rattle.paper.specs.Batch.{Item}
use Rattle.paper.specs.Texts.{Noted, read_text}
use Rattle.paper.specs.Entries.{Entry, head, file, group, item, close_group, close_file, Places, Listed, said, no, counted, on_field, field, gap, Kind, head_line, file_line, group_line, item_line, group_end, file_end, kind_of}
use Rattle.paper.specs.FirstLine.{read_first}
use Rattle.paper.specs.FileLine.{read_kind, read_code, read_file}
use Rattle.paper.specs.GroupLine.{total_and_date, read_group}
use Rattle.paper.specs.ItemLine.{read_symbol, part_bytes, fixed_tail, after_symbol, open_tail, tail, from_payee, read_item}
use Rattle.paper.specs.Spells.{Numbers, any_number, after, Context, number_test, read_as, read_line}
use Rattle.paper.proofs.Passing.{same_parts, counted-said}
use Rattle.uncut.specs.Severe.{restyled}
use Rattle.uncut.specs.Looser.{Looser}
use Rattle.uncut.proofs.LooseTexts.{Some, text-some}

-- ---- other words

-- the words of an item: its parts and its name
pub record Words : Type 0 where
  pub parts : List (List ℕ)
  pub name : List ℕ

-- no words
abbrev no_words : Words
no_words = record { parts = []; name = [] }

-- an item with other words; all else is as the item has it
abbrev pub reworded : Item → Words → Item
reworded x o =
    record {
      payer = x.payer;
      payee = x.payee;
      bank = x.bank;
      amount = x.amount;
      variable = x.variable;
      specific = x.specific;
      constant = x.constant;
      priority = x.priority;
      parts = o.parts;
      name = o.name;
    }

-- an entry: an item has other words, all else stays
abbrev pub in_words : Entry → Words → Entry
in_words (head h) o = head h
in_words (file k n) o = file k n
in_words (group p t d) o = group p t d
in_words (item x) o = item (reworded x o)
in_words close_group o = close_group
in_words close_file o = close_file

-- every entry is in its own words
own : (e : Entry) → (o : Words) × (e ≡ in_words e o)
own (head h) = (no_words, refl)
own (file k n) = (no_words, refl)
own (group p t d) = (no_words, refl)
own (item x) = (record { parts = x.parts; name = x.name }, refl)
own close_group = (no_words, refl)
own close_file = (no_words, refl)

-- ---- the ways to read on

-- what the first reading says the second one says in some words, perhaps with other warnings and places
pub record Loose (r q : Listed) : Type 0 where
  pub somehow : (e : Entry) (w : List Notice) (p : Places) → r ≡ said e w p
      → (o : Words) × (v : List Notice) × (at : Places) × (q ≡ said (in_words e o) v at)

refused-loose : {n off : ℕ} {q : Listed} → Loose (no n off) q
refused-loose = record { somehow = λ e w p h. absurd (let z : ◌≡◌ {A = ℕ} 0 1 = cc in omega arith) }

same-loose : {r : Listed} → Loose r r
same-loose = record { somehow = λ e w p h. let (o, q) = own e in (o, w, p, h ∙ ap (λ (x : Entry). said x w p) q) }

-- an item in other words
item-loose : (x : Item) (o : Words) {w v : List Notice} {p at : Places} → Loose (said (item x) w p) (said (item (reworded x o)) v at)
item-loose x o {v = v} {at = at} =
    record { somehow = λ e w p h. (o, v, at, ap (λ (g : Entry). said (in_words g o) v at) (same_parts h).0) }

on-loose : {A : Type 0} (at : ℕ) (x : Field A) {k l : A → Listed} → ((v : A) → Loose (k v) (l v)) → Loose (on_field at x k) (on_field at x l)
unfolding on_field
on-loose at (value v) h = h v
on-loose at (fault n) h = refused-loose

field_loose : {A : Type 0} (read : List ℕ → Field A) (at : ℕ) (s : List ℕ) {k l : A → ℕ → List ℕ → Listed}
    → ((v : A) (a : ℕ) (r : List ℕ) → Loose (k v a r) (l v a r)) → Loose (field read at s k) (field read at s l)
unfolding field
field_loose read at s h = on-loose at _ λ v. h v _ _

gap-loose : (at : ℕ) (s : List ℕ) {k l : ℕ → List ℕ → Listed} → ((a : ℕ) (r : List ℕ) → Loose (k a r) (l a r)) → Loose (gap at s k) (gap at s l)
unfolding gap
gap-loose at [] h = refused-loose
gap-loose at (x ∷ s) h = h _ _

-- a text, which the second one reads somehow
some-loose : (at : ℕ) (x q : Field Noted) {k : Noted → Listed} → Some x q → ((t u : Noted) → Loose (k t) (k u)) → Loose (on_field at x k) (on_field at q k)
unfolding on_field
some-loose at (value t) q s h = let (u, e) = s.somes t refl in rw e (h t u)
some-loose at (fault n) q s h = refused-loose

-- .. and so with its warnings counted
counted-loose : (r q : Listed) → Loose r q → (e : Entry) (w : ℕ) (p : Places) → counted r ≡ said e w p
    → (o : Words) × (v : ℕ) × (at : Places) × (counted q ≡ said (in_words e o) v at)
unfolding counted
counted-loose r q k e w p h =
    let (u, f) = counted-said r (sym h) in
    let (o, v, at, g) = k.somehow e u p f in
    (o, length v, at, ap counted g)

module _ (sh : Sheet) (y z : Style) (strict : Bool) (looser : Looser y z) where
  -- ---- an item

  module _ {k : ℕ → Noted → Listed} (other : (specific : ℕ) (t u : Noted) → Loose (k specific t) (k specific u)) where
    text-loose : (specific at : ℕ) (s : List ℕ) → Loose (on_field at (read_text y at s) (k specific)) (on_field at (read_text z at s) (k specific))
    text-loose specific at s = some-loose at _ _ (text-some y z looser at s) (other specific)

    fixed-loose : (at : ℕ) (s : List ℕ) → Loose (fixed_tail y k at s) (fixed_tail z k at s)
    unfolding fixed_tail
    fixed-loose at s =
        gap-loose at s λ a1 s1. field_loose _ a1 s1 λ specific a2 s2. gap-loose a2 s2 λ a3 s3. text-loose specific a3 s3

    after-loose : (specific at : ℕ) (s : List ℕ) → Loose (after_symbol y k specific at s) (after_symbol z k specific at s)
    unfolding after_symbol
    after-loose specific at [] = same-loose
    after-loose specific at (x ∷ s) = text-loose specific _ s

    open_loose : (bare : Bool) (at : ℕ) (s : List ℕ) → Loose (open_tail y k bare at s) (open_tail z k bare at s)
    unfolding open_tail
    open_loose bare at [] = same-loose
    open_loose bare at (x ∷ s) =
        either_way Loose _ (text-loose 0 _ s) (field_loose read_symbol _ s λ specific a1 s1. after-loose specific a1 s1)

    tail-loose : (at : ℕ) (s : List ℕ) → Loose (tail (restyled sh y strict) at s k) (tail (restyled sh z strict) at s k)
    unfolding tail
    tail-loose at s = either_way Loose _ (fixed-loose at s) (open_loose _ at s)

  payee-loose : (due : ℕ → Bool) (payer : Account) (at : ℕ) (s : List ℕ)
      → Loose (from_payee (restyled sh y strict) due payer at s) (from_payee (restyled sh z strict) due payer at s)
  unfolding from_payee
  payee-loose due payer at s =
      field_loose _ at s λ payee a1 s1.
      gap-loose a1 s1 λ a2 s2.
      field_loose _ a2 s2 λ amount a3 s3.
      gap-loose a3 s3 λ a4 s4.
      field_loose _ a4 s4 λ variable a5 s5.
      gap-loose a5 s5 λ a6 s6.
      field_loose _ a6 s6 λ bank a7 s7.
      tail-loose (λ specific t u. item-loose _ (record { parts = part_bytes u; name = u.name.bytes })) a7 s7

  item-line : (due : ℕ → Bool) (single : Bool) (s : List ℕ) → Loose (read_item (restyled sh y strict) due single s) (read_item (restyled sh z strict) due single s)
  unfolding read_item
  item-line due single s =
      either_way Loose single (field_loose _ 0 s λ payer a1 s1. gap-loose a1 s1 λ a2 s2. payee-loose due payer a2 s2) (payee-loose due nobody 0 s)

  -- ---- any line: no other kind has a text

  file-loose : (m : Numbers) (s : List ℕ)
      → Loose (read_file (restyled sh y strict) (number_test (restyled sh y strict) m) s) (read_file (restyled sh z strict) (number_test (restyled sh z strict) m) s)
  unfolding read_file read_kind read_code kind_allowed bank_allowed number_test
  file-loose any_number s = same-loose
  file-loose (after h seen) s = same-loose

  module _ (today : ℕ) (c : Context) where
    as-loose : (kind : Kind) (s : List ℕ) → Loose (read_as (restyled sh y strict) today c kind s) (read_as (restyled sh z strict) today c kind s)
    unfolding read_as read_first read_group total_and_date day_here bank_due collection
    as-loose head_line s = same-loose
    as-loose file_line s = file-loose c.numbers s
    as-loose group_line s = same-loose
    as-loose item_line s = item-line _ c.single s
    as-loose group_end s = same-loose
    as-loose file_end s = same-loose

    pub line-loose : (s : List ℕ) (e : Entry) (w : ℕ) (p : Places) → read_line (restyled sh y strict) today c s ≡ said e w p
        → (o : Words) × (v : ℕ) × (at : Places) × (read_line (restyled sh z strict) today c s ≡ said (in_words e o) v at)
    unfolding read_line
    line-loose s = counted-loose _ _ (as-loose (kind_of s) s)
