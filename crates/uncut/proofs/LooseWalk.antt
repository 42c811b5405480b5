-- What is accepted with one style of texts is accepted with a looser one, though perhaps as another batch. Assumes nothing.
use mathlib.Core.Path.{◌≡◌, refl, sym, ap, ◌∙◌}
use mathlib.Core.Bool.{Bool}
use mathlib.Core.List.{List, [], ◌∷◌}
use Prim.Native.Nat.{ℕ, ◌+◌}
use native.Mathlib.Omega.{arith}
use lib.ListN.{length}
use Rattle.sheet.specs.declared.Sheet.{Sheet}
use Rattle.sheet.specs.declared.Style.{Style}
use Rattle.paper.specs.Accounts.{is_nobody}
use Rattle.paper.specs.Batch.{Item, Group, AccountFile, Batch, Header, sum}
use Rattle.paper.specs.Lines.{Line, lines_of}
use Rattle.paper.specs.Entries.{Entry, head, file, group, item, close_group, close_file}
use Rattle.paper.specs.FileLine.{series}
use Rattle.paper.specs.Spells.{for_group, for_item, Context, Reads, Due, due, item_dues, group_dues, file_dues, dues, SaysEntry, Each, group_items, file_items, GroupRules, FileRules, Rules}
use Rattle.paper.specs.Judge.{Accepted, judge}
use Rattle.exact.proofs.Main.{exact}
use Rattle.uncut.specs.Severe.{restyled}
use Rattle.uncut.specs.Looser.{Looser}
use Rattle.uncut.proofs.Loose.{Words, reworded, in_words, line-loose}

-- ---- entries that are due, but for the words of items

-- the same entries are due in the same contexts, items in other words
abbrev Alike : List Due → List Due → Type 0
Alike [] [] = Unit {0}
Alike [] (e ∷ es) = ⊥
Alike (d ∷ ds) [] = ⊥
Alike (d ∷ ds) (e ∷ es) = (o : Words) × (e ≡ due d.context (in_words d.entry o)) × Alike ds es

-- such entries are those of some items of the same sum, and of a rest
record Items (c : Context) (xs : List Item) (r es : List Due) : Type 0 where
  items : List Item
  rest : List Due
  are : es ≡ item_dues c items rest
  sums : sum items ≡ sum xs
  many : length items ≡ length xs
  alike : Alike r rest

-- .. of some groups, which keep the rules
record Groups (kind : ℕ) (gs : List Group) (r es : List Due) : Type 0 where
  groups : List Group
  rest : List Due
  are : es ≡ group_dues kind groups rest
  rules : GroupRules gs → GroupRules groups
  counts : group_items groups ≡ group_items gs
  many : length groups ≡ length gs
  alike : Alike r rest

-- .. of some account files
record Files (h : Header) (seen : List ℕ) (fs : List AccountFile) (es : List Due) : Type 0 where
  files : List AccountFile
  are : es ≡ file_dues h seen files
  rules : FileRules fs → FileRules files
  counts : file_items files ≡ file_items fs
  many : length files ≡ length fs

-- what is due first, and what is due behind it
both-due : {d e : Due} {ds es : List Due} → d ≡ e → ds ≡ es → (d ∷ ds) ≡ (e ∷ es)
both-due p q = rw (p, q)

items_alike : (c : Context) (xs : List Item) (r es : List Due) → Alike (item_dues c xs r) es → Items c xs r es
unfolding item_dues sum
items_alike c [] r [] a = absurd a
items_alike c [] r (e ∷ es) (o, q, a) = record { items = []; rest = es; are = rw q; sums = refl; many = refl; alike = a }
items_alike c (x ∷ xs) r [] a = absurd a
items_alike c (x ∷ xs) r (e ∷ es) (o, q, a) =
    let i = items_alike c xs r es a in
    record {
      items = reworded x o ∷ i.items;
      rest = i.rest;
      are = both-due q i.are;
      sums = omega (arith, i.sums);
      many = omega (arith, i.many);
      alike = i.alike;
    }

groups-alike : (kind : ℕ) (gs : List Group) (r es : List Due) → Alike (group_dues kind gs r) es → Groups kind gs r es
unfolding group_dues group_items
groups-alike kind [] r [] a = absurd a
groups-alike kind [] r (e ∷ es) (o, q, a) =
    record { groups = []; rest = es; are = rw q; rules = λ _. tt; counts = refl; many = refl; alike = a }
groups-alike kind (g ∷ gs) r [] a = absurd a
groups-alike kind (g ∷ gs) r (e ∷ es) (o, q, a) =
    let i = items_alike (for_item kind g.date (is_nobody g.payer)) g.items (group_dues kind gs r) es a in
    let j = groups-alike kind gs r i.rest i.alike in
    record {
      groups = record { date = g.date; payer = g.payer; items = i.items } ∷ j.groups;
      rest = j.rest;
      are =
          both-due (q ∙ ap (λ (n : ℕ). due (for_group kind) (group g.payer n g.date)) (sym i.sums))
          (i.are ∙ ap (λ (ds : List Due). item_dues (for_item kind g.date (is_nobody g.payer)) i.items ds) j.are);
      rules = λ (some, most, rules). (omega (arith, some, i.many), omega (arith, most, i.sums), j.rules rules);
      counts = omega (arith, i.many, j.counts);
      many = omega (arith, j.many);
      alike = j.alike;
    }

files-alike : (h : Header) (seen : List ℕ) (fs : List AccountFile) (es : List Due) → Alike (file_dues h seen fs) es → Files h seen fs es
unfolding file_dues file_items
files-alike h seen [] [] a = record { files = []; are = refl; rules = λ _. tt; counts = refl; many = refl }
files-alike h seen [] (e ∷ es) a = absurd a
files-alike h seen (f ∷ fs) [] a = absurd a
files-alike h seen (f ∷ fs) (e ∷ es) (o, q, a) =
    let i = groups-alike f.kind f.groups (file_dues h (series f.number ∷ seen) fs) es a in
    let j = files-alike h (series f.number ∷ seen) fs i.rest i.alike in
    record {
      files = record { kind = f.kind; number = f.number; groups = i.groups } ∷ j.files;
      are = both-due q (i.are ∙ ap (λ (ds : List Due). group_dues f.kind i.groups ds) j.are);
      rules = λ (some, most, each, rules). (omega (arith, some, i.many), omega (arith, most, i.counts), i.rules each, j.rules rules);
      counts = omega (arith, i.counts, j.counts);
      many = omega (arith, j.many);
    }

-- .. of a batch: its first line, and its account files
batch-alike : (h : Header) (b : Batch) (es : List Due) → Alike (dues h b) es
    → (c : Batch) × (es ≡ dues h c) × (length c ≡ length b) × (file_items c ≡ file_items b) × (FileRules b → FileRules c)
unfolding dues
batch-alike h b [] a = absurd a
batch-alike h b (e ∷ es) (o, q, a) =
    let i = files-alike h [] b es a in (i.files, both-due q i.are, i.many, i.counts, i.rules)

module _ (sh : Sheet) (y z : Style) (strict : Bool) (looser : Looser y z) (today : ℕ) where
  -- ---- one line

  module _ (s : List ℕ) (c : Context) where
    reads-also : (e : Entry) (w : ℕ) → Reads (restyled sh y strict) today s c e w
        → (o : Words) × (v : ℕ) × Reads (restyled sh z strict) today s c (in_words e o) v
    reads-also e w (p, q) = let (o, v, at, r) = line-loose sh y z strict looser today c s e w p q in (o, v, (at, r))

    says-also : (e : Entry) (w : ℕ) → SaysEntry (restyled sh y strict) today s c e w
        → (o : Words) × (v : ℕ) × SaysEntry (restyled sh z strict) today s c (in_words e o) v
    says-also (head h) w r = reads-also _ w r
    says-also (file k n) w r = reads-also _ w r
    says-also (group payer exact date) w (total, v, r, same, q) =
        let (o, u, t) = reads-also (group payer total date) v r in (o, _, (total, u, t, same, refl))
    says-also (item x) w r = reads-also _ w r
    says-also close_group w r = reads-also _ w r
    says-also close_file w r = reads-also _ w r

  -- ---- all lines

  each-also : (ts : List Line) (ds : List Due) (w : ℕ) → Each (restyled sh y strict) today ts ds w
      → (es : List Due) × (v : ℕ) × Alike ds es × Each (restyled sh z strict) today ts es v
  each-also [] [] w e = ([], 0, tt, refl)
  each-also [] (d ∷ ds) w e = absurd e
  each-also (t ∷ ts) [] w e = absurd e
  each-also (t ∷ ts) (d ∷ ds) w (v, u, r, e, q) =
      let (o, n, s) = says-also t.bytes d.context d.entry v r in
      let (es, m, a, i) = each-also ts ds u e in
      (due d.context (in_words d.entry o) ∷ es, n + m, (o, refl, a), (n, m, s, i, refl))

  -- ---- a file

  -- What is accepted is accepted with the looser style too, with the same header, as some batch.
  pub also-accepted : (f : List ℕ) (h : Header) (b : Batch) (w : ℕ) → judge (restyled sh y strict) today f ≡ Accepted h b w
      → (c : Batch) × (v : ℕ) × (judge (restyled sh z strict) today f ≡ Accepted h c v)
  also-accepted f h b w e =
      let s = (exact (restyled sh y strict) today f h b w).0 e in
      let (some, few, items, each) = s.rules in
      let (es, v, a, lines) = each-also (lines_of 0 f) (dues h b) w s.lines in
      let (c, are, many, counts, rules) = batch-alike h b es a in
      let kept : Rules (restyled sh z strict) c = (omega (arith, some, many), omega (arith, few, many), omega (arith, items, counts), rules each) in
      (c, v, (exact (restyled sh z strict) today f h c v).1 (record { lines = rw are at lines; rules = kept }))
