-- A line of each kind: what the narrower sheet says of it, the wider one says too. Assumes nothing.
use mathlib.Core.Path.{◌≡◌, refl, sym, ap, ◌∙◌}
use mathlib.Core.Bool.{Bool, true, false}
use mathlib.Core.List.{List, [], ◌∷◌}
use Prim.Native.Nat.{ℕ}
use native.Mathlib.Omega.{arith}
use lib.Dec.{eqb}
use lib.ListN.{length, length-append}
use Rattle.base.specs.Pick.{pick}
use Rattle.base.proofs.Cases.{either, either_way, pick-not, pick-false}
use Rattle.base.proofs.Seek.{never}
use Rattle.sheet.specs.declared.Sheet.{Sheet}
use Rattle.paper.specs.Read.{Field, value, fault}
use Rattle.paper.specs.Accounts.{Account, nobody}
use Rattle.paper.specs.Amounts.{read_total}
use Rattle.paper.specs.Warnings.{past_day, low_priority, Notice, notices}
use Rattle.paper.specs.Days.{due_warnings}
use Rattle.paper.specs.Batch.{Header, no_header}
use Rattle.paper.specs.Texts.{Noted, read_text}
use Rattle.paper.specs.Entries.{Entry, head, file, group, item, close_group, close_file, Places, Listed, said, plain, on_field, field, Kind, head_line, file_line, group_line, item_line, group_end, file_end, kind_of}
use Rattle.paper.specs.FirstLine.{read_first}
use Rattle.paper.specs.FileLine.{number_fault, number_allowed, read_file}
use Rattle.paper.specs.GroupLine.{has_payer, total_and_date, read_group}
use Rattle.paper.specs.ItemLine.{is_value, read_symbol, fixed_tail, after_symbol, open_tail, tail, item_of, from_payee, read_item}
use Rattle.paper.specs.ClosingLine.{plus_at, read_close}
use Rattle.paper.specs.Spells.{Numbers, any_number, after, Context, number_test, read_as, read_line}
use Rattle.uncut.specs.Wider.{Heads, read_alike, read_none, TextsOf, Wider}
use Rattle.paper.proofs.Passing.{same_parts}
use Rattle.uncut.proofs.Tests.{same_test, easier, besides}
use Rattle.uncut.proofs.Takes.{Takes, alike}
use Rattle.uncut.proofs.Fields.{kind-takes, code-takes, number-takes, account-takes, payer-takes, due-takes, same_here, same-due, bank-takes, amount-takes, item-amount-takes}
use Rattle.uncut.proofs.Texts.{text-takes}
use Rattle.uncut.proofs.Kept.{turned, Kept, said-kept, refused-kept, same_kept, field-kept, on-gone, place-gone, gap-kept, end_kept, counted-kept}

-- what becomes of the numbers that account files may have, where headers are turned
abbrev turned_numbers : (Header → Header) → Numbers → Numbers
turned_numbers turn any_number = any_number
turned_numbers turn (after h seen) = after (turn h) seen

-- .. and of a context
abbrev pub turned_in : (Header → Header) → Context → Context
turned_in turn c = record { numbers = turned_numbers turn c.numbers; kind = c.kind; date = c.date; single = c.single }

total-takes : (may can : Bool) → (may ≡ true → can ≡ true) → (s : List ℕ) → Takes (read_total may s) (read_total can s)
unfolding read_total
total-takes may can c s = amount-takes may can c 14 14 (omega arith) s

any-number : (interval : Bool) (h : Header) (seen : List ℕ) (n : ℕ) → interval ≡ false → number_allowed interval h seen n ≡ true
unfolding number_allowed number_fault pick
any-number interval h seen n e = rw e

same_number : (interval interval' : Bool) (h g : Header) (seen : List ℕ) (n : ℕ) → interval ≡ interval' → g ≡ h
    → number_allowed interval h seen n ≡ true → number_allowed interval' g seen n ≡ true
same_number interval interval' h g seen n i e q = rw (← i, e) q

module _ (Only : Entry → ℕ → Type 0) (turn : Header → Header) (a b : Sheet) (wider : Wider Only turn a b) where
  abbrev K : Listed → Listed → Type 0
  K = Kept Only turn

  -- ---- the first line

  none_kept : (h : Header) → turn h ≡ no_header → K (plain (head h)) (plain (head no_header))
  none_kept h t = record { keeps = λ e w p o q. ap (λ (g : Header). plain (head g)) (sym t) ∙ (said-kept {Only = Only} {turn = turn} (head h) refl).keeps e w p o q }

  first-kept : Heads turn a b → (s : List ℕ) → K (read_first a s) (read_first b s)
  unfolding read_first
  first-kept (read_alike t h short i) s = rw (h, short, i) (same_kept t)
  first-kept (read_none t off i) s =
      rw (pick-false _ (plain (head no_header)) off)
      (either (λ r. K r (plain (head no_header))) a.header
      (λ _. place-gone 6 _ _ _ λ date a1 s1. place-gone 20 _ _ _ λ name a2 s2. place-gone 10 _ _ _ λ client a3 s3. place-gone 3 _ _ _ λ from a4 s4.
      place-gone 3 _ _ _ λ to a5 s5. on-gone _ _ λ rest. none_kept _ (t _))
      (λ _. none_kept no_header (t no_header)))

  -- ---- the line that begins an account file

  number-kept : Heads turn a b → (h : Header) (seen : List ℕ) (n : ℕ)
      → number_allowed a.interval h seen n ≡ true → number_allowed b.interval (turn h) seen n ≡ true
  number-kept (read_alike t _ _ i) h seen n e = same_number a.interval b.interval h (turn h) seen n i (t h) e
  number-kept (read_none _ _ i) h seen n e = any-number b.interval (turn h) seen n i

  allowed-kept : (m : Numbers) (n : ℕ) → eqb (number_test a m n) 0 ≡ true → eqb (number_test b (turned_numbers turn m) n) 0 ≡ true
  unfolding number_test number_allowed
  allowed-kept any_number n e = e
  allowed-kept (after h seen) n e = number-kept wider.heads h seen n e

  file-kept : (m : Numbers) (s : List ℕ) → K (read_file a (number_test a m) s) (read_file b (number_test b (turned_numbers turn m)) s)
  unfolding read_file
  file-kept m s =
      field-kept _ _ (kind-takes a b wider.kinds) _ _ λ kind a1 s1.
      gap-kept a1 s1 λ a2 s2.
      field-kept _ _ (number-takes _ _ (allowed-kept m)) a2 s2 λ number a3 s3.
      gap-kept a3 s3 λ a4 s4.
      field-kept _ _ (code-takes a b wider.banks) a4 s4 λ bank a5 s5.
      end_kept a5 s5 (said-kept (file kind number) refl)

  -- ---- the line that begins a group

  total_kept : (today : ℕ) (here : Bool) (payer : Account) (at : ℕ) (s : List ℕ) → K (total_and_date a today here payer at s) (total_and_date b today here payer at s)
  unfolding total_and_date
  total_kept today here payer at s =
      field-kept _ _ (total-takes a.comma b.comma wider.comma) at s λ total a1 s1.
      gap-kept a1 s1 λ a2 s2.
      field-kept _ _ (due-takes _ _ wider.early _ _ wider.ahead today _ _ wider.long here) a2 s2 λ date a3 s3.
      end_kept a3 s3 (said-kept (group payer total date) (ap (λ (warns : Bool). notices past_day a2 (due_warnings here warns today date)) wider.past))

  group-kept : (today : ℕ) (here : Bool) (s : List ℕ) → K (read_group a today here s) (read_group b today here s)
  unfolding read_group
  group-kept today here s =
      same_test K _ _ (ap (λ (always : Bool). has_payer always s) wider.empty)
      (field-kept _ _ (λ t. payer-takes _ _ wider.base _ _ wider.joined t _ _ _ _ wider.empty wider.zero) _ _ λ payer a1 s1.
      gap-kept a1 s1 λ a2 s2.
      total_kept today here payer a2 s2)
      (total_kept today here nobody _ _)

  -- ---- an item

  module _ {k : ℕ → Noted → Listed} (own : (specific : ℕ) (t : Noted) → K (k specific t) (k specific t))
      (through : (specific : ℕ) (t : Noted) (e : Entry) (w : List Notice) (p : Places) → Only e (length w) → k specific t ≡ said e w p → TextsOf Only t) where
    text-kept : (specific at : ℕ) (s : List ℕ) → K (on_field at (read_text a.text at s) (k specific)) (on_field at (read_text b.text at s) (k specific))
    unfolding on_field
    text-kept specific at s = kept (read_text a.text at s) refl
      where
        kept : (x : Field Noted) → read_text a.text at s ≡ x → K (on_field at x (k specific)) (on_field at (read_text b.text at s) (k specific))
        kept (value t) r =
            record {
              keeps =
                  λ e w p o q.
                  let on = through specific t e w p o q in
                  rw (text-takes (TextsOf Only) a.text b.text wider.texts at s t on r) ((own specific t).keeps e w p o q);
            }
        kept (fault n) r = refused-kept

    fixed_kept : (at : ℕ) (s : List ℕ) → K (fixed_tail a.text k at s) (fixed_tail b.text k at s)
    unfolding fixed_tail
    fixed_kept at s =
        gap-kept at s λ a1 s1. field-kept _ _ (λ t. alike) a1 s1 λ specific a2 s2. gap-kept a2 s2 λ a3 s3. text-kept specific a3 s3

    after_kept : (specific at : ℕ) (s : List ℕ) → K (after_symbol a.text k specific at s) (after_symbol b.text k specific at s)
    unfolding after_symbol
    after_kept specific at [] = own specific _
    after_kept specific at (x ∷ s) = text-kept specific _ s

    no_symbol : (at : ℕ) (x : Field ℕ) (l : ℕ → Listed) {q : Listed} → is_value x ≡ false → K (on_field at x l) q
    unfolding on_field is_value
    no_symbol at (value v) l e = never e
    no_symbol at (fault n) l e = refused-kept

    open_kept : (at : ℕ) (s : List ℕ) → K (open_tail a.text k a.bare at s) (open_tail b.text k b.bare at s)
    unfolding open_tail field
    open_kept at [] = own 0 _
    open_kept at (x ∷ s) =
        besides K a.bare b.bare _ wider.bare (text-kept 0 _ s)
        (field-kept read_symbol read_symbol (λ t. alike) _ s λ specific a1 s1. after_kept specific a1 s1)
        (λ e. no_symbol _ _ _ (pick-not _ true e).0)

    tail-kept : (at : ℕ) (s : List ℕ) → K (tail a at s k) (tail b at s k)
    unfolding tail
    tail-kept at s = same_test K _ _ wider.fixed (fixed_kept at s) (open_kept at s)

  payee-kept : (due due' : ℕ → Bool) → ((bank : ℕ) → due bank ≡ due' bank) → (payer : Account) (at : ℕ) (s : List ℕ)
      → K (from_payee a due payer at s) (from_payee b due' payer at s)
  unfolding from_payee
  payee-kept due due' d payer at s =
      field-kept _ _ (account-takes _ _ wider.base _ _ wider.joined) at s λ payee a1 s1.
      gap-kept a1 s1 λ a2 s2.
      field-kept _ _ (λ t. item-amount-takes _ _ wider.comma _ _ wider.digits t _ _ wider.amount) a2 s2 λ amount a3 s3.
      gap-kept a3 s3 λ a4 s4.
      field-kept _ _ (λ t. alike) a4 s4 λ variable a5 s5.
      gap-kept a5 s5 λ a6 s6.
      field-kept _ _ (bank-takes due due' d _ _ wider.priority) a6 s6 λ bank a7 s7.
      tail-kept
      (λ specific t. said-kept (item (item_of payer payee amount variable specific bank t)) refl)
      (λ specific t e w p o q.
      let (z, n, _) = same_parts q in
      record {
        of = item_of payer payee amount variable specific bank t;
        warned = length w;
        only = (rw (← z) at o);
        parts = refl;
        name = refl;
        warnings = omega (arith, ap length n, length-append (notices low_priority a6 bank.warnings) t.warnings);
      })
      a7 s7

  item-kept : (due due' : ℕ → Bool) → ((bank : ℕ) → due bank ≡ due' bank) → (single : Bool) (s : List ℕ) → K (read_item a due single s) (read_item b due' single s)
  unfolding read_item
  item-kept due due' d single s =
      either_way K single
      (field-kept _ _ (account-takes _ _ wider.base _ _ wider.joined) 0 s λ payer a1 s1. gap-kept a1 s1 λ a2 s2. payee-kept due due' d payer a2 s2)
      (payee-kept due due' d nobody 0 s)

  -- ---- closing lines

  plus-kept : (e : Entry) (at : ℕ) (s : List ℕ) → K (plus_at e at s) (plus_at (turned turn e) at s)
  unfolding plus_at
  plus-kept e at [] = refused-kept
  plus-kept e at (x ∷ s) = either_way K _ (end_kept _ s (said-kept e refl)) refused-kept

  close-kept : (e : Entry) (s : List ℕ) → K (read_close a.near e s) (read_close b.near (turned turn e) s)
  unfolding read_close
  close-kept e s = either_way K _ (plus-kept e 2 _) (easier K a.near b.near _ wider.near (plus-kept e 1 _) (λ r. refused-kept))

  -- ---- any line

  module _ (today : ℕ) (c : Context) where
    as-kept : (kind : Kind) (s : List ℕ) → K (read_as a today c kind s) (read_as b today (turned_in turn c) kind s)
    unfolding read_as
    as-kept head_line s = first-kept wider.heads s
    as-kept file_line s = file-kept c.numbers s
    as-kept group_line s = rw (same_here a b wider.collects c.kind) (group-kept today _ s)
    as-kept item_line s = item-kept _ _ (same-due a b wider.collects c.kind wider.own today c.date) c.single s
    as-kept group_end s = close-kept close_group s
    as-kept file_end s = close-kept close_file s

    pub line_kept : (s : List ℕ) (e : Entry) (w : ℕ) (p : Places) → Only e w → read_line a today c s ≡ said e w p
        → read_line b today (turned_in turn c) s ≡ said (turned turn e) w p
    unfolding read_line
    line_kept s = counted-kept (read_as a today c (kind_of s) s) (read_as b today (turned_in turn c) (kind_of s) s) (as-kept (kind_of s) s)
