-- A line that is accepted says the same where any account file's number is allowed, and no kind and no date is given: so the second reading
-- needs none of these. Only a group's line may have other warnings there. Assumes nothing.
use mathlib.Core.Path.{◌≡◌, refl, sym, ap}
use mathlib.Core.Bool.{Bool, true, false}
use mathlib.Core.List.{List, [], ◌∷◌}
use Prim.Native.Nat.{ℕ}
use native.Mathlib.Omega.{arith}
use lib.Dec.{eqb}
use lib.ListN.{length}
use Rattle.base.specs.Pick.{pick}
use Rattle.base.proofs.Cases.{either, either_way}
use Rattle.base.proofs.Seek.{never}
use Rattle.sheet.specs.declared.Sheet.{Sheet}
use Rattle.paper.specs.Read.{Field, value, fault, given}
use Rattle.paper.specs.Warnings.{Notice}
use Rattle.paper.specs.Bytes.{field_of}
use Rattle.paper.specs.Days.{due_allowed, read_due}
use Rattle.paper.specs.Batch.{Item, Header}
use Rattle.paper.specs.Accounts.{Account, nobody}
use Rattle.paper.specs.BankField.{read_due_bank}
use Rattle.paper.specs.Entries.{Entry, head, file, group, item, close_group, close_file, Places, Saying, Listed, Counted, got, said, no, counted, on_field, field, gap, line_end}
use Rattle.paper.specs.Terms.{collection, day_here, bank_due}
use Rattle.paper.specs.FileLine.{read_number, read_file}
use Rattle.paper.specs.GroupLine.{total_and_date, read_group}
use Rattle.paper.specs.ItemLine.{from_payee, read_item}
use Rattle.paper.specs.Spells.{Context, number_test, read_as, read_line}
use Rattle.paper.specs.Rows.{accepted}
use Rattle.numeral.specs.placed.Said.{is_said}
use Rattle.exact.proofs.Told.{told-line, kind-head, kind-file, kind-group, kind-item, kind-group-end, kind-file-end}

-- the first reading is refused, or the second is the same; or, where this is allowed (`loose`), it differs in its warnings alone
data Within : Bool → Listed → Listed → Type 0 where
  same : {loose : Bool} {r : Listed} → Within loose r r
  refused : {loose : Bool} {n off : ℕ} {r : Listed} → Within loose (no n off) r
  warns : {e : Entry} {v u : List Notice} {p : Places} → Within true (said e v p) (said e u p)

data WithinField {A : Type 0} : Field A → Field A → Type 0 where
  alike : {r : Field A} → WithinField r r
  fails : {n : ℕ} {r : Field A} → WithinField (fault n) r

within-got : {t : Saying ℕ} {r s : Listed} → Within false r s → counted r ≡ got t → counted s ≡ got t
unfolding counted
within-got same q = q
within-got refused q = absurd (let z : ◌≡◌ {A = ℕ} 0 1 = cc in omega arith)

within-read : {r s : Listed} → Within false r s → is_said r ≡ true → s ≡ r
unfolding is_said
within-read same h = refl
within-read refused h = never (sym h)

-- what is said, with u warnings
abbrev warning : ℕ → Counted → Counted
warning u (got t) = said t.entry u t.places
warning u (no n off) = no n off

within-said : {e : Entry} {v : ℕ} {p : Places} {r s : Listed} → Within true r s → counted r ≡ said e v p → (u : ℕ) × (counted s ≡ said e u p)
unfolding counted
within-said {v = v} same q = (v, q)
within-said refused q = absurd (let z : ◌≡◌ {A = ℕ} 0 1 = cc in omega arith)
within-said (warns {u = u}) q = (length u, ap (warning (length u)) q)

-- ---- through the ways of reading

module _ {A : Type 0} {loose : Bool} where
  within_on : (at : ℕ) {x y : Field A} {k l : A → Listed} → WithinField x y → ((v : A) → Within loose (k v) (l v))
      → Within loose (on_field at x k) (on_field at y l)
  unfolding on_field
  within_on at (alike {r = value v}) h = h v
  within_on at (alike {r = fault n}) h = same
  within_on at fails h = refused

  within-field : (read wide : List ℕ → Field A) (at : ℕ) (s : List ℕ) {k l : A → ℕ → List ℕ → Listed}
      → WithinField (read (field_of s)) (wide (field_of s)) → ((v : A) (a : ℕ) (r : List ℕ) → Within loose (k v a r) (l v a r))
      → Within loose (field read at s k) (field wide at s l)
  unfolding field
  within-field read wide at s e h = within_on at e λ v. h v _ _

within-gap : {loose : Bool} (at : ℕ) (s : List ℕ) {k l : ℕ → List ℕ → Listed} → ((a : ℕ) (r : List ℕ) → Within loose (k a r) (l a r))
    → Within loose (gap at s k) (gap at s l)
unfolding gap
within-gap at [] h = refused
within-gap at (x ∷ s) h = h _ _

within_end : {loose : Bool} (at : ℕ) (s : List ℕ) {r q : Listed} → Within loose r q → Within loose (line_end at s r) (line_end at s q)
unfolding line_end
within_end at [] h = h
within_end at (x ∷ s) h = refused

within-given : {A B : Type 0} (x : Field A) {k l : A → Field B} → ((v : A) → WithinField (k v) (l v)) → WithinField (given x k) (given x l)
unfolding given
within-given (value v) h = h v
within-given (fault n) h = fails

-- ---- the line of an account file

within-number : (test : ℕ → ℕ) (s : List ℕ) → WithinField (read_number test s) (read_number (λ n. 0) s)
unfolding read_number pick
within-number test s = within-given _ λ n. either (λ r. WithinField r (value n)) (eqb (test n) 0) (λ _. alike) (λ _. fails)

within-file : (sh : Sheet) (test : ℕ → ℕ) (s : List ℕ) → Within false (read_file sh test s) (read_file sh (λ n. 0) s)
unfolding read_file
within-file sh test s =
    within-field _ _ _ _ alike λ kind a1 s1. within-gap a1 s1 λ a2 s2. within-field _ _ a2 s2 (within-number test _) λ number a3 s3. same

-- what is accepted of an account file's line is so with any number allowed
pub file-again : (sh : Sheet) (test : ℕ → ℕ) (s : List ℕ) (e : Entry) (v : ℕ) (p : Places)
    → counted (read_file sh test s) ≡ said e v p → counted (read_file sh (λ n. 0) s) ≡ said e v p
file-again sh test s e v p q = within-got (within-file sh test s) q

-- ---- the line of a group: a day that passes where it is judged passes where it is not

-- where it is judged in the second reading, it is so in the first
within-due : (long here there early : Bool) → (there ≡ true → here ≡ true) → (ahead today : ℕ) (s : List ℕ)
    → WithinField (read_due long here early ahead today s) (read_due long there early ahead today s)
unfolding read_due due_allowed pick
within-due long true true early h ahead today s = alike
within-due long true false early h ahead today s =
    within-given _ λ d. either (λ r. WithinField r (value d)) (due_allowed true early ahead today d) (λ _. alike) (λ _. fails)
within-due long false true early h ahead today s = absurd (let e : false ≡ true = h refl in let z : ◌≡◌ {A = ℕ} 0 1 = cc in omega arith)
within-due long false false early h ahead today s = alike

module _ (sh : Sheet) (today : ℕ) (here there : Bool) (h : there ≡ true → here ≡ true) where
  within-total : (payer : Account) (at : ℕ) (s : List ℕ) → Within true (total_and_date sh today here payer at s) (total_and_date sh today there payer at s)
  unfolding total_and_date
  within-total payer at s =
      within-field _ _ at s alike λ total a1 s1.
      within-gap a1 s1 λ a2 s2.
      within-field _ _ a2 s2 (within-due sh.longdate here there sh.early h sh.ahead today _) λ date a3 s3.
      within_end a3 s3 warns

  within-group : (s : List ℕ) → Within true (read_group sh today here s) (read_group sh today there s)
  unfolding read_group
  within-group s =
      either_way (Within true) _
      (within-field _ _ _ _ alike λ payer a1 s1. within-gap a1 s1 λ a2 s2. within-total payer a2 s2)
      (within-total nobody _ _)

-- where no kind is given, a day is judged at its field only on a sheet that does so for every kind
here-again : (sh : Sheet) (kind : ℕ) → day_here sh 0 ≡ true → day_here sh kind ≡ true
unfolding day_here pick
here-again sh kind e = always sh.collects _ e
  where
    always : (t u : Bool) → pick t false true ≡ true → pick t u true ≡ true
    always true u q = absurd (let z : ◌≡◌ {A = ℕ} 0 1 = cc in omega arith)
    always false u q = refl

-- ---- the line of an item: a bank that may be due is read where every bank may be

module _ (due wide : ℕ → Bool) (h : (b : ℕ) → wide b ≡ true) where
  within-bank : (ranked : Bool) (s : List ℕ) → WithinField (read_due_bank ranked due s) (read_due_bank ranked wide s)
  unfolding read_due_bank pick
  within-bank ranked s =
      within-given _ λ b. rw (h b.bank) (either (λ r. WithinField r (value b)) (due b.bank) (λ _. alike) (λ _. fails))

  module _ (sh : Sheet) where
    within-payee : (payer : Account) (at : ℕ) (s : List ℕ) → Within false (from_payee sh due payer at s) (from_payee sh wide payer at s)
    unfolding from_payee
    within-payee payer at s =
        within-field _ _ at s alike λ payee a1 s1.
        within-gap a1 s1 λ a2 s2.
        within-field _ _ a2 s2 alike λ amount a3 s3.
        within-gap a3 s3 λ a4 s4.
        within-field _ _ a4 s4 alike λ variable a5 s5.
        within-gap a5 s5 λ a6 s6.
        within-field _ _ a6 s6 (within-bank sh.priority _) λ bank a7 s7.
        same

    within-item : (single : Bool) (s : List ℕ) → Within false (read_item sh due single s) (read_item sh wide single s)
    unfolding read_item
    within-item single s =
        either_way (Within false) single
        (within-field _ _ 0 s alike λ payer a1 s1. within-gap a1 s1 λ a2 s2. within-payee payer a2 s2)
        (within-payee nobody 0 s)

    -- an item that is read where some banks may be due says the same where all may
    pub item-wider : (single : Bool) (s : List ℕ) → is_said (read_item sh due single s) ≡ true → read_item sh wide single s ≡ read_item sh due single s
    item-wider single s h = within-read (within-item single s) h

-- where no kind is given, every bank may
any-bank : (sh : Sheet) (today bank : ℕ) → bank_due sh today 0 0 bank ≡ true
unfolding bank_due collection pick
any-bank sh today bank = refl

-- ---- any line, read in the context of lines that are accepted

module _ (sh : Sheet) (today : ℕ) (c : Context) (b : Bool) (s : List ℕ) (v : ℕ) (q : Places) where
  pub head-again : (h : Header) → read_line sh today c s ≡ said (head h) v q → read_line sh today (accepted b) s ≡ said (head h) v q
  unfolding read_line read_as
  head-again h e = let k = kind-head (told-line sh today c s _ e) in rw k (rw k at e)

  pub file-line-again : (k n : ℕ) → read_line sh today c s ≡ said (file k n) v q → read_line sh today (accepted b) s ≡ said (file k n) v q
  unfolding read_line read_as number_test
  file-line-again k n e = let i = kind-file (told-line sh today c s _ e) in rw i (file-again sh (number_test sh c.numbers) s (file k n) v q (rw i at e))

  -- .. perhaps with other warnings
  pub group-again : (p : Account) (t d : ℕ) → read_line sh today c s ≡ said (group p t d) v q
      → (u : ℕ) × (read_line sh today (accepted b) s ≡ said (group p t d) u q)
  unfolding read_line read_as
  group-again p t d e =
      let k = kind-group (told-line sh today c s _ e) in
      rw k (within-said (within-group sh today (day_here sh c.kind) (day_here sh 0) (here-again sh c.kind) s) (rw k at e))

  pub item-again : (x : Item) → c.single ≡ b → read_line sh today c s ≡ said (item x) v q → read_line sh today (accepted b) s ≡ said (item x) v q
  unfolding read_line read_as
  item-again x i e =
      let k = kind-item (told-line sh today c s _ e) in
      rw k (within-got (within-item _ (bank_due sh today 0 0) (any-bank sh today) sh b s) (rw (k, i) at e))

  pub group-end-again : read_line sh today c s ≡ said close_group v q → read_line sh today (accepted b) s ≡ said close_group v q
  unfolding read_line read_as
  group-end-again e = let k = kind-group-end (told-line sh today c s _ e) in rw k (rw k at e)

  pub file-end-again : read_line sh today c s ≡ said close_file v q → read_line sh today (accepted b) s ≡ said close_file v q
  unfolding read_line read_as
  file-end-again e = let k = kind-file-end (told-line sh today c s _ e) in rw k (rw k at e)
