-- What a first line that is taken says of its bytes, and where one may be refused. Assumes nothing.
use mathlib.Core.Path.{◌≡◌, sym, ap, ◌∙◌}
use mathlib.Core.Bool.{Bool, true, false}
use mathlib.Core.List.{List}
use Prim.Native.Nat.{ℕ, ◌^◌, ◌≤◌, ◌<◌}
use native.Mathlib.Omega.{arith}
use lib.Dec.{ltb, lit<}
use lib.ListN.{length, take, drop}
use Rattle.std.proofs.Common.{Option, Some, None, Result, Ok, Err}
use borrow.Author.Tests.{ltb-false}
use Rattle.base.specs.Pick.{pick}
use Rattle.base.specs.Seek.{all}
use Rattle.base.proofs.Cases.{by-test}
use Rattle.base.proofs.Seek.{never}
use Rattle.refusal.specs.declared.Flaw.{Flaw}
use Rattle.refusal.specs.Numbers.{number_of}
use Rattle.paper.specs.Read.{value, fault}
use Rattle.paper.specs.Bytes.{is_text}
use Rattle.paper.specs.Numerals.{digits}
use Rattle.paper.specs.Days.{short_day, read_day, real_day}
use Rattle.paper.specs.Batch.{Header}
use Rattle.paper.specs.Warnings.{Notice}
use Rattle.paper.specs.Entries.{Entry, head, file, group, item, close_group, close_file, Listed, Saying}
use Rattle.paper.specs.FirstLine.{text_field, read_to, read_rest, read_first}
use Rattle.numeral.proofs.given.Given.{value-fault, value_same, given-value}
use Rattle.numeral.proofs.Sound.{digits-sound}
use Rattle.calendar.proofs.Sound.{day-sound}
use Rattle.sheet.specs.declared.Sheet.{Sheet}
use Rattle.firstline.specs.declared.Header.{Header as Read}
use Rattle.firstline.specs.Stages.{name_in, rest_taken, on_to, on_from, on_client, on_name, on_date}
use Rattle.firstline.specs.Told.{told, told_header, Sound}
use Rattle.firstline.proofs.Steps.{rest-field}
use Rattle.firstline.proofs.Holds.{Holds, of-got, holds-got, holds-no, on-holds, place-holds}

-- the line s has the fields of the header h, each at its place, and a rest that is taken
pub record Fields (ordered short : Bool) (s : List ℕ) (h : Header) : Type 0 where
  pub long : 46 ≤ length s
  pub date : short_day (take 6 (drop 4 s)) ≡ value h.date
  pub name : h.name ≡ name_in s
  pub text : all is_text (name_in s) ≡ true
  pub client : digits 10 10 (take 10 (drop 30 s)) ≡ value h.client
  pub from : digits 3 3 (take 3 (drop 40 s)) ≡ value h.from
  pub to : read_to ordered h.from (take 3 (drop 43 s)) ≡ value h.to
  pub rest : rest_taken short (drop 46 s) ≡ true

-- ---- what a field says of its bytes

pub text-sound : (s v : List ℕ) → text_field s ≡ value v → (v ≡ s) × (all is_text s ≡ true)
unfolding text_field pick
text-sound s v h =
    by-test (all is_text s)
    (λ e. (sym (value_same s v (simp e at h)), e))
    (λ e. value-fault v 4 (sym (simp e at h)))

pub rest-sound : (short : Bool) (s v : List ℕ) → read_rest short s ≡ value v → rest_taken short s ≡ true
unfolding pick
rest-sound short s v h =
    by-test (rest_taken short s) (λ e. e) (λ e. value-fault v 4 (sym (rw e at (sym (rest-field short s) ∙ h))))

-- an end that is not below the start, where that is asked
in-order : (ordered : Bool) (from a v : ℕ) → pick (pick ordered (ltb a from) false) (fault 9) (value a) ≡ value v → (a ≡ v) × (ordered ≡ true → from ≤ v)
unfolding pick
in-order true from a v h =
    by-test (ltb a from) (λ e. value-fault v 9 (sym (simp e at h)))
    (λ e. let q : a ≡ v = value_same a v (simp e at h) in let l : from ≤ a = ltb-false a from e in (q, λ _. omega arith))
in-order false from a v h = (value_same a v h, λ e. never (sym e))

pub to-sound : (ordered : Bool) (from : ℕ) (s : List ℕ) (v : ℕ) → read_to ordered from s ≡ value v → (digits 3 3 s ≡ value v) × (ordered ≡ true → from ≤ v)
unfolding read_to
to-sound ordered from s v h =
    let (a, d, p) = given-value _ (digits 3 3 s) v h in
    let q = in-order ordered from a v p in
    (d ∙ ap value q.0, q.1)

-- ---- the whole line

-- what it says, and where it may be refused
abbrev TakenAs : Bool → Bool → List ℕ → Entry → Type 0
TakenAs ordered short s (head h) = Fields ordered short s h
TakenAs ordered short s (file k n) = ⊥
TakenAs ordered short s (group p t d) = ⊥
TakenAs ordered short s (item x) = ⊥
TakenAs ordered short s close_group = ⊥
TakenAs ordered short s close_file = ⊥

abbrev Taken : Bool → Bool → List ℕ → Saying (List Notice) → Type 0
Taken ordered short s x = TakenAs ordered short s x.entry

abbrev Inside : List ℕ → ℕ → ℕ → Type 0
Inside s n at = 4 ≤ length s → at ≤ length s

module _ (ordered short : Bool) (s : List ℕ) where
  line-holds : Holds (Taken ordered short s) (Inside s) (on_date ordered short 4 (drop 4 s))
  unfolding on_date on_name on_client on_from on_to
  line-holds =
      place-holds (Taken ordered short s) (Inside s) 4 (λ _ l. l) 6 short_day s _ (lit< tt) λ h1 date e1.
      place-holds (Taken ordered short s) (Inside s) 10 (λ _ _. h1) 20 text_field s _ (lit< tt) λ h2 name e2.
      place-holds (Taken ordered short s) (Inside s) 30 (λ _ _. h2) 10 (digits 10 10) s _ (lit< tt) λ h3 client e3.
      place-holds (Taken ordered short s) (Inside s) 40 (λ _ _. h3) 3 (digits 3 3) s _ (lit< tt) λ h4 from e4.
      place-holds (Taken ordered short s) (Inside s) 43 (λ _ _. h4) 3 (read_to ordered from) s _ (lit< tt) λ h5 to e5.
      on-holds (Taken ordered short s) (Inside s) 46 (λ _ _. h5) (read_rest short (drop 46 s)) _ λ rest e6.
      let t = text-sound (name_in s) name e2 in
      of-got (Taken ordered short s) (Inside s) _
      (record { long = h5; date = e1; name = t.0; text = t.1; client = e3; from = e4; to = e5; rest = rest-sound short (drop 46 s) rest e6 })

-- the bounds of its numbers
module _ (ordered short : Bool) (s : List ℕ) (h : Header) (f : Fields ordered short s h) where
  pub date_real : real_day h.date ≡ true
  unfolding read_day pick
  date_real = day-sound false (take 6 (drop 4 s)) h.date f.date

  pub client-small : h.client < 10 ^ 10
  client-small = digits-sound 10 10 _ _ f.client

  pub from-small : h.from < 1000
  from-small = digits-sound 3 3 _ _ f.from

  pub to-small : h.to < 1000
  to-small = digits-sound 3 3 _ _ (to-sound ordered h.from _ _ f.to).0

-- ---- the answer of the code

pub answer-sound : (ordered short : Bool) (s : List ℕ) (r : Result (Option Read) Flaw) → told s r ≡ on_date ordered short 4 (drop 4 s) → Sound s r
answer-sound ordered short s (Ok (Some r)) e =
    let p = holds-got (Taken ordered short s) (Inside s) _ (line-holds ordered short s) _ (sym e) in
    let h : Header = record { date = r.date; name = name_in s; client = r.client; from = r.from; to = r.to } in
    (p.long, date_real ordered short s h p, p.text, client-small ordered short s h p, from-small ordered short s h p, to-small ordered short s h p)
answer-sound ordered short s (Ok None) e = tt
answer-sound ordered short s (Err x) e = holds-no (Taken ordered short s) (Inside s) _ (line-holds ordered short s) (number_of x.0) x.1 (sym e)

-- the answer r on a sheet that reads a header
pub step-header : (sh : Sheet) (s : List ℕ) (r : Result (Option Read) Flaw) → sh.header ≡ true → told s r ≡ on_date sh.interval sh.short 4 (drop 4 s) → told s r ≡ read_first sh s
unfolding read_first on_date on_name on_client on_from on_to pick
step-header sh s r e q = q ∙ rw e

-- and through its fields: m is what their reader answered, t what the line says
module _ (s : List ℕ) (m : Result Read Flaw) (t : Listed) (g : told_header s m ≡ t) where
  pub was-header : (h : Read) → m ≡ Ok h → told s (Ok (Some h)) ≡ t
  was-header h e = sym (ap (told_header s) e) ∙ g

  pub was-flaw : (x : Flaw) → m ≡ Err x → told s (Err x) ≡ t
  was-flaw x e = sym (ap (told_header s) e) ∙ g
