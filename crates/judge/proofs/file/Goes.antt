-- The readers one after the other, and the loop that resumes them. Assumes nothing.
use mathlib.Core.Path.{◌≡◌, refl, sym, ap, ◌∙◌}
use mathlib.Core.Bool.{true}
use mathlib.Core.List.{List}
use Prim.Native.Nat.{ℕ, ◌+◌, ◌-◌, ◌≤◌, ◌<◌, min}
use native.Mathlib.Omega.{arith}
use lib.ListN.{length}
use Rattle.std.proofs.Common.{Option, Some, None, Result, Ok, Err}
use Rattle.sheet.specs.declared.Sheet.{Sheet}
use Rattle.sheet.proofs.Laws.{Sane}
use Rattle.paper.specs.Days.{real_day}
use Rattle.paper.specs.Batch.{Header}
use Rattle.fileline.specs.seen.Bits.{Holds}
use Rattle.firstline.specs.declared.Header.{Header as Head}
use Rattle.judge.specs.declared.refused.Refused.{Refused}
use Rattle.judge.specs.declared.file.Terms.{Terms}
use Rattle.judge.specs.file.Answer.{head_of, terms_of, NameIn, Sound, Went, from_seen, Concluded}
use Rattle.judge.specs.declared.group.Counts.{Counts}
use Rattle.judge.specs.declared.group.Shelf.{Shelf}
use Rattle.judge.specs.declared.accountfile.Left.{Left}
use Rattle.judge.specs.declared.accountfile.Left.TheVariants as left
use Rattle.judge.specs.accountfile.Resume.{resume, AtFile, AtGroup, Good, to_go, Moved, Same, Stepped}

-- ---- the readers: m is a step's answer, which was found to be n

-- with no budget reading stays where it is
pub went-none : (sh : Sheet) (today from to : ℕ) (f : List ℕ) (o : Result Left Refused) (b : ℕ) (words : List ℕ) → b ≡ 0 → Good f o → Went sh today from to f o b words words o
went-none sh today from to f o b words e good =
    record { same = λ h p q l held. (l, held, refl); good = good; less = omega arith }

-- a step led from o to n: a reader went on from n with one less of the budget, or reading stops at n
module _ {sh : Sheet} {today from to : ℕ} {f : List ℕ} {o n : Result Left Refused} {before between : List ℕ} (same : Same sh today from to f o before between n) (less : to_go f n + 1 ≤ to_go f o) where
  goes-on : {b : ℕ} {after : List ℕ} {r : Result Left Refused} → Went sh today from to f n (b - 1) between after r → Went sh today from to f o b before after r
  goes-on w =
      record {
        same = λ h i j l held.
            let x = same h i j l held in
            let y = w.same h i j x.0 x.1 in
            (y.0, y.1, y.2 ∙ x.2);
        good = w.good;
        less = omega (arith, w.less);
      }

  goes_last : {b : ℕ} → Good f n → Went sh today from to f o b before between n
  goes_last good = record { same = same; good = good; less = omega arith }

-- what was found of a step's answer
found : {m : Result Left Refused} (v : Left) (w : Left) → m ≡ Ok v → v ≡ w → m ≡ Ok w
found v w e q = rw q at e

-- a step that may change the words
module _ (sh : Sheet) (from to : ℕ) (f : List ℕ) (o m : Result Left Refused) (before between : List ℕ) (p : Stepped sh from to f o before between m) where
  module _ (today b : ℕ) where
    stepped : (n : Result Left Refused) → m ≡ n → Stepped sh from to f o before between n
    stepped n e = rw e at p

    pub stepped-on : (v w : Left) → m ≡ Ok v → v ≡ w → (after : List ℕ) (r : Result Left Refused) → Went sh today from to f (Ok w) (b - 1) between after r → Went sh today from to f o b before after r
    stepped-on v w e q after r g = let x = stepped (Ok w) (found v w e q) in goes-on (x.same today) x.less g

    pub stepped-last : (n : Result Left Refused) → m ≡ n → Went sh today from to f o b before between n
    stepped-last n e = let x = stepped n e in goes_last (x.same today) x.less x.good

-- a step that leaves them
module _ (sh : Sheet) (today : ℕ) (f : List ℕ) (o m : Result Left Refused) (p : Moved sh today f o m) (from to b : ℕ) (words : List ℕ) (n : Result Left Refused) (e : m ≡ n) where
  moved : Moved sh today f o n
  moved = rw e at p

  same-words : Same sh today from to f o words words n
  same-words h i j l held = (l, held, moved.same h l)

  moved_on : (after : List ℕ) (r : Result Left Refused) → Went sh today from to f n (b - 1) words after r → Went sh today from to f o b words after r
  moved_on after r w = goes-on same-words moved.less w

  moved-last : Went sh today from to f o b words words n
  moved-last = goes_last same-words moved.less moved.good

-- ---- the groups of an account file: reading began at o, and stands at p, with the words as they were

pub record Along (sh : Sheet) (today : ℕ) (f : List ℕ) (o p : Result Left Refused) : Type 0 where
  pub same : (h : Header) (l : List ℕ) → resume sh today f h l p ≡ resume sh today f h l o
  pub good : Good f p
  pub less : to_go f p ≤ to_go f o

pub along-start : (sh : Sheet) (today : ℕ) (f : List ℕ) (at k : ℕ) (c : Counts) (s : Shelf) → AtGroup f at k c s → Along sh today f (Ok (left.Group at k c s)) (Ok (left.Group at k c s))
along-start sh today f at k c s good = record { same = λ h l. refl; good = good; less = omega arith }

pub along-good : (sh : Sheet) (today : ℕ) (f : List ℕ) (o : Result Left Refused) (at k : ℕ) (c : Counts) (s : Shelf) → Along sh today f o (Ok (left.Group at k c s)) → AtGroup f at k c s
along-good sh today f o at k c s a = a.good

-- a step led from p to m
module _ (sh : Sheet) (today : ℕ) (f : List ℕ) (o p m : Result Left Refused) (a : Along sh today f o p) (step : Moved sh today f p m) where
  next : (n : Result Left Refused) → m ≡ n → Moved sh today f p n
  next n e = rw e at step

  on : (n : Result Left Refused) → m ≡ n → Moved sh today f o n
  on n e = let x = next n e in record { same = λ h l. x.same h l ∙ a.same h l; good = x.good; less = omega (arith, x.less, a.less) }

  -- the words are still what they were
  module _ (from to b : ℕ) (words still : List ℕ) (q : still ≡ words) where
    pub along-last : (n : Result Left Refused) → m ≡ n → Went sh today from to f o b words still n
    along-last n e = rw q (moved-last sh today f o n (on n e) from to b words n refl)

    -- m was found to be w
    module _ (v w : Left) (e : m ≡ Ok v) (x : v ≡ w) where
      pub along-on : (after : List ℕ) (r : Result Left Refused) → Went sh today from to f (Ok w) (b - 1) still after r → Went sh today from to f o b words after r
      along-on after r g = rw q at (moved_on sh today f o (Ok w) (on (Ok w) (found v w e x)) from to b still (Ok w) refl after r g)

      pub along-found : Went sh today from to f o b words still (Ok w)
      along-found = along-last (Ok w) (found v w e x)

  module _ (v : Left) (e : m ≡ Ok v) (at k : ℕ) (c : Counts) where
    pub along-group : (s : Shelf) → v ≡ left.Group at k c s → Along sh today f o (Ok (left.Group at k c s))
    along-group s q =
        let x = on (Ok (left.Group at k c s)) (found v _ e q) in
        record { same = x.same; good = x.good; less = omega (arith, x.less) }

    pub along-less : (s : Shelf) → v ≡ left.Group at k c s → to_go f (Ok (left.Group at k c s)) < to_go f p
    along-less s q = let x = next (Ok (left.Group at k c s)) (found v _ e q) in omega (arith, x.less)

    pub along-file : v ≡ left.File at k c → AtFile f at k c
    along-file q = (next (Ok (left.File at k c)) (found v _ e q)).good

pub ruleset alongs = (along-start, along-good, along-on, along-found, along-last, along-group, along-less, along-file)

pub ruleset readers = (went-none, stepped-on, stepped-last)

-- ---- the loop: u was seen before; the words hold some numbers, with which the answer from where reading stands is the file's

pub record Stand (u : List ℕ) (sh : Sheet) (today : ℕ) (f : List ℕ) (at : ℕ) (head : Option Head) (words : List ℕ) (o : Result Left Refused) : Type 0 where
  pub earlier : List ℕ
  pub holds : Holds words earlier
  pub same : resume sh today f (head_of f head) earlier o ≡ from_seen u sh today f at head

-- for all that the words held at the start, and the place is good
abbrev pub Stands : Sheet → ℕ → List ℕ → ℕ → Option Head → List ℕ → List ℕ → Result Left Refused → Type 0
Stands sh today f at head start words o = ((u : List ℕ) → Holds start u → Stand u sh today f at head words o) × Good f o

pub stand-start : (sh : Sheet) (today : ℕ) (f : List ℕ) (at : ℕ) (head : Option Head) (start : List ℕ) → 2 ≤ at → at ≤ length f
    → Stands sh today f at head start start (Ok (left.File at 2 (record { files = 0; items = 0; rows = 0; warnings = 0 })))
unfolding resume from_seen
stand-start sh today f at head start p q = (
  λ u held. record { earlier = u; holds = held; same = refl },
  record {
    inside = q;
    lines = p;
    low = record { files = omega arith; items = omega arith; rows = omega arith; warnings = omega arith };
  },
)

-- the terms are those of the header, sheet and day
from-same : (sh : Sheet) (today : ℕ) (f : List ℕ) (head : Option Head) → (head_of f head).from ≡ (terms_of sh today head).from
from-same sh today f (Some h) = refl
from-same sh today f None = refl

to-same : (sh : Sheet) (today : ℕ) (f : List ℕ) (head : Option Head) → (head_of f head).to ≡ (terms_of sh today head).to
to-same sh today f (Some h) = refl
to-same sh today f None = refl

terms-sheet : (sh : Sheet) (today : ℕ) (head : Option Head) → (terms_of sh today head).sheet ≡ sh
terms-sheet sh today (Some h) = refl
terms-sheet sh today None = refl

terms-today : (sh : Sheet) (today : ℕ) (head : Option Head) → (terms_of sh today head).today ≡ today
terms-today sh today (Some h) = refl
terms-today sh today None = refl

module _ (sh : Sheet) (today : ℕ) (terms : Terms) (head : Option Head) (set : terms ≡ terms_of sh today head) where
  pub terms-good : (Sane sh) × (real_day today ≡ true) → (Sane terms.sheet) × (real_day terms.today ≡ true)
  terms-good g = rw (set, terms-sheet sh today head, terms-today sh today head) g

  module _ (f : List ℕ) (at : ℕ) (start words : List ℕ) (o : Left) (stand : Stands sh today f at head start words (Ok o)) where
    pub stand-file : (next k : ℕ) (c : Counts) → o ≡ left.File next k c → AtFile f next k c
    stand-file next k c e = let g : Good f (Ok (left.File next k c)) = rw e at stand.1 in g

    pub stand-group : (next k : ℕ) (c : Counts) (s : Shelf) → o ≡ left.Group next k c s → AtGroup f next k c s
    stand-group next k c s e = let g : Good f (Ok (left.Group next k c s)) = rw e at stand.1 in g

    -- a reader went on from p, which is where reading stood
    module _ (p : Left) (e : o ≡ p) (b : ℕ) (after : List ℕ) (r : Result Left Refused) (w : Went terms.sheet terms.today terms.from terms.to f (Ok p) b words after r) where
      from-here : Went sh today (terms_of sh today head).from (terms_of sh today head).to f (Ok p) b words after r
      from-here = rw (set, terms-sheet sh today head, terms-today sh today head) at w

      goes : (u : List ℕ) → Stand u sh today f at head words (Ok o) → Stand u sh today f at head after r
      goes u s =
          let x = from-here.same (head_of f head) (from-same sh today f head) (to-same sh today f head) s.earlier s.holds in
          record { earlier = x.0; holds = x.1; same = x.2 ∙ (ap (λ (q : Left). resume sh today f (head_of f head) s.earlier (Ok q)) (sym e) ∙ s.same) }

      pub stand-on : (n : Result Left Refused) → r ≡ n → Stands sh today f at head start after n
      stand-on n z = let x : Stands sh today f at head start after r = (λ u held. goes u (stand.0 u held), from-here.good) in rw z at x

      pub stand-less : (n : Result Left Refused) → r ≡ n → min b 1 ≡ 1 → to_go f n < to_go f (Ok o)
      stand-less n z one = rw (← z, e) (omega (arith, from-here.less))

      -- it was refused
      pub stand-refused : (y : Refused) → r ≡ Err y → (u : List ℕ) → Holds start u → Concluded f (from_seen u sh today f at head) (Err y)
      unfolding resume
      stand-refused y z u held = let x : Stand u sh today f at head after (Err y) = rw z at (goes u (stand.0 u held)) in sym x.same

    module _ (rows warnings : ℕ) (e : o ≡ left.Accepted rows warnings) where
      pub stand-accepted : (u : List ℕ) → Holds start u
          → Concluded f (from_seen u sh today f at head) (Ok (record { accepted = record { head = head; rows = rows; warnings = warnings }; seen = record { words = words } }))
      unfolding resume
      stand-accepted u held =
          let x : Stand u sh today f at head words (Ok (left.Accepted rows warnings)) = rw e at (stand.0 u held) in
          (x.earlier, x.holds, sym x.same)

      pub stand-kept : NameIn f head → Sound f head rows warnings
      stand-kept name =
          let g : Good f (Ok (left.Accepted rows warnings)) = rw e at stand.1 in
          record { name = name; rows_low = g.0; warnings_low = g.1 }

pub ruleset stands = (stand-start, terms-good, stand-file, stand-group, stand-on, stand-less, stand-refused, stand-accepted, stand-kept)
