-- Parts one after another, and the texts of a line that may have a name, by their places: what was judged is found again. Assumes nothing.
use mathlib.Core.Path.{◌≡◌, refl, sym, ap, ◌∙◌}
use mathlib.Core.Bool.{true, false}
use mathlib.Core.List.{List}
use Prim.Native.Nat.{ℕ, ◌+◌, ◌-◌, ◌≤◌, ◌<◌}
use native.Mathlib.Nat.{sub-zero}
use native.Mathlib.Omega.{arith}
use mir.Val.{Fits}
use mir.Syntax.{w64}
use lib.Dec.{eqb, leb}
use lib.ListN.{length, take, drop, length-take}
use borrow.Author.Tests.{le-leb, leb-false}
use Rattle.base.specs.Pick.{pick}
use Rattle.base.specs.Seek.{all, seek}
use Rattle.base.proofs.Cases.{by-eq, by-test, pick_true}
use Rattle.base.proofs.Seek.{never, seek-within}
use Rattle.std.proofs.Common.{Result, Ok, Err}
use Rattle.refusal.specs.declared.Refusal.{Refusal}
use Rattle.sheet.specs.declared.Style.{Style}
use Rattle.paper.specs.Read.{Field, value, fault}
use Rattle.paper.specs.Bytes.{is_text, bar, mark}
use Rattle.paper.specs.Texts.{Noted, others, taken, message_end, message, read_text}
use Rattle.paper.specs.ItemLine.{is_value}
use Rattle.text.specs.declared.span.Part.{Part}
use Rattle.text.specs.declared.span.Span.{Span}
use Rattle.text.specs.declared.span.Spans.{Spans}
use Rattle.text.specs.span.Held.{texts_at, Held}
use Rattle.text.specs.span.Places.{span, part_to, part_at, ended, found_at, one_at, four_from}
use Rattle.text.proofs.span.Turns.{part_none, part-next, four-found, one_found}
use Rattle.text.proofs.span.Bars.{count-least}
use Rattle.text.specs.declared.Begun.{Begun}
use Rattle.text.specs.declared.Begun.TheVariants as begun
use Rattle.text.specs.Told.{count_text, told, Tells}
use Rattle.text.specs.Begun.{of_text, Begins}
use Rattle.text.specs.Finish.{judged, fitted_one, fitted_at, finish_at, name_at}
use Rattle.text.proofs.Exits.{message-read, read_name, inside-name}
use Rattle.text.specs.division.Unnamed.{unnamed}
use Rattle.text.proofs.division.Marks.{unnamed-long}
use Rattle.text.proofs.division.Turns.{last-next, next-within, follow-same, follow-within, follow-part}
use Rattle.itemline.specs.take.Named.{name_of, with_name}
use Rattle.itemline.proofs.take.Texts.{past-yes, value_as, message-is, parts_held, start-within, text-at, varied-not}

-- ---- take_parts: a is what part_at answered

module _ (s : List ℕ) (from : ℕ) (h : from ≤ length s) (a : Part) (g : a ≡ part_at s from) where
  part-starts : a.at ≡ from
  unfolding part_to
  part-starts = ap (λ (x : Part). x.at) g

  part-long : a.len ≡ from + seek bar (drop from s) - from
  unfolding part_to
  part-long = ap (λ (x : Part). x.len) g

  pub part_room : length s < 18446744073709551616 → Fits w64 (from + a.len)
  part_room b = omega (arith, part-long, seek-within bar s from h)

  pub part-within : a.at ≤ length s
  part-within = omega (arith, part-starts)

  pub part-is : a ≡ part_at s a.at
  part-is = g ∙ ap (part_at s) (sym part-starts)

  pub part_alone : from + a.len ≡ length s → (r : Spans) → r ≡ one_at from a.len 0 0 → r ≡ four_from s from 0 0
  part_alone e r k =
      one_found s from 0 0 r (from + seek bar (drop from s)) refl h (omega (arith, part-long)) (k ∙ ap (λ (n : ℕ). one_at from n 0 0) part-long)

  pub part-more : (r : Spans) → r ≡ four_from s a.at 0 0 → r ≡ four_from s from 0 0
  part-more r e = e ∙ ap (λ (k : ℕ). four_from s k 0 0) part-starts

pub ruleset all-parts = (part_room, part-within, part-is, part_alone, part-more)

-- ---- take_others: four parts, one after another

-- behind the end there is nothing
stays : (m : List ℕ) (i : ℕ) (p : Part) → p ≡ part_at m i → i ≡ length m → p.next ≡ length m
stays m i p g h = ap (λ (x : Part). x.next) (g ∙ sym (part_none m i h)) ∙ h

no_more : (a b c d n : ℕ) → a + b + c + d ≤ n → n < 4 → (a ≡ 0 → ⊥) → (b ≡ 0 → ⊥) → (c ≡ 0 → ⊥) → (d ≡ 0 → ⊥) → ⊥
no_more a b c d n h few i j k l = omega arith

module _ (m : List ℕ) (from : ℕ) (a b c d : Part) (h : from ≤ length m) (ea : a ≡ part_at m from) (eb : b ≡ part_at m a.next)
    (ec : c ≡ part_at m b.next) (ed : d ≡ part_at m c.next) (few : length (others from (drop from m)) < 4) where
  hb : a.next ≤ length m
  hb = part-next m from a ea h

  hc : b.next ≤ length m
  hc = part-next m a.next b eb hb

  hd : c.next ≤ length m
  hd = part-next m b.next c ec hc

  -- the fourth goes to the message's end
  fourth-ends : d.next ≡ length m
  fourth-ends =
      let n = count-least m from a b c d h ea eb ec ed (ended a + ended b + ended c + ended d) refl in
      by-eq (ended d) 0 (λ z. last-next m c.next d ed hd z)
      (λ w. by-eq (ended c) 0 (λ z. stays m c.next d ed (last-next m b.next c ec hc z))
      (λ x. by-eq (ended b) 0 (λ z. stays m c.next d ed (stays m b.next c ec (last-next m a.next b eb hb z)))
      (λ y. by-eq (ended a) 0 (λ z. stays m c.next d ed (stays m b.next c ec (stays m a.next b eb (last-next m from a ea h z))))
      (λ v. absurd (no_more (ended a) (ended b) (ended c) (ended d) (length (others from (drop from m))) n few v y x w)))))

module _ (s : List ℕ) (a : Part) (h : a.at ≤ length s) (ga : a ≡ part_at (unnamed s a.at) a.at) (b c : Part)
    (gb : b ≡ part_at (unnamed s a.at) a.next) (gc : c ≡ part_at (unnamed s b.at) b.next) where
  second-within : b.at ≤ length s
  second-within = follow-within s a h ga b gb

  second-part : b ≡ part_at (unnamed s b.at) b.at
  second-part = follow-part s a h ga b gb

  pub third-within : c.at ≤ length s
  third-within = follow-within s b second-within second-part c gc

  pub third-part : c ≡ part_at (unnamed s c.at) c.at
  third-part = follow-part s b second-within second-part c gc

  same-b : unnamed s b.at ≡ unnamed s a.at
  same-b = follow-same s a h ga b gb

  same-c : unnamed s c.at ≡ unnamed s a.at
  same-c = follow-same s b second-within second-part c gc ∙ same-b

  third-is : c ≡ part_at (unnamed s a.at) b.next
  third-is = gc ∙ ap (λ (x : List ℕ). part_at x b.next) same-b

  inside : a.at ≤ length (unnamed s a.at)
  inside = omega (arith, unnamed-long s a.at h)

  module _ (d : Part) (gd : d ≡ part_at (unnamed s c.at) c.next) where
    fourth-is : d ≡ part_at (unnamed s a.at) c.next
    fourth-is = gd ∙ ap (λ (x : List ℕ). part_at x c.next) same-c

    pub fourth-within : d.next ≤ length s
    fourth-within = next-within s d (follow-within s c third-within third-part d gd) (follow-part s c third-within third-part d gd)

    module _ (few : length (others a.at (drop a.at (unnamed s a.at))) < 4) where
      ends : d.next ≡ length (unnamed s a.at)
      ends = fourth-ends (unnamed s a.at) a.at a b c d inside ga gb third-is fourth-is few

      pub others-named : (n : Span) (r : Spans) → n ≡ name_at d.next (length s) → r ≡ found_at a b c d n.at n.len → r ≡ with_name s a.at
      unfolding with_name
      others-named n r en er =
          let e : n ≡ name_of s a.at = en ∙ ap (λ (k : ℕ). name_at k (length s)) ends in
          four-found (unnamed s a.at) a.at (name_of s a.at).at (name_of s a.at).len r a b c d ga gb third-is fourth-is
          (er ∙ ap (λ (x : Span). found_at a b c d x.at x.len) e)

-- ---- take_named: a is what first-part answered

module _ (s : List ℕ) (from : ℕ) (h : from ≤ length s) (a : Part) (g : a ≡ part_at (unnamed s from) from) where
  starts-at : a.at ≡ from
  unfolding part_to
  starts-at = ap (λ (x : Part). x.at) g

  long : a.len ≡ from + seek bar (drop from (unnamed s from)) - from
  unfolding part_to
  long = ap (λ (x : Part). x.len) g

  inner : from ≤ length (unnamed s from)
  inner = omega (arith, unnamed-long s from h)

  shorter : length (unnamed s from) ≤ length s
  shorter = omega (arith, length-take (from + seek mark (drop from s)) s)

  pub first-upto : from + a.len ≤ length s
  first-upto = omega (arith, long, seek-within bar (unnamed s from) from inner, shorter)

  pub first-room : length s < 18446744073709551616 → Fits w64 (from + a.len)
  first-room b = omega (arith, first-upto)

  pub first-within : a.at ≤ length s
  first-within = omega (arith, starts-at)

  pub first-part : a ≡ part_at (unnamed s a.at) a.at
  first-part = g ∙ ap (λ (k : ℕ). part_at (unnamed s k) k) (sym starts-at)

  pub first-few : length (others from (drop from (unnamed s from))) < 4 → length (others a.at (drop a.at (unnamed s a.at))) < 4
  first-few f = rw starts-at f

  pub first-named : (r : Spans) → r ≡ with_name s a.at → r ≡ with_name s from
  first-named r e = e ∙ ap (with_name s) starts-at

  -- one part goes to the line's end
  pub first_alone : from + a.len ≡ length s → (r : Spans) → r ≡ one_at from a.len 0 0 → r ≡ with_name s from
  unfolding with_name name_at
  first_alone e r k =
      let w = seek-within bar (unnamed s from) from inner in
      let l : length (unnamed s from) ≡ length s = omega (arith, long, w, shorter) in
      let z : length s - length (unnamed s from) ≤ 4 = omega arith in
      let n : name_of s from ≡ span 0 0 = pick_true _ _ (le-leb (length s - length (unnamed s from)) 4 z) in
      one_found (unnamed s from) from 0 0 r (from + seek bar (drop from (unnamed s from))) refl inner (omega (arith, long, w))
      (k ∙ ap (λ (z : ℕ). one_at from z 0 0) long)
      ∙ ap (λ (x : Span). four_from (unnamed s from) from x.at x.len) (sym n)

pub ruleset named-parts = (third-within, third-part, fourth-within, others-named, first-room, first-within, first-part, first-few, first-named, first_alone)

-- ---- what was judged: a value is the texts at their places

value-one : (s : List ℕ) (y : Style) (from size at len : ℕ) → is_value (told s (fitted_one y from size at len)) ≡ true → fitted_one y from size at len ≡ Ok (one_at from size at len)
unfolding fitted_one judged pick is_value
value-one s y from size at len h =
    by-test (eqb y.most 0) (λ e. never (sym (simp e at h)))
    (λ e. by-test y.cuts (λ f. simp (e, f))
    (λ f. by-test (eqb (one_at from size at len).warnings 0) (λ g. simp (e, f, g)) (λ g. never (sym (simp (e, f, g) at h)))))

value-fitted : (s : List ℕ) (y : Style) (m : List ℕ) (from at len : ℕ) → is_value (told s (fitted_at y m from at len)) ≡ true
    → (fitted_at y m from at len ≡ Ok (four_from m from at len)) × (leb y.most (length (others from (drop from m))) ≡ false)
unfolding fitted_at judged pick is_value
value-fitted s y m from at len h =
    by-test (leb y.most (length (others from (drop from m)))) (λ e. never (sym (simp e at h)))
    (λ e. by-test y.cuts (λ f. (simp (e, f), e))
    (λ f. by-test (eqb (four_from m from at len).warnings 0) (λ g. (simp (e, f, g), e)) (λ g. never (sym (simp (e, f, g) at h)))))

value-four : (s : List ℕ) (y : Style) (m : List ℕ) (from at len : ℕ) → is_value (told s (finish_at y m from at len)) ≡ true
    → (finish_at y m from at len ≡ Ok (four_from m from at len)) × (leb y.most (length (others from (drop from m))) ≡ false)
unfolding finish_at pick is_value
value-four s y m from at len h =
    by-test (taken y (drop from m)) (λ e. let v = value-fitted s y m from at len (rw e at h) in (rw e v.0, v.1)) (λ e. never (sym (simp e at h)))

-- texts that are read are so with their warnings counted
value-counted : (x : Field Noted) → is_value x ≡ true → is_value (count_text x) ≡ true
unfolding count_text is_value
value-counted (value z) h = refl
value-counted (fault n) h = h

tells-value : (s : List ℕ) (r : Result Spans Refusal) (f : Spans) (x : Field Noted) → Tells s r x → r ≡ Ok f → (value (texts_at s f) ≡ count_text x) × Held s f
tells-value s r f x t e = (rw e at t.says, rw e at t.inside)

-- take_message, where there are names
module _ (y : Style) (small : y.most ≤ 4) (s : List ℕ) (from : ℕ) (l : from ≤ length s) (h : is_value (message y from (drop from s)) ≡ true) where
  module _ (names : y.names ≡ true) where
    to-end : length (unnamed s from) ≡ from + message_end y (drop from s)
    unfolding message_end
    to-end = unnamed-long s from l ∙ ap (λ (k : ℕ). from + k) (sym (pick_true _ _ names))

    same_line : take (length (unnamed s from) - 0) s ≡ unnamed s from
    same_line = rw (sub-zero (length (unnamed s from)), unnamed-long s from l)

    judged-so : Result Spans Refusal
    judged-so = finish_at y (unnamed s from) from (name_of s from).at (name_of s from).len

    tells : Tells s judged-so (message y from (drop from s))
    unfolding judged-so
    tells =
        message-read y s from (length (unnamed s from)) l to-end small (name_of s from) judged-so refl
        (ap (λ (x : List ℕ). finish_at y x from (name_of s from).at (name_of s from).len) (sym same_line))

    good : is_value (told s judged-so) ≡ true
    good = value_as _ _ (value-counted _ h) (sym tells.says)

    pub message-few : length (others from (drop from (unnamed s from))) < 4
    unfolding judged-so
    message-few =
        omega (arith, leb-false y.most (length (others from (drop from (unnamed s from)))) (value-four s y (unnamed s from) from (name_of s from).at (name_of s from).len good).1)

    named-found : (value (texts_at s (with_name s from)) ≡ count_text (message y from (drop from s))) × Held s (with_name s from)
    unfolding judged-so with_name
    named-found = tells-value s judged-so (with_name s from) _ tells (value-four s y (unnamed s from) from (name_of s from).at (name_of s from).len good).0

    pub named-is : (r : Spans) → r ≡ with_name s from → value (texts_at s r) ≡ count_text (message y from (drop from s))
    named-is r e = rw e named-found.0

    pub named-held : (r : Spans) → r ≡ with_name s from → Held s r
    named-held r e = rw e named-found.1

  module _ (none : y.names ≡ false) where
    pub nameless-is : (r : Spans) → r ≡ four_from s from 0 0 → value (texts_at s r) ≡ count_text (message y from (drop from s))
    nameless-is r e = rw e (message-is y small none s from l h)

    pub nameless-held : (r : Spans) → r ≡ four_from s from 0 0 → Held s r
    nameless-held r e = parts_held s from r l e

pub ruleset messages = (message-few, named-is, named-held, nameless-is, nameless-held)

-- ---- start_of: where the message of a text that is not looked at begins

of-text : (y : Style) (s : List ℕ) (from : ℕ) → is_value (read_text y from (drop from s)) ≡ true
    → (all is_text (drop from s) ≡ true) × (read_text y from (drop from s) ≡ of_text y from (drop from s))
unfolding read_text
of-text y s from h = past-yes (all is_text (drop from s)) 4 (of_text y from (drop from s)) h

pub starts-plain : (y : Style) (s : List ℕ) (from : ℕ) → from ≤ length s → pick y.names true y.may ≡ false → is_value (read_text y from (drop from s)) ≡ true
    → (m : ℕ) → m ≡ pick y.av (from + 3) from → Begins y s from (Ok (begun.Message m)) (of_text y from (drop from s))
starts-plain y s from l plain h m g =
    record { means = sym (text-at y s from l plain h m g) ∙ (of-text y s from h).1; room = start-within y s from l plain h m g }

pub ruleset starts-text = (varied-not, starts-plain)

-- ---- take_text: q is what start_of answered

module _ (y : Style) (s : List ℕ) (from : ℕ) (l : from ≤ length s) (h : is_value (read_text y from (drop from s)) ≡ true) (q : Result Begun Refusal)
    (t : Begins y s from q (of_text y from (drop from s))) where
  module _ (n : Refusal) (e : q ≡ Err n) (f : Spans) where
    nothing : {P : Type 0} → P
    unfolding is_value
    nothing = never (sym (value_as _ _ h ((of-text y s from h).1 ∙ sym (rw e at t.means))))

    pub refused-not : value (texts_at s f) ≡ count_text (read_text y from (drop from s))
    refused-not = nothing

    pub refused_none : Held s f
    refused_none = nothing

  module _ (o : Begun) (e : q ≡ Ok o) (k : o ≡ begun.Name) where
    pub name-room : from + 3 ≤ length s
    name-room = rw (e, k) at t.room

    pub name-long : 3 ≤ length s - from
    name-long = omega (arith, name-room)

    module _ (small : y.most ≤ 4) where
      name-tells : Tells s (fitted_one y from 0 (from + 3) (length s - from - 3)) (read_text y from (drop from s))
      name-tells =
          record {
            says = read_name y s from l (all is_text (drop from s)) refl (of-text y s from h).0 q t o e k small _ refl;
            inside = inside-name y s from l (all is_text (drop from s)) refl (of-text y s from h).0 q t o e k small _ refl;
          }

      name-found : (value (texts_at s (one_at from 0 (from + 3) (length s - from - 3))) ≡ count_text (read_text y from (drop from s))) × Held s (one_at from 0 (from + 3) (length s - from - 3))
      name-found =
          tells-value s _ (one_at from 0 (from + 3) (length s - from - 3)) _ name-tells
          (value-one s y from 0 (from + 3) (length s - from - 3) (value_as _ _ (value-counted _ h) (sym name-tells.says)))

      pub name-is : (r : Spans) → r ≡ one_at from 0 (from + 3) (length s - from - 3) → value (texts_at s r) ≡ count_text (read_text y from (drop from s))
      name-is r g = rw g name-found.0

      pub name-held : (r : Spans) → r ≡ one_at from 0 (from + 3) (length s - from - 3) → Held s r
      name-held r g = rw g name-found.1

  module _ (at : ℕ) (o : Begun) (e : q ≡ Ok o) (k : o ≡ begun.Message at) where
    pub begins-within : at ≤ length s
    begins-within = rw (e, k) at t.room

    same : message y at (drop at s) ≡ read_text y from (drop from s)
    same = (rw (e, k) at t.means) ∙ sym (of-text y s from h).1

    pub begins-value : is_value (message y at (drop at s)) ≡ true
    begins-value = value_as _ _ h (sym same)

    pub begins-is : (r : Spans) → value (texts_at s r) ≡ count_text (message y at (drop at s)) → value (texts_at s r) ≡ count_text (read_text y from (drop from s))
    begins-is r g = g ∙ ap count_text same

pub ruleset judged-texts = (refused-not, refused_none, name-room, name-long, name-is, name-held, begins-within, begins-value, begins-is)
