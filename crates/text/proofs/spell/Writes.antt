-- A text by its mark, its parts and its name: room for each, and the text where they are written. Assumes nothing.
use mathlib.Core.Path.{◌≡◌, refl, sym, ap, ◌∙◌}
use mathlib.Core.Bool.{Bool, true, false}
use mathlib.Core.List.{List, [], ◌∷◌, ◌++◌, append-nil}
use Prim.Native.Nat.{ℕ, ◌+◌, ◌≤◌}
use native.Mathlib.Omega.{arith}
use lib.ListN.{length, length-append}
use Rattle.base.specs.Pick.{pick}
use Rattle.base.specs.Put.{Wrote}
use Rattle.base.proofs.Put.{◌then◌}
use Rattle.base.proofs.Seek.{never}
use Rattle.out.proofs.put.Room.{wrote-length, wrote_none}
use Rattle.sheet.specs.declared.Style.{Style}
use Rattle.paper.specs.Bytes.{null, av, np, mark}
use Rattle.paper.specs.Texts.{joined, trim, spell_name, spell_marked, spell_text}
use Rattle.text.proofs.extent.Parts.{name-some}

-- put_name
pub name-none : (o : List ℕ) (at : ℕ) (n : List ℕ) → at + length (spell_name n) ≤ length o → length n ≡ 0 → Wrote o at (spell_name n) o at
unfolding spell_name
name-none o at [] h e = wrote_none o at (omega arith)
name-none o at (x ∷ n) h e = absurd (omega arith)

module _ (n : List ℕ) (h : length n ≡ 0 → ⊥) where
  pub then-name : {o o1 o2 : List ℕ} {at p q : ℕ} → Wrote o at mark o1 p → Wrote o1 p n o2 q → Wrote o at (spell_name n) o2 q
  then-name v w = rw (name-some n h) (v then w)

  pub name-mark : (at m : ℕ) → at + length (spell_name n) ≤ m → at + 4 ≤ m
  name-mark at m r = omega (arith, ap length (name-some n h))

  pub name-rest : (o o1 : List ℕ) (at p : ℕ) → at + length (spell_name n) ≤ length o → Wrote o at mark o1 p → p + length n ≤ length o1
  name-rest o o1 at p r w = omega (arith, ap length (name-some n h), wrote-length w, w.next)

pub ruleset names = (name-none, then-name, name-mark, name-rest)

-- put_mark and put_end: of three texts x, y and none, the one that two tests choose
module _ (t u : Bool) (x y : List ℕ) where
  abbrev chosen : List ℕ
  chosen = pick t (pick u x y) []

  module _ (e : t ≡ true) (f : u ≡ true) where
    pub first-room : (at m : ℕ) → at + length chosen ≤ m → at + length x ≤ m
    unfolding pick
    first-room at m h = rw (e, f) at h

    pub first-wrote : {o o1 : List ℕ} {at p : ℕ} → Wrote o at x o1 p → Wrote o at chosen o1 p
    unfolding pick
    first-wrote w = rw (e, f) w

  module _ (e : t ≡ true) (f : u ≡ false) where
    pub second-room : (at m : ℕ) → at + length chosen ≤ m → at + length y ≤ m
    unfolding pick
    second-room at m h = rw (e, f) at h

    pub second-wrote : {o o1 : List ℕ} {at p : ℕ} → Wrote o at y o1 p → Wrote o at chosen o1 p
    unfolding pick
    second-wrote w = rw (e, f) w

  pub none-wrote : (o : List ℕ) (at : ℕ) → t ≡ false → at + length chosen ≤ length o → Wrote o at chosen o at
  unfolding pick
  none-wrote o at e h = rw e (wrote_none o at (omega arith))

-- both marks have three bytes
pub mark-room : (t u : Bool) (at m : ℕ) → t ≡ true → at + length (pick t (pick u np av) []) ≤ m → at + 3 ≤ m
unfolding pick
mark-room true true at m e h = h
mark-room true false at m e h = h
mark-room false u at m e h = never (sym e)

pub ruleset choices = (first-room, first-wrote, second-room, second-wrote, none-wrote, mark-room)

-- a text is its mark, its parts and its end
text-parts-are : (a : Bool) (qs : List (List ℕ)) (n : List ℕ)
    → pick a (spell_marked qs n) (joined qs) ≡ pick a (pick (null qs) np av) [] ++ (joined qs ++ pick a (pick (null qs) n (spell_name n)) [])
unfolding pick spell_marked joined null
text-parts-are true [] n = refl
text-parts-are true (p ∷ ps) n = refl
text-parts-are false qs n = sym (append-nil (joined qs))

-- put_text: u is what no_parts answered
module _ (y : Style) (ps : List (List ℕ)) (n : List ℕ) (u : Bool) (g : u ≡ null (trim ps)) where
  abbrev begins : List ℕ
  begins = pick y.av (pick u np av) []

  abbrev ends : List ℕ
  ends = pick y.av (pick u n (spell_name n)) []

  text-is : spell_text y ps n ≡ begins ++ (joined (trim ps) ++ ends)
  unfolding spell_text
  text-is = rw g (text-parts-are y.av (trim ps) n)

  text-length : length (spell_text y ps n) ≡ length begins + (length (joined (trim ps)) + length ends)
  text-length = ap length text-is ∙ omega (arith, length-append begins (joined (trim ps) ++ ends), length-append (joined (trim ps)) ends)

  pub text-mark : (at m : ℕ) → at + length (spell_text y ps n) ≤ m → at + length begins ≤ m
  text-mark at m h = omega (arith, text-length)

  pub text-wrote : {o o1 o2 o3 : List ℕ} {at p q r : ℕ} → Wrote o at begins o1 p → Wrote o1 p (joined (trim ps)) o2 q → Wrote o2 q ends o3 r → Wrote o at (spell_text y ps n) o3 r
  text-wrote v w x = rw text-is (v then w then x)

  module _ {o o1 : List ℕ} {at p : ℕ} (v : Wrote o at begins o1 p) (h : at + length (spell_text y ps n) ≤ length o) where
    pub text-parts : p + length (joined (trim ps)) ≤ length o1
    text-parts = omega (arith, text-length, wrote-length v, v.next)

    pub text-end : {o2 : List ℕ} {q : ℕ} → Wrote o1 p (joined (trim ps)) o2 q → q + length ends ≤ length o2
    text-end w = omega (arith, text-length, wrote-length v, v.next, wrote-length w, w.next)

pub ruleset wholes = (text-mark, text-wrote, text-parts, text-end)
