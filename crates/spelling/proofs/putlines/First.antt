-- The first line by its parts: room for each, and the line where they are written. Assumes nothing.
use mathlib.Core.Path.{◌≡◌, refl, ap, ◌∙◌}
use mathlib.Core.Bool.{true, false}
use mathlib.Core.List.{List, [], ◌∷◌, ◌++◌, append_assoc}
use Prim.Native.Nat.{ℕ, ◌+◌, ◌≤◌}
use native.Mathlib.Omega.{arith}
use lib.ListN.{length}
use Rattle.base.specs.Put.{Wrote}
use Rattle.base.proofs.Cases.{pick_true, pick-false}
use Rattle.base.proofs.Put.{◌then◌}
use Rattle.numeral.proofs.Fixed.{fixed-length}
use Rattle.calendar.proofs.Back.{spell-day-length}
use Rattle.sheet.specs.declared.Sheet.{Sheet}
use Rattle.paper.specs.Bytes.{bytes}
use Rattle.paper.specs.Numerals.{fixed_on, fixed}
use Rattle.paper.specs.Days.{spell_day}
use Rattle.paper.specs.FirstLine.{spell_first}
use Rattle.spelling.proofs.putlines.Chain.{whole, part, rest, sized, wrote_as}

-- the line's start and its end
abbrev front : ℕ → List ℕ → List ℕ
front date name = bytes "UHL1" ++ (spell_day date ++ name)

abbrev back : ℕ → ℕ → ℕ → List ℕ
back client from to = fixed 10 client ++ (fixed 3 from ++ (fixed 3 to ++ (fixed 12 0 ++ (13 ∷ 10 ∷ []))))

-- first_front
module _ (date : ℕ) (name o o1 : List ℕ) (at p : ℕ) (w : Wrote o at (bytes "UHL1") o1 p) where
  module _ (h : at + length (front date name) ≤ length o) where
    pub front-day : p + 6 ≤ length o1
    front-day = sized (spell-day-length date) (part (spell_day date) _ (rest w (whole refl h)))

    pub front-name : (o2 : List ℕ) (q : ℕ) → Wrote o1 p (spell_day date) o2 q → q + length name ≤ length o2
    front-name o2 q v = (rest v (rest w (whole refl h))).room

  pub then-front : {o2 o3 : List ℕ} {q r : ℕ} → Wrote o1 p (spell_day date) o2 q → Wrote o2 q name o3 r → Wrote o at (front date name) o3 r
  then-front v u = w then v then u

-- first_back: twelve zeros and CR LF are written at once
zeros-is : (client from to : ℕ) → back client from to ≡ fixed 10 client ++ (fixed 3 from ++ (fixed 3 to ++ (bytes "000000000000" ++ (13 ∷ 10 ∷ []))))
unfolding fixed fixed_on
zeros-is client from to = refl

module _ (client from to : ℕ) (o : List ℕ) (at : ℕ) where
  module _ (h : at + length (back client from to) ≤ length o) where
    pub back-client : at + 10 ≤ length o
    back-client = sized {o = o} (fixed-length 10 client) (part (fixed 10 client) _ (whole refl h))

    module _ (o1 : List ℕ) (p : ℕ) (w : Wrote o at (fixed 10 client) o1 p) where
      pub back_from : p + 3 ≤ length o1
      back_from = sized (fixed-length 3 from) (part (fixed 3 from) _ (rest w (whole refl h)))

      module _ (o2 : List ℕ) (q : ℕ) (v : Wrote o1 p (fixed 3 from) o2 q) where
        pub back_to : q + 3 ≤ length o2
        back_to = sized (fixed-length 3 to) (part (fixed 3 to) _ (rest v (rest w (whole refl h))))

        pub back-zeros : (o3 : List ℕ) (r : ℕ) → Wrote o2 q (fixed 3 to) o3 r → r + 14 ≤ length o3
        back-zeros o3 r u = (rest u (rest v (rest w (whole (zeros-is client from to) h)))).room

  pub then-back : {o1 o2 o3 o4 : List ℕ} {p q r n : ℕ} → Wrote o at (fixed 10 client) o1 p → Wrote o1 p (fixed 3 from) o2 q → Wrote o2 q (fixed 3 to) o3 r
      → Wrote o3 r (bytes "000000000000" ++ (13 ∷ 10 ∷ [])) o4 n → Wrote o at (back client from to) o4 n
  then-back w v u t = wrote_as (zeros-is client from to) (w then v then u then t)

-- put_first
module _ (sh : Sheet) (date client from to : ℕ) (name o : List ℕ) (at : ℕ) where
  abbrev line : List ℕ
  line = spell_first sh (record { date = date; name = name; client = client; from = from; to = to }) ++ (13 ∷ 10 ∷ [])

  module _ (e : sh.header ≡ true) where
    full_is : line ≡ front date name ++ back client from to
    unfolding spell_first
    full_is = ap (λ (s : List ℕ). s ++ (13 ∷ 10 ∷ [])) (pick_true _ _ e) ∙ simp append_assoc

    module _ (h : at + length line ≤ length o) where
      pub full-front : at + length (front date name) ≤ length o
      full-front = (part {o = o} (front date name) _ (whole full_is h)).room

      pub full_back : (o1 : List ℕ) (p : ℕ) → Wrote o at (front date name) o1 p → p + length (back client from to) ≤ length o1
      full_back o1 p w = (rest w (whole full_is h)).room

    pub then-full : {o1 o2 : List ℕ} {p q : ℕ} → Wrote o at (front date name) o1 p → Wrote o1 p (back client from to) o2 q → Wrote o at line o2 q
    then-full w v = wrote_as full_is (w then v)

  module _ (e : sh.header ≡ false) where
    plain-is : line ≡ bytes "UHL1" ++ (13 ∷ 10 ∷ [])
    unfolding spell_first
    plain-is = ap (λ (s : List ℕ). s ++ (13 ∷ 10 ∷ [])) (pick-false _ _ e)

    pub plain-room : at + length line ≤ length o → at + 6 ≤ length o
    plain-room h = omega (arith, ap length plain-is)

    pub then-plain : {o1 : List ℕ} {p : ℕ} → Wrote o at (bytes "UHL1" ++ (13 ∷ 10 ∷ [])) o1 p → Wrote o at line o1 p
    then-plain w = wrote_as plain-is w

pub ruleset firsts = (front-day, front-name, then-front, back-client, back_from, back_to, back-zeros, then-back, full-front, full_back, then-full, plain-room, then-plain)
