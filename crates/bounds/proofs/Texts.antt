-- How long the text of an item is, whose parts and name have at most 35 bytes each. Assumes nothing.
use mathlib.Core.Path.{◌≡◌}
use mathlib.Core.Bool.{true}
use mathlib.Core.List.{List, [], ◌∷◌, ◌++◌}
use Prim.Native.Nat.{ℕ, suc, ◌+◌, ◌*◌, ◌≤◌}
use native.Mathlib.Omega.{arith}
use lib.ListN.{length, length-append}
use Rattle.base.proofs.Cases.{either, pick-both}
use Rattle.sheet.specs.declared.Style.{Style}
use Rattle.paper.specs.Bytes.{bar, av, np, mark}
use Rattle.paper.specs.Texts.{lacks, name_proper, part_proper, parts_proper, keep, trim, join_on, joined, spell_name, spell_marked, spell_text}
use Rattle.paper.proofs.Verdicts.{name-short}

-- ---- 35 bytes

-- every part has at most so many
abbrev pub Short : List (List ℕ) → Type 0
Short [] = Unit {0}
Short (p ∷ ps) = (length p ≤ 35) × Short ps

pub parts-short : (ps : List (List ℕ)) → parts_proper ps ≡ true → Short ps
unfolding parts_proper part_proper
parts-short [] e = tt
parts-short (p ∷ ps) e =
    let (one, others) = pick-both (part_proper p) (parts_proper ps) e in
    let (name, _) = pick-both (name_proper p) (lacks bar p) one in
    (name-short p name, parts-short ps others)

-- ---- the parts that are spelled

keep-short : (p : List ℕ) (qs : List (List ℕ)) → length p ≤ 35 → Short qs → Short (keep p qs) × (length (keep p qs) ≤ suc (length qs))
unfolding keep
keep-short [] [] l s = (tt, omega arith)
keep-short [] (q ∷ qs) l s = ((l, s), omega arith)
keep-short (x ∷ p) qs l s = ((l, s), omega arith)

trim-short : (ps : List (List ℕ)) → Short ps → Short (trim ps) × (length (trim ps) ≤ length ps)
unfolding trim
trim-short [] s = (tt, omega arith)
trim-short (p ∷ ps) (l, s) =
    let (t, m) = trim-short ps s in
    let (u, n) = keep-short p (trim ps) l t in
    (u, omega arith)

-- one part, and the others with a `|` each
join-most : (p : List ℕ) (ps : List (List ℕ)) → length p ≤ 35 → Short ps → length (join_on p ps) ≤ 35 + 36 * length ps
unfolding join_on
join-most p [] l s = omega arith
join-most p (q ∷ qs) l (m, s) = omega (arith, length-append p (124 ∷ join_on q qs), join-most q qs m s)

joined-most : (ps : List (List ℕ)) → Short ps → length (joined ps) ≤ 36 * length ps
unfolding joined
joined-most [] s = omega arith
joined-most (p ∷ ps) (l, s) = omega (arith, join-most p ps l s)

-- ---- the whole text

named-most : (n : List ℕ) → length n ≤ 35 → length (spell_name n) ≤ 39
unfolding spell_name
named-most [] l = omega arith
named-most (x ∷ n) l = omega (arith, length-append mark (x ∷ n))

marked-most : (ps : List (List ℕ)) (n : List ℕ) → Short ps → length ps ≤ 4 → length n ≤ 35 → length (spell_marked ps n) ≤ 185
unfolding spell_marked
marked-most [] n s four l = omega (arith, length-append np n)
marked-most (p ∷ ps) n (m, s) four l =
    omega (arith, length-append av (join_on p ps ++ spell_name n), length-append (join_on p ps) (spell_name n), join-most p ps m s, named-most n l)

pub text-most : (y : Style) (ps : List (List ℕ)) (n : List ℕ) → Short ps → length ps ≡ 4 → length n ≤ 35 → length (spell_text y ps n) ≤ 185
unfolding spell_text
text-most y ps n s four l =
    let (t, m) = trim-short ps s in
    either (λ (x : List ℕ). length x ≤ 185) y.av
    (λ _. marked-most (trim ps) n t (omega arith) l)
    (λ _. omega (arith, joined-most (trim ps) t))
