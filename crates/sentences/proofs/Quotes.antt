-- Bytes in quotes are printable, and at most 60 of them are shown. Assumes nothing.
use mathlib.Core.Path.{◌≡◌, refl}
use mathlib.Core.Bool.{true}
use mathlib.Core.List.{List, [], ◌∷◌}
use Prim.Native.Nat.{ℕ, ◌+◌, ◌*◌, ◌/◌, ◌%◌, ◌<◌}
use native.Mathlib.Omega.{arith}
use lib.Dec.{ltb}
use lib.ListN.{length, take, length-take}
use Rattle.base.proofs.Cases.{either, pick-not}
use borrow.Author.Tests.{ltb-true, ltb-false}
use Rattle.sentences.specs.Printable.{is_printable}
use Rattle.sentences.specs.Quoted.{is_plain, hex_digit, quoted_byte, quoted_bytes, of_how_many, quoted, quoted_or}
use Rattle.sentences.proofs.Fits.{Fits, fits-none, fits_wider, ◌fits-then◌, fits_or, range-printable, fits_byte, fits-words, fits-decimal}

plain-printable : (x : ℕ) → is_plain x ≡ true → is_printable x ≡ true
unfolding is_plain
plain-printable x e =
    let (low, f) = pick-not (ltb x 32) _ e in
    let (high, _) = pick-not (ltb 126 x) _ f in
    range-printable x (ltb-false x 32 low) (ltb-false 126 x high)

sixteen-printable : (d : ℕ) → d < 16 → is_printable (hex_digit d) ≡ true
unfolding hex_digit
sixteen-printable d h =
    either (λ x. is_printable x ≡ true) (ltb d 10)
    (λ e. range-printable (48 + d) (omega arith) (omega (arith, ltb-true d 10 e)))
    (λ _. range-printable (55 + d) (omega arith) (omega arith))

-- the byte itself, or `\xHH`
fits-quoted-byte : (x : ℕ) → Fits 4 (quoted_byte x)
unfolding quoted_byte
fits-quoted-byte x =
    either (Fits 4) (is_plain x)
    (λ e. fits_wider (omega arith) (fits_byte (plain-printable x e)))
    (λ _. fits-words "\\x" refl fits-then fits_byte (sixteen-printable (x / 16 % 16) (omega arith)) fits-then fits_byte (sixteen-printable (x % 16) (omega arith)))

fits-quoted-bytes : (s : List ℕ) → Fits (4 * length s) (quoted_bytes s)
unfolding quoted_bytes
fits-quoted-bytes [] = fits-none
fits-quoted-bytes (x ∷ s) = fits_wider (omega arith) (fits-quoted-byte x fits-then fits-quoted-bytes s)

-- the first 60
fits-first : (s : List ℕ) → Fits 240 (quoted_bytes (take 60 s))
fits-first s = fits_wider (omega (arith, length-take 60 s)) (fits-quoted-bytes (take 60 s))

fits-how-many : (n : ℕ) → Fits 44 (of_how_many n)
unfolding of_how_many
fits-how-many n = fits_or _ (fits-words ", the first 60 of " refl fits-then fits-decimal n fits-then fits-words " bytes" refl) (fits-none {n = 0})

-- .. in quotes, with how many there are, or `nothing`
pub fits-quoted : (s : List ℕ) → Fits 286 (quoted_or s)
unfolding quoted_or quoted
fits-quoted s = fits_or _ (fits-words "nothing" refl) (fits-words "\"" refl fits-then fits-first s fits-then fits-words "\"" refl fits-then fits-how-many (length s))
