-- A line has the bytes that its kind begins with. Assumes nothing.
use mathlib.Core.Path.{◌≡◌}
use mathlib.Core.Bool.{true}
use mathlib.Core.List.{List, [], ◌∷◌}
use Prim.Native.Nat.{ℕ, ◌≤◌}
use native.Mathlib.Omega.{arith}
use lib.ListN.{length}
use Rattle.base.specs.Pick.{pick}
use Rattle.base.specs.Seek.{starts}
use Rattle.base.proofs.Cases.{by-test, either}
use Rattle.base.proofs.Seek.{starts-long}
use Rattle.paper.specs.Bytes.{bytes}
use Rattle.paper.specs.Entries.{Kind, head_line, file_line, group_line, item_line, group_end, file_end, kind_of}

-- how many bytes a line of each kind has at least
abbrev pub least : Kind → ℕ
least head_line = 4
least file_line = 2
least group_line = 2
least item_line = 0
least group_end = 2
least file_end = 2

abbrev Long : List ℕ → Kind → Type 0
Long s k = least k ≤ length s

-- one of two starts
one-long : (p q r t : ℕ) (z : List ℕ) → pick (starts (p ∷ q ∷ []) z) true (starts (r ∷ t ∷ []) z) ≡ true → 2 ≤ length z
unfolding pick
one-long p q r t z e =
    by-test (starts (p ∷ q ∷ []) z) (λ g. starts-long (p ∷ q ∷ []) z g) (λ g. starts-long (r ∷ t ∷ []) z (rw g at e))

of-kind : (s : List ℕ) → Long s (kind_of s)
unfolding kind_of
of-kind s =
    either (Long s) _ (λ e. starts-long (bytes "UHL1") s e)
    (λ _. either (Long s) _ (λ e. starts-long (bytes "1 ") s e)
    (λ _. either (Long s) _ (λ e. starts-long (bytes "2 ") s e)
    (λ _. either (Long s) _ (λ e. one-long _ _ _ _ s e)
    (λ _. either (Long s) _ (λ e. one-long _ _ _ _ s e) (λ _. omega arith)))))

pub kind-long : (s : List ℕ) (k : Kind) → kind_of s ≡ k → least k ≤ length s
kind-long s k e = rw e at (of-kind s)
