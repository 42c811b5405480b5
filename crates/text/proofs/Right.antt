-- The bytes at the places that `finish_at` gives are what the paper's `finish` gives. Assumes nothing.
use mathlib.Core.Path.{◌≡◌, refl, sym, ap, ◌∙◌}
use mathlib.Core.Bool.{Bool, true, false}
use mathlib.Core.List.{List, [], ◌∷◌}
use Prim.Native.Nat.{ℕ, ◌+◌, ◌≤◌, ◌<◌}
use native.Mathlib.Omega.{arith}
use lib.Dec.{eqb}
use lib.ListN.{length, take, drop}
use borrow.Author.Tests.{ne_eqb, lt-ltb, le-ltb, lt-leb, le-leb}
use Rattle.std.proofs.Common.{Result, Ok, Err}
use Rattle.refusal.specs.declared.Refusal.{Refusal}
use Rattle.refusal.specs.declared.Refusal.TheVariants.{BadText}
use Rattle.base.specs.Pick.{pick}
use Rattle.base.specs.Seek.{all, starts, seek, before}
use Rattle.base.proofs.Cases.{by-test, by-eq, by-lt, pick_true, pick-false, pick_same, both-pick}
use Rattle.sheet.specs.declared.Style.{Style}
use Rattle.paper.specs.Read.{Field, value, fault}
use Rattle.paper.specs.Bytes.{is_clean, bar, null}
use Rattle.paper.specs.Texts.{Piece, piece, Noted, others, divide, cuts, taken, parts_taken, fitted, finish}
use Rattle.paper.proofs.Lists.{empty-null}
use Rattle.text.specs.span.Held.{texts_at, Held}
use Rattle.text.specs.span.Places.{four_from}
use Rattle.text.specs.declared.span.Spans.{Spans}
use Rattle.text.proofs.span.Right.{warned, found_right, found-held}
use Rattle.text.specs.Told.{count_texts, count_text, Tells}
use Rattle.text.specs.Finish.{judged, fitted_at, finish_at}

-- two tests, one behind the other
both-tests : (a b c : Bool) → pick (pick a b false) c false ≡ pick a (pick b c false) false
unfolding pick
both-tests true b c = refl
both-tests false b c = refl

-- a test of two parts
judge-right : (s : List ℕ) (b c : Bool) (f : Spans) (x : Noted) → texts_at s f ≡ count_texts x → Held s f
    → Tells s (pick b (Ok f) (pick c (Ok f) (Err BadText))) (pick (pick b true c) (value x) (fault 14))
unfolding pick count_text
judge-right s true c f x e h = record { says = ap value e; inside = h }
judge-right s false true f x e h = record { says = ap value e; inside = h }
judge-right s false false f x e h = record { says = refl; inside = tt }

pub tells-same : {s : List ℕ} {r q : Result Spans Refusal} {x z : Field Noted} → q ≡ r → x ≡ z → Tells s r x → Tells s q z
tells-same e f t = rw (e, ← f) t

-- parts and a name of any bytes
fitted-right : (y : Style) → y.most ≤ 4 → (s m : List ℕ) (e : ℕ) → m ≡ take e s → (from : ℕ) → from ≤ length m → (at len : ℕ) → at + len ≤ length s
    → Tells s (fitted_at y m from at len) (fitted y (divide from (drop from m)) (piece at (take len (drop at s))))
unfolding fitted_at fitted judged count_text
fitted-right y small s m e g from h at len room =
    by-lt (length (others from (drop from m))) y.most
    (λ l.
    let few : length (divide from (drop from m)) ≤ 4 = omega arith in
    let less : length (divide from (drop from m)) ≤ y.most = omega arith in
    tells-same
    (pick-false _ _ (lt-leb y.most (length (others from (drop from m))) l)
    ∙ ap (λ (b : Bool). pick y.cuts (Ok (four_from m from at len)) (pick b (Ok (four_from m from at len)) (Err BadText)))
    (ap (λ (w : ℕ). eqb w 0) (warned s m e g from h at len room few) ∙ empty-null (cuts (divide from (drop from m)) (piece at (take len (drop at s))))))
    (sym (pick-false _ _ (le-ltb y.most (length (divide from (drop from m))) less)))
    (judge-right s y.cuts (null (cuts (divide from (drop from m)) (piece at (take len (drop at s))))) (four_from m from at len) _
    (found_right s m e g from h at len room few) (found-held s m e g from h at len room)))
    (λ l.
    let many : y.most < length (divide from (drop from m)) = omega arith in
    tells-same
    (pick_true _ _ (le-leb y.most (length (others from (drop from m))) l))
    (sym (pick_true _ _ (lt-ltb y.most (length (divide from (drop from m))) many)))
    (record { says = refl; inside = tt }))

-- ---- a message's bytes are taken exactly if those of each of its parts are: the bars between them are taken

module _ (y : Style) where
  pub none-taken : taken y [] ≡ true
  unfolding taken all
  none-taken = pick_same y.clean true

  -- a message without bytes
  pub nothing-taken : (m : List ℕ) (from at len : ℕ) → drop from m ≡ [] → fitted_at y m from at len ≡ finish_at y m from at len
  unfolding finish_at
  nothing-taken m from at len e = sym (pick_true _ _ (ap (taken y) e ∙ none-taken))

  any-taken : y.clean ≡ false → (p : List ℕ) → taken y p ≡ true
  unfolding taken
  any-taken e p = pick-false _ _ e

  all-taken : y.clean ≡ false → (ps : List Piece) → parts_taken y ps ≡ true
  unfolding parts_taken
  all-taken e [] = refl
  all-taken e (p ∷ ps) = both-pick (taken y p.bytes) (parts_taken y ps) (any-taken e p.bytes) (all-taken e ps)

  module _ (e : y.clean ≡ true) where
    clean-taken : (p : List ℕ) → taken y p ≡ all is_clean p
    unfolding taken
    clean-taken p = pick_true _ _ e

    others-clean : (at : ℕ) (s : List ℕ) → pick (all is_clean (before bar s)) (parts_taken y (others at s)) false ≡ all is_clean s
    unfolding parts_taken others all seek starts is_clean pick
    others-clean at [] = refl
    others-clean at (x ∷ s) =
        by-eq x 124
        (λ b. rw (b, clean-taken (before bar s)) (others-clean (at + 1) s))
        (λ n. rw (ne_eqb x 124 n, ← others-clean (at + 1) s) (both-tests (is_clean x) (all is_clean (before bar s)) (parts_taken y (others (at + 1) s))))

  pub divide-taken : (at : ℕ) (s : List ℕ) → parts_taken y (divide at s) ≡ taken y s
  unfolding parts_taken
  divide-taken at s =
      by-test y.clean
      (λ e. rw (clean-taken e (before bar s), clean-taken e s) (others-clean e at s))
      (λ e. all-taken e (divide at s) ∙ sym (any-taken e s))

-- the law
pub finish-right : (y : Style) → y.most ≤ 4 → (s m : List ℕ) (e : ℕ) → m ≡ take e s → (from : ℕ) → from ≤ length m → (at len : ℕ) → at + len ≤ length s
    → Tells s (finish_at y m from at len) (finish y (divide from (drop from m)) (piece at (take len (drop at s))))
unfolding finish_at finish count_text
finish-right y small s m e g from h at len room =
    let same = divide-taken y from (drop from m) in
    by-test (taken y (drop from m))
    (λ t. tells-same (pick_true _ _ t) (sym (pick_true _ _ (same ∙ t))) (fitted-right y small s m e g from h at len room))
    (λ t. tells-same (pick-false _ _ t) (sym (pick-false _ _ (same ∙ t))) (record { says = refl; inside = tt }))
