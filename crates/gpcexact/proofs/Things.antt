-- Lists of things: one more behind them, and how many there are. Assumes nothing.
use mathlib.Core.Path.{◌≡◌, refl, ap, ◌∙◌}
use mathlib.Core.List.{List, [], ◌∷◌, ◌++◌, append_assoc}
use Prim.Native.Nat.{suc, ◌+◌}
use native.Mathlib.Omega.{arith}
use lib.ListN.{length, length-append}
use Rattle.gpc.specs.Records.{Head, Movement, Thing, a_head, a_movement, Record, said, saids}
use Rattle.gpc.specs.Statements.{Statement, statement, movement_things, things}
use Rattle.gpc.specs.FirstFault.{begun, open_things}

-- ---- records of things

pub saids-append : (a b : List Thing) → saids (a ++ b) ≡ saids a ++ saids b
unfolding saids
saids-append [] b = refl
saids-append (t ∷ a) b = ap {B = List Record} (λ rs. said t ∷ rs) (saids-append a b)

pub saids-length : (a : List Thing) → length (saids a) ≡ length a
unfolding saids
saids-length [] = refl
saids-length (t ∷ a) = ap suc (saids-length a)

-- the first record of the rest goes to the things before it
pub saids-more : (a : List Thing) (t : Thing) (rs : List Record) → saids a ++ (said t ∷ rs) ≡ saids (a ++ (t ∷ [])) ++ rs
unfolding saids
saids-more [] t rs = refl
saids-more (u ∷ a) t rs = ap {B = List Record} (λ rs. said u ∷ rs) (saids-more a t rs)

-- ---- movements in front of others

pub movements-append : (ms : List Movement) (a b : List Thing) → movement_things ms a ++ b ≡ movement_things ms (a ++ b)
unfolding movement_things
movements-append [] a b = refl
movements-append (m ∷ ms) a b = ap {B = List Thing} (λ ts. a_movement m ∷ ts) (movements-append ms a b)

pub movements-more : (ms : List Movement) (m : Movement) (r : List Thing) → movement_things ms (a_movement m ∷ r) ≡ movement_things (ms ++ (m ∷ [])) r
unfolding movement_things
movements-more [] m r = refl
movements-more (n ∷ ms) m r = ap {B = List Thing} (λ ts. a_movement n ∷ ts) (movements-more ms m r)

pub movements-length : (ms : List Movement) (r : List Thing) → length (movement_things ms r) ≡ length ms + length r
unfolding movement_things
movements-length [] r = omega arith
movements-length (m ∷ ms) r = omega (arith, movements-length ms r)

-- ---- statements that are done, and one that is open

-- the things of both
abbrev pub so_far : List Statement → Head → List Movement → List Thing
so_far done h ms = things done ++ open_things (begun h ms)

-- a statement that is over is done
pub things-more : (done : List Statement) (h : Head) (ms : List Movement) → things (done ++ (statement h ms ∷ [])) ≡ so_far done h ms
unfolding things open_things
things-more [] h ms = refl
things-more (s ∷ done) h ms =
    ap {B = List Thing} (λ ts. a_head s.head ∷ ts)
    (ap (movement_things s.movements) (things-more done h ms) ∙ rw (movements-append s.movements (things done) (a_head h ∷ movement_things ms [])))

-- one movement more
pub sofar-movement : (done : List Statement) (h : Head) (ms : List Movement) (m : Movement)
    → so_far done h ms ++ (a_movement m ∷ []) ≡ so_far done h (ms ++ (m ∷ []))
unfolding open_things
sofar-movement done h ms m =
    append_assoc (things done) (a_head h ∷ movement_things ms []) (a_movement m ∷ [])
    ∙ ap {B = List Thing} (λ ts. things done ++ (a_head h ∷ ts)) (movements-append ms [] (a_movement m ∷ []) ∙ movements-more ms m [])

-- the next head
pub sofar-head : (done : List Statement) (h g : Head) (ms : List Movement)
    → so_far done h ms ++ (a_head g ∷ []) ≡ so_far (done ++ (statement h ms ∷ [])) g []
unfolding open_things movement_things
sofar-head done h g ms = rw (things-more done h ms)

-- .. and how many things there are then
pub count-movement : (done : List Statement) (h : Head) (ms : List Movement) (m : Movement)
    → length (so_far done h (ms ++ (m ∷ []))) ≡ suc (length (so_far done h ms))
count-movement done h ms m =
    rw (← sofar-movement done h ms m) (omega (arith, length-append (so_far done h ms) (a_movement m ∷ [])))

pub count_head : (done : List Statement) (h g : Head) (ms : List Movement)
    → length (so_far (done ++ (statement h ms ∷ [])) g []) ≡ suc (length (so_far done h ms))
count_head done h g ms = rw (← sofar-head done h g ms) (omega (arith, length-append (so_far done h ms) (a_head g ∷ [])))
