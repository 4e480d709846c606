-- One visit after the other: what was paid, and where the walk ends.
use Rattle.std.proofs.Common.{ℕ, suc, ◌≡◌, ◌+◌, ◌*◌, ◌<◌, List, Bool, ap, ◌∙◌, subst, arith}
use Rattle.rewriting.specs.Prelude.{Rule, System, IsSystem, Head, heads, unraveled}
use Rattle.cc_count.specs.Counts.{Counts}
use Rattle.cc_count.proofs.Paid.{HasPaid}
use Rattle.path_orders.specs.Precedences.{Precedence}
use Rattle.path_orders.specs.Dead.{IsDead}
use Rattle.precedence_search.specs.Walks.{HasComeTo, HasDoneWith, GoesOn, IsAliveBefore, IsSoundOf}
use Rattle.precedence_search.proofs.Walking.{done_with_barren, is_alive_before}

-- the walk came to these symbols for what was paid
abbrev pub HasPaidTo : System → Counts → Counts → Precedence → Type 0
HasPaidTo sys start here order = HasPaid (HasComeTo sys order) start here

pub alive_before : {sys : System} {start here : Counts} {order : Precedence} → HasPaidTo sys start here order → IsAliveBefore sys order
alive_before {sys} {order = order} far = is_alive_before sys order far.units far.came_to

-- where it goes on behind dead symbols
pub goes : (sys : System) (order next : Precedence) (b other : Bool) → b ≡ other → ((n : ℕ) → HasDoneWith sys order n → GoesOn sys next n b) → IsDead sys order
    → (n : ℕ) → HasComeTo sys order n → GoesOn sys next (n + 1) other
goes sys order next b other is h dead n here = subst (GoesOn sys next (n + 1)) is (h (n + 1) (done_with_barren sys order n here dead))

-- what a visit needs of the lists of an unraveled system
pub sound_of : (sys system : System) (hs : List Head) (rs : List Rule) → system ≡ unraveled sys → hs ≡ heads sys → rs ≡ system.rules → IsSystem system → IsSoundOf sys hs rs
sound_of sys system hs rs same is_heads is_rules sound =
    record { of = record { heads_are = is_heads; rules_are = is_rules ∙ ap (λ (z : System). z.rules) same }; sound = subst IsSystem same sound }

-- each visit goes down or takes a unit
pub fewer_left : (a k x y : ℕ) → x < y → a * k + x < a * k + y
fewer_left a k x y lt = omega (arith, lt)

pub smaller : (a b k x y : ℕ) → suc a ≡ b → x < k → a * k + x < b * k + y
smaller a b k x y e lt = subst (λ z. a * k + x < z * k + y) e (omega (arith, lt))
