-- Where the symbols of two terms clash.
use Rattle.std.specs.Prelude.{ℕ, ◌&&◌, ◌||◌, not, Bool, true, false, nat_eq, nat_lt, if◌then◌else◌}
use Rattle.rewriting.specs.Terms.{Term, Terms, var, app, nil, cons, count}

-- whether at a position of both terms there are other symbols, or one symbol with other numbers of arguments; the variables
-- below n are constants, each of its own
abbrev mutual
  pub do_clash : ℕ → Term → Term → Bool
  do_clash n (var x) (var y) = nat_lt x n && nat_lt y n && not (nat_eq x y)
  do_clash n (var x) (app g us) = nat_lt x n
  do_clash n (app f ts) (var y) = nat_lt y n
  do_clash n (app f ts) (app g us) = if nat_eq f g then (if nat_eq (count ts) (count us) then do_any_clash n ts us else true) else true

  pub do_any_clash : ℕ → Terms → Terms → Bool
  do_any_clash n nil us = false
  do_any_clash n (cons t ts) nil = false
  do_any_clash n (cons t ts) (cons u us) = do_clash n t u || do_any_clash n ts us
