-- Worked texts, and what each is answered.
use Rattle.std.specs.Prelude.{◌≡◌, ℕ, List, [], ◌∷◌, ◌++◌, codes}
use Rattle.cops_names.specs.NameTable.{NameTable}
use Rattle.cert_grammar.specs.Prelude.{syntax, unknown_name, wrong_arity, bad_number, bad_share, too_many, entries, shared_automata, accepted, refused, read_text}

abbrev pub no_names : NameTable
no_names = record { symbols = []; variables = [] }

-- f and h and s with one argument, a and b and c without
abbrev pub six_names : NameTable
six_names = record { symbols = (codes "f", 1) ∷ (codes "a", 0) ∷ (codes "h", 1) ∷ (codes "b", 0) ∷ (codes "c", 0) ∷ (codes "s", 1) ∷ []; variables = [] }

-- an automaton with one state, and one with two
abbrev pub one_state : List ℕ
one_state = codes "states 1\naccepting\ntransitions 0\n"

abbrev pub two_states : List ℕ
two_states = codes "states 2\naccepting\ntransitions 1\n| 0\n"

-- a without arguments and g with one
abbrev pub two_names : NameTable
two_names = record { symbols = (codes "a", 0) ∷ (codes "g", 1) ∷ []; variables = [] }

pub record AreAnswered : Type 0 where
  -- in the first version; at the end behind g there is no line's end, which comes before the number of arguments
  pub name : read_text two_names (codes "concon 1\npeak\nstart d") ≡ refused unknown_name 20
  pub answer : read_text two_names (codes "YES\nconcon 1\npeak\nstart a") ≡ refused syntax 0
  pub arity : read_text two_names (codes "concon 1\npeak\nstart g\n") ≡ refused wrong_arity 21
  pub number : read_text two_names (codes "concon 1\npeak\nstart a\nsteps 1\nrule 4294967296 e 0\n") ≡ refused bad_number 35
  pub ended : read_text two_names (codes "concon 1\npeak\nstart g") ≡ refused syntax 21
  pub in_full : read_text no_names (codes "concon 1\northo\npair 1 e 2 auto 1\nstates 1\naccepting\ntransitions 0\npair 1 e 2 auto 1\nstates 1\naccepting\ntransitions 0\nend\n") ≡ accepted
  pub linear : read_text two_names (codes "YES\nconcon 1\nquasi\nlinear\nfun g 0 1\nfun a 0\nend\n") ≡ accepted
  -- one automaton with its use
  pub shared : read_text six_names (codes "concon 2\nshared 1\nstates 3\naccepting 1\ntransitions 12\nf(0) 0\na 0\nh(0) 0\nh(0) 1\nh(2) 0\nh(2) 1\nb 0\nc 0\ns(0) 0\ns(0) 2\ns(2) 2\n| 0\northo\npair 1 e 2 auto 1 1\nend\n") ≡ accepted
  -- an automaton that is not used, at end; also where end is the last word, but not where that goes on
  pub unused : read_text no_names (codes "concon 2\nshared 1\n" ++ (one_state ++ codes "ortho\nend\n")) ≡ refused bad_share 57
  pub unused_at_end : read_text no_names (codes "concon 2\nshared 1\n" ++ (one_state ++ codes "ortho\nend")) ≡ refused bad_share 57
  pub no_end : read_text no_names (codes "concon 2\nshared 1\n" ++ (one_state ++ codes "ortho\nende\n")) ≡ refused syntax 60
  -- an automaton that equals an earlier one, at its first word, whatever follows
  pub equal : read_text no_names (codes "concon 2\nshared 2\n" ++ (one_state ++ (one_state ++ codes "x"))) ≡ refused bad_share 51
  pub equal_at_end : read_text no_names (codes "concon 2\nshared 2\n" ++ (one_state ++ one_state)) ≡ refused bad_share 51
  -- numbers of uses: 0, too great for the automata, too early, too great for a number
  pub use_of_0 : read_text no_names (codes "concon 2\nshared 1\n" ++ (one_state ++ codes "ortho\npair 1 e 2 auto 1 0\nend\n")) ≡ refused bad_share 75
  pub use_of_2 : read_text no_names (codes "concon 2\nshared 1\n" ++ (one_state ++ codes "ortho\npair 1 e 2 auto 1 2\nend\n")) ≡ refused bad_share 75
  pub use_too_early : read_text no_names (codes "concon 2\nshared 2\n" ++ (one_state ++ (two_states ++ codes "ortho\npair 1 e 2 auto 1 2\npair 1 e 2 auto 1 1\nend\n"))) ≡ refused bad_share 112
  pub use_in_order : read_text no_names (codes "concon 2\nshared 2\n" ++ (one_state ++ (two_states ++ codes "ortho\npair 1 e 2 auto 1 1\npair 1 e 2 auto 1 2\npair 2 e 2 auto 9 1\nend\n"))) ≡ accepted
  pub use_too_great : read_text no_names (codes "concon 2\nshared 1\n" ++ (one_state ++ codes "ortho\npair 1 e 2 auto 1 4294967296\n")) ≡ refused bad_number 75
  pub none_shared : read_text no_names (codes "concon 2\nshared 0\northo\npair 1 e 2 auto 1 1\nend\n") ≡ refused bad_share 42
  -- the number of automata
  pub many : read_text no_names (codes "concon 2\nshared 1001\n") ≡ refused (too_many shared_automata) 16
  pub too_great : read_text no_names (codes "concon 2\nshared 4294967296\n") ≡ refused bad_number 16
  -- the first version has no numbers and no precedence, the second no automata at uses
  pub first_numbered : read_text no_names (codes "concon 1\northo\npair 1 e 2 auto 1 1\nend\n") ≡ refused syntax 32
  pub first_precedence : read_text no_names (codes "concon 1\nquasi\nlpo\nend\n") ≡ refused syntax 16
  pub second_in_full : read_text no_names (codes "concon 2\nshared 0\northo\npair 1 e 2 auto 1\nstates 1\n") ≡ refused syntax 41
  pub first_simplified : read_text no_names (codes "concon 1\nsimplify 1\ndrop 1 tcap\northo\nend\n") ≡ refused syntax 9
  -- a precedence
  pub precedence : read_text six_names (codes "concon 2\nshared 0\nquasi\nlpo\nfun f\naux 4 1\nfun a\nend\n") ≡ accepted
  pub unknown : read_text six_names (codes "concon 2\nshared 0\nquasi\nlpo\nfun f\nfun q\nend\n") ≡ refused unknown_name 38
  -- simplifications
  pub dropped : read_text no_names (codes "concon 2\nshared 0\nsimplify 1\ndrop 1 tcap\northo\nend\n") ≡ accepted
  pub inlined : read_text no_names (codes "YES\nconcon 2\nshared 0\nsimplify 1\ninline 1 1\northo\nend\n") ≡ accepted
  pub uses_of_steps_first : read_text no_names (codes "concon 2\nshared 2\n" ++ (one_state ++ (two_states ++ codes "simplify 1\ndrop 1 auto 1 1\northo\npair 1 e 2 auto 1 2\nend\n"))) ≡ accepted
  pub no_steps : read_text no_names (codes "concon 2\nshared 0\nsimplify 0\northo\nend\n") ≡ refused bad_number 27
  pub many_steps : read_text no_names (codes "concon 2\nshared 0\nsimplify 21001\n") ≡ refused (too_many entries) 27
  pub simplified_twice : read_text no_names (codes "concon 2\nshared 0\nsimplify 1\ndrop 1 tcap\nsimplify 1\n") ≡ refused syntax 41
  -- a wrong answer behind simplifications
  pub wrong_answer : read_text no_names (codes "NO\nconcon 2\nshared 0\nsimplify 1\ndrop 1 tcap\northo\n") ≡ refused syntax 0
