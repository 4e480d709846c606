-- Nodes, and what stands behind them.
use Rattle.cert_words.proofs.Prelude.{◌≡◌, ◌+◌, ℕ, suc, List, [], ◌∷◌, Some, length, refl, ap, ap₂, zero, ◌≤◌, ◌-◌, arith, NameTable, Naming, Mark, is_node, Frame, Item, name_lead}
use Rattle.cert_words.proofs.Prelude.{variable_lead, leads, node, name_behind, term_behind, CertError, Reading, Reads}
use Rattle.cert_words.proofs.Walking.{already}
use Rattle.cert_words.specs.Nodes.{NodeRead}
use Rattle.cert_words.specs.declared.nodes.Node.{Node}
use Rattle.cert_words.specs.declared.nodes.Node.TheVariants.{Symbol, Variable}

pub suc_is : (n : ℕ) → suc n ≡ n + 1
suc_is n = omega arith

pub node_leads : (n depth : ℕ) (g : Frame) (fs : List Frame) → suc (suc (length fs)) ≡ depth
    → leads (node n (g ∷ fs)) ≡ name_lead (is_node depth n) (λ name. name_behind (n + 1) name (g ∷ fs) ∷ []) ∷ variable_lead (is_node depth n) (term_behind (n + 1) (g ∷ fs) ∷ []) ∷ []
node_leads n depth g fs e = ap₂ (λ (d k : ℕ). name_lead (is_node d n) (λ name. name_behind k name (g ∷ fs) ∷ []) ∷ variable_lead (is_node d n) (term_behind k (g ∷ fs) ∷ []) ∷ [])
    e (suc_is n)

pub refused_node : (names : NameTable) (end : ℕ) (i : Item) (depth n : ℕ) (new : List ℕ → List Item) (other to : List Item) (marks : Naming
    → List Mark) (s t : Reading) (r : Node) (e : CertError) → t.refused ≡ Some e → NodeRead names end i depth n new other s t r → Reads names end (i ∷ []) marks to s t
refused_node names end i depth n new other to marks s t (Symbol f) e q h = already e q h
refused_node names end i depth n new other to marks s t (Variable x) e q h = already e q h

pub any_frame : Frame
any_frame = record { name = []; argument = 0 }

-- so many frames
abbrev pub frames : ℕ → List Frame
frames zero = []
frames (suc k) = any_frame ∷ frames k

frames_length : (k : ℕ) → length (frames k) ≡ k
frames_length zero = refl
frames_length (suc k) = ap suc (frames_length k)

pub frames_deep : (depth : ℕ) → 2 ≤ depth → suc (suc (length (frames (depth - 2)))) ≡ depth
frames_deep depth h = let e = frames_length (depth - 2) in omega (arith, e, h)
