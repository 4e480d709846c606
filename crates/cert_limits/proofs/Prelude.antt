-- What the invariants cite, passed on from one place. Declares nothing.
pub use Rattle.std.proofs.Common.{drop, map, ◌↔◌}
pub use Rattle.certificates.specs.Derivations.{derivation_of, derivations_of}
pub use Rattle.term_core.specs.View.{views}
pub use Rattle.term_core.specs.HeadView.{head_view}
pub use Rattle.cert_model.specs.CertificateView.{pair_entry_view, linear_entry_view, redex_view, simp_view}
pub use Rattle.cert_model.specs.EvidenceView.{transition_view}
pub use Rattle.cert_model.specs.DerivationView.{derivation_view, step_view}
pub use Rattle.cert_grammar.specs.Prelude.{ArePairs, AreStates, AreTransitions, AreSteps, AreDerivations, AreSpelt, largest, AreAtMost, ArePlaces}
pub use Rattle.cert_grammar.specs.Prelude.{AreEntries, AreHeads, AreRedexEntries, AreSimplifications}
