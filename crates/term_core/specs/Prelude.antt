-- The names that other crates cite, passed on from one place. Declares nothing.
pub use Rattle.term_core.specs.View.{view, views}
pub use Rattle.term_core.specs.Replace.{ReplaceAnswers}
pub use Rattle.term_core.specs.RuleView.{condition_view, rule_view, AreCounted}
pub use Rattle.term_core.specs.Numbering.{IsNumbered, numbers_from, AreFirst}
pub use Rattle.term_core.specs.SubstView.{ApplyAnswers}
pub use Rattle.term_core.specs.HeadView.{head_view}
