pub mod NoRules
