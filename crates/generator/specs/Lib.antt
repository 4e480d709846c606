pub mod RuleParts
pub mod Laws
