pub mod Written
pub mod WrittenLaws
pub mod SharedAutomata
pub mod WrittenUses
