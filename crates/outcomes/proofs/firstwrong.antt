pub mod Verdicts
pub mod Proper
pub mod Carried
pub mod Main
