pub mod SoundRuns
pub mod SoundPairs
pub mod SoundEvidence
pub mod Sound
pub mod Answers
pub mod Runs
pub mod Walks
