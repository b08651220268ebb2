pub mod Words
pub mod GivenSeen
pub mod NamesLeft
pub mod WordsExamples
pub mod CommandSeen
