-- What the words of a command line say.
pub mod Words
