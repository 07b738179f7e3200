-- What a list of fault records has before it is lent; such a list in words.
pub mod Given
pub mod Said
