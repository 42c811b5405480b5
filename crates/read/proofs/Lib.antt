-- Laws of the whole answer: what it is by the judge in brief, that it is one, that refusals leave the rows alone; and how the functions end.
pub mod Laws
pub mod Determined
pub mod Said
mod Exits
