-- Words for clauses of private functions: nothing in here has to be believed.
pub mod Finding
pub mod Limited
pub mod Marks
pub mod Pass
pub mod Slots
