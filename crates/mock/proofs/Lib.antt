mod HelpAsked
mod OtherCommands
mod Serves
pub mod ServingSync
