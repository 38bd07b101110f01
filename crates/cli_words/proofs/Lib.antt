pub mod CommandLineArguments
pub mod OptionsOfCommand
mod TablesNamed
