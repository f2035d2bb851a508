pub mod Environments
