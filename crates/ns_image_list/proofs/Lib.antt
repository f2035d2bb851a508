mod Puts
mod Quotes
