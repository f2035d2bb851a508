mod Numbered
mod Puts
mod Tabled
