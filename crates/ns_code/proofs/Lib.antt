mod LocalNames
mod United
mod Listing
mod Fronting
