mod Searching
mod Editing
mod Dividing
mod Running
mod Ranging
mod Naming
