mod Backslashes
mod Commas
