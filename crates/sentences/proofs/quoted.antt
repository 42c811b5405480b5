-- Laws of bytes in quotes: one, each of several, and none.
mod Quoting
